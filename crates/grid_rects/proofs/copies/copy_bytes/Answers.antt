-- `grid_rects::copies::copy_bytes` meets its contract. By the shape and the level.
use Prim.Native.Nat.{ℕ}
use mathlib.Core.Path.{sym, ◌∙◌, ap}
use mathlib.Core.List.{[], ◌∷◌}
use native.Mathlib.Omega.{arith}
use borrow.Author.Tests.{not-true, not-false}
use Rattle.grid_shapes.specs.Outcomes.{accepted, of_bytes}
use Rattle.grid_rects.proofs.Outcomes.{copy_refused, copy_past, copy_accepted}
use Rattle.grid_rects.proofs.copies.copy_bytes.Goals as goal

pub returns-then-not-is_shape : goal.returns-then-not-is_shape
unfolding of_bytes
returns-then-not-is_shape c =
    let a = c.args in
    sym (copy_refused a.s a.level a.region (sym c.is_shape.ensures ∙ not-true _ c.if-not-is_shape.true-raw))

pub returns-then-s-level : goal.returns-then-s-level
unfolding of_bytes
returns-then-s-level c =
    let a = c.args in
    let shape = sym c.is_shape.ensures ∙ not-false _ c.if-not-is_shape.false-raw in
    sym (copy_past a.s a.level a.region shape (omega arith))

pub returns : goal.returns
unfolding of_bytes
returns c =
    let a = c.args in
    let shape = sym c.is_shape.ensures ∙ not-false _ c.if-not-is_shape.false-raw in
    ap (λ (n : ℕ). accepted (n ∷ [])) c.level_copy_bytes.ensures ∙ sym (copy_accepted a.s a.level a.region shape c.if-s-level.false)
