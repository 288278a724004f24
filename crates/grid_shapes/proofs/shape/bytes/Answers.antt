-- `grid_shapes::shape::bytes` meets its contract. By the shape.
use Prim.Native.Nat.{ℕ}
use mathlib.Core.Path.{sym, ◌∙◌, ap}
use mathlib.Core.List.{[], ◌∷◌}
use Rattle.grid_shapes.specs.Outcomes.{accepted, of_bytes}
use Rattle.grid_shapes.proofs.Answers.{bytes_refused, bytes_accepted}
use Rattle.grid_shapes.proofs.shape.bytes.Goals as goal

pub returns-then-is_shape : goal.returns-then-is_shape
unfolding of_bytes
returns-then-is_shape c =
    ap (λ (n : ℕ). accepted (n ∷ [])) c.shape_bytes.ensures
    ∙ sym (bytes_accepted c.args.s (sym c.is_shape.ensures ∙ c.if-is_shape.true))

pub returns-else-is_shape : goal.returns-else-is_shape
unfolding of_bytes
returns-else-is_shape c = sym (bytes_refused c.args.s (sym c.is_shape.ensures ∙ c.if-is_shape.false))
