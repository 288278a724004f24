-- `find_history` meets its contract. Assumes nothing.
use mathlib.Core.Path.{◌≡◌, sym, ◌∙◌}
use mathlib.Core.Bool.{true}
use Prim.Native.Nat.{ℕ, ◌<◌}
use borrow.Author.Tests.{not-true, not-false}
use Rattle.std.specs.Prelude.{Some, None}
use Rattle.pool_access.proofs.Ids as ids
use Rattle.pool_preserve_plan.proofs.Finding.{found_none, found_other, found_recorded, found_place}
use Rattle.pool_records.specs.Find.{has_id}
use Rattle.pool_preserve_plan.specs.PlanRefusal.{found_at, history_found}
use Rattle.pool_preserve_plan.proofs.history.find_history.Goals as goal
use Rattle.pool_preserve_plan.proofs.history.find_history.Goals.{After-has_id}

-- where the search ended
module _ (c : After-has_id) where
  abbrev at : ℕ
  at = c.find_texture-i.result

  placed : found_at c.args.textures.now c.args.tracked c.args.id c.args.shape at
      ≡ history_found c.args.textures.now c.args.tracked c.args.id c.args.shape
  placed = found_place c.args.textures.now c.args.tracked c.args.id c.args.shape at c.find_texture-i.ensures

  within : has_id c.args.textures.now c.args.tracked at c.args.id ≡ true → at < c.args.tracked
  within h = (ids.found c.args.textures.now c.args.tracked at c.args.id h).0

pub returns-then-not-has_id : goal.returns-then-not-has_id
returns-then-not-has_id c =
    let a = c.args in
    sym (found_none a.textures.now a.tracked a.id a.shape (at (goal.at.returns-then-not-has_id c).After-has_id) (sym c.has_id.ensures ∙ not-true _ c.if-not-has_id.true-raw)) ∙ placed (goal.at.returns-then-not-has_id c).After-has_id

pub returns-then-not-same_shape : goal.returns-then-not-same_shape
returns-then-not-same_shape c =
    let a = c.args in
    sym (found_other a.textures.now a.tracked a.id a.shape (at (goal.at.returns-then-not-same_shape c).After-has_id) c.texture_at-t.result c.texture_at-t.ensures
    (sym c.has_id.ensures ∙ not-false _ c.if-not-has_id.false-raw) (sym c.same_shape.ensures ∙ not-true _ c.if-not-same_shape.true-raw))
    ∙ placed (goal.at.returns-then-not-same_shape c).After-has_id

pub returns-in_default : goal.returns-in_default
returns-in_default c =
    let a = c.args in
    sym (found_recorded a.textures.now a.tracked a.id a.shape (at (goal.at.returns-in_default c).After-has_id) c.texture_at-t.result c.texture_at-t.ensures
    (sym c.has_id.ensures ∙ not-false _ c.if-not-has_id.false-raw) None
    (sym c.same_shape.ensures ∙ not-false _ c.if-not-same_shape.false-raw)
    c.in_default.is)
    ∙ placed (goal.at.returns-in_default c).After-has_id

pub returns : goal.returns
returns c =
    let a = c.args in
    sym (found_recorded a.textures.now a.tracked a.id a.shape (at (goal.at.returns c).After-has_id) c.texture_at-t.result c.texture_at-t.ensures
    (sym c.has_id.ensures ∙ not-false _ c.if-not-has_id.false-raw) (Some c.in-Some.writes)
    (sym c.same_shape.ensures ∙ not-false _ c.if-not-same_shape.false-raw)
    c.in-Some.is)
    ∙ placed (goal.at.returns c).After-has_id
