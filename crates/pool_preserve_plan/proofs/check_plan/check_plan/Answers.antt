-- `check_plan` meets its contract. Assumes nothing.
use mathlib.Core.Path.{◌≡◌, sym, ◌∙◌}
use mathlib.Core.Bool.{true, false}
use Prim.Native.Nat.{ℕ}
use borrow.Author.Tests.{not-true, not-false}
use lib.ListN.{length}
use Rattle.grid_shapes.specs.Shapes.{is_shape}
use Rattle.pool_preserve_plan.specs.Copies.{footprint, lent_copies}
use Rattle.pool_preserve_plan.proofs.Refusals.{refusal_shape, refusal_other, refusal_short, refusal_spent, refusal_none}
use Rattle.pool_preserve_plan.specs.PlanRefusal.{is_other}
use Rattle.pool_preserve_plan.proofs.check_plan.check_plan.Goals as goal
use Rattle.pool_preserve_plan.proofs.check_plan.check_plan.Goals.{Else-is_other, Start}

-- how many copies
module _ (c : Start) where
  abbrev copy_count : ℕ
  copy_count = length (lent_copies c.args.newest.now c.args.stamps.now c.args.shape c.args.since (footprint c.args.upload))

-- the tests that passed
module _ (c : Else-is_other) where
  shaped : is_shape c.args.shape ≡ true
  shaped = sym c.is_shape.ensures ∙ not-false _ c.if-not-is_shape.false-raw

  own : is_other c.args.found ≡ false
  own = sym c.is_other.ensures ∙ c.if-is_other.false

pub returns-then-not-is_shape : goal.returns-then-not-is_shape
returns-then-not-is_shape c =
    let a = c.args in
    sym (refusal_shape a.shape a.found (footprint a.upload) (copy_count (goal.at.returns-then-not-is_shape c).Start) a.room (sym c.is_shape.ensures ∙ not-true _ c.if-not-is_shape.true-raw))

pub returns-then-is_other : goal.returns-then-is_other
returns-then-is_other c =
    let a = c.args in
    sym (refusal_other a.shape a.found (footprint a.upload) (copy_count (goal.at.returns-then-is_other c).Start) a.room
    (sym c.is_shape.ensures ∙ not-false _ c.if-not-is_shape.false-raw) (sym c.is_other.ensures ∙ c.if-is_other.true))

pub returns-then-short : goal.returns-then-short
returns-then-short c =
    let a = c.args in
    sym (refusal_short a.shape a.found (footprint a.upload) (copy_count (goal.at.returns-then-short c).Start) a.room (shaped (goal.at.returns-then-short c).Else-is_other) (own (goal.at.returns-then-short c).Else-is_other)
    (sym c.is_short-short.ensures ∙ c.if-short.true))

pub returns-then-spent : goal.returns-then-spent
returns-then-spent c =
    let a = c.args in
    sym (refusal_spent a.shape a.found (footprint a.upload) (copy_count (goal.at.returns-then-spent c).Start) a.room (shaped (goal.at.returns-then-spent c).Else-is_other) (own (goal.at.returns-then-spent c).Else-is_other)
    (sym c.is_short-short.ensures ∙ c.if-short.false) (sym c.skips_spent-spent.ensures ∙ c.if-spent.true))

pub returns : goal.returns
returns c =
    let a = c.args in
    sym (refusal_none a.shape a.found (footprint a.upload) (copy_count (goal.at.returns c).Start) a.room (shaped (goal.at.returns c).Else-is_other) (own (goal.at.returns c).Else-is_other)
    (sym c.is_short-short.ensures ∙ c.if-short.false) (sym c.skips_spent-spent.ensures ∙ c.if-spent.false))
