-- The number that a plan is refused by, test by test. Assumes nothing.
use mathlib.Core.Path.{◌≡◌}
use mathlib.Core.Bool.{true, false}
use mathlib.Core.List.{List}
use Prim.Native.Nat.{ℕ, ◌≤◌}
use native.Mathlib.Omega.{arith}
use borrow.Author.Tests.{le-ltb}
use lib.Dec.{ltb}
use lib.ListN.{length}
use Rattle.std.specs.Prelude.{Option}
use Rattle.grid_shapes.specs.declared.shape.VersionShape.{VersionShape}
use Rattle.grid_shapes.specs.Shapes.{is_shape}
use Rattle.pool_rules.specs.Model.{UploadFootprint, grid_count}
use Rattle.pool_preserve_plan.specs.declared.since.After.{After}
use Rattle.pool_preserve_plan.specs.declared.history.Found.{Found}
use Rattle.pool_preserve_plan.specs.Copies.{lent_copies}
use Rattle.pool_preserve_plan.proofs.Planning.{copies_most}
use Rattle.pool_preserve_plan.specs.PlanRefusal.{is_other, skips_spent, plan_refusal}

module _ (s : VersionShape) (f : Found) (u : UploadFootprint) (count room : ℕ) where
  pub refusal_shape : is_shape s ≡ false → plan_refusal s f u count room ≡ 2
  unfolding plan_refusal
  refusal_shape a = rw a

  pub refusal_other : is_shape s ≡ true → is_other f ≡ true → plan_refusal s f u count room ≡ 4
  unfolding plan_refusal
  refusal_other a b = rw (a, b)

  pub refusal_short : is_shape s ≡ true → is_other f ≡ false → ltb room count ≡ true → plan_refusal s f u count room ≡ 11
  unfolding plan_refusal
  refusal_short a b c = rw (a, b, c)

  pub refusal_spent : is_shape s ≡ true → is_other f ≡ false → ltb room count ≡ false → skips_spent s f u ≡ true
      → plan_refusal s f u count room ≡ 12
  unfolding plan_refusal
  refusal_spent a b c d = rw (a, b, c, d)

  pub refusal_none : is_shape s ≡ true → is_other f ≡ false → ltb room count ≡ false → skips_spent s f u ≡ false
      → plan_refusal s f u count room ≡ 0
  unfolding plan_refusal
  refusal_none a b c d = rw (a, b, c, d)

-- ---- the room that always suffices

pub room_for_all : (newest stamps : List ℕ) (s : VersionShape) (since : Option After) (u : UploadFootprint) (n room : ℕ) → n ≡ grid_count s
    → n ≤ room → ltb room (length (lent_copies newest stamps s since u)) ≡ false
room_for_all newest stamps s since u n room e h =
    le-ltb room (length (lent_copies newest stamps s since u)) (omega (arith, copies_most newest stamps s since u, e))
