-- `copy_count` meets its contract. Assumes nothing.
use mathlib.Core.Path.{◌≡◌, refl}
use Prim.Native.Nat.{◌≤◌}
use native.Mathlib.Omega.{arith}
use mir.Val.{bool_byte}
use lib.ListN.{length}
use Rattle.std.specs.Prelude.{Option, Some, None}
use Rattle.std.specs.Option.{is_some}
use Rattle.grid_rects.specs.declared.rect.Region.{Region}
use Rattle.pool_preserve_plan.specs.Copies.{copy_list}
use Rattle.pool_preserve_plan.proofs.count_copies.copy_count.Goals as goal

one_or_none : (p : Option Region) → (bool_byte (is_some p) ≤ 1) × (bool_byte (is_some p) ≡ length (copy_list p 0 0))
unfolding copy_list
one_or_none None = (omega arith, refl)
one_or_none (Some region) = (omega arith, refl)

pub returns : goal.returns
returns c = rw (c.from.ensures, c.is_some.ensures) (one_or_none c.args.planned)
