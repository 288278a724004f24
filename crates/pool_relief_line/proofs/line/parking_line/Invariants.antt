-- `parking_line` meets its contract: what is parked before the lower end does not cover the excess, what is parked before the upper end does, or no
-- spare is parked later; which line is tried makes no difference. Assumes nothing.
use mathlib.Core.Path.{◌≡◌}
use mathlib.Core.Logic.{◌⊎◌}
use Prim.Native.Nat.{◌+◌, ◌-◌, ◌≤◌, ◌<◌}
use Rattle.pool_records.specs.Texture.{textures_in}
use Rattle.pool_rules.specs.Model.{limit}
use Rattle.pool_relief_line.specs.Parked.{bytes_from}
use Rattle.pool_relief_line.proofs.line.parking_line.Given as goal

abbrev pub invariant-loop-lo : goal.invariant-loop-lo
invariant-loop-lo l =
    (l.lo < l.hi)
    × (l.hi ≤ limit + 2)
    × (l.dooming + bytes_from l.spares l.lo 0 (textures_in l.n l.textures) < l.excess)
    × ((l.excess ≤ l.dooming + bytes_from l.spares l.hi 0 (textures_in l.n l.textures)) ⊎ (l.hi ≡ limit + 2))

abbrev pub decreases-loop-lo : goal.decreases-loop-lo
decreases-loop-lo l = l.hi - l.lo
