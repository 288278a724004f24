-- A grid's tiling in one number.
use mathlib.Core.Path.{refl}
use Rattle.pool_records.specs.Tilings.{packed_tiling}
use Rattle.pool_records.proofs.tiling.tiling_number.Goals as goal

-- src/tiling.rt:16:1
pub returns : goal.returns
unfolding packed_tiling
returns c = refl
