-- The numbers that stand for a grid's tiling, taken apart.
use mathlib.Core.Path.{refl}
use Rattle.pool_records.specs.Tilings.{read_tiling}
use Rattle.pool_records.proofs.tiling.read_tiling.Goals as goal

-- src/tiling.rt:24:1
pub returns : goal.returns
unfolding read_tiling
returns c = refl
