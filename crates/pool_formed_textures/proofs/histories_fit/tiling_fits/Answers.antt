-- `tiling_fits` meets its contract. Assumes nothing.
use mathlib.Core.Path.{ap}
use lib.Dec.{eqb}
use Rattle.pool_formed_textures.proofs.histories_fit.tiling_fits.Goals as goal

pub returns : goal.returns
returns c = ap (eqb c.args.number) c.tiling_number-tiling.ensures
