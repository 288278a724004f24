-- `run_fits` meets its contract. Assumes nothing.
use mathlib.Core.Path.{refl}
use Rattle.base_blocks.specs.Lists.{tests, after}
use Rattle.pool_formed_textures.specs.Textures.{run_fits}
use Rattle.pool_formed_textures.proofs.histories_fit.run_fits.Goals as goal

pub returns : goal.returns
unfolding run_fits tests after
returns c = refl
