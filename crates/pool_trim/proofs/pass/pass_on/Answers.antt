-- `pass_on` meets its contract. Assumes nothing.
use mathlib.Core.Path.{refl}
use Rattle.pool_trim.specs.Pass.{pass_on}
use Rattle.pool_trim.proofs.pass.pass_on.Goals as goal

pub returns : goal.returns
unfolding pass_on
returns c = refl
