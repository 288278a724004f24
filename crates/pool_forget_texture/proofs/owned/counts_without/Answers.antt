-- `counts_without` meets its contract. Assumes nothing.
use mathlib.Core.Path.{refl}
use Rattle.pool_forget_texture.specs.Owned.{without}
use Rattle.pool_forget_texture.proofs.owned.counts_without.Goals as goal

pub returns : goal.returns
unfolding without
returns c = refl
