-- `spares_fit` meets its contract. Assumes nothing.
use mathlib.Core.Path.{◌≡◌}
use Rattle.base_blocks.specs.Lists.{all, listed}
use Rattle.base_blocks.proofs.Listed.{left}
use Rattle.pool_memory.specs.IsPool.{is_spare}
use Rattle.pool_formed_textures.specs.Textures.{model_spare_at}
use Rattle.pool_formed_textures.proofs.spares_fit.spares_fit.Given as goal

abbrev pub invariant-loop-k : goal.invariant-loop-k
invariant-loop-k l = all is_spare (left (model_spare_at l.spares) l.n l.k) ≡ all is_spare (listed (model_spare_at l.spares) 0 l.n)
