-- `retiring_fit` meets its contract. Assumes nothing.
use mathlib.Core.Path.{◌≡◌}
use Rattle.base_blocks.specs.Lists.{all}
use Rattle.base_blocks.proofs.Listed.{left}
use Rattle.pool_memory.specs.IsPool.{is_retiring}
use Rattle.pool_formed.specs.Parts.{retiring_at, retiring_fit}
use Rattle.pool_formed.proofs.rings_fit.retiring_fit.Given as goal

abbrev pub invariant-loop-i : goal.invariant-loop-i
invariant-loop-i l = all is_retiring (left (retiring_at l.cap l.head l.retiring) l.n l.i) ≡ retiring_fit l.cap l.head l.n l.retiring
