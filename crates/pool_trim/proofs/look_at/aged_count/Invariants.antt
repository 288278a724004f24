-- `aged_count` meets its contract: it counts on while the next is aged. Assumes nothing.
use mathlib.Core.Path.{◌≡◌}
use Prim.Native.Nat.{◌+◌}
use Rattle.base_blocks.specs.Lists.{listed}
use Rattle.pool_rules.specs.Trim.{aged_count}
use Rattle.pool_trim.specs.LookAt.{spare_in}
use Rattle.pool_trim.proofs.Ages.{aged_from}
use Rattle.pool_trim.proofs.look_at.aged_count.Given as goal

abbrev pub invariant-loop-k : goal.invariant-loop-k
invariant-loop-k l = l.k + aged_from l.current (spare_in l.spares) l.first l.n l.k ≡ aged_count l.current (listed (spare_in l.spares) l.first l.n)
