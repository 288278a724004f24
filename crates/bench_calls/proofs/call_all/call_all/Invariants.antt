-- `call_all` meets its contract: the calls are made one after the other, and each leaves a pool. Assumes nothing.
use Rattle.std.proofs.Common.{◌≡◌, true}
use Rattle.pool_memory.specs.Lent.{lent}
use Rattle.pool_memory.specs.IsPool.{is_pool}
use Rattle.bench_calls.proofs.call_all.call_all.Given as goal

abbrev pub invariant-loop-j : goal.invariant-loop-j
invariant-loop-j l = is_pool (lent l.counts l.paces l.textures l.retiring l.doomed l.spares l.newest l.stamps) ≡ true
