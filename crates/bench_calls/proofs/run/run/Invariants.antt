-- `run` meets its contract: a pool that was opened is one, and every phase leaves one. Assumes nothing.
use Rattle.std.proofs.Common.{◌≡◌, true}
use Rattle.pool_memory.specs.Lent.{lent}
use Rattle.pool_memory.specs.IsPool.{is_pool}
use Rattle.bench_calls.proofs.run.run.Given as goal

abbrev pub invariant-loop-k : goal.invariant-loop-k
invariant-loop-k g l = is_pool (lent l.counts l.paces l.textures l.retiring l.doomed l.spares l.newest l.stamps) ≡ true
