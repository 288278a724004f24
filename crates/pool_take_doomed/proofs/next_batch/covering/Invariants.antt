-- `covering` meets its contract: versions are added until the excess is covered or none is left. Assumes nothing.
use mathlib.Core.Path.{◌≡◌}
use Rattle.pool_rules.specs.Model.{doomed_bytes}
use Rattle.pool_take_doomed.specs.NextBatch.{doomed_entries, batch_of}
use Rattle.pool_take_doomed.proofs.Batches.{batch_from}
use Rattle.pool_take_doomed.proofs.next_batch.covering.Given as goal

abbrev pub invariant-loop-count : goal.invariant-loop-count
invariant-loop-count l =
    (l.bytes ≡ doomed_bytes (doomed_entries l.cap l.first l.doomed l.count))
    × (batch_from l.cap l.first l.doomed l.n l.excess l.bytes l.count ≡ batch_of l.least l.excess (doomed_entries l.cap l.first l.doomed l.n))
