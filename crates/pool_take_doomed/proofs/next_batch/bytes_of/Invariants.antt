-- `bytes_of` meets its contract: one version's bytes after the other. Assumes nothing.
use mathlib.Core.Path.{◌≡◌}
use Rattle.pool_rules.specs.Model.{doomed_bytes}
use Rattle.pool_take_doomed.specs.NextBatch.{doomed_entries}
use Rattle.pool_take_doomed.proofs.next_batch.bytes_of.Given as goal

abbrev pub invariant-loop-i : goal.invariant-loop-i
invariant-loop-i l = l.sum ≡ doomed_bytes (doomed_entries l.cap l.first l.doomed l.i)
