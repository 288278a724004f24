-- `push_spares` meets its contract: one spare after the other goes to the ring's end. Assumes nothing.
use mathlib.Core.Path.{◌≡◌}
use Rattle.base_tables.specs.Rings.{laid}
use Rattle.pool_records.specs.Doomed.{write_doomed}
use Rattle.pool_take_doomed.specs.Given.{given_records}
use Rattle.pool_records.specs.RecordConstants.{doomed_stride}
use Rattle.pool_take_doomed.proofs.given.push_spares.Given as goal

abbrev pub invariant-loop-j : goal.invariant-loop-j
invariant-loop-j l = l.doomed ≡ laid doomed_stride write_doomed l.cap l.first l.n (given_records l.spares l.bytes l.from l.j) l.initial.doomed
