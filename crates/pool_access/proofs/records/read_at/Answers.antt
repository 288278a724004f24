-- `read_at` meets its contract: the record is read out of the part of the slice that holds it. Assumes nothing.
use mathlib.Core.Path.{◌∙◌}
use Rattle.base_tables.proofs.Records.{record_part}
use Rattle.pool_access.proofs.records.read_at.Goals as goal

pub returns : goal.returns
returns g c = c.read.ensures ∙ rw c.record_at.ensures.1 (record_part g.met.R.Record.codec c.args.s.now c.args.i)
