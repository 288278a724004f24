-- `read_along` meets its contract: the record is read out of the part of the slice that holds it. Assumes nothing.
use mathlib.Core.Path.{◌∙◌}
use Rattle.base_tables.proofs.Rings.{ring_part}
use Rattle.pool_access.proofs.records.read_along.Goals as goal

pub returns : goal.returns
returns g c =
    let a = c.args in
    c.read.ensures ∙ rw c.ring_record.ensures.1 (ring_part g.met.R.Record.codec a.cap a.head a.s.now a.k)
