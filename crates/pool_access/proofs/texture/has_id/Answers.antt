-- `has_id` meets its contract: an id is the first number of its record. Assumes nothing.
use Rattle.pool_access.proofs.Ids.{no_record, by_number}
use Rattle.pool_access.proofs.texture.has_id.Goals as goal

pub returns-then-n-i : goal.returns-then-n-i
returns-then-n-i c = no_record c.args.s.now c.args.n c.args.i c.args.id c.if-n-i.true

pub returns : goal.returns
returns c =
    let a = c.args in
    by_number a.s.now a.n a.i a.id c.if-n-i.false
