-- `copied_region` meets its contract. Assumes nothing.
use Rattle.event_cost.proofs.Telling.{whole_region, part_region}
use Rattle.event_cost.proofs.copy_cost.copied_region.Goals as goal

pub returns-then-copy-eq1 : goal.returns-then-copy-eq1
returns-then-copy-eq1 c = whole_region c.args.copy.now c.if-copy-eq1.true

pub returns : goal.returns
returns c = part_region c.args.copy.now c.if-copy-eq1.false
