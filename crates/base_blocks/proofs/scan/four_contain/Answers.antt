-- `four_contain` meets its contract: the four tests, as the code joins them. Assumes nothing.
use Rattle.base_blocks.proofs.Scans.{member_four_read}
use Rattle.base_blocks.proofs.scan.four_contain.Goals as goal

pub returns : goal.returns
returns c =
    member_four_read c.args.b c.args.i c.args.s.now c.requires
