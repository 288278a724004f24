-- `four_within` meets its contract: the four tests, as the code joins them. Assumes nothing.
use Rattle.base_blocks.specs.Blocks.{at_most}
use Rattle.base_blocks.proofs.Scans.{all_four_read}
use Rattle.base_blocks.proofs.scan.four_within.Goals as goal

pub returns : goal.returns
unfolding at_most
returns c =
    all_four_read (at_most c.args.b) c.args.i c.args.s.now c.requires
