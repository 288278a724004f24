-- `reverse` meets its contract: the part turned. Assumes nothing.
use Rattle.std.proofs.Common.{arith}
use Rattle.base_blocks.proofs.Blocks.{put_mid_turned}
use Rattle.base_blocks.proofs.block.reverse.Goals as goal

pub returns : goal.returns
returns c = put_mid_turned _ _ _ _ _ (omega arith) c.reverse.ensures.after
