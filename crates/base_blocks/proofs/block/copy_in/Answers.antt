-- `copy_in` meets its contract: the part with the numbers of src in its place. Assumes nothing.
use Rattle.std.proofs.Common.{arith}
use Rattle.base_blocks.proofs.Blocks.{put_mid_sets}
use Rattle.base_blocks.proofs.block.copy_in.Goals as goal

pub returns : goal.returns
returns c = put_mid_sets c.args.s.now c.args.at c.args.src.now c.requires _ _ (omega arith) c.copy_from_slice.ensures.after
