-- `past` meets its contract. Assumes nothing.
use Rattle.std.proofs.Common.{arith}
use Rattle.base_blocks.proofs.PastBits.{past_bit}
use Rattle.base_blocks.proofs.scan.past.Goals as goal

pub returns : goal.returns
returns c =
    past_bit c.args.x c.args.b c.wrapping_sub_u64.result (omega arith) (omega arith) c.requires c.wrapping_sub_u64.ensures.value
