-- `digit_count` meets its contract: what the library says of the power of 10 that the number reaches. Assumes nothing.
use Rattle.base_digits.proofs.Aligned.{count_log}
use Rattle.base_digits.proofs.column.digit_count.Goals as goal

pub returns : goal.returns
returns c =
    let g = c.ilog10.ensures in
    count_log c.args.n _ _ c.max.ensures g.power_le g.next_power_gt g.bound
