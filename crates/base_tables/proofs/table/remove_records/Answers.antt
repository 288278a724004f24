-- `remove_records` meets its contract: the later records move down. Assumes nothing.
use native.Mathlib.Omega.{arith}
use Rattle.base_blocks.proofs.Numbers.{rows_parts}
use Rattle.base_tables.proofs.table.remove_records.Goals as goal

pub overflow_mul-at : goal.overflow_mul-at
overflow_mul-at c =
    omega (arith, rows_parts c.args.w c.args.i c.args.k c.args.n c.requires.1)

pub overflow_mul-gap : goal.overflow_mul-gap
overflow_mul-gap c =
    omega (arith, rows_parts c.args.w c.args.i c.args.k c.args.n c.requires.1)

pub overflow_mul-later : goal.overflow_mul-later
overflow_mul-later c =
    omega (arith, rows_parts c.args.w c.args.i c.args.k c.args.n c.requires.1)

pub shift_down-requires : goal.shift_down-requires
shift_down-requires c =
    omega (arith, rows_parts c.args.w c.args.i c.args.k c.args.n c.requires.1)
