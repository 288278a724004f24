-- `insert_record` meets its contract: the later records move up, and the new one is copied in. Assumes nothing.
use mathlib.Core.Path.{◌∙◌}
use native.Mathlib.Omega.{arith}
use Rattle.base_blocks.proofs.Numbers.{rows_split}
use Rattle.base_tables.proofs.table.insert_record.Goals as goal

pub overflow_mul-at : goal.overflow_mul-at
overflow_mul-at c =
    omega (arith, rows_split c.args.w c.args.i c.args.n c.requires.1)

pub overflow_mul-later : goal.overflow_mul-later
overflow_mul-later c =
    omega (arith, rows_split c.args.w c.args.i c.args.n c.requires.1)

pub shift_up-requires : goal.shift_up-requires
shift_up-requires c =
    omega (arith, rows_split c.args.w c.args.i c.args.n c.requires.1)

pub copy_in-requires : goal.copy_in-requires
copy_in-requires c =
    omega (arith, rows_split c.args.w c.args.i c.args.n c.requires.1, c.requires.2, c.shift_up.auto.s)

pub returns : goal.returns
returns c =
    c.copy_in.ensures ∙ rw c.shift_up.ensures
