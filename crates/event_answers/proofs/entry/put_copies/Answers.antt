-- `put_copies` meets its contract: the rows of those before i are put. Assumes nothing.
use borrow.Author.Rules.{rules}
use mathlib.Core.Path.{ap}
use mathlib.Core.List.{flat_map}
use native.Mathlib.Omega.{arith}
use Rattle.base_tables.specs.Records.{record_at}
use Rattle.base_tables.proofs.Records.{table_left}
use Rattle.pool_books.specs.LentLists.{read_copy}
use Rattle.event_answers.specs.Printed.{copy_row}
use Rattle.base_digits.proofs.Puts.{put_none, put_next, put_all, put_as}
use Rattle.event_answers.proofs.Answering.{copy_from}
use Rattle.pool_memory.specs.MemoryConstants.{copy_stride}
use Rattle.event_answers.proofs.entry.put_copies.Goals as goal

pub loop-i-init : goal.loop-i-init
loop-i-init c =
    let a = c.args in
    (search rules, search rules, search rules, put_none (copy_row a.number) _ _ _ _)

pub loop-i-preserved : goal.loop-i-preserved
loop-i-preserved c =
    let l = c.loop-i in
    let a = c.args in
    let p = c.put_copy-end in (
      search rules,
      omega (arith, p.ensures.0, l.invariant.1),
      search rules,
      put_next (copy_row a.number) (record_at copy_stride read_copy a.copies.now) a.n c.loop-i-test.true l.invariant.3
          (put_as (ap (copy_row a.number) (copy_from a.copies.now l.i)) p.ensures.1),
    )

pub returns : goal.returns
returns c =
    let l = c.loop-i in
    let a = c.args in
    put_as (ap (flat_map (copy_row a.number)) (table_left copy_stride read_copy a.n a.copies.now))
    (put_all (copy_row a.number) (record_at copy_stride read_copy a.copies.now) a.n c.loop-i-test.false l.invariant.3)
