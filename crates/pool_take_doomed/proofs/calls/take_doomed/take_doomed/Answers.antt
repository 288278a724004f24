-- `take_doomed` meets its contract: the batch, its views and what is left are the rule's. Assumes nothing.
use native.Mathlib.Omega.{arith}
use Rattle.pool_memory.specs.Lent.{version_places}
use Rattle.pool_memory.proofs.FromPool.{pool_fits}
use Rattle.pool_memory.proofs.Stays.{doomed_fit_lem}
use Rattle.pool_take_doomed.proofs.Taken.{slot_below, batch_fits, counts_fit_lem, take_refused, take_accepted}
use Rattle.pool_take_doomed.proofs.calls.take_doomed.take_doomed.Goals as goal

pub arrived-arrivals-requires : goal.arrived-arrivals-requires
arrived-arrivals-requires c =
    let f = pool_fits _ c.requires in
    slot_below _ f

pub next_batch-batch-requires : goal.next_batch-batch-requires
unfolding version_places
next_batch-batch-requires c =
    let f = pool_fits _ c.requires in
    batch_fits _ f c.arrived-arrivals.result c.arrived-arrivals.ensures (omega (arith, c.well_formed))

pub returns-then-buffer-count : goal.returns-then-buffer-count
unfolding version_places
returns-then-buffer-count c =
    let a = c.args in
    take_refused _ c.requires a.buffer.now c.arrived-arrivals.result c.next_batch-batch.result.count c.arrived-arrivals.ensures c.next_batch-batch.ensures.0
    c.if-buffer-count.true

pub copy_column-requires : goal.copy_column-requires
unfolding version_places
copy_column-requires c =
    let f = pool_fits _ c.requires in
    let b = c.next_batch-batch.ensures in
    (omega (arith, c.if-buffer-count.false), omega (arith, f.doomed), omega arith, f.first, omega (arith, b.1, doomed_fit_lem _ f))

pub taken_counts-requires : goal.taken_counts-requires
unfolding version_places
taken_counts-requires c =
    let f = pool_fits _ c.requires in
    let b = c.next_batch-batch in
    counts_fit_lem _ f b.result.count b.result.bytes b.ensures.1 b.ensures.2

pub taken_book-requires : goal.taken_book-requires
taken_book-requires c =
    let f = pool_fits _ c.requires in
    slot_below _ f

pub returns : goal.returns
unfolding version_places
returns c =
    let a = c.args in
    let f = pool_fits _ c.requires in
    let b = c.next_batch-batch in
    take_accepted _ c.requires a.buffer.now c.arrived-arrivals.result b.result.count c.arrived-arrivals.ensures b.ensures.0
    f b.result.bytes b.ensures.1 b.ensures.2 (omega (arith, c.if-buffer-count.false))
    _ _ _ c.copy_column.ensures c.taken_counts.ensures c.taken_book.ensures
