-- `print_sheet` meets its contract: the head line, the textures' lines, the totals. Assumes nothing.
use native.Mathlib.Omega.{arith}
use Rattle.pool_memory.specs.Lent.{lent}
use Rattle.pool_memory.proofs.FromPool.{pool_fits}
use Rattle.pool_sheet.proofs.OfRecords.{kept_fits, parked_small, records_fit}
use Rattle.pool_sheet.proofs.Told.{tracked_most, records_there, too_short, page_told}
use Rattle.pool_sheet.proofs.calls.print_sheet.print_sheet.Goals as goal

pub overflow_add-size : goal.overflow_add-size
overflow_add-size c =
    let a = c.args in
    let l = lent a.pool a.book a.textures.now a.retiring.now a.doomed.now a.spares.now a.newest.now a.stamps.now in
    let f = pool_fits l c.requires in
    omega (arith, tracked_most l f)

pub overflow_mul-size : goal.overflow_mul-size
overflow_mul-size c =
    let a = c.args in
    let l = lent a.pool a.book a.textures.now a.retiring.now a.doomed.now a.spares.now a.newest.now a.stamps.now in
    let f = pool_fits l c.requires in
    omega (arith, tracked_most l f)

pub returns-then-buffer-size : goal.returns-then-buffer-size
returns-then-buffer-size c =
    let a = c.args in
    let l = lent a.pool a.book a.textures.now a.retiring.now a.doomed.now a.spares.now a.newest.now a.stamps.now in
    too_short l a.buffer.now c.requires c.if-buffer-size.true

pub put_textures-requires : goal.put_textures-requires
put_textures-requires c =
    let a = c.args in
    let l = lent a.pool a.book a.textures.now a.retiring.now a.doomed.now a.spares.now a.newest.now a.stamps.now in
    let f = pool_fits l c.requires in
    (records_there l f, records_fit l f, omega (arith, c.if-buffer-size.false, c.put_head.auto.out))

pub put_totals-requires : goal.put_totals-requires
put_totals-requires c =
    let a = c.args in
    let l = lent a.pool a.book a.textures.now a.retiring.now a.doomed.now a.spares.now a.newest.now a.stamps.now in
    let f = pool_fits l c.requires in
    (kept_fits l f, parked_small l f, omega (arith, c.if-buffer-size.false, c.put_head.auto.out, c.put_textures.auto.out))

pub returns : goal.returns
returns c =
    let a = c.args in
    let l = lent a.pool a.book a.textures.now a.retiring.now a.doomed.now a.spares.now a.newest.now a.stamps.now in
    page_told l a.buffer.now c.requires c.if-buffer-size.false _ _ _ c.put_head.ensures c.put_textures.ensures c.put_totals.ensures
