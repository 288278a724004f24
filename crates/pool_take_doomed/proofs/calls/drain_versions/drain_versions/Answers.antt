-- `drain_versions` meets its contract: the views and what is left are the rule's. Assumes nothing.
use native.Mathlib.Omega.{arith}
use Rattle.pool_memory.specs.Lent.{version_places}
use Rattle.pool_memory.proofs.FromPool.{pool_fits}
use Rattle.pool_memory.proofs.Stays.{textures_fit_lem, doomed_fit_lem}
use Rattle.pool_take_doomed.proofs.Drained.{drain_refused, drain_accepted}
use Rattle.pool_take_doomed.proofs.calls.drain_versions.drain_versions.Goals as goal

pub overflow_add-count : goal.overflow_add-count
overflow_add-count c =
    let f = pool_fits _ c.requires in
    omega (arith, f.versions, f.most)

pub overflow_add-count-2 : goal.overflow_add-count-2
overflow_add-count-2 c =
    let f = pool_fits _ c.requires in
    omega (arith, f.versions, f.most)

pub returns-then-buffer-count : goal.returns-then-buffer-count
unfolding version_places
returns-then-buffer-count c =
    let a = c.args in
    let f = pool_fits _ c.requires in
    drain_refused _ f c.requires a.buffer.now c.if-buffer-count.true

pub copy_views-requires : goal.copy_views-requires
unfolding version_places
copy_views-requires c =
    let f = pool_fits _ c.requires in
    (omega (arith, f.retiring), omega (arith, f.doomed), omega (arith, f.spares), f.head, f.first, f.versions, omega (arith, c.if-buffer-count.false))

pub clear_spares-requires : goal.clear_spares-requires
clear_spares-requires c =
    let f = pool_fits _ c.requires in
    textures_fit_lem _ f

pub drained_counts-requires : goal.drained_counts-requires
unfolding version_places
drained_counts-requires c =
    let f = pool_fits _ c.requires in
    (f.first, doomed_fit_lem _ f)

pub returns : goal.returns
unfolding version_places
returns c =
    let a = c.args in
    let f = pool_fits _ c.requires in
    drain_accepted _ f c.requires a.buffer.now (omega (arith, c.if-buffer-count.false)) _ _ _ _
    c.copy_views.ensures c.clear_spares.ensures c.drained_counts.ensures c.drained_book.ensures
