-- `forget_texture` meets its contract: an untracked id changes nothing, and of a tracked one every slice is what its part leaves. Assumes nothing.
use mathlib.Core.Path.{sym, ◌∙◌}
use native.Mathlib.Omega.{arith}
use borrow.Author.Tests.{not-true, not-false}
use Rattle.pool_memory.specs.Lent.{lent}
use Rattle.pool_memory.proofs.FromPool.{pool_fits}
use Rattle.pool_memory.proofs.Stays.{ids_ascend, textures_fit_lem}
use Rattle.pool_forget_texture.proofs.Forgotten.{owned_fits, own_spares, own_grids, own_stamps_lem, record_fits, push_fits, counts_fit_lem, left_behind, there, forget_tracked, forget_untracked}
use Rattle.pool_forget_texture.proofs.TextureRuns.{grids_few, stamps_few}
use Rattle.pool_forget_texture.proofs.calls.forget_texture.forget_texture.Goals as goal

pub find_texture-i-requires : goal.find_texture-i-requires
find_texture-i-requires c =
    let a = c.args in
    let l = lent a.pool a.book a.textures.now a.retiring.now a.doomed.now a.spares.now a.newest.now a.stamps.now in
    let f = pool_fits l c.requires in
    (textures_fit_lem l f, ids_ascend l f)

pub has_id-requires : goal.has_id-requires
has_id-requires c =
    let a = c.args in
    let l = lent a.pool a.book a.textures.now a.retiring.now a.doomed.now a.spares.now a.newest.now a.stamps.now in
    textures_fit_lem l (pool_fits l c.requires)

pub returns-then-not-has_id : goal.returns-then-not-has_id
returns-then-not-has_id c =
    let a = c.args in
    let l = lent a.pool a.book a.textures.now a.retiring.now a.doomed.now a.spares.now a.newest.now a.stamps.now in
    forget_untracked l c.requires a.id c.find_texture-i.result c.find_texture-i.ensures (sym c.has_id.ensures ∙ not-true _ c.if-not-has_id.true-raw)

pub owned_at-own-requires : goal.owned_at-own-requires
owned_at-own-requires c =
    let a = c.args in
    let l = lent a.pool a.book a.textures.now a.retiring.now a.doomed.now a.spares.now a.newest.now a.stamps.now in
    let f = pool_fits l c.requires in
    let i = c.find_texture-i.result in
    let at = c.find_texture-i.ensures in
    let q = sym c.has_id.ensures ∙ not-false _ c.if-not-has_id.false-raw in
    let h = there l c.requires a.id i at q in
    owned_fits l f i h

pub push_spares-requires : goal.push_spares-requires
push_spares-requires c =
    let a = c.args in
    let l = lent a.pool a.book a.textures.now a.retiring.now a.doomed.now a.spares.now a.newest.now a.stamps.now in
    let f = pool_fits l c.requires in
    let i = c.find_texture-i.result in
    let at = c.find_texture-i.ensures in
    let q = sym c.has_id.ensures ∙ not-false _ c.if-not-has_id.false-raw in
    let h = there l c.requires a.id i at q in
    let own = c.owned_at-own.result in
    let is = c.owned_at-own.ensures in
    push_fits l f i h own is

pub remove_records-requires : goal.remove_records-requires
remove_records-requires c =
    let a = c.args in
    let l = lent a.pool a.book a.textures.now a.retiring.now a.doomed.now a.spares.now a.newest.now a.stamps.now in
    let f = pool_fits l c.requires in
    let i = c.find_texture-i.result in
    let at = c.find_texture-i.ensures in
    let q = sym c.has_id.ensures ∙ not-false _ c.if-not-has_id.false-raw in
    let h = there l c.requires a.id i at q in
    let own = c.owned_at-own.result in
    let is = c.owned_at-own.ensures in
    (omega (arith, f.spares, f.versions), omega (arith, own_spares l f i h own is))

pub overflow_add-grid_end : goal.overflow_add-grid_end
overflow_add-grid_end c =
    let a = c.args in
    let l = lent a.pool a.book a.textures.now a.retiring.now a.doomed.now a.spares.now a.newest.now a.stamps.now in
    let f = pool_fits l c.requires in
    let i = c.find_texture-i.result in
    let at = c.find_texture-i.ensures in
    let q = sym c.has_id.ensures ∙ not-false _ c.if-not-has_id.false-raw in
    let h = there l c.requires a.id i at q in
    let own = c.owned_at-own.result in
    let is = c.owned_at-own.ensures in
    omega (arith, own_grids l f i h own is, grids_few l f)

pub overflow_sub-pool : goal.overflow_sub-pool
overflow_sub-pool c =
    let a = c.args in
    let l = lent a.pool a.book a.textures.now a.retiring.now a.doomed.now a.spares.now a.newest.now a.stamps.now in
    let f = pool_fits l c.requires in
    let i = c.find_texture-i.result in
    let at = c.find_texture-i.ensures in
    let q = sym c.has_id.ensures ∙ not-false _ c.if-not-has_id.false-raw in
    let h = there l c.requires a.id i at q in
    let own = c.owned_at-own.result in
    let is = c.owned_at-own.ensures in
    own_grids l f i h own is

pub move_down-requires : goal.move_down-requires
move_down-requires c =
    let a = c.args in
    let l = lent a.pool a.book a.textures.now a.retiring.now a.doomed.now a.spares.now a.newest.now a.stamps.now in
    let f = pool_fits l c.requires in
    let i = c.find_texture-i.result in
    let at = c.find_texture-i.ensures in
    let q = sym c.has_id.ensures ∙ not-false _ c.if-not-has_id.false-raw in
    let h = there l c.requires a.id i at q in
    let own = c.owned_at-own.result in
    let is = c.owned_at-own.ensures in
    (omega arith, omega (arith, own_grids l f i h own is, f.grids))

pub overflow_add-stamp_end : goal.overflow_add-stamp_end
overflow_add-stamp_end c =
    let a = c.args in
    let l = lent a.pool a.book a.textures.now a.retiring.now a.doomed.now a.spares.now a.newest.now a.stamps.now in
    let f = pool_fits l c.requires in
    let i = c.find_texture-i.result in
    let at = c.find_texture-i.ensures in
    let q = sym c.has_id.ensures ∙ not-false _ c.if-not-has_id.false-raw in
    let h = there l c.requires a.id i at q in
    let own = c.owned_at-own.result in
    let is = c.owned_at-own.ensures in
    omega (arith, own_stamps_lem l f i h own is, stamps_few l f)

pub overflow_sub-pool-2 : goal.overflow_sub-pool-2
overflow_sub-pool-2 c =
    let a = c.args in
    let l = lent a.pool a.book a.textures.now a.retiring.now a.doomed.now a.spares.now a.newest.now a.stamps.now in
    let f = pool_fits l c.requires in
    let i = c.find_texture-i.result in
    let at = c.find_texture-i.ensures in
    let q = sym c.has_id.ensures ∙ not-false _ c.if-not-has_id.false-raw in
    let h = there l c.requires a.id i at q in
    let own = c.owned_at-own.result in
    let is = c.owned_at-own.ensures in
    own_stamps_lem l f i h own is

pub move_down-requires-2 : goal.move_down-requires-2
move_down-requires-2 c =
    let a = c.args in
    let l = lent a.pool a.book a.textures.now a.retiring.now a.doomed.now a.spares.now a.newest.now a.stamps.now in
    let f = pool_fits l c.requires in
    let i = c.find_texture-i.result in
    let at = c.find_texture-i.ensures in
    let q = sym c.has_id.ensures ∙ not-false _ c.if-not-has_id.false-raw in
    let h = there l c.requires a.id i at q in
    let own = c.owned_at-own.result in
    let is = c.owned_at-own.ensures in
    (omega arith, omega (arith, own_stamps_lem l f i h own is, f.stamps_counted))

pub remove_record-requires : goal.remove_record-requires
remove_record-requires c =
    let a = c.args in
    let l = lent a.pool a.book a.textures.now a.retiring.now a.doomed.now a.spares.now a.newest.now a.stamps.now in
    let f = pool_fits l c.requires in
    let i = c.find_texture-i.result in
    let at = c.find_texture-i.ensures in
    let q = sym c.has_id.ensures ∙ not-false _ c.if-not-has_id.false-raw in
    let h = there l c.requires a.id i at q in
    let own = c.owned_at-own.result in
    let is = c.owned_at-own.ensures in
    record_fits l f i h own is

pub counts_without-requires : goal.counts_without-requires
counts_without-requires c =
    let a = c.args in
    let l = lent a.pool a.book a.textures.now a.retiring.now a.doomed.now a.spares.now a.newest.now a.stamps.now in
    let f = pool_fits l c.requires in
    let i = c.find_texture-i.result in
    let at = c.find_texture-i.ensures in
    let q = sym c.has_id.ensures ∙ not-false _ c.if-not-has_id.false-raw in
    let h = there l c.requires a.id i at q in
    let own = c.owned_at-own.result in
    let is = c.owned_at-own.ensures in
    counts_fit_lem l f i h own is

pub returns : goal.returns
returns c =
    let a = c.args in
    let l = lent a.pool a.book a.textures.now a.retiring.now a.doomed.now a.spares.now a.newest.now a.stamps.now in
    let f = pool_fits l c.requires in
    let i = c.find_texture-i.result in
    let at = c.find_texture-i.ensures in
    let q = sym c.has_id.ensures ∙ not-false _ c.if-not-has_id.false-raw in
    let h = there l c.requires a.id i at q in
    let own = c.owned_at-own.result in
    let is = c.owned_at-own.ensures in
    forget_tracked l c.requires a.id i at q _
    (left_behind l f i h own is _ _ _ _ _ _ c.counts_without.ensures c.remove_record.ensures
    c.push_spares.ensures c.remove_records.ensures
    c.move_down.ensures c.move_down-2.ensures)
