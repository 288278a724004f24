-- `is_pool` meets its contract: each part refuses by itself, and the last decides. Assumes nothing.
use mathlib.Core.Path.{sym, ◌∙◌}
use borrow.Author.Tests.{not-true, not-false}
use Rattle.pool_memory.specs.Lent.{lent, version_places}
use Rattle.pool_memory.specs.IsPool.{is_pool}
use Rattle.pool_formed_textures.proofs.Tests.{fails}
use Rattle.pool_formed.proofs.Parts.{counts_places, parts_of, pool_parts, last_part, few_versions, rings_room, textures_room}
use Rattle.pool_formed.proofs.calls.is_pool.is_pool.Goals as goal

pub returns-then-not-sizes_fit : goal.returns-then-not-sizes_fit
unfolding is_pool
returns-then-not-sizes_fit c =
    let a = c.args in
    sym (fails _ 0 (sym (c.sizes_fit.ensures a.pool a.book) ∙ not-true _ c.if-not-sizes_fit.true-raw))

pub counts_fit-requires : goal.counts_fit-requires
counts_fit-requires c =
    let a = c.args in
    let l = lent a.pool a.book a.textures.now a.retiring.now a.doomed.now a.spares.now a.newest.now a.stamps.now in
    few_versions l (sym (c.sizes_fit.ensures a.pool a.book) ∙ not-false _ c.if-not-sizes_fit.false-raw)

pub returns-then-not-counts_fit : goal.returns-then-not-counts_fit
unfolding is_pool
returns-then-not-counts_fit c =
    let a = c.args in
    let l = lent a.pool a.book a.textures.now a.retiring.now a.doomed.now a.spares.now a.newest.now a.stamps.now in
    sym (fails _ 1 (counts_places l ∙ sym c.counts_fit.ensures ∙ not-true _ c.if-not-counts_fit.true-raw))

pub returns-then-not-numbers_fit : goal.returns-then-not-numbers_fit
returns-then-not-numbers_fit c =
    let a = c.args in
    let l = lent a.pool a.book a.textures.now a.retiring.now a.doomed.now a.spares.now a.newest.now a.stamps.now in
    let n = c.numbers_fit.ensures in
    sym (pool_parts l n.1 ∙ fails (parts_of l) 2 (sym n.0 ∙ not-true _ c.if-not-numbers_fit.true-raw))

pub rings_fit-requires : goal.rings_fit-requires
rings_fit-requires c =
    let a = c.args in
    let l = lent a.pool a.book a.textures.now a.retiring.now a.doomed.now a.spares.now a.newest.now a.stamps.now in
    rings_room l (sym (c.sizes_fit.ensures a.pool a.book) ∙ not-false _ c.if-not-sizes_fit.false-raw) (sym c.counts_fit.ensures ∙ not-false _ c.if-not-counts_fit.false-raw)

pub returns-then-not-rings_fit : goal.returns-then-not-rings_fit
unfolding version_places
returns-then-not-rings_fit c =
    let a = c.args in
    let l = lent a.pool a.book a.textures.now a.retiring.now a.doomed.now a.spares.now a.newest.now a.stamps.now in
    sym (pool_parts l c.numbers_fit.ensures.1 ∙ fails (parts_of l) 3 (sym c.rings_fit.ensures ∙ not-true _ c.if-not-rings_fit.true-raw))

pub textures_fit-requires : goal.textures_fit-requires
textures_fit-requires c =
    let a = c.args in
    let l = lent a.pool a.book a.textures.now a.retiring.now a.doomed.now a.spares.now a.newest.now a.stamps.now in
    textures_room l (sym (c.sizes_fit.ensures a.pool a.book) ∙ not-false _ c.if-not-sizes_fit.false-raw) (sym c.counts_fit.ensures ∙ not-false _ c.if-not-counts_fit.false-raw)

pub returns : goal.returns
unfolding version_places
returns c =
    let a = c.args in
    let l = lent a.pool a.book a.textures.now a.retiring.now a.doomed.now a.spares.now a.newest.now a.stamps.now in
    let n = c.numbers_fit.ensures in
    c.textures_fit.ensures
    ∙ last_part l n.1 (sym (c.sizes_fit.ensures a.pool a.book) ∙ not-false _ c.if-not-sizes_fit.false-raw) (counts_places l ∙ sym c.counts_fit.ensures ∙ not-false _ c.if-not-counts_fit.false-raw) (sym n.0 ∙ not-false _ c.if-not-numbers_fit.false-raw) (sym c.rings_fit.ensures ∙ not-false _ c.if-not-rings_fit.false-raw)
