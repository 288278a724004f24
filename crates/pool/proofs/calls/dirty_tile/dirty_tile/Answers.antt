-- `dirty_tile` meets its contract. Assumes nothing.
use borrow.Author.Tests.{not-true, not-false}
use mathlib.Core.Path.{sym, ◌∙◌}
use Rattle.pool_memory.specs.Lent.{lent}
use Rattle.pool.proofs.Asking.{no_tile, tile_said}
use Rattle.pool.proofs.calls.dirty_tile.dirty_tile.Goals as goal

pub returns-then-not-is_pool : goal.returns-then-not-is_pool
returns-then-not-is_pool c =
    let a = c.args in
    no_tile (lent a.pool a.book a.textures.now a.retiring.now a.doomed.now a.spares.now a.newest.now a.stamps.now) (sym c.is_pool.ensures ∙ not-true _ c.if-not-is_pool.true-raw) a.id a.slice a.level a.held

pub returns : goal.returns
returns c =
    let a = c.args in
    tile_said (lent a.pool a.book a.textures.now a.retiring.now a.doomed.now a.spares.now a.newest.now a.stamps.now) (sym c.is_pool.ensures ∙ not-false _ c.if-not-is_pool.false-raw) a.id a.slice a.level a.held c.dirty_tile.result c.dirty_tile.ensures
