-- `retire` meets its contract: the test, then the same call on a pool. Assumes nothing.
use borrow.Author.Tests.{not-true}
use mathlib.Core.Path.{sym, ◌∙◌}
use Rattle.pool_memory.specs.Lent.{lent}
use Rattle.pool.proofs.NoPool.{no_retire}
use Rattle.pool.proofs.calls.retire.retire.Goals as goal

pub returns-then-not-is_pool : goal.returns-then-not-is_pool
returns-then-not-is_pool c =
    let a = c.args in
    no_retire (lent a.pool a.book a.textures.now a.retiring.now a.doomed.now a.spares.now a.newest.now a.stamps.now) (sym c.is_pool.ensures ∙ not-true _ c.if-not-is_pool.true-raw) a.id a.view a.seq
