-- `open` meets its contract: the slices' sizes decide. Assumes nothing.
use mathlib.Core.Path.{sym, ◌∙◌}
use Rattle.pool_memory.specs.Lent.{lent}
use Rattle.pool_memory.specs.Calls.{opened_pool, opened_book}
use Rattle.pool_open.proofs.Sizes.{opened, not_opened}
use Rattle.pool_open.proofs.calls.open.open.Goals as goal

pub returns-then-fits-clause-outcome : goal.returns-then-fits-clause-outcome
returns-then-fits-clause-outcome c =
    let a = c.args in
    opened (lent (opened_pool a.working) opened_book a.textures.now a.retiring.now a.doomed.now a.spares.now a.newest.now a.stamps.now)
    (sym (c.sizes_fit-fits.ensures (opened_pool a.working) opened_book) ∙ c.if-fits.true)

pub returns-else-fits-clause-outcome : goal.returns-else-fits-clause-outcome
returns-else-fits-clause-outcome c =
    let a = c.args in
    not_opened (lent (opened_pool a.working) opened_book a.textures.now a.retiring.now a.doomed.now a.spares.now a.newest.now a.stamps.now)
    (sym (c.sizes_fit-fits.ensures (opened_pool a.working) opened_book) ∙ c.if-fits.false)
