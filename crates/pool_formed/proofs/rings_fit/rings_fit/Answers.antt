-- `rings_fit` meets its contract. Assumes nothing.
use mathlib.Core.Path.{◌∙◌}
use borrow.Author.Tests.{not-true, not-false}
use Rattle.pool_formed.proofs.RingTests.{rings_stop, rings_test}
use Rattle.pool_formed.proofs.rings_fit.rings_fit.Goals as goal

pub returns-then-not-retiring_fit : goal.returns-then-not-retiring_fit
returns-then-not-retiring_fit c =
    let a = c.args in
    rings_stop a.pool a.versions a.retiring.now a.doomed.now _ c.retiring_fit.ensures (not-true _ c.if-not-retiring_fit.true-raw)

pub returns : goal.returns
returns c =
    let a = c.args in
    c.doomed_fit.ensures
    ∙ rings_test a.pool a.versions a.retiring.now a.doomed.now _ c.retiring_fit.ensures (not-false _ c.if-not-retiring_fit.false-raw)
