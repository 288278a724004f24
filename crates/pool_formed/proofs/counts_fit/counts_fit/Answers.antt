-- `counts_fit` meets its contract. Assumes nothing.
use mathlib.Core.Path.{sym}
use native.Mathlib.Omega.{arith}
use Rattle.pool_formed.proofs.NumberTests.{too_full, too_many, counts_test}
use Rattle.pool_formed.proofs.counts_fit.counts_fit.Goals as goal

pub returns-then-pool-gt1 : goal.returns-then-pool-gt1
returns-then-pool-gt1 c = sym (too_full _ _ _ _ _ (omega (arith, c.if-pool-gt1.true)))

pub returns-then-pool-versions : goal.returns-then-pool-versions
returns-then-pool-versions c = sym (too_many _ _ _ _ _ (omega (arith, c.if-pool-versions.true)))

pub returns-then-pool-versions-2 : goal.returns-then-pool-versions-2
returns-then-pool-versions-2 c = sym (too_many _ _ _ _ _ (omega (arith, c.if-pool-versions-2.true)))

pub returns-then-pool-versions-3 : goal.returns-then-pool-versions-3
returns-then-pool-versions-3 c = sym (too_many _ _ _ _ _ (omega (arith, c.if-pool-versions-3.true)))

pub overflow_add-result-3 : goal.overflow_add-result-3
overflow_add-result-3 c =
    omega (arith, c.if-pool-versions-3.false, c.if-pool-versions-2.false, c.if-pool-versions.false, c.if-pool-gt1.false, c.requires)

pub returns : goal.returns
returns c = counts_test _ _ _ _ _ (omega (arith, c.if-pool-gt1.false))
