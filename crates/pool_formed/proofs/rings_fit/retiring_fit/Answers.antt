-- `retiring_fit` meets its contract. Assumes nothing.
use native.Mathlib.Omega.{arith}
use mathlib.Core.Path.{sym, ap, ◌∙◌}
use borrow.Author.Tests.{not-true, not-false}
use Rattle.base_blocks.specs.Lists.{all}
use Rattle.base_blocks.proofs.Listed.{left_all, all_more, all_stop, all_done}
use Rattle.pool_memory.specs.IsPool.{is_retiring}
use Rattle.pool_formed.specs.Parts.{retiring_at, retiring_fit}
use Rattle.pool_formed.proofs.RingTests.{retiring_read_lem}
use Rattle.pool_formed.proofs.rings_fit.retiring_fit.Goals as goal

pub loop-i-init : goal.loop-i-init
unfolding retiring_fit
loop-i-init c = ap (all is_retiring) (left_all (retiring_at _ _ _) _)

pub returns-then-not-is_retiring : goal.returns-then-not-is_retiring
returns-then-not-is_retiring c =
    let a = c.args in
    let s = a.retiring.now in
    let e = sym (ap is_retiring (retiring_read_lem a.cap a.head c.loop-i.i s _ c.ring_record.ensures.1)) ∙ sym c.is_retiring.ensures ∙ not-true _ c.if-not-is_retiring.true-raw in
    sym (all_stop (retiring_at a.cap a.head s) a.n is_retiring c.loop-i.i c.loop-i-test.true e) ∙ c.loop-i.invariant

pub loop-i-preserved : goal.loop-i-preserved
loop-i-preserved c =
    let a = c.args in
    let s = a.retiring.now in
    let e = sym (ap is_retiring (retiring_read_lem a.cap a.head c.loop-i.i s _ c.ring_record.ensures.1)) ∙ sym c.is_retiring.ensures ∙ not-false _ c.if-not-is_retiring.false-raw in
    sym (all_more (retiring_at a.cap a.head s) a.n is_retiring c.loop-i.i c.loop-i-test.true e) ∙ c.loop-i.invariant

pub returns : goal.returns
returns c =
    let a = c.args in
    sym (all_done (retiring_at a.cap a.head a.retiring.now) a.n is_retiring c.loop-i.i (omega arith)) ∙ c.loop-i.invariant
