-- `doomed_fit` meets its contract: the sum so far is at most 2^44 a version. Assumes nothing.
use mathlib.Core.Path.{sym, ap, ◌∙◌}
use Prim.Native.Nat.{ℕ}
use native.Mathlib.Omega.{arith}
use Rattle.base_blocks.specs.Lists.{all}
use Rattle.base_blocks.proofs.Listed.{left_all, all_more, all_stop, total_more}
use Rattle.pool_rules.specs.Model.{Doomed, doomed_bytes}
use Rattle.pool_memory.specs.IsPool.{is_doomed}
use Rattle.pool_formed.specs.Parts.{doomed_at, doomed_fit}
use Rattle.pool_formed_textures.proofs.Tests.{fails}
use Rattle.pool_formed.proofs.RingTests.{doomed_bytes_lem, doomed_fits, doomed_large, doomed_done}
use borrow.Author.Rules.{rules}
use Rattle.pool_formed.proofs.rings_fit.doomed_fit.Goals as goal

pub loop-i-init : goal.loop-i-init
loop-i-init c =
    let a = c.args in
    let e = left_all (doomed_at a.cap a.first a.doomed.now) a.n in
    (search rules, ap (all is_doomed) e, omega (arith, ap doomed_bytes e))

pub returns-then-one-gt-MOST_SHAPE_BYTES : goal.returns-then-one-gt-MOST_SHAPE_BYTES
unfolding doomed_fit
returns-then-one-gt-MOST_SHAPE_BYTES c =
    let a = c.args in
    let s = a.doomed.now in
    let bad = doomed_large a.cap a.first c.loop-i.i s _ c.ring_record-p.ensures.1 c.if-one-gt-MOST_SHAPE_BYTES.true in
    sym (fails _ 0 (sym c.loop-i.invariant.1 ∙ all_stop (doomed_at a.cap a.first s) a.n is_doomed c.loop-i.i c.loop-i-test.true bad))

pub loop-i-preserved : goal.loop-i-preserved
loop-i-preserved c =
    let a = c.args in
    let s = a.doomed.now in
    let f = doomed_at a.cap a.first s in
    let r = c.ring_record-p.ensures.1 in
    let h = c.loop-i-test.true in
    let ok = doomed_fits a.cap a.first c.loop-i.i s _ r c.if-one-gt-MOST_SHAPE_BYTES.false in (
      omega (arith, c.loop-i.invariant.0, c.if-one-gt-MOST_SHAPE_BYTES.false),
      sym (all_more f a.n is_doomed c.loop-i.i h ok) ∙ c.loop-i.invariant.1,
      omega (arith, c.loop-i.invariant.2, doomed_bytes_lem a.cap a.first c.loop-i.i s _ r, total_more f a.n (λ (d : Doomed ℕ). d.bytes) c.loop-i.i h),
    )

pub returns : goal.returns
returns c =
    let a = c.args in
    doomed_done a.cap a.first a.n a.bytes c.loop-i.i c.loop-i.sum a.doomed.now (omega arith) c.loop-i.invariant.1 c.loop-i.invariant.2
