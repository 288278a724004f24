-- `trim_textures` meets its contract: the pass goes on texture by texture, and ends with the call's memory. Assumes nothing.
use Prim.Native.Nat.{◌<◌}
use borrow.Author.Rules.{rules}
use native.Mathlib.Omega.{arith}
use Rattle.pool_memory.specs.Lent.{lent}
use Rattle.pool_memory.proofs.FromPool.{pool_fits}
use Rattle.pool_trim.specs.Pass.{no_pass}
use Rattle.pool_trim.proofs.Sofar.{sofar_start}
use Rattle.pool_trim.proofs.Trimmed.{seen, sofar_next}
use Rattle.pool_trim.proofs.TrimCalls.{look_fits, push_fits, put_fits, history_moves, pass_fits, counts_fit_lem, pass_done}
use Rattle.pool_trim.proofs.calls.trim.trim_textures.Goals as goal

pub loop-i-init : goal.loop-i-init
unfolding no_pass
loop-i-init c =
    let a = c.args in
    λ book e. sofar_start (lent a.pool book a.textures.now a.retiring.now a.doomed.now a.spares.now a.newest.now a.stamps.now) a.current _ (search rules)

pub look_at-look-requires : goal.look_at-look-requires
look_at-look-requires c =
    let a = c.args in
    let l = lent a.pool a.book a.textures.now a.retiring.now a.doomed.now a.spares.now a.newest.now a.stamps.now in
    look_fits l (pool_fits l c.requires) c.loop-i.i (omega arith) a.current c.loop-i.pass _ _ _ _ _ (c.loop-i.invariant a.book c.requires)

pub overflow_add-waiting : goal.overflow_add-waiting
overflow_add-waiting c =
    let a = c.args in
    let l = lent a.pool a.book a.textures.now a.retiring.now a.doomed.now a.spares.now a.newest.now a.stamps.now in
    let f = pool_fits l c.requires in
    let s = c.loop-i.invariant a.book c.requires in
    let h : c.loop-i.i < a.pool.tracked = omega arith in
    let n = seen l a.current c.loop-i.i c.loop-i.pass _ _ _ _ _ f h s c.look_at-look.result c.look_at-look.ensures in
    omega (arith, s.all, n.spares, f.versions, f.most)

pub push_spares-requires : goal.push_spares-requires
push_spares-requires c =
    let a = c.args in
    let l = lent a.pool a.book a.textures.now a.retiring.now a.doomed.now a.spares.now a.newest.now a.stamps.now in
    let f = pool_fits l c.requires in
    let s = c.loop-i.invariant a.book c.requires in
    let h : c.loop-i.i < a.pool.tracked = omega arith in
    push_fits l f c.loop-i.i h a.current c.loop-i.pass _ _ _ _ _ s c.look_at-look.result c.look_at-look.ensures

pub overflow_mul-pass : goal.overflow_mul-pass
overflow_mul-pass c =
    let a = c.args in
    let l = lent a.pool a.book a.textures.now a.retiring.now a.doomed.now a.spares.now a.newest.now a.stamps.now in
    let f = pool_fits l c.requires in
    let s = c.loop-i.invariant a.book c.requires in
    let h : c.loop-i.i < a.pool.tracked = omega arith in
    let n = seen l a.current c.loop-i.i c.loop-i.pass _ _ _ _ _ f h s c.look_at-look.result c.look_at-look.ensures in
    omega (arith, s.all, n.spares, f.versions, f.most)

pub overflow_add-pass : goal.overflow_add-pass
overflow_add-pass c =
    let a = c.args in
    let l = lent a.pool a.book a.textures.now a.retiring.now a.doomed.now a.spares.now a.newest.now a.stamps.now in
    let f = pool_fits l c.requires in
    let s = c.loop-i.invariant a.book c.requires in
    let h : c.loop-i.i < a.pool.tracked = omega arith in
    let n = seen l a.current c.loop-i.i c.loop-i.pass _ _ _ _ _ f h s c.look_at-look.result c.look_at-look.ensures in
    omega (arith, n.few, n.spares, f.versions, f.most)

pub overflow_mul-pass-in-loop-i : goal.overflow_mul-pass-in-loop-i
overflow_mul-pass-in-loop-i c =
    let a = c.args in
    let l = lent a.pool a.book a.textures.now a.retiring.now a.doomed.now a.spares.now a.newest.now a.stamps.now in
    let f = pool_fits l c.requires in
    let s = c.loop-i.invariant a.book c.requires in
    let h : c.loop-i.i < a.pool.tracked = omega arith in
    let n = seen l a.current c.loop-i.i c.loop-i.pass _ _ _ _ _ f h s c.look_at-look.result c.look_at-look.ensures in
    omega (arith, n.few, n.spares, f.versions, f.most)

pub overflow_sub-look : goal.overflow_sub-look
overflow_sub-look c =
    let a = c.args in
    let l = lent a.pool a.book a.textures.now a.retiring.now a.doomed.now a.spares.now a.newest.now a.stamps.now in
    let f = pool_fits l c.requires in
    let s = c.loop-i.invariant a.book c.requires in
    let h : c.loop-i.i < a.pool.tracked = omega arith in
    let n = seen l a.current c.loop-i.i c.loop-i.pass _ _ _ _ _ f h s c.look_at-look.result c.look_at-look.ensures in
    n.few

pub overflow_mul-look : goal.overflow_mul-look
overflow_mul-look c =
    let a = c.args in
    let l = lent a.pool a.book a.textures.now a.retiring.now a.doomed.now a.spares.now a.newest.now a.stamps.now in
    let f = pool_fits l c.requires in
    let s = c.loop-i.invariant a.book c.requires in
    let h : c.loop-i.i < a.pool.tracked = omega arith in
    let n = seen l a.current c.loop-i.i c.loop-i.pass _ _ _ _ _ f h s c.look_at-look.result c.look_at-look.ensures in
    omega (arith, n.few, n.spares, f.versions, f.most)

pub move_down-requires : goal.move_down-requires
move_down-requires c =
    let a = c.args in
    let l = lent a.pool a.book a.textures.now a.retiring.now a.doomed.now a.spares.now a.newest.now a.stamps.now in
    let f = pool_fits l c.requires in
    let s = c.loop-i.invariant a.book c.requires in
    let h : c.loop-i.i < a.pool.tracked = omega arith in
    let n = seen l a.current c.loop-i.i c.loop-i.pass _ _ _ _ _ f h s c.look_at-look.result c.look_at-look.ensures in
    (omega (arith, s.all), omega (arith, n.few, n.spares, f.versions, f.spares, s.s_long))

pub move_history-requires : goal.move_history-requires
move_history-requires c =
    let a = c.args in
    let l = lent a.pool a.book a.textures.now a.retiring.now a.doomed.now a.spares.now a.newest.now a.stamps.now in
    let f = pool_fits l c.requires in
    let s = c.loop-i.invariant a.book c.requires in
    let h : c.loop-i.i < a.pool.tracked = omega arith in
    history_moves l f c.loop-i.i h a.current c.loop-i.pass _ _ _ _ _ s c.look_at-look.result c.look_at-look.ensures

pub put_looked-requires : goal.put_looked-requires
put_looked-requires c =
    let a = c.args in
    let l = lent a.pool a.book a.textures.now a.retiring.now a.doomed.now a.spares.now a.newest.now a.stamps.now in
    let f = pool_fits l c.requires in
    let s = c.loop-i.invariant a.book c.requires in
    let h : c.loop-i.i < a.pool.tracked = omega arith in
    put_fits l f c.loop-i.i h a.current c.loop-i.pass _ _ _ _ _ s c.look_at-look.result c.look_at-look.ensures

pub pass_on-pass-requires : goal.pass_on-pass-requires
pass_on-pass-requires c =
    let a = c.args in
    let l = lent a.pool a.book a.textures.now a.retiring.now a.doomed.now a.spares.now a.newest.now a.stamps.now in
    let f = pool_fits l c.requires in
    let s = c.loop-i.invariant a.book c.requires in
    let h : c.loop-i.i < a.pool.tracked = omega arith in
    pass_fits l f c.loop-i.i h a.current c.loop-i.pass _ _ _ _ _ s c.look_at-look.result c.look_at-look.ensures

pub loop-i-preserved : goal.loop-i-preserved
loop-i-preserved c =
    let a = c.args in
    let h : c.loop-i.i < a.pool.tracked = omega arith in
    λ book e.
    let l = lent a.pool book a.textures.now a.retiring.now a.doomed.now a.spares.now a.newest.now a.stamps.now in
    sofar_next l a.current c.loop-i.i c.loop-i.pass _ _ _ _ _ (pool_fits l e) h (c.loop-i.invariant book e) c.look_at-look.result c.look_at-look.ensures
    _ _ _ _ _ _ c.pass_on-pass.ensures c.put_looked.ensures c.push_spares.ensures c.move_down.ensures
    c.move_history.ensures.0 c.move_history.ensures.1
    c.put_looked.auto.textures c.push_spares.auto.doomed c.move_down.auto.s c.move_history.auto.newest c.move_history.auto.stamps

pub counts_after-requires : goal.counts_after-requires
counts_after-requires c =
    let a = c.args in
    let l = lent a.pool a.book a.textures.now a.retiring.now a.doomed.now a.spares.now a.newest.now a.stamps.now in
    let s = c.loop-i.invariant a.book c.requires in
    counts_fit_lem l (pool_fits l c.requires) a.current c.loop-i.i c.loop-i.pass _ _ _ _ _ s

pub returns : goal.returns
returns c =
    let a = c.args in
    let l = lent a.pool a.book a.textures.now a.retiring.now a.doomed.now a.spares.now a.newest.now a.stamps.now in
    let s = c.loop-i.invariant a.book c.requires in
    pass_done l (pool_fits l c.requires) a.current c.loop-i.i c.loop-i.pass _ _ _ _ _ s (omega arith) _ c.counts_after.ensures
