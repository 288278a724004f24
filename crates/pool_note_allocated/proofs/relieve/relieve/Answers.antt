-- `relieve` meets its contract: each turn one more texture has given what was picked of it. The book is no part of the loop, so the invariant is said
-- of any. Assumes nothing.
use mathlib.Core.Path.{sym, ◌∙◌}
use Prim.Native.Nat.{◌+◌}
use native.Mathlib.Omega.{arith}
use Rattle.pool_memory.specs.Lent.{lent, version_places}
use Rattle.pool_memory.proofs.FromPool.{pool_fits}
use Rattle.pool_note_allocated.proofs.Chosen.{freed_start}
use Rattle.pool_note_allocated.proofs.Progress.{progress_start, turn_needs, progress_turn, progress_end, given_fits}
use Rattle.pool_note_allocated.proofs.relieve.relieve.Goals as goal

pub loop-i-init : goal.loop-i-init
loop-i-init c book f =
    let a = c.args in
    let l = lent a.pool book a.textures.now a.retiring.now a.doomed.now a.spares.now a.newest.now a.stamps.now in
    progress_start l a.excess a.line a.freed (c.requires.2 ∙ sym (freed_start l f a.excess a.line c.requires.1))

pub overflow_sub-queued : goal.overflow_sub-queued
overflow_sub-queued c =
    let a = c.args in
    let l = lent a.pool a.book a.textures.now a.retiring.now a.doomed.now a.spares.now a.newest.now a.stamps.now in
    let f = pool_fits l c.requires.0 in
    let p = c.loop-i.invariant a.book f in
    (turn_needs l a.excess a.line f c.requires.1 p (omega arith)).6

pub overflow_add-queued : goal.overflow_add-queued
overflow_add-queued c =
    let a = c.args in
    let l = lent a.pool a.book a.textures.now a.retiring.now a.doomed.now a.spares.now a.newest.now a.stamps.now in
    let f = pool_fits l c.requires.0 in
    let p = c.loop-i.invariant a.book f in
    omega (arith, (turn_needs l a.excess a.line f c.requires.1 p (omega arith)).4, f.most)

pub relieve_texture-step-requires : goal.relieve_texture-step-requires
unfolding version_places
relieve_texture-step-requires c =
    let a = c.args in
    let l = lent a.pool a.book a.textures.now a.retiring.now a.doomed.now a.spares.now a.newest.now a.stamps.now in
    let f = pool_fits l c.requires.0 in
    let p = c.loop-i.invariant a.book f in
    turn_needs l a.excess a.line f c.requires.1 p (omega arith)

pub overflow_add-kept : goal.overflow_add-kept
overflow_add-kept c =
    let a = c.args in
    let l = lent a.pool a.book a.textures.now a.retiring.now a.doomed.now a.spares.now a.newest.now a.stamps.now in
    let f = pool_fits l c.requires.0 in
    let p = c.loop-i.invariant a.book f in
    let n = turn_needs l a.excess a.line f c.requires.1 p (omega arith) in
    omega (arith, n.5, n.6, c.relieve_texture-step.ensures.0, p.run, f.spares, f.most)

pub overflow_add-from : goal.overflow_add-from
overflow_add-from c =
    let a = c.args in
    let l = lent a.pool a.book a.textures.now a.retiring.now a.doomed.now a.spares.now a.newest.now a.stamps.now in
    let f = pool_fits l c.requires.0 in
    let p = c.loop-i.invariant a.book f in
    let n = turn_needs l a.excess a.line f c.requires.1 p (omega arith) in
    omega (arith, n.5, c.relieve_texture-step.ensures.0, p.run, f.spares, f.most)

pub overflow_add-bytes : goal.overflow_add-bytes
unfolding version_places
overflow_add-bytes c =
    let a = c.args in
    let l = lent a.pool a.book a.textures.now a.retiring.now a.doomed.now a.spares.now a.newest.now a.stamps.now in
    let f = pool_fits l c.requires.0 in
    let p = c.loop-i.invariant a.book f in
    let r = c.relieve_texture-step in
    let e = r.ensures in
    let q = progress_turn l a.excess a.line f c.requires.1 p (omega arith) e.0 e.2 e.3 e.4 e.5 e.6 e.7 r.auto.textures r.auto.doomed r.auto.spares in
    omega (arith, q.given, given_fits l f a.excess (c.loop-i.i + 1), c.struct_known-1.given)

pub loop-i-preserved : goal.loop-i-preserved
unfolding version_places
loop-i-preserved c book f =
    let a = c.args in
    let l = lent a.pool book a.textures.now a.retiring.now a.doomed.now a.spares.now a.newest.now a.stamps.now in
    let r = c.relieve_texture-step in
    let e = r.ensures in
    progress_turn l a.excess a.line f c.requires.1 (c.loop-i.invariant book f) (omega arith) e.0 e.2 e.3 e.4 e.5 e.6 e.7 r.auto.textures r.auto.doomed r.auto.spares

pub returns : goal.returns
returns c =
    let a = c.args in
    let l = lent a.pool a.book a.textures.now a.retiring.now a.doomed.now a.spares.now a.newest.now a.stamps.now in
    let f = pool_fits l c.requires.0 in
    let p = c.loop-i.invariant a.book f in
    progress_end l f a.excess a.line p (omega arith)
