-- `note_allocated` meets its contract. Assumes nothing.
use mathlib.Core.Path.{ap, ap₂, ◌∙◌, subst}
use native.Mathlib.Omega.{arith}
use Rattle.pool_memory.specs.Lent.{lent}
use Rattle.pool_memory.specs.Writing.{pool_after}
use Rattle.pool_memory.specs.Calls.{told_number}
use Rattle.pool_memory.proofs.FromPool.{pool_fits}
use Rattle.pool_rules.specs.Model.{doomed_bytes}
use Rattle.pool_note_allocated.specs.NoteAllocated.{relieved_pool, spares_given, Relieves}
use Rattle.pool_note_allocated.proofs.Chosen.{countable, dooming_most}
use Rattle.pool_note_allocated.proofs.Noted.{counts_need, noted_relieved, noted_covered}
use Rattle.pool_note_allocated.proofs.calls.note_allocated.note_allocated.Goals as goal

pub returns-then-excess-pool : goal.returns-then-excess-pool
returns-then-excess-pool c =
    let a = c.args in
    let l = lent a.pool a.book a.textures.now a.retiring.now a.doomed.now a.spares.now a.newest.now a.stamps.now in
    let f = pool_fits l c.requires in
    let e = c.saturating_sub-excess.ensures in
    ap (λ b. (told_number 0, lent a.pool b a.textures.now a.retiring.now a.doomed.now a.spares.now a.newest.now a.stamps.now)) c.noted-after.ensures
    ∙ noted_covered l f a.allocated (omega (arith, e, c.if-excess-pool.true)) c.requires

pub parking_line-line-requires : goal.parking_line-line-requires
parking_line-line-requires c =
    let a = c.args in
    let l = lent a.pool a.book a.textures.now a.retiring.now a.doomed.now a.spares.now a.newest.now a.stamps.now in
    let f = pool_fits l c.requires in
    (countable l f, dooming_most l f, c.if-excess-pool.false)

pub bytes_before-requires : goal.bytes_before-requires
bytes_before-requires c =
    let a = c.args in
    let l = lent a.pool a.book a.textures.now a.retiring.now a.doomed.now a.spares.now a.newest.now a.stamps.now in
    let f = pool_fits l c.requires in
    countable l f

pub counts_after-requires : goal.counts_after-requires
counts_after-requires c =
    let a = c.args in
    let l = lent a.pool a.book a.textures.now a.retiring.now a.doomed.now a.spares.now a.newest.now a.stamps.now in
    let f = pool_fits l c.requires in
    let r = c.relieve-relief in
    let e = c.saturating_sub-excess.ensures in
    counts_need l f a.allocated (r.ensures.count ∙ ap (λ x. (pool_after (relieved_pool x l) l).kept) e) (r.ensures.sum ∙ ap (λ x. doomed_bytes (spares_given x l)) e)

pub returns : goal.returns
returns c =
    let a = c.args in
    let l = lent a.pool a.book a.textures.now a.retiring.now a.doomed.now a.spares.now a.newest.now a.stamps.now in
    let f = pool_fits l c.requires in
    let r = c.relieve-relief in
    let e = c.saturating_sub-excess.ensures in
    ap₂ (λ p b. (told_number 0, lent p b r.new.textures a.retiring.now r.new.doomed r.new.spares a.newest.now a.stamps.now)) c.counts_after.ensures c.noted-after.ensures
    ∙ noted_relieved l f a.allocated (subst (λ x. Relieves l x r.result.kept r.result.bytes r.new.textures r.new.doomed r.new.spares) e r.ensures) c.requires
