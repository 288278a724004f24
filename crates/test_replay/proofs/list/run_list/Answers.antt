-- Turns until the list ends, as those of `run_all` of crates/event_stream: the measure falls by the bytes that were given and fed. Assumes nothing.
use Rattle.std.specs.Prelude.{is_some}
use mathlib.Core.Path.{◌≡◌, refl, sym, ap, ◌∙◌}
use mathlib.Core.Bool.{false≢true}
use native.Mathlib.Omega.{arith}
use lib.ListN.{length}
use Rattle.std.proofs.Common.{rules}
use Rattle.event_sessions.proofs.Same.{same_on}
use Rattle.event_sessions.proofs.Keeps.{fresh_holds}
use Rattle.event_feed.proofs.Parts.{part_length}
use Rattle.event_stream.proofs.Reasons.{full_first, reason_says, no_reason}
use Rattle.event_stream.proofs.Loop.{going_first, going_counts, going_ready, going_next, going_less}
use Rattle.test_replay.proofs.list.run_list.Goals as goal

pub loop-at-init : goal.loop-at-init
loop-at-init c =
    let a = c.args in
    let s = a.stores.now in
    record {
      going = rw c.begin-at.ensures (going_first _ _ _ _ _ a.buf.now (fresh_holds s.textures.now s.retiring.now s.doomed.now s.spares.now s.newest.now s.stamps.now) (full_first (length a.buf.now) (length a.out.now) (omega (arith, c.well_formed)) (omega (arith, c.well_formed))));
      same = search rules;
      given = omega arith;
    }

pub next_part-end-requires : goal.next_part-end-requires
next_part-end-requires c =
    let i = c.loop-at in
    let p = i.invariant.going.placed in
    (i.invariant.given, record { inside = p.inside; within = omega (arith, p.within, i.auto.buf); space = p.space })

pub overflow_add-came : goal.overflow_add-came
overflow_add-came c =
    let l = c.loop-at in
    let p = l.invariant.going.placed in
    omega (arith, p.inside, p.within, (going_counts _ _ _ _ _ l.at _ l.buf l.buf l.given l.written l.invariant.going l.auto.buf l.at.end (omega arith) p.within refl).0)

pub overflow_add-given : goal.overflow_add-given
overflow_add-given c =
    let l = c.loop-at in
    let r = c.next_part-end in
    let i = l.invariant in
    let z = r.auto.buf ∙ l.auto.buf in
    omega (arith, (going_counts _ _ _ _ _ l.at _ l.buf _ l.given l.written i.going z _ r.ensures.0 (omega (arith, r.ensures.1, l.auto.buf)) r.ensures.3).0, r.ensures.1, l.auto.buf)

pub feed-at-requires : goal.feed-at-requires
feed-at-requires c =
    let l = c.loop-at in
    let r = c.next_part-end in
    let i = l.invariant in
    let z = r.auto.buf ∙ l.auto.buf in
    rw (l.invariant.same.copies_long, l.invariant.same.views_long)
    (going_ready _ _ _ _ _ l.at _ l.buf _ l.given l.written i.going z _ r.ensures.0 (omega (arith, r.ensures.1, l.auto.buf)) r.ensures.3 (omega (arith, c.requires.0)) _ (omega (arith, c.requires.1, l.auto.out)))

pub overflow_add-written : goal.overflow_add-written
overflow_add-written c =
    let l = c.loop-at in
    let r = c.next_part-end in
    let f = c.feed-at in
    let i = l.invariant in
    let z = r.auto.buf ∙ l.auto.buf in
    let y : c.byte_count-written.result ≡ f.result.filled = omega (arith, c.byte_count-written.ensures, c.write_out-wrote.ensures, part_length 0 f.result.filled f.new.out (omega (arith, f.ensures.turn.ends, f.auto.out))) in
    omega (arith, (going_counts _ _ _ _ _ l.at _ l.buf _ l.given l.written i.going z _ r.ensures.0 (omega (arith, r.ensures.1, l.auto.buf)) r.ensures.3).1, f.ensures.turn.ends, l.auto.out)

pub loop-at-smaller : goal.loop-at-smaller
loop-at-smaller c =
    let l = c.loop-at in
    let r = c.next_part-end in
    let f = c.feed-at in
    let i = l.invariant in
    let z = r.auto.buf ∙ l.auto.buf in
    let y : c.byte_count-written.result ≡ f.result.filled = omega (arith, c.byte_count-written.ensures, c.write_out-wrote.ensures, part_length 0 f.result.filled f.new.out (omega (arith, f.ensures.turn.ends, f.auto.out))) in
    let t = rw (l.invariant.same.copies_long, l.invariant.same.views_long) at f.ensures.turn in
    let p = rw z at f.ensures.placed in
    let u = rw (c.byte_count.ensures, f.auto.buf ∙ z, f.auto.out ∙ l.auto.out) at c.is_full-full.ensures in
    going_less _ _ _ _ _ l.at _ l.buf _ l.given l.written i.going z _ r.ensures.0 (omega (arith, r.ensures.1, l.auto.buf)) r.ensures.3 _ _ _ _ _ t p (f.auto.buf ∙ z) _ refl _ y _ refl _ u _ (reason_says _ _ _ _ c.reason.ensures) (no_reason _ (λ why e. false≢true (sym c.if-is_some.false ∙ c.is_some.ensures ∙ ap is_some e)))

pub loop-at-preserved : goal.loop-at-preserved
loop-at-preserved c =
    let l = c.loop-at in
    let r = c.next_part-end in
    let f = c.feed-at in
    let i = l.invariant in
    let z = r.auto.buf ∙ l.auto.buf in
    let y : c.byte_count-written.result ≡ f.result.filled = omega (arith, c.byte_count-written.ensures, c.write_out-wrote.ensures, part_length 0 f.result.filled f.new.out (omega (arith, f.ensures.turn.ends, f.auto.out))) in
    let t = rw (l.invariant.same.copies_long, l.invariant.same.views_long) at f.ensures.turn in
    let p = rw z at f.ensures.placed in
    let u = rw (c.byte_count.ensures, f.auto.buf ∙ z, f.auto.out ∙ l.auto.out) at c.is_full-full.ensures in
    record {
      going = going_next _ _ _ _ _ l.at _ l.buf _ l.given l.written i.going z _ r.ensures.0 (omega (arith, r.ensures.1, l.auto.buf)) r.ensures.3 _ _ _ _ _ t p (f.auto.buf ∙ z) _ refl _ y _ refl _ u _ (reason_says _ _ _ _ c.reason.ensures) (no_reason _ (λ why e. false≢true (sym c.if-is_some.false ∙ c.is_some.ensures ∙ ap is_some e)));
      same = same_on i.same f.ensures.same;
      given = omega (arith, r.ensures.2, r.ensures.0, i.given);
    }
