-- Turns until the run stops: the lines run so far have the events of some input, of which every byte that came was fed or waits. The measure falls by the bytes that were read and used. Assumes nothing.
use mathlib.Core.Path.{◌≡◌, refl, sym, ap, ◌∙◌}
use native.Mathlib.Omega.{arith}
use lib.ListN.{length}
use Rattle.std.proofs.Common.{rules}
use Rattle.event_sessions.proofs.Same.{same_on}
use Rattle.event_sessions.proofs.Keeps.{fresh_holds}
use Rattle.event_feed.proofs.Parts.{part_length}
use Rattle.event_stream.specs.Streams.{why_number}
use Rattle.event_stream.proofs.Reasons.{full_first, reason_says, no_reason}
use Rattle.event_cost.specs.Costs.{no_sums}
use Rattle.event_cost.proofs.Summing.{going_first, going_counts, going_ready, going_next, going_less, summed}
use Rattle.event_cost.proofs.cost_all.cost_all.Goals as goal

pub loop-why-init : goal.loop-why-init
unfolding no_sums
loop-why-init g c =
    let a = c.args in
    let s = a.stores.now in
    record {
      going = rw c.begin-at.ensures (going_first _ _ _ _ _ a.buf.now (fresh_holds s.textures.now s.retiring.now s.doomed.now s.spares.now s.newest.now s.stamps.now) (full_first (length a.buf.now) (length a.out.now) (omega (arith, c.well_formed)) (omega (arith, c.well_formed))));
      same = search rules;
    }

pub read_more-end-requires : goal.read_more-end-requires
read_more-end-requires g c =
    let p = c.loop-why.invariant.going.placed in
    let e = c.loop-why.auto.buf in
    (record { inside = p.inside; within = omega (arith, p.within, e); space = p.space }, omega (arith, c.requires.0, e))

pub overflow_add-came : goal.overflow_add-came
overflow_add-came g c =
    let l = c.loop-why in
    let p = l.invariant.going.placed in
    omega (arith, p.inside, p.within, (going_counts _ _ _ _ _ _ l.at l.buf l.buf l.sums l.read l.written l.invariant.going l.auto.buf l.at.end (omega arith) p.within refl).0)

pub overflow_add-read : goal.overflow_add-read
overflow_add-read g c =
    let l = c.loop-why in
    let r = c.read_more-end in
    let z = r.auto.buf ∙ l.auto.buf in
    omega (arith, (going_counts _ _ _ _ _ _ l.at l.buf _ l.sums l.read l.written l.invariant.going z _ r.ensures.0 (omega (arith, r.ensures.1, l.auto.buf)) r.ensures.2).0, r.ensures.1, l.auto.buf, c.byte_count-read.ensures)

pub cost_turn-turn-requires : goal.cost_turn-turn-requires
cost_turn-turn-requires g c =
    let l = c.loop-why in
    let r = c.read_more-end in
    let z = r.auto.buf ∙ l.auto.buf in
    going_ready _ _ _ _ _ _ l.at l.buf _ l.sums l.read l.written l.invariant.going z _ r.ensures.0 (omega (arith, r.ensures.1, l.auto.buf)) r.ensures.2 (omega (arith, c.requires.0)) _ (omega (arith, c.requires.1, l.auto.out))

pub overflow_add-written : goal.overflow_add-written
overflow_add-written g c =
    let l = c.loop-why in
    let r = c.read_more-end in
    let f = c.cost_turn-turn in
    let z = r.auto.buf ∙ l.auto.buf in
    let y : c.byte_count-written.result ≡ f.result.at.filled = omega (arith, c.byte_count-written.ensures, c.write_out-wrote.ensures, part_length 0 f.result.at.filled f.new.out (omega (arith, f.ensures.costed.fits, f.auto.out))) in
    omega (arith, (going_counts _ _ _ _ _ _ l.at l.buf _ l.sums l.read l.written l.invariant.going z _ r.ensures.0 (omega (arith, r.ensures.1, l.auto.buf)) r.ensures.2).1, f.ensures.costed.fits, l.auto.out)

pub loop-why-smaller : goal.loop-why-smaller
loop-why-smaller g c =
    let l = c.loop-why in
    let r = c.read_more-end in
    let f = c.cost_turn-turn in
    let z = r.auto.buf ∙ l.auto.buf in
    let y : c.byte_count-written.result ≡ f.result.at.filled = omega (arith, c.byte_count-written.ensures, c.write_out-wrote.ensures, part_length 0 f.result.at.filled f.new.out (omega (arith, f.ensures.costed.fits, f.auto.out))) in
    let t = rw (l.invariant.same.copies_long, l.invariant.same.views_long) at f.ensures.costed in
    let u = rw (f.auto.buf ∙ z, f.auto.out ∙ l.auto.out) at c.is_full-full.ensures in
    going_less _ _ _ _ _ _ l.at l.buf _ l.sums l.read l.written l.invariant.going z _ r.ensures.0 (omega (arith, r.ensures.1, l.auto.buf)) r.ensures.2 _ _ _ _ _ t (f.auto.buf ∙ z) _ c.add_sums-sums.ensures _ c.byte_count-read.ensures _ y _ refl _ u _ (reason_says _ _ _ _ c.reason.ensures)
    (no_reason _ c.in_default.not-Some)

pub loop-why-preserved : goal.loop-why-preserved
loop-why-preserved g c =
    let l = c.loop-why in
    let r = c.read_more-end in
    let f = c.cost_turn-turn in
    let z = r.auto.buf ∙ l.auto.buf in
    let y : c.byte_count-written.result ≡ f.result.at.filled = omega (arith, c.byte_count-written.ensures, c.write_out-wrote.ensures, part_length 0 f.result.at.filled f.new.out (omega (arith, f.ensures.costed.fits, f.auto.out))) in
    let t = rw (l.invariant.same.copies_long, l.invariant.same.views_long) at f.ensures.costed in
    let u = rw (f.auto.buf ∙ z, f.auto.out ∙ l.auto.out) at c.is_full-full.ensures in
    record {
      going = going_next _ _ _ _ _ _ l.at l.buf _ l.sums l.read l.written l.invariant.going z _ r.ensures.0 (omega (arith, r.ensures.1, l.auto.buf)) r.ensures.2 _ _ _ _ _ t (f.auto.buf ∙ z) _ c.add_sums-sums.ensures _ c.byte_count-read.ensures _ y _ refl _ u _ (reason_says _ _ _ _ c.reason.ensures)
          (no_reason _ c.in_default.not-Some);
      same = same_on l.invariant.same f.ensures.same;
    }

pub returns-in-Some-clause-costed : goal.returns-in-Some-clause-costed
returns-in-Some-clause-costed g c =
    let l = c.loop-why in
    let r = c.read_more-end in
    let f = c.cost_turn-turn in
    let z = r.auto.buf ∙ l.auto.buf in
    let y : c.byte_count-written.result ≡ f.result.at.filled = omega (arith, c.byte_count-written.ensures, c.write_out-wrote.ensures, part_length 0 f.result.at.filled f.new.out (omega (arith, f.ensures.costed.fits, f.auto.out))) in
    let t = rw (l.invariant.same.copies_long, l.invariant.same.views_long) at f.ensures.costed in
    let u = rw (f.auto.buf ∙ z, f.auto.out ∙ l.auto.out) at c.is_full-full.ensures in
    summed _ _ _ _ _ _ l.at l.buf _ l.sums l.read l.written l.invariant.going z _ r.ensures.0 (omega (arith, r.ensures.1, l.auto.buf)) r.ensures.2 _ _ _ _ _ t (f.auto.buf ∙ z) _ c.add_sums-sums.ensures _ c.byte_count-read.ensures _ y _ refl _ u _
    (reason_says _ _ _ _ (ap why_number (sym c.in-Some.is) ∙ c.reason.ensures))
