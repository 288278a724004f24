-- Laws of a loop of turns: reading or copying what comes, feeding, writing, and the reason to go on or to stop. Assumes nothing.
use mathlib.Core.Path.{◌≡◌, refl, sym, ap, ap₂, ◌∙◌, subst}
use mathlib.Core.Bool.{Bool, false}
use mathlib.Core.List.{List, []}
use Prim.Native.Nat.{ℕ, zero, suc, ◌+◌, ◌-◌, ◌^◌, ◌≤◌, ◌<◌}
use native.Mathlib.Omega.{arith}
use lib.ListN.{length, take}
use Rattle.event_sessions.specs.Sessions.{SessionState, HoldsPool}
use Rattle.event_runs.specs.Lines.{whole_lines, longest_answer}
use Rattle.event_feed.specs.declared.feed_state.FeedState.{FeedState}
use Rattle.event_feed.specs.FeedConstants.{kept_bytes}
use Rattle.event_feed.specs.Feed.{Carried, ending, fed, fed_output, finished, finish_output}
use Rattle.event_feed.specs.Places.{held_line, carried_of, waiting, waits, fed_at, Placed, Ready, Turn}
use Rattle.event_feed.proofs.Parts.{part_same}
use Rattle.event_feed.proofs.Cutting.{fed_holds}
use Rattle.event_stream.specs.Streams.{why_going, is_full, RunOf}
use Rattle.event_stream.proofs.Reasons.{Reason, not_full}
use Rattle.event_stream.proofs.Sofar.{Sofar, Closed, sofar_first, sofar_plain, sofar_count, sofar_turn, stopped_early, stopped_ended}
use Rattle.event_stream.proofs.Turns.{at_first, placed_first, left_of, bytes_more, left_less, all_fed}

-- ---- between two turns, with buffers of `size` bytes for input and `room` for output

pub record Going (cs vs size room : ℕ) (s : SessionState) (c : Carried) (at : FeedState) (read written : ℕ) : Type 0 where
  pub placed : Placed at size
  pub pool : HoldsPool c.state
  pub sofar : Sofar cs vs s c read (waiting at) written
  pub counts : is_full read size written room ≡ false

pub going_first : (cs vs size room : ℕ) (s : SessionState) (buf : List ℕ) → HoldsPool s → is_full 0 size 0 room ≡ false
    → Going cs vs size room s (carried_of at_first s buf) at_first 0 0
going_first cs vs size room s buf h f =
    record { placed = placed_first size; pool = h; sofar = sofar_first cs vs s; counts = f }

-- nothing else is said where output could not be written
unwritten : (cs vs size room : ℕ) (s t : SessionState) (read lines written : ℕ) → HoldsPool t → RunOf cs vs size room s t 2 read lines written
unwritten cs vs size room s t read lines written h = record {
  stopped = (omega arith, omega arith);
  pool = h;
  input = [];
  fed_bytes = omega arith;
  ended = λ e. absurd (let y : ⊥ = omega arith in y);
  long = λ e. absurd (let y : ⊥ = omega arith in y);
}

-- ---- a turn: `now` is the buffer when bytes came, up to `end`

module _ (cs vs size room : ℕ) (s : SessionState) (at : FeedState) (st : SessionState) (buf now : List ℕ) (read written : ℕ)
    (g : Going cs vs size room s (carried_of at st buf) at read written) (now-size : length now ≡ size) (end : ℕ) (least : at.end ≤ end)
    (most : end ≤ size) (kept : take at.end now ≡ take at.end buf) where
  -- there are numbers for this turn
  pub going_counts : (read + size < 2 ^ 64) × (written + room < 2 ^ 64)
  going_counts = not_full read size written room g.counts

  same_line : held_line at now ≡ held_line at buf
  same_line = part_same at.from at.held at.end buf now g.placed.inside kept

  same_carried : carried_of at st now ≡ carried_of at st buf
  same_carried = λ i. record { state = st; number = at.number; line = same_line i }

  pub going_ready : kept_bytes < size → (out : List ℕ) → longest_answer cs vs ≤ length out → Ready cs vs at end st now out
  going_ready large out space =
      let n = sofar_count cs vs s (carried_of at st buf) read (waiting at) written g.sofar in
      let b = going_counts.0 in
      record {
        placed = record { inside = g.placed.inside; within = let w = g.placed.within in omega arith; space = g.placed.space };
        after = least;
        within = omega arith;
        large = omega arith;
        plain = ap whole_lines same_line ∙ sofar_plain cs vs s (carried_of at st buf) read (waiting at) written g.sofar;
        pool = g.pool;
        counted = omega arith;
        room = space;
      }

  module _ (after : FeedState) (ast : SessionState) (abuf : List ℕ) (out exit : List ℕ)
      (t : Turn cs vs (carried_of at st now) (carried_of after ast abuf) (fed_at at end now) (waits after abuf) after.filled out exit)
      (p : Placed after size) (abuf-size : length abuf ≡ size) (got : ℕ) (is-got : got ≡ end - at.end) (put : ℕ) (is-put : put ≡ after.filled) where
    -- bytes came
    came_turn : at.from + at.held < end → Sofar cs vs s (carried_of after ast abuf) (read + got) (waiting after) (written + put)
    came_turn some =
        rw (is-put, is-got)
        (sofar_turn cs vs s (carried_of at st buf) read (waiting at) written g.sofar (carried_of at st now) (carried_of after ast abuf) same_carried (fed_at at end now)
        (waits after abuf) after.filled out exit t (read + (end - at.end)) (waiting after)
        (bytes_more at size end now g.placed now-size most least after abuf t.used t.fits t.progress t.rest p abuf-size some (length g.sofar.input) read g.sofar.bytes))

    -- none came: the input has ended
    closed_turn : end ≡ at.from + at.held → Closed cs vs s (carried_of after ast abuf) (read + got) (written + put)
    unfolding finished finish_output
    closed_turn none =
        let i = g.placed.inside in
        let b = g.sofar.bytes in
        let all : take t.used (fed_at at end now) ≡ ending (held_line at buf) =
        all_fed at size end now g.placed now-size most least after abuf t.used t.fits t.progress t.rest p abuf-size none ∙ ap ending same_line in
        let x : fed_output cs vs (carried_of at st now) (take t.used (fed_at at end now)) ≡ fed_output cs vs (carried_of at st buf) (ending (held_line at buf)) =
        ap₂ (fed_output cs vs) same_carried all in
        let l = ap length x in
        let m = t.length_is in
        record {
          before = carried_of at st buf;
          put = written;
          sofar = record { input = g.sofar.input; is = g.sofar.is; bytes = omega arith; put = g.sofar.put };
          is = t.carried ∙ ap₂ (fed cs vs) same_carried all;
          more = omega arith;
        }

    module _ (count : ℕ) (is-count : count ≡ end - (at.from + at.held)) (full : Bool) (is-full : full ≡ is_full (read + got) size (written + put) room)
        (why : ℕ) (reason : Reason count full why) where
      holds_after : HoldsPool ast
      holds_after = subst (λ (x : Carried). HoldsPool x.state) (sym t.carried) (fed_holds cs vs (carried_of at st now) (take t.used (fed_at at end now)) g.pool)

      -- it goes on
      module _ (on : why ≡ why_going) where
        pub going_next : Going cs vs size room s (carried_of after ast abuf) after (read + got) (written + put)
        going_next =
            let q = reason.going on in
            let i = g.placed.inside in
            record {
              placed = p;
              pool = holds_after;
              sofar = came_turn (let k = q.0 in omega arith);
              counts = sym is-full ∙ q.1;
            }

        pub going_less : left_of (read + got) after < left_of read at
        going_less =
            let k = (reason.going on).0 in
            let i = g.placed.inside in
            rw is-got (left_less at size end now g.placed now-size most least after abuf t.used t.fits t.progress t.rest p abuf-size (omega arith) read going_counts.0)

      -- it stops
      pub stopped : (why ≡ why_going → ⊥) → RunOf cs vs size room s ast why (read + got) after.number (written + put)
      stopped n = go why reason n
        where
          go : (w : ℕ) → Reason count full w → (w ≡ why_going → ⊥) → RunOf cs vs size room s ast w (read + got) after.number (written + put)
          go zero r m = absurd (m refl)
          go (suc zero) r m =
              stopped_ended cs vs s size room (carried_of after ast abuf) (read + got) (written + put) holds_after
              (closed_turn (let k = r.ended refl in let i = g.placed.inside in omega arith))
          go (suc (suc zero)) r m = unwritten cs vs size room s ast (read + got) after.number (written + put) holds_after
          go (suc (suc (suc zero))) r m =
              let q = r.long refl in
              stopped_early cs vs s (carried_of after ast abuf) (read + got) (waiting after) (written + put)
              (came_turn (let k = q.0 in let i = g.placed.inside in omega arith)) size room holds_after (sym is-full ∙ q.1)
          go (suc (suc (suc (suc k)))) r m = absurd (let h = r.known in let y : ⊥ = omega arith in y)
