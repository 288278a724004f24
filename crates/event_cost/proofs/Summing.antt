-- Laws of turns one after the other, with answer buffers of cs and vs numbers. Assumes nothing.
use mathlib.Core.Path.{◌≡◌, refl, sym, ap, ap₂, ◌∙◌}
use mathlib.Core.Bool.{Bool, false}
use mathlib.Core.List.{List, [], ◌++◌}
use Prim.Native.Nat.{ℕ, ◌+◌, ◌-◌, ◌^◌, ◌≤◌, ◌<◌}
use native.Mathlib.Nat.{zero-add}
use native.Mathlib.Omega.{arith}
use lib.ListN.{length, take, length-append}
use Rattle.event_sessions.specs.Sessions.{SessionState, HoldsPool}
use Rattle.event_runs.specs.Lines.{whole_lines}
use Rattle.event_runs.specs.Texts.{last_line, all_lines, after_lines}
use Rattle.event_runs.proofs.Texts.{after_append}
use Rattle.event_feed.specs.declared.feed_state.FeedState.{FeedState}
use Rattle.event_feed.specs.FeedConstants.{kept_bytes}
use Rattle.event_feed.specs.Places.{held_line, waiting, fed_at, Placed}
use Rattle.event_feed.proofs.Parts.{part_same}
use Rattle.event_stream.specs.Streams.{why_going, is_full}
use Rattle.event_stream.proofs.Reasons.{Reason, not_full}
use Rattle.event_stream.proofs.Turns.{at_first, placed_first, left_of, front_length, bytes_more, left_less, all_fed}
use Rattle.event_stream.proofs.Sofar.{lines_few}
use Rattle.event_cost.specs.declared.sums.Sums.{Sums}
use Rattle.event_cost.specs.declared.cost_turn.CostedTurn.{CostedTurn}
use Rattle.event_cost.specs.Costs.{no_sums, plus, clipped, clipped_sums, most_cost_row}
use Rattle.event_cost.specs.Lines.{costs_of, cost_rows}
use Rattle.event_cost.specs.Runs.{TurnReady, TurnCosted, LinesSummed, CostRun}
use Rattle.event_cost.proofs.Clipping.{clip_added, clip_more}
use Rattle.event_cost.proofs.Running.{costs_append, rows_append}
use Rattle.event_cost.proofs.Cutting.{Same, summed_same, same_count, same_more, kept_more, same_ended, kept_plain}

-- ---- lines run, and then a turn

module _ (cs vs : ℕ) (s t u : SessionState) (sums : Sums) (f : FeedState) (written : ℕ) (lines : List (List ℕ))
    (run : LinesSummed cs vs s t sums f.number written lines) (end : ℕ) (r : CostedTurn) (buf left out exit : List ℕ)
    (turn : TurnCosted cs vs f end t u r buf left out exit) where
  abbrev all : List (List ℕ)
  all = lines ++ turn.lines

  count_is : length all ≡ length lines + length turn.lines
  count_is = length-append lines turn.lines

  costs_are : (added : Sums) → added ≡ clipped_sums (plus sums r.sums) → added ≡ clipped_sums (costs_of cs vs s all)
  costs_are added e =
      let x = costs_of cs vs s lines in
      let y = costs_of cs vs (after_lines cs vs s lines) turn.lines in
      e
      ∙ ap₂ (λ (a b : Sums). clipped_sums (plus a b)) run.costs (turn.costs ∙ ap (λ (v : SessionState). clipped_sums (costs_of cs vs v turn.lines)) run.state)
      ∙ clip_added x (clipped_sums y) ∙ clip_more x y ∙ ap clipped_sums (sym (costs_append cs vs s lines turn.lines))

  rows_are : cost_rows cs vs f.number t turn.lines ≡ cost_rows cs vs (0 + length lines) (after_lines cs vs s lines) turn.lines
  rows_are = ap₂ (λ (n : ℕ) (v : SessionState). cost_rows cs vs n v turn.lines) (run.counted ∙ sym (zero-add (length lines))) run.state

  output_is : length (cost_rows cs vs 0 s all) ≡ written + r.at.filled
  output_is =
      let e = ap length (rows_append cs vs 0 s lines turn.lines) in
      let l = length-append (cost_rows cs vs 0 s lines) (cost_rows cs vs (0 + length lines) (after_lines cs vs s lines) turn.lines) in
      let m = ap length rows_are in
      let a = run.output in
      let b = turn.length_is in
      omega arith

  pub summed_more : (added : Sums) → added ≡ clipped_sums (plus sums r.sums) → (put : ℕ) → put ≡ r.at.filled
      → LinesSummed cs vs s u added r.at.number (written + put) all
  summed_more added e put p = record {
    state = turn.state ∙ ap (λ (v : SessionState). after_lines cs vs v turn.lines) run.state ∙ sym (after_append cs vs s lines turn.lines);
    counted = let a = run.counted in let b = turn.number in let d = count_is in let y : r.at.number ≡ length all = omega arith in y;
    costs = costs_are added e;
    output = let o = output_is in let y : written + put ≡ length (cost_rows cs vs 0 s all) = omega arith in y;
  }

-- ---- between two turns, with buffers of `size` bytes for input and `room` for output

-- Of the `read` bytes that came, all but those that wait were fed, and the lines have their events.
pub record Fed (at : FeedState) (buf : List ℕ) (read : ℕ) (lines : List (List ℕ)) : Type 0 where
  pub input : List ℕ
  pub events : Same lines (whole_lines input)
  pub line : held_line at buf ≡ take kept_bytes (last_line input)
  pub bytes : length input + waiting at ≡ read

pub record Going (cs vs size room : ℕ) (s t : SessionState) (at : FeedState) (buf : List ℕ) (sums : Sums) (read written : ℕ) : Type 0 where
  pub placed : Placed at size
  pub pool : HoldsPool t
  pub lines : List (List ℕ)
  pub run : LinesSummed cs vs s t sums at.number written lines
  pub fed : Fed at buf read lines
  pub counts : is_full read size written room ≡ false

pub going_first : (cs vs size room : ℕ) (s : SessionState) (buf : List ℕ) → HoldsPool s → is_full 0 size 0 room ≡ false
    → Going cs vs size room s s at_first buf no_sums 0 0
unfolding after_lines costs_of cost_rows no_sums clipped_sums clipped whole_lines last_line
going_first cs vs size room s buf h f = record {
  placed = placed_first size;
  pool = h;
  lines = [];
  run = record { state = refl; counted = refl; costs = refl; output = refl };
  fed = record { input = []; events = refl; line = refl; bytes = refl };
  counts = f;
}

-- ---- a turn: `now` is the buffer when bytes came, up to `end`

module _ (cs vs size room : ℕ) (s t : SessionState) (at : FeedState) (buf now : List ℕ) (sums : Sums) (read written : ℕ)
    (g : Going cs vs size room s t at buf sums read written) (now-size : length now ≡ size) (end : ℕ) (least : at.end ≤ end)
    (most : end ≤ size) (kept : take at.end now ≡ take at.end buf) where
  -- there are numbers for this turn
  pub going_counts : (read + size < 2 ^ 64) × (written + room < 2 ^ 64)
  going_counts = not_full read size written room g.counts

  line_is : held_line at now ≡ take kept_bytes (last_line g.fed.input)
  line_is = part_same at.from at.held at.end buf now g.placed.inside kept ∙ g.fed.line

  counted : at.number ≤ read
  counted =
      let a = g.run.counted in
      let b = same_count g.lines (whole_lines g.fed.input) g.fed.events in
      let d = lines_few g.fed.input in
      let e = g.fed.bytes in
      omega arith

  pub going_ready : kept_bytes < size → (out : List ℕ) → most_cost_row ≤ length out → TurnReady at end t now out
  going_ready large out space =
      let b = going_counts.0 in
      let n = counted in
      record {
        placed = record { inside = g.placed.inside; within = let w = g.placed.within in omega arith; space = g.placed.space };
        after = least;
        within = omega arith;
        large = omega arith;
        plain = kept_plain g.fed.input (held_line at now) line_is;
        pool = g.pool;
        counted = omega arith;
        room = space;
      }

  module _ (r : CostedTurn) (u : SessionState) (after out exit : List ℕ) (turn : TurnCosted cs vs at end t u r now after out exit) (after-size : length after ≡ size)
      (added : Sums) (is-added : added ≡ clipped_sums (plus sums r.sums)) (got : ℕ) (is-got : got ≡ end - at.end) (put : ℕ) (is-put : put ≡ r.at.filled)
      (count : ℕ) (is-count : count ≡ end - (at.from + at.held)) (full : Bool) (is-full : full ≡ is_full (read + got) size (written + put) room)
      (why : ℕ) (reason : Reason count full why) where
    abbrev front : List ℕ
    front = take turn.feeds.used (fed_at at end now)

    placed_after : Placed r.at size
    placed_after = record { inside = turn.placed.inside; within = let w = turn.placed.within in omega arith; space = turn.placed.space }

    summed_after : LinesSummed cs vs s u added r.at.number (written + put) (g.lines ++ turn.lines)
    summed_after = summed_more cs vs s t u sums at written g.lines g.run end r now after out exit turn added is-added put is-put

    -- it goes on
    module _ (on : why ≡ why_going) where
      some : at.from + at.held < end
      some = let k = (reason.going on).0 in let i = g.placed.inside in omega arith

      came_turn : Fed r.at after (read + got) (g.lines ++ turn.lines)
      came_turn =
          let f = turn.feeds in
          let l = front_length at size end now g.placed now-size most least r.at after f.used f.fits f.progress f.rest placed_after after-size in
          let b = bytes_more at size end now g.placed now-size most least r.at after f.used f.fits f.progress f.rest placed_after after-size some (length g.fed.input) read g.fed.bytes in
          record {
            input = g.fed.input ++ front;
            events = same_more g.lines turn.lines g.fed.input (held_line at now) front g.fed.events line_is f.run;
            line = f.keeps ∙ kept_more g.lines turn.lines g.fed.input (held_line at now) front g.fed.events line_is f.run;
            bytes = omega (arith, length-append g.fed.input front);
          }

      pub going_next : Going cs vs size room s u r.at after added (read + got) (written + put)
      going_next = record {
        placed = placed_after;
        pool = turn.pool;
        lines = g.lines ++ turn.lines;
        run = summed_after;
        fed = came_turn;
        counts = sym is-full ∙ (reason.going on).1;
      }

      pub going_less : left_of (read + got) r.at < left_of read at
      going_less =
          let f = turn.feeds in
          rw is-got (left_less at size end now g.placed now-size most least r.at after f.used f.fits f.progress f.rest placed_after after-size some read going_counts.0)

    -- it stops
    pub summed : CostRun cs vs s u added why (read + got) r.at.number (written + put)
    summed = record {
      lines = g.lines ++ turn.lines;
      run = summed_after;
      pool = turn.pool;
      input = g.fed.input;
      ended = λ z.
          let f = turn.feeds in
          let k = reason.ended z in
          let i = g.placed.inside in
          let none : end ≡ at.from + at.held = omega arith in
          let b = g.fed.bytes in
          let all = all_fed at size end now g.placed now-size most least r.at after f.used f.fits f.progress f.rest placed_after after-size none in
          let same = same_ended g.lines turn.lines g.fed.input (held_line at now) g.fed.events line_is
          (f.run ∙ ap (λ (x : List ℕ). whole_lines (held_line at now ++ x)) all) in
          (omega arith, summed_same cs vs s u added r.at.number (written + put) (g.lines ++ turn.lines) (all_lines g.fed.input) same summed_after);
    }
