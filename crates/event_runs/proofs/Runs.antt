-- Laws of lines run one after the other, with answer buffers of cs and vs numbers. Assumes nothing.
use mathlib.Core.Path.{◌≡◌, refl, sym, ap, ap₂, ◌∙◌}
use mathlib.Core.Bool.{Bool, true, false, cond}
use mathlib.Core.Option.{Option}
use mathlib.Core.List.{List, [], ◌∷◌}
use Prim.Native.Nat.{ℕ, ◌+◌, ◌-◌, ◌≤◌, ◌<◌, min}
use native.Mathlib.Omega.{arith}
use borrow.Author.Tests.{leb-true}
use lib.Dec.{leb}
use lib.ListN.{length, take, drop, length-drop}
use lib.Seq.{sets, length-sets, length-take-le, take_all}
use Rattle.pool_books.specs.Demand3.{Reply}
use Rattle.base_digits.specs.Characters.{line_feed}
use Rattle.event_text.specs.Fields.{first_line}
use Rattle.event_text.specs.Searches.{index_of}
use Rattle.event_text.proofs.FirstLines.{first_index}
use Rattle.event_lines.specs.declared.event.Event.{Event}
use Rattle.event_lines.specs.Grammar.{event_of}
use Rattle.event_answers.specs.declared.answer.Answer.{Answer}
use Rattle.event_answers.specs.Answers.{reply_told}
use Rattle.event_answers.specs.Printed.{printed}
use Rattle.event_sessions.specs.Sessions.{SessionState, HoldsPool, line_step}
use Rattle.event_sessions.proofs.Keeps.{step_keeps}
use Rattle.event_runs.specs.Lines.{whole_lines, line_output, line_state, EventRan, longest_answer, Progress, has_room, ran, ran_all}
use Rattle.event_runs.proofs.Splits.{line_end, line_end_lem, line_next, line_none}
use Rattle.event_runs.proofs.Rooms.{room_none, room_some}
use Rattle.event_text.proofs.Searches.{found_within}

-- ---- one line

module _ (cs vs : ℕ) (s after : SessionState) (event : Event) (a : Answer) (copies views : List ℕ) (e : (reply_told a copies views, after) ≡ line_step cs vs s event) where
  pub event_state : after ≡ (line_step cs vs s event).1
  event_state = ap (λ (r : Option Reply × SessionState). r.1) e

  pub event_output : (n : ℕ) → printed n (reply_told a copies views) ≡ printed n (line_step cs vs s event).0
  event_output n = ap (λ (r : Option Reply × SessionState). printed n r.0) e

-- ---- the next line, or none

module _ (cs vs : ℕ) (p : Progress) where
  ran_more : (line : List ℕ) (lines : List (List ℕ)) → has_room cs vs p ≡ true → ran_all cs vs p (line ∷ lines) ≡ ran_all cs vs (ran cs vs p line) lines
  unfolding ran_all
  ran_more line lines e = ap (λ (t : Bool). cond t (ran_all cs vs (ran cs vs p line) lines) p) e

  ran_full : (lines : List (List ℕ)) → has_room cs vs p ≡ false → ran_all cs vs p lines ≡ p
  unfolding ran_all
  ran_full [] e = refl
  ran_full (line ∷ lines) e = ap (λ (t : Bool). cond t (ran_all cs vs (ran cs vs p line) lines) p) e

  pub ran_is : (q : Progress) (line : List ℕ) → q.state ≡ line_state cs vs p.state line → q.number ≡ p.number + 1 → q.from ≡ p.from + (length line + 1)
      → q.filled ≡ p.filled + length (line_output cs vs (p.number + 1) p.state line)
      → q.out ≡ sets p.out p.filled (line_output cs vs (p.number + 1) p.state line) → q ≡ ran cs vs p line
  unfolding ran
  ran_is q line a b c d e = λ i. record { state = a i; number = b i; from = c i; filled = d i; out = e i }

  room_is : (size : ℕ) → length p.out ≡ size → has_room cs vs p ≡ leb (p.filled + longest_answer cs vs) size
  unfolding has_room
  room_is size e = rw e

-- the line from `from` on ends at `end`
module _ (cs vs : ℕ) (input : List ℕ) (p : Progress) (end : ℕ) (is-end : end ≡ line_end input p.from) where
  pub run_more : has_room cs vs p ≡ true → end < length input → ran_all cs vs p (whole_lines (drop p.from input))
      ≡ ran_all cs vs (ran cs vs p (take (end - p.from) (drop p.from input))) (whole_lines (drop (end + 1) input))
  run_more r h =
      ap (ran_all cs vs p) (line_next input p.from (omega arith) ∙ ap (λ (k : ℕ). take (k - p.from) (drop p.from input) ∷ whole_lines (drop (k + 1) input)) (sym is-end))
      ∙ ran_more cs vs p (take (end - p.from) (drop p.from input)) (whole_lines (drop (end + 1) input)) r

  pub run_done : length input ≤ end → ran_all cs vs p (whole_lines (drop p.from input)) ≡ p
  unfolding ran_all
  run_done h = ap (ran_all cs vs p) (line_none input p.from (omega arith))

-- ---- the loop over the lines

pub record Going (cs vs : ℕ) (input : List ℕ) (p₀ p : Progress) (size : ℕ) : Type 0 where
  pub inside : p.from ≤ length input
  pub counted : p.number ≤ p₀.number + p.from
  pub filling : p.filled ≤ size
  pub sized : length p.out ≡ size
  pub pool : HoldsPool p.state
  -- what is left to run from here is what was to run from the start
  pub left : ran_all cs vs p (whole_lines (drop p.from input)) ≡ ran_all cs vs p₀ (whole_lines input)

-- a slice that goes to the input's end is all that is left
rest_all : (input : List ℕ) (from : ℕ) → take (length input - from) (drop from input) ≡ drop from input
rest_all input from = take_all (length input - from) (drop from input) (omega (arith, length-drop from input))

pub end_of : (input : List ℕ) (from k : ℕ) → from ≤ length input → k ≡ index_of 10 (take (length input - from) (drop from input)) → k ≡ index_of line_feed (drop from input)
end_of input from k h e = e ∙ ap (index_of 10) (rest_all input from)

pub event_of_lem : (input : List ℕ) (from : ℕ) (event : Event) → from ≤ length input → event ≡ event_of (first_line (take (length input - from) (drop from input)))
    → event ≡ event_of (first_line (drop from input))
event_of_lem input from event h e = e ∙ ap (λ (l : List ℕ). event_of (first_line l)) (rest_all input from)

-- from the first line on
pub going_first : (cs vs : ℕ) (input : List ℕ) (p : Progress) (size : ℕ) → p.from ≡ 0 → p.filled ≡ 0 → length p.out ≡ size → HoldsPool p.state
    → Going cs vs input p p size
going_first cs vs input p size f l o h = record {
  inside = omega arith;
  counted = omega arith;
  filling = omega arith;
  sized = o;
  pool = h;
  left = ap (λ (i : ℕ). ran_all cs vs p (whole_lines (drop i input))) f;
}

-- no room is left
pub going_full : (cs vs : ℕ) (input : List ℕ) (p₀ p : Progress) (room size : ℕ) → Going cs vs input p₀ p size → room ≡ min (longest_answer cs vs) (size + 1)
    → size - p.filled < room → p ≡ ran_all cs vs p₀ (whole_lines input)
going_full cs vs input p₀ p room size g e h =
    sym
    (ran_full cs vs p (whole_lines (drop p.from input)) (room_is cs vs p size g.sized ∙ room_none (longest_answer cs vs) room p.filled size g.filling e h))
    ∙ g.left

-- a turn; the answer buffers have as many numbers as they had at first
module _ (cs vs a b : ℕ) (ea : a ≡ cs) (eb : b ≡ vs) (input : List ℕ) (p₀ p : Progress) (room k end size : ℕ)
    (g : Going cs vs input p₀ p size) (is-room : room ≡ min (longest_answer cs vs) (size + 1)) (has_room : room ≤ size - p.filled)
    (line_at_lem : k ≡ index_of line_feed (drop p.from input)) (is-end : end ≡ p.from + k) where
  next : end ≡ line_end input p.from
  next = line_end_lem input p.from k end line_at_lem is-end

  fits : leb (p.filled + longest_answer cs vs) size ≡ true
  fits = room_some (longest_answer cs vs) room p.filled size g.filling is-room has_room

  pub going_end : end ≤ length input
  going_end = (found_within line_feed input p.from end g.inside (is-end ∙ ap (λ (i : ℕ). p.from + i) line_at_lem)).1

  -- the line's answer has room
  pub going_room : p.filled + longest_answer a b ≤ length p.out
  going_room =
      rw (ea, eb, g.sized) (leb-true (p.filled + longest_answer cs vs) size fits)

  -- no whole line is left
  pub going_done : length input ≤ end → p ≡ ran_all cs vs p₀ (whole_lines input)
  going_done h = sym (run_done cs vs input p end next h) ∙ g.left

  module _ (h : end < length input) where
    abbrev line : List ℕ
    line = take (end - p.from) (drop p.from input)

    line_length : length line ≡ end - p.from
    line_length = length-take-le (end - p.from) (drop p.from input) (omega (arith, length-drop p.from input, going_end))

    -- the line is the first of what is left
    line_is : first_line (drop p.from input) ≡ line
    line_is = first_index (drop p.from input) ∙ ap (λ (i : ℕ). take i (drop p.from input)) (sym line_at_lem ∙ (let q : k ≡ end - p.from = omega arith in q))

    module _ (event : Event) (parsed : event ≡ event_of (first_line (drop p.from input))) (q : Progress) (n : q.number ≡ p.number + 1) (f : q.from ≡ end + 1)
        (r : EventRan a b (p.number + 1) p.state q.state event p.filled q.filled p.out q.out) where
      is_event : event ≡ event_of line
      is_event = parsed ∙ ap event_of line_is

      was_run : q ≡ ran cs vs p line
      unfolding line_state line_output
      was_run =
          let l = line_length in
          let e : q.from ≡ p.from + (length line + 1) = omega arith in
          ran_is a b p q line
          (r.state ∙ ap (λ (x : Event). (line_step a b p.state x).1) is_event) n e
          (r.length_is ∙ ap (λ (x : Event). p.filled + length (printed (p.number + 1) (line_step a b p.state x).0)) is_event)
          (r.put ∙ ap (λ (x : Event). sets p.out p.filled (printed (p.number + 1) (line_step a b p.state x).0)) is_event)
          ∙ ap₂ (λ (i j : ℕ). ran i j p line) ea eb

      kept : HoldsPool q.state
      kept = rw r.state (step_keeps a b p.state event g.pool)

      pub going_next : Going cs vs input p₀ q size
      going_next = record {
        inside = omega arith;
        counted = let l = g.counted in omega arith;
        filling = let l = g.sized in let z = r.fits in omega arith;
        sized = ap length r.put ∙ length-sets p.out p.filled (printed (p.number + 1) (line_step a b p.state event).0) ∙ g.sized;
        pool = kept;
        left = ap (λ (i : ℕ). ran_all cs vs q (whole_lines (drop i input))) f
            ∙ ap (λ (x : Progress). ran_all cs vs x (whole_lines (drop (end + 1) input))) was_run
            ∙ sym (run_more cs vs input p end next (room_is cs vs p size g.sized ∙ fits) h) ∙ g.left;
      }
