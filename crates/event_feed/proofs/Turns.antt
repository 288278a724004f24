-- What running the lines of a buffer does to the block that waits in it. Assumes nothing.
use mathlib.Core.Path.{◌≡◌, refl, sym, ap, subst, ◌∙◌}
use mathlib.Core.List.{List, ◌++◌}
use Prim.Native.Nat.{ℕ, ◌+◌, ◌-◌, ◌≤◌}
use native.Mathlib.Nat.{zero-add}
use native.Mathlib.Omega.{arith}
use lib.ListN.{length, take}
use lib.Seq.{sets}
use Rattle.event_sessions.specs.Sessions.{SessionState}
use Rattle.event_runs.specs.Lines.{whole_lines, output, longest_answer, Progress, progress_start, ran_all}
use Rattle.event_runs.specs.Texts.{last_line, after_lines}
use Rattle.event_runs.proofs.Cuts.{Unfinished}
use Rattle.event_runs.proofs.Texts.{Ran, ran_front, ran_none}
use Rattle.event_feed.specs.Feed.{Carried, turn_bytes, fed, fed_output}
use Rattle.event_feed.specs.BlockFed.{BlockFed}
use Rattle.event_feed.specs.Places.{part, Turn}
use Rattle.event_feed.specs.Finish.{Filled}
use Rattle.event_feed.specs.RestOf.{RestOf}
use Rattle.event_feed.specs.declared.rest_of.Place.{Place}
use Rattle.event_feed.proofs.Blocks.{bytes_length, block_fed}

module _ (cs vs : ℕ) (s : SessionState) (n from held end : ℕ) (buf exit out : List ℕ) (inside : from + held ≤ end) (within : end ≤ length buf) where
  abbrev line : List ℕ
  line = part from held buf

  abbrev bytes : List ℕ
  bytes = part from (end - from) buf

  abbrev block : List ℕ
  block = part (from + held) (end - (from + held)) buf

  abbrev before : Carried
  before = record { state = s; number = n; line = line }

  run_of : (q : Progress) → q ≡ ran_all cs vs (progress_start s n out) (whole_lines bytes) → Ran cs vs (progress_start s n out) q bytes
  run_of q e = rw e (ran_front cs vs bytes (whole_lines bytes) (progress_start s n out) refl)

  -- no more was run than there is
  pub ran_within : (q : Progress) → q ≡ ran_all cs vs (progress_start s n out) (whole_lines bytes) → from + q.from ≤ end
  ran_within q e = omega (arith, (run_of q e).from, (run_of q e).fits, bytes_length from held end buf exit inside within)

  module _ (plain : Unfinished line) (room : longest_answer cs vs ≤ length out) (q : Progress)
      (is-run : q ≡ ran_all cs vs (progress_start s n out) (whole_lines bytes)) (filling : q.filled ≤ length out) (place : Place) (kept : RestOf from end q.from place buf exit) where
    abbrev after : Carried
    after = record { state = q.state; number = q.number; line = part place.from place.held exit }

    abbrev left : List ℕ
    left = part (place.from + place.held) (place.end - (place.from + place.held)) exit

    was_run : Ran cs vs (progress_start s n out) q bytes
    was_run = run_of q is-run

    ran_is : was_run.used ≡ q.from
    ran_is = sym (was_run.from ∙ zero-add was_run.used)

    feeds : BlockFed line block (whole_lines (take q.from bytes)) (part place.from place.held exit) left
    feeds =
        block_fed from held end buf exit inside within q.from plain (omega (arith, ran_is, was_run.fits))
        (ap (λ (k : ℕ). last_line (take k bytes)) (sym ran_is) ∙ was_run.none_left)
        (λ z. ran_none cs vs bytes (progress_start s n out) q is-run (omega arith) z) place kept

    lines : whole_lines (take was_run.used bytes) ≡ whole_lines (line ++ take feeds.used block)
    lines = ap (λ (k : ℕ). whole_lines (take k bytes)) ran_is ∙ feeds.run

    pub turn : Turn cs vs before after block left q.filled out q.out
    unfolding fed fed_output
    turn = record {
      used = feeds.used;
      fits = feeds.fits;
      progress = feeds.progress;
      rest = feeds.rest;
      carried = λ i. record {
        state = (was_run.state ∙ ap (after_lines cs vs s) lines) i;
        number = (was_run.number ∙ ap (λ (l : List (List ℕ)). n + length l) lines) i;
        line = feeds.keeps i;
      };
      length_is = was_run.filled ∙ zero-add _ ∙ ap (λ (l : List (List ℕ)). length (output cs vs n s l)) lines;
      put = was_run.out ∙ ap (λ (l : List (List ℕ)). sets out 0 (output cs vs n s l)) lines;
      ends = filling;
    }

-- A turn on the buffer that `finish` leaves is one on what it was given.
pub turn_from : (cs vs : ℕ) (s : SessionState) (n from held end to : ℕ) (buf filling : List ℕ) → Filled from held end to buf filling
    → (after : Carried) (left : List ℕ) (filled : ℕ) (out exit : List ℕ)
    → Turn cs vs (record { state = s; number = n; line = part from held filling }) after (part (from + held) (to - (from + held)) filling) left filled out exit
    → Turn cs vs (record { state = s; number = n; line = part from held buf }) after
    (turn_bytes (part from held buf) (part (from + held) (end - (from + held)) buf)) left filled out exit
turn_from cs vs s n from held end to buf filling f after left filled out exit t =
    let block : List ℕ = turn_bytes (part from held buf) (part (from + held) (end - (from + held)) buf) in
    subst (λ (l : List ℕ). Turn cs vs (record { state = s; number = n; line = l }) after block left filled out exit) f.line
    (subst (λ (b : List ℕ). Turn cs vs (record { state = s; number = n; line = part from held filling }) after b left filled out exit) f.feeds t)
