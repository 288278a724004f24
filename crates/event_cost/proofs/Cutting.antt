-- Laws of an input that comes in blocks, with answer buffers of cs and vs numbers: lines are told apart by their events alone, and what is cut off a line that
-- is too long for an event does not show. Assumes nothing.
use mathlib.Core.Path.{◌≡◌, refl, sym, ap, ap₂, ◌∙◌}
use mathlib.Core.List.{List, [], ◌∷◌, ◌++◌, append-nil, map, map-append}
use Prim.Native.Nat.{ℕ, zero, suc, ◌+◌, ◌<◌}
use native.Mathlib.Omega.{arith}
use lib.ListN.{length, take, length-map}
use Rattle.event_lines.specs.declared.event.Event.{Event}
use Rattle.event_lines.specs.Grammar.{event_of}
use Rattle.event_sessions.specs.Sessions.{SessionState, line_step}
use Rattle.event_runs.specs.Lines.{whole_lines, line_state}
use Rattle.event_runs.specs.Texts.{last_line, if_any, all_lines, after_lines}
use Rattle.event_runs.proofs.Cuts.{Unfinished, in_front, lines_append, last_append, front_lines, front_last, last_unfinished, take_unfinished}
use Rattle.event_runs.proofs.LongLines.{cut_unread}
use Rattle.event_runs.proofs.Texts.{cut_last}
use Rattle.event_feed.specs.Feed.{ending}
use Rattle.event_feed.specs.FeedConstants.{kept_bytes}
use Rattle.event_feed.proofs.Cutting.{ending_line}
use Rattle.event_cost.specs.declared.sums.Sums.{Sums}
use Rattle.event_cost.specs.Costs.{no_sums, plus, clipped_sums}
use Rattle.event_cost.specs.Lines.{event_cost, event_row, costs_of, cost_rows}
use Rattle.event_cost.specs.Runs.{LinesSummed}

-- ---- lines of the same events do the same

abbrev pub Same : List (List ℕ) → List (List ℕ) → Type 0
Same xs ys = map event_of xs ≡ map event_of ys

module _ (cs vs : ℕ) where
  state_by : SessionState → List Event → SessionState
  state_by s [] = s
  state_by s (e ∷ es) = state_by (line_step cs vs s e).1 es

  costs_by : SessionState → List Event → Sums
  costs_by s [] = no_sums
  costs_by s (e ∷ es) = plus (event_cost cs vs s e) (costs_by (line_step cs vs s e).1 es)

  rows_by : ℕ → SessionState → List Event → List ℕ
  rows_by n s [] = []
  rows_by n s (e ∷ es) = event_row cs vs (n + 1) s e ++ rows_by (n + 1) (line_step cs vs s e).1 es

  state_by_lem : (s : SessionState) (xs : List (List ℕ)) → after_lines cs vs s xs ≡ state_by s (map event_of xs)
  unfolding after_lines line_state state_by
  state_by_lem s [] = refl
  state_by_lem s (x ∷ xs) = state_by_lem (line_step cs vs s (event_of x)).1 xs

  costs_by_lem : (s : SessionState) (xs : List (List ℕ)) → costs_of cs vs s xs ≡ costs_by s (map event_of xs)
  unfolding costs_of line_state costs_by
  costs_by_lem s [] = refl
  costs_by_lem s (x ∷ xs) = ap (plus (event_cost cs vs s (event_of x))) (costs_by_lem (line_step cs vs s (event_of x)).1 xs)

  rows_by_lem : (n : ℕ) (s : SessionState) (xs : List (List ℕ)) → cost_rows cs vs n s xs ≡ rows_by n s (map event_of xs)
  unfolding cost_rows line_state rows_by
  rows_by_lem n s [] = refl
  rows_by_lem n s (x ∷ xs) = ap (λ (l : List ℕ). event_row cs vs (n + 1) s (event_of x) ++ l) (rows_by_lem (n + 1) (line_step cs vs s (event_of x)).1 xs)

  pub summed_same : (s t : SessionState) (sums : Sums) (count written : ℕ) (xs ys : List (List ℕ)) → Same xs ys
      → LinesSummed cs vs s t sums count written xs → LinesSummed cs vs s t sums count written ys
  summed_same s t sums count written xs ys e r = record {
    state = r.state ∙ state_by_lem s xs ∙ ap (state_by s) e ∙ sym (state_by_lem s ys);
    counted = r.counted ∙ sym (length-map xs event_of) ∙ ap length e ∙ length-map ys event_of;
    costs = r.costs ∙ ap clipped_sums (costs_by_lem s xs ∙ ap (costs_by s) e ∙ sym (costs_by_lem s ys));
    output = r.output ∙ ap length (rows_by_lem 0 s xs ∙ ap (rows_by 0 s) e ∙ sym (rows_by_lem 0 s ys));
  }

pub same_count : (xs ys : List (List ℕ)) → Same xs ys → length xs ≡ length ys
same_count xs ys e = sym (length-map xs event_of) ∙ ap length e ∙ length-map ys event_of

-- ---- what is cut off a line does not show

-- more bytes than any event has
long : 195 < kept_bytes
long = omega arith

cut_front : (x : List ℕ) (ls : List (List ℕ)) → Same (in_front (take kept_bytes x) ls) (in_front x ls)
unfolding in_front
cut_front x [] = refl
cut_front x (l ∷ ls) = ap (λ (e : Event). e ∷ map event_of ls) (cut_unread kept_bytes long x l)

cut_same : (x ys : List ℕ) → Unfinished x → Same (whole_lines (take kept_bytes x ++ ys)) (whole_lines (x ++ ys))
cut_same x ys h =
    ap (map event_of) (front_lines (take kept_bytes x) ys (take_unfinished kept_bytes x h)) ∙ cut_front x (whole_lines ys)
    ∙ ap (map event_of) (sym (front_lines x ys h))

cut_kept : (x ys : List ℕ) → Unfinished x → take kept_bytes (last_line (take kept_bytes x ++ ys)) ≡ take kept_bytes (last_line (x ++ ys))
cut_kept x ys h =
    ap (take kept_bytes) (front_last (take kept_bytes x) ys (take_unfinished kept_bytes x h)) ∙ cut_last kept_bytes x (whole_lines ys) (last_line ys)
    ∙ ap (take kept_bytes) (sym (front_last x ys h))

cut_any : (k : ℕ) → 195 < k → (x : List ℕ) → Same (if_any (take k x)) (if_any x)
unfolding if_any
cut_any zero h x = absurd (let y : ⊥ = omega arith in y)
cut_any (suc k) h [] = refl
cut_any (suc k) h (b ∷ x) =
    ap (λ (e : Event). e ∷ [])
    (ap event_of (sym (append-nil (b ∷ take k x))) ∙ cut_unread (suc k) h (b ∷ x) [] ∙ ap event_of (append-nil (b ∷ x)))

-- ---- bytes after an input, of which the first bytes of its last line are kept

module _ (lines more : List (List ℕ)) (input line ys : List ℕ) (e : Same lines (whole_lines input)) (l : line ≡ take kept_bytes (last_line input))
    (r : more ≡ whole_lines (line ++ ys)) where
  pub same_more : Same (lines ++ more) (whole_lines (input ++ ys))
  same_more =
      map-append event_of lines more
      ∙ ap₂ (λ (a b : List Event). a ++ b) e
      (ap (map event_of) (r ∙ ap (λ (x : List ℕ). whole_lines (x ++ ys)) l) ∙ cut_same (last_line input) ys (last_unfinished input))
      ∙ sym (map-append event_of (whole_lines input) (whole_lines (last_line input ++ ys)))
      ∙ ap (map event_of) (sym (lines_append input ys))

  pub kept_more : take kept_bytes (last_line (line ++ ys)) ≡ take kept_bytes (last_line (input ++ ys))
  kept_more =
      ap (λ (x : List ℕ). take kept_bytes (last_line (x ++ ys))) l ∙ cut_kept (last_line input) ys (last_unfinished input)
      ∙ ap (take kept_bytes) (sym (last_append input ys))

-- the input has ended, and its last line was run
pub same_ended : (lines more : List (List ℕ)) (input line : List ℕ) → Same lines (whole_lines input) → line ≡ take kept_bytes (last_line input)
    → more ≡ whole_lines (line ++ ending line) → Same (lines ++ more) (all_lines input)
unfolding all_lines
same_ended lines more input line e l r =
    let k : List ℕ = take kept_bytes (last_line input) in
    map-append event_of lines more
    ∙ ap₂ (λ (a b : List Event). a ++ b) e
    (ap (map event_of)
    (r ∙ ap (λ (x : List ℕ). whole_lines (x ++ ending x)) l ∙ ending_line k (take_unfinished kept_bytes (last_line input) (last_unfinished input)))
    ∙ cut_any kept_bytes long (last_line input))
    ∙ sym (map-append event_of (whole_lines input) (if_any (last_line input)))

-- what is kept of a line is not whole
pub kept_plain : (input line : List ℕ) → line ≡ take kept_bytes (last_line input) → Unfinished line
kept_plain input line e = ap whole_lines e ∙ take_unfinished kept_bytes (last_line input) (last_unfinished input)
