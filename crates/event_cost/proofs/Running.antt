-- Laws of lines run one after the other, with answer buffers of cs and vs numbers: what they cost, and their output. Assumes nothing.
use mathlib.Core.Path.{◌≡◌, refl, sym, ap, ap₂, subst, ◌∙◌}
use mathlib.Core.List.{List, [], ◌∷◌, ◌++◌, append-nil, append_assoc}
use Prim.Native.Nat.{ℕ, suc, ◌+◌, ◌-◌, ◌≤◌, ◌<◌}
use native.Mathlib.Nat.{add-zero, zero-add}
use native.Mathlib.Omega.{arith}
use lib.ListN.{length, take, drop, length-append, length-drop}
use lib.Seq.{take-add, take-append-add, length-take-le}
use Rattle.base_digits.specs.Characters.{line_feed}
use Rattle.base_digits.specs.Put.{Put}
use Rattle.base_digits.proofs.Puts.{put_as, put_then, text_put}
use Rattle.event_text.specs.Fields.{first_line}
use Rattle.event_text.specs.Searches.{index_of}
use Rattle.event_text.proofs.FirstLines.{first_index}
use Rattle.event_text.proofs.Searches.{found_within}
use Rattle.event_lines.specs.declared.event.Event.{Event}
use Rattle.event_lines.specs.Grammar.{event_of}
use Rattle.event_sessions.specs.Sessions.{SessionState, HoldsPool, line_step}
use Rattle.event_sessions.proofs.Keeps.{step_keeps}
use Rattle.event_runs.specs.Lines.{whole_lines, line_state}
use Rattle.event_runs.specs.Texts.{last_line, after_lines}
use Rattle.event_runs.proofs.Splits.{line_end, line_end_lem, line_next, line_none}
use Rattle.event_runs.proofs.Cuts.{First, first_of, lines_append, last_append, line_more, line_last}
use Rattle.event_runs.proofs.Texts.{after_append}
use Rattle.event_cost.specs.declared.sums.Sums.{Sums}
use Rattle.event_cost.specs.Costs.{no_sums, plus, clipped, clipped_sums, most_cost_row}
use Rattle.event_cost.specs.Lines.{event_cost, event_row, EventCosted, costs_of, cost_rows, CostProgress, LinesRun, LinesCosted}
use Rattle.event_cost.proofs.Clipping.{clip_added, plus_assoc, plus_none, none_plus}

-- ---- some lines, and more after them

module _ (cs vs : ℕ) where
  pub costs_append : (s : SessionState) (xs ys : List (List ℕ))
      → costs_of cs vs s (xs ++ ys) ≡ plus (costs_of cs vs s xs) (costs_of cs vs (after_lines cs vs s xs) ys)
  unfolding costs_of after_lines
  costs_append s [] ys = sym (none_plus (costs_of cs vs s ys))
  costs_append s (x ∷ xs) ys =
      let t = line_state cs vs s x in
      ap (plus (event_cost cs vs s (event_of x))) (costs_append t xs ys)
      ∙ sym (plus_assoc (event_cost cs vs s (event_of x)) (costs_of cs vs t xs) (costs_of cs vs (after_lines cs vs t xs) ys))

  pub rows_append : (n : ℕ) (s : SessionState) (xs ys : List (List ℕ))
      → cost_rows cs vs n s (xs ++ ys) ≡ cost_rows cs vs n s xs ++ cost_rows cs vs (n + length xs) (after_lines cs vs s xs) ys
  unfolding cost_rows after_lines
  rows_append n s [] ys = ap (λ (k : ℕ). cost_rows cs vs k s ys) (sym (add-zero n))
  rows_append n s (x ∷ xs) ys =
      let t = line_state cs vs s x in
      ap (λ (l : List ℕ). event_row cs vs (n + 1) s (event_of x) ++ l)
      (rows_append (n + 1) t xs ys
      ∙ ap (λ (k : ℕ). cost_rows cs vs (n + 1) t xs ++ cost_rows cs vs k (after_lines cs vs t xs) ys) (let e : n + 1 + length xs ≡ n + suc (length xs) = omega arith in e))
      ∙ sym (append_assoc (event_row cs vs (n + 1) s (event_of x)) (cost_rows cs vs (n + 1) t xs) (cost_rows cs vs (n + suc (length xs)) (after_lines cs vs t xs) ys))

  -- one more
  module _ (n : ℕ) (s : SessionState) (xs : List (List ℕ)) (x : List ℕ) where
    after_one : after_lines cs vs s (xs ++ (x ∷ [])) ≡ (line_step cs vs (after_lines cs vs s xs) (event_of x)).1
    unfolding after_lines line_state
    after_one = after_append cs vs s xs (x ∷ [])

    costs_one : costs_of cs vs s (xs ++ (x ∷ [])) ≡ plus (costs_of cs vs s xs) (event_cost cs vs (after_lines cs vs s xs) (event_of x))
    unfolding costs_of
    costs_one = costs_append s xs (x ∷ []) ∙ ap (plus (costs_of cs vs s xs)) (plus_none (event_cost cs vs (after_lines cs vs s xs) (event_of x)))

    rows_one : cost_rows cs vs n s (xs ++ (x ∷ [])) ≡ cost_rows cs vs n s xs ++ event_row cs vs (n + length xs + 1) (after_lines cs vs s xs) (event_of x)
    unfolding cost_rows
    rows_one =
        rows_append n s xs (x ∷ [])
        ∙ ap (λ (l : List ℕ). cost_rows cs vs n s xs ++ l) (append-nil (event_row cs vs (n + length xs + 1) (after_lines cs vs s xs) (event_of x)))

-- ---- the loop over the lines of a block

pub run_first : (cs vs : ℕ) (input : List ℕ) (p : CostProgress) → p.sums ≡ no_sums → p.from ≡ 0 → p.filled ≡ 0 → HoldsPool p.state
    → LinesRun cs vs input p.number p.state p.out p
unfolding after_lines costs_of cost_rows no_sums clipped_sums clipped whole_lines last_line
run_first cs vs input p z f l h = record {
  lines = [];
  front = ap (λ (i : ℕ). whole_lines (take i input)) (sym f);
  whole = ap (λ (i : ℕ). last_line (take i input)) f;
  inside = omega arith;
  least = omega arith;
  state = refl;
  number = sym (add-zero p.number);
  costs = z;
  length_is = l;
  put = refl;
  fits = omega arith;
  pool = h;
}

-- no room is left
pub run_full : (cs vs : ℕ) (input : List ℕ) (n : ℕ) (s : SessionState) (out : List ℕ) (p : CostProgress) → LinesRun cs vs input n s out p
    → length out - p.filled < most_cost_row → LinesCosted cs vs input n s out p
run_full cs vs input n s out p g h = record { run = g; all = λ z. absurd (let y : ⊥ = omega arith in y) }

-- a turn
module _ (cs vs : ℕ) (input : List ℕ) (n : ℕ) (s : SessionState) (out : List ℕ) (p : CostProgress) (g : LinesRun cs vs input n s out p) (k end : ℕ)
    (line_at_lem : k ≡ index_of line_feed (drop p.from input)) (is-end : end ≡ p.from + k) where
  reached : end ≡ line_end input p.from
  reached = line_end_lem input p.from k end line_at_lem is-end

  pub run_end : end ≤ length input
  run_end = (found_within line_feed input p.from end g.inside (is-end ∙ ap (λ (i : ℕ). p.from + i) line_at_lem)).1

  -- no whole line is left
  pub run_done : length input ≤ end → LinesCosted cs vs input n s out p
  run_done h = record { run = g; all = λ z. line_none input p.from (let e = reached in omega arith) }

  module _ (h : end < length input) where
    abbrev line : List ℕ
    line = take (end - p.from) (drop p.from input)

    -- the line is the first of what is left
    line_is : first_line (drop p.from input) ≡ line
    line_is = first_index (drop p.from input) ∙ ap (λ (i : ℕ). take i (drop p.from input)) (sym line_at_lem ∙ (let q : k ≡ end - p.from = omega arith in q))

    left_is : whole_lines (drop p.from input) ≡ line ∷ whole_lines (drop (end + 1) input)
    left_is =
        line_next input p.from (let e = reached in omega arith)
        ∙ ap (λ (j : ℕ). take (j - p.from) (drop p.from input) ∷ whole_lines (drop (j + 1) input)) (sym reached)

    is_first : First (drop p.from input) line (whole_lines (drop (end + 1) input))
    is_first = first_of (drop p.from input) line (whole_lines (drop (end + 1) input)) left_is

    line_length : length line ≡ end - p.from
    line_length = length-take-le (end - p.from) (drop p.from input) (omega (arith, length-drop p.from input, run_end))

    module _ (event : Event) (parsed : event ≡ event_of (first_line (drop p.from input))) (a b : ℕ) (ea : a ≡ cs) (eb : b ≡ vs)
        (q : CostProgress) (is_number : q.number ≡ p.number + 1) (is-from : q.from ≡ end + 1)
        (r : EventCosted a b (p.number + 1) p.state q.state event p.sums q.sums p.filled q.filled p.out q.out) where
      is_event : event ≡ event_of line
      is_event = parsed ∙ ap event_of line_is

      was_run : EventCosted cs vs (p.number + 1) p.state q.state (event_of line) p.sums q.sums p.filled q.filled p.out q.out
      was_run =
          subst (λ (x : ℕ). EventCosted x vs (p.number + 1) p.state q.state (event_of line) p.sums q.sums p.filled q.filled p.out q.out) ea
          (subst (λ (y : ℕ). EventCosted a y (p.number + 1) p.state q.state (event_of line) p.sums q.sums p.filled q.filled p.out q.out) eb
          (subst (λ (x : Event). EventCosted a b (p.number + 1) p.state q.state x p.sums q.sums p.filled q.filled p.out q.out) is_event r))

      abbrev before : List (List ℕ)
      before = g.lines

      count_is : length (before ++ (line ∷ [])) ≡ length before + 1
      count_is = length-append before (line ∷ [])

      front_more : take q.from input ≡ take p.from input ++ (line ++ (line_feed ∷ []))
      front_more =
          let l = line_length in
          let e : q.from ≡ p.from + (length line + 1) = omega arith in
          ap (λ (j : ℕ). take j input) e ∙ take-add p.from (length line + 1) input
          ∙ ap (λ (x : List ℕ). take p.from input ++ x) (ap (take (length line + 1)) is_first.bytes ∙ take-append-add line (line_feed ∷ is_first.rest) 1)

      lines_are : before ++ (line ∷ []) ≡ whole_lines (take q.from input)
      unfolding whole_lines
      lines_are =
          sym
          (ap whole_lines front_more ∙ lines_append (take p.from input) (line ++ (line_feed ∷ []))
          ∙ ap₂ (λ (a : List (List ℕ)) (b : List ℕ). a ++ whole_lines (b ++ (line ++ (line_feed ∷ [])))) (sym g.front) g.whole
          ∙ ap (λ (l : List (List ℕ)). before ++ l) (line_more line [] is_first.plain))

      whole_are : last_line (take q.from input) ≡ []
      unfolding last_line
      whole_are =
          ap last_line front_more ∙ last_append (take p.from input) (line ++ (line_feed ∷ []))
          ∙ ap (λ (b : List ℕ). last_line (b ++ (line ++ (line_feed ∷ [])))) g.whole ∙ line_last line [] is_first.plain

      state_is : q.state ≡ after_lines cs vs s (before ++ (line ∷ []))
      state_is =
          was_run.state ∙ ap (λ (t : SessionState). (line_step cs vs t (event_of line)).1) g.state ∙ sym (after_one cs vs n s before line)

      costs_are : q.sums ≡ clipped_sums (costs_of cs vs s (before ++ (line ∷ [])))
      costs_are =
          was_run.costs
          ∙ ap₂ (λ (x : Sums) (t : SessionState). clipped_sums (plus x (event_cost cs vs t (event_of line)))) g.costs g.state
          ∙ clip_added (costs_of cs vs s before) (event_cost cs vs (after_lines cs vs s before) (event_of line))
          ∙ ap clipped_sums (sym (costs_one cs vs n s before line))

      row_is : event_row cs vs (p.number + 1) p.state (event_of line) ≡ event_row cs vs (n + length before + 1) (after_lines cs vs s before) (event_of line)
      row_is = ap₂ (λ (i : ℕ) (t : SessionState). event_row cs vs (i + 1) t (event_of line)) g.number g.state

      -- what was put before, and the line's output after it
      all_put : Put out 0 (cost_rows cs vs n s (before ++ (line ∷ []))) q.filled q.out
      all_put =
          put_as (sym (rows_one cs vs n s before line))
          (put_then (text_put out 0 (cost_rows cs vs n s before) (g.length_is ∙ sym (zero-add (length (cost_rows cs vs n s before))), g.put))
          (put_as row_is (text_put p.out p.filled (event_row cs vs (p.number + 1) p.state (event_of line)) (was_run.length_is, was_run.put))))

      pub run_next : p.filled + most_cost_row ≤ length out → LinesRun cs vs input n s out q
      run_next room = record {
        lines = before ++ (line ∷ []);
        front = lines_are;
        whole = whole_are;
        inside = omega arith;
        least = let e = count_is in let l = g.least in omega arith;
        state = state_is;
        number = let e = count_is in let m = g.number in let y : q.number ≡ n + length (before ++ (line ∷ [])) = omega arith in y;
        costs = costs_are;
        length_is = all_put.ends ∙ zero-add (length (cost_rows cs vs n s (before ++ (line ∷ []))));
        put = all_put.makes;
        fits = let e = was_run.fits in omega arith;
        pool = rw r.state (step_keeps a b p.state event g.pool);
      }
