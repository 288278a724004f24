-- Laws of the first line of an input and those after it. Assumes nothing.
use mathlib.Core.Path.{◌≡◌, refl, ap, ◌∙◌}
use mathlib.Core.Bool.{Bool, true, false, cond}
use mathlib.Core.List.{List, [], ◌∷◌}
use Prim.Native.Nat.{ℕ, suc, ◌+◌, ◌-◌, ◌≤◌, ◌<◌}
use native.Mathlib.Omega.{arith}
use lib.Dec.{eqb}
use lib.ListN.{length, take, drop, length-drop}
use lib.Seq.{drop-drop}
use Rattle.event_text.specs.Searches.{index_of}
use Rattle.event_runs.specs.Lines.{in_first_line, whole_lines}
use Rattle.base_digits.specs.Characters.{line_feed}

pub first_line_lem : (s : List ℕ) → index_of line_feed s < length s
    → whole_lines s ≡ take (index_of line_feed s) s ∷ whole_lines (drop (suc (index_of line_feed s)) s)
unfolding whole_lines in_first_line index_of
first_line_lem [] h = absurd (let y : ⊥ = omega arith in y)
first_line_lem (b ∷ bs) h = go (eqb b line_feed) (first_line_lem bs) h
  where
    k : ℕ
    k = index_of line_feed bs

    go : (t : Bool) → (k < length bs → whole_lines bs ≡ take k bs ∷ whole_lines (drop (suc k) bs)) → cond t 0 (suc k) < suc (length bs)
        → cond t ([] ∷ whole_lines bs) (in_first_line b (whole_lines bs)) ≡ take (cond t 0 (suc k)) (b ∷ bs) ∷ whole_lines (drop (suc (cond t 0 (suc k))) (b ∷ bs))
    go true r q = refl
    go false r q = ap (in_first_line b) (r (omega arith))

pub no_line : (s : List ℕ) → length s ≤ index_of line_feed s → whole_lines s ≡ []
unfolding whole_lines in_first_line index_of
no_line [] h = refl
no_line (b ∷ bs) h = go (eqb b line_feed) (no_line bs) h
  where
    k : ℕ
    k = index_of line_feed bs

    go : (t : Bool) → (length bs ≤ k → whole_lines bs ≡ []) → suc (length bs) ≤ cond t 0 (suc k) → cond t ([] ∷ whole_lines bs) (in_first_line b (whole_lines bs)) ≡ []
    go true r q = absurd (let y : ⊥ = omega arith in y)
    go false r q = ap (in_first_line b) (r (omega arith))

-- ---- the line that starts at `from`

-- where it ends: at its line feed, or at the end of the input
unfoldable pub line_end : List ℕ → ℕ → ℕ
line_end input from = from + index_of line_feed (drop from input)

module _ (input : List ℕ) (from : ℕ) where
  pub line_end_lem : (k end : ℕ) → k ≡ index_of line_feed (drop from input) → end ≡ from + k → end ≡ line_end input from
  unfolding line_end
  line_end_lem k end e f = f ∙ ap (λ (i : ℕ). from + i) e

  pub line_next : line_end input from < length input
      → whole_lines (drop from input) ≡ take (line_end input from - from) (drop from input) ∷ whole_lines (drop (line_end input from + 1) input)
  unfolding line_end
  line_next h =
      let k : ℕ = index_of line_feed (drop from input) in
      let a : k ≡ from + k - from = omega arith in
      let b : from + suc k ≡ from + k + 1 = omega arith in
      first_line_lem (drop from input) (omega (arith, length-drop from input))
      ∙ ap (λ (i : ℕ). take i (drop from input) ∷ whole_lines (drop (suc k) (drop from input))) a
      ∙ ap (λ (l : List ℕ). take (from + k - from) (drop from input) ∷ whole_lines l) (drop-drop (suc k) from input ∙ ap (λ (i : ℕ). drop i input) b)

  pub line_none : length input ≤ line_end input from → whole_lines (drop from input) ≡ []
  unfolding line_end
  line_none h = no_line (drop from input) (omega (arith, length-drop from input))
