-- Laws of the first field of a text's first line, and of where the line ends. Assumes nothing.
use mathlib.Core.Path.{◌≡◌, refl, sym, ap, ◌∙◌}
use mathlib.Core.Bool.{Bool, true, false, cond, ◌||◌}
use mathlib.Core.List.{List, [], ◌∷◌}
use Prim.Native.Nat.{ℕ, suc, ◌+◌, ◌≤◌}
use native.Mathlib.Nat.{zero-add}
use Rattle.std.proofs.Common.{add-one}
use native.Mathlib.Omega.{arith}
use borrow.Author.Tests.{eqb-true}
use lib.Dec.{eqb}
use lib.ListN.{length, take, drop}
use Rattle.event_text.specs.Fields.{first_field, first_line}
use Rattle.base_digits.specs.Digits.{is_digit}
use Rattle.event_text.specs.Numbers.{leading_digits}
use Rattle.event_text.specs.Searches.{index_of}
use Rattle.event_text.proofs.Leading.{no_way, until}

-- a comma or a line feed
abbrev pub stops : ℕ → Bool
stops b = eqb b 44 || eqb b 10

pub stops_apart : (b : ℕ) → stops b ≡ true → is_digit b ≡ false
unfolding is_digit
stops_apart b e = go (eqb b 44) (eqb b 10) refl refl e
  where
    go : (t u : Bool) → eqb b 44 ≡ t → eqb b 10 ≡ u → t || u ≡ true → is_digit b ≡ false
    go true u p q r = rw (eqb-true b 44 p)
    go false true p q r = rw (eqb-true b 10 q)
    go false false p q r = no_way (sym r)

pub line_until : (s : List ℕ) → first_field (first_line s) ≡ until stops s
unfolding first_field first_line until
line_until [] = refl
line_until (b ∷ bs) = go (eqb b 44) (eqb b 10) refl (line_until bs)
  where
    go : (t u : Bool) → eqb b 44 ≡ t → first_field (first_line bs) ≡ until stops bs
        → first_field (cond u [] (b ∷ first_line bs)) ≡ cond (t || u) [] (b ∷ until stops bs)
    go true true q r = refl
    go true false q r = rw q
    go false true q r = refl
    go false false q r = rw q (ap (λ (l : List ℕ). b ∷ l) r)

module _ (p : ℕ → Bool) where
  pub take_until : (s : List ℕ) → take (length (until p s)) s ≡ until p s
  unfolding until
  take_until [] = refl
  take_until (b ∷ bs) = go (p b) (take_until bs)
    where
      go : (t : Bool) → take (length (until p bs)) bs ≡ until p bs → take (length (cond t [] (b ∷ until p bs))) (b ∷ bs) ≡ cond t [] (b ∷ until p bs)
      go true e = refl
      go false e = ap (λ (l : List ℕ). b ∷ l) e

  pub until_length : (s : List ℕ) → length (until p s) ≤ length s
  unfolding until
  until_length [] = omega arith
  until_length (b ∷ bs) = go (p b) (until_length bs)
    where
      go : (t : Bool) → length (until p bs) ≤ length bs → length (cond t [] (b ∷ until p bs)) ≤ suc (length bs)
      go true h = omega arith
      go false h = omega arith

-- ---- the end of the first field, found byte by byte

pub until_hit : (b : ℕ) (s : List ℕ) → stops b ≡ true → length (until stops (b ∷ s)) ≡ 0
unfolding until
until_hit b s e = rw e

pub until_miss : (b : ℕ) (s : List ℕ) → stops b ≡ false → length (until stops (b ∷ s)) ≡ length (until stops s) + 1
unfolding until
until_miss b s e = rw e (sym (add-one (length (until stops s))))

pub until_none : length (until stops []) ≡ 0
unfolding until
until_none = refl

-- ---- no line feed stands in a field

pub until_found : (s : List ℕ) → index_of 10 s ≡ length (until stops s) + index_of 10 (drop (length (until stops s)) s)
unfolding until index_of
until_found [] = refl
until_found (b ∷ bs) = go (eqb b 44) (eqb b 10) refl (until_found bs)
  where
    k : ℕ
    k = index_of 10 bs

    go : (t u : Bool) → eqb b 10 ≡ u → k ≡ length (until stops bs) + index_of 10 (drop (length (until stops bs)) bs)
        → cond u 0 (suc k) ≡ length (cond (t || u) [] (b ∷ until stops bs)) + index_of 10 (drop (length (cond (t || u) [] (b ∷ until stops bs))) (b ∷ bs))
    go true true q r = sym (zero-add (index_of 10 (b ∷ bs)) ∙ rw q)
    go true false q r = sym (zero-add (index_of 10 (b ∷ bs)) ∙ rw q)
    go false true q r = sym (zero-add (index_of 10 (b ∷ bs)) ∙ rw q)
    go false false q r = let e : suc k ≡ suc (length (until stops bs)) + index_of 10 (drop (length (until stops bs)) bs) = omega arith in e

or_true : (t : Bool) → t || true ≡ true
or_true true = refl
or_true false = refl

pub digits_found : (s : List ℕ) → index_of 10 s ≡ length (leading_digits s) + index_of 10 (drop (length (leading_digits s)) s)
unfolding leading_digits index_of
digits_found [] = refl
digits_found (b ∷ bs) = go (is_digit b) (eqb b 10) refl refl (digits_found bs)
  where
    k : ℕ
    k = index_of 10 bs

    go : (t u : Bool) → is_digit b ≡ t → eqb b 10 ≡ u → k ≡ length (leading_digits bs) + index_of 10 (drop (length (leading_digits bs)) bs)
        → cond u 0 (suc k) ≡ length (cond t (b ∷ leading_digits bs) []) + index_of 10 (drop (length (cond t (b ∷ leading_digits bs) [])) (b ∷ bs))
    go true true d q r = no_way (sym d ∙ stops_apart b (rw q (or_true (eqb b 44))))
    go true false d q r = let e : suc k ≡ suc (length (leading_digits bs)) + index_of 10 (drop (length (leading_digits bs)) bs) = omega arith in e
    go false u d q r = sym (zero-add (index_of 10 (b ∷ bs)) ∙ rw q)

-- the first line ends there
pub first_index : (s : List ℕ) → first_line s ≡ take (index_of 10 s) s
unfolding first_line index_of
first_index [] = refl
first_index (b ∷ bs) = go (eqb b 10) (first_index bs)
  where
    go : (t : Bool) → first_line bs ≡ take (index_of 10 bs) bs → cond t [] (b ∷ first_line bs) ≡ take (cond t 0 (suc (index_of 10 bs))) (b ∷ bs)
    go true e = refl
    go false e = ap (λ (l : List ℕ). b ∷ l) e
