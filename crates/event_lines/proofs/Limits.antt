-- Laws of the limits of a word's numbers against the kinds of its fields. Assumes nothing.
use mathlib.Core.Path.{◌≡◌, refl, sym, ap, ap₂, ◌∙◌}
use mathlib.Core.Bool.{Bool, true, false, cond, ◌&&◌, ◌||◌}
use mathlib.Core.List.{List, [], ◌∷◌}
use Prim.Native.Nat.{ℕ, suc, ◌+◌, ◌^◌}
use native.Mathlib.Omega.{arith}
use borrow.Author.Tests.{eq-eqb, ne_eqb, eqb-true, eqb-false, leb-true, leb-false, lt-ltb, le-ltb}
use lib.Dec.{eqb, ltb, leb}
use lib.ListN.{length, get_or}
use Rattle.base_blocks.specs.Lists.{all, tests, after}
use Rattle.base_blocks.proofs.Lists.{and_both, and_assoc, passed}
use Rattle.base_digits.specs.Digits.{decimal}
use Rattle.event_text.specs.Numbers.{is_number}
use Rattle.event_lines.specs.declared.event.Word.{Word}
use Rattle.event_lines.specs.Grammar.{Kind, below, held, is_kind, are_kinds, kinds_of, num}
use Rattle.event_lines.specs.Reading.{most, limits_of, limit_tests, fits}

unfoldable kind_of : ℕ → Kind
kind_of limit = cond (eqb limit 0) held (below (limit + 1))

-- a number within its limit
unfoldable within : ℕ → ℕ → Bool
within l v = cond (eqb l 0 || eqb l most) true (leb v l)

leb_below : (v l : ℕ) → ltb v (l + 1) ≡ leb v l
leb_below v l = go (leb v l) refl
  where
    go : (t : Bool) → leb v l ≡ t → ltb v (l + 1) ≡ t
    go true e = let h = leb-true v l e in lt-ltb v (l + 1) (omega arith)
    go false e = let h = leb-false v l e in le-ltb v (l + 1) (omega arith)

below_most : (f : List ℕ) → is_number f ≡ true → ltb (decimal f) (2 ^ 64) ≡ true
unfolding is_number
below_most f e = passed _ e 3

unfoldable kinds_for : List ℕ → List Kind
kinds_for [] = []
kinds_for (l ∷ ls) = kind_of l ∷ kinds_for ls

word_kinds : (w : Word) → kinds_for (limits_of w) ≡ kinds_of w
unfolding kinds_for kind_of limits_of kinds_of
word_kinds Word.Open = refl
word_kinds Word.Take = refl
word_kinds Word.Plan = refl
word_kinds Word.Retire = refl
word_kinds Word.Write = refl
word_kinds Word.Regen = refl
word_kinds Word.Pop = refl
word_kinds Word.Park = refl
word_kinds Word.Note = refl
word_kinds Word.Doomed = refl
word_kinds Word.Drain = refl
word_kinds Word.Trim = refl
word_kinds Word.Forget = refl
word_kinds Word.Other = refl

within_kind : (l : ℕ) (f : List ℕ) → is_number f ≡ true → is_kind (kind_of l) f ≡ within l (decimal f)
unfolding is_kind kind_of within
within_kind l f e = go (eqb l 0) (eqb l most) refl
  where
    go : (t u : Bool) → eqb l most ≡ u → is_kind (cond t held (below (l + 1))) f ≡ cond (t || u) true (leb (decimal f) l)
    go true u q = rw e
    go false true q = rw e (ap (λ (k : ℕ). ltb (decimal f) (k + 1)) (eqb-true l most q) ∙ below_most f e)
    go false false q = rw e (leb_below (decimal f) l)

-- n k, n (k + 1), .. are
unfoldable all_within : List ℕ → (ℕ → ℕ) → ℕ → Bool
all_within [] n k = true
all_within (l ∷ ls) n k = within l (n k) && all_within ls n (suc k)

and_true : (a : Bool) → a ≡ a && true
and_true true = refl
and_true false = refl

tests_within : (a : Bool) (ls : List ℕ) (n : ℕ → ℕ) (k : ℕ) → after a (limit_tests ls n k) ≡ a && all_within ls n k
unfolding after limit_tests all_within within
tests_within a [] n k = and_true a
tests_within a (l ∷ ls) n k = go (eqb l 0 || eqb l most) (tests_within a ls n (suc k)) (tests_within (a && leb (n k) l) ls n (suc k))
  where
    go : (t : Bool) → after a (limit_tests ls n (suc k)) ≡ a && all_within ls n (suc k)
        → after (a && leb (n k) l) (limit_tests ls n (suc k)) ≡ a && leb (n k) l && all_within ls n (suc k)
        → after a (cond t (limit_tests ls n (suc k)) (leb (n k) l ∷ limit_tests ls n (suc k))) ≡ a && (cond t true (leb (n k) l) && all_within ls n (suc k))
    go true r q = r
    go false r q = q ∙ and_assoc a (leb (n k) l) (all_within ls n (suc k))

fits_is : (w : Word) (count : ℕ) (n : ℕ → ℕ) → fits w count n ≡ eqb count (length (limits_of w)) && all_within (limits_of w) n 0
unfolding fits tests after
fits_is w count n = tests_within (eqb count (length (limits_of w))) (limits_of w) n 0

shift : (f : List ℕ) (fs : List (List ℕ)) (ls : List ℕ) (k : ℕ) → all_within ls (num (f ∷ fs)) (suc k) ≡ all_within ls (num fs) k
unfolding all_within num
shift f fs [] k = refl
shift f fs (l ∷ ls) k = ap (λ (t : Bool). within l (decimal (get_or fs k [])) && t) (shift f fs ls (suc k))

eqb_suc : (a b : ℕ) → eqb a b ≡ eqb (suc a) (suc b)
eqb_suc a b = go (eqb a b) refl
  where
    go : (t : Bool) → eqb a b ≡ t → t ≡ eqb (suc a) (suc b)
    go true q = sym (eq-eqb (suc a) (suc b) (ap suc (eqb-true a b q)))
    go false q = sym (ne_eqb (suc a) (suc b) (λ z. eqb-false a b q (omega arith)))

swap : (x e p : Bool) → x && (e && p) ≡ e && (x && p)
swap true e p = refl
swap false true p = refl
swap false false p = refl

first_num : (f : List ℕ) (fs : List (List ℕ)) → num (f ∷ fs) 0 ≡ decimal f
unfolding num
first_num f fs = refl

kinds_within : (ls : List ℕ) (fs : List (List ℕ)) → all is_number fs ≡ true
    → are_kinds (kinds_for ls) fs ≡ eqb (length fs) (length ls) && all_within ls (num fs) 0
unfolding are_kinds kinds_for all_within all
kinds_within [] [] e = refl
kinds_within [] (f ∷ fs) e = sym (ap (λ (t : Bool). t && true) (ne_eqb (suc (length fs)) 0 (λ z. let y : ⊥ = omega arith in y)))
kinds_within (l ∷ ls) [] e = sym (ap (λ (t : Bool). t && all_within (l ∷ ls) (num []) 0) (ne_eqb 0 (suc (length ls)) (λ z. let y : ⊥ = omega arith in y)))
kinds_within (l ∷ ls) (f ∷ fs) e =
    let q = and_both (is_number f) (all is_number fs) e in
    ap₂ (λ (s t : Bool). s && t) (within_kind l f q.0) (kinds_within ls fs q.1)
    ∙ swap (within l (decimal f)) (eqb (length fs) (length ls)) (all_within ls (num fs) 0)
    ∙ ap₂ (λ (s t : Bool). s && t) (eqb_suc (length fs) (length ls))
    (ap₂ (λ (s t : Bool). s && t) (ap (within l) (sym (first_num f fs))) (sym (shift f fs ls 0)))

pub word_numbers : (w : Word) (fs : List (List ℕ)) → all is_number fs ≡ true → are_kinds (kinds_of w) fs ≡ fits w (length fs) (num fs)
word_numbers w fs e =
    ap (λ (ks : List Kind). are_kinds ks fs) (sym (word_kinds w)) ∙ kinds_within (limits_of w) fs e ∙ sym (fits_is w (length fs) (num fs))
