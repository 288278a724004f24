-- Laws of fields and words. Assumes nothing.
use mathlib.Core.Path.{◌≡◌, refl, ap, ap₂}
use Rattle.std.proofs.Common.{Option, Some, None}
use Rattle.event_text.specs.declared.number.NumberEnd.{NumberEnd}
use mathlib.Core.Bool.{Bool, true, false, cond, ◌&&◌}
use mathlib.Core.List.{List, [], ◌∷◌}
use Prim.Native.Nat.{ℕ, suc, ◌+◌, ◌≤◌, ◌<◌}
use native.Mathlib.Omega.{arith}
use borrow.Author.Tests.{eq-eqb, ne_eqb, eqb-true}
use lib.Dec.{eqb}
use lib.ListN.{length, drop, get_or}
use Rattle.base_blocks.proofs.Lists.{and_both}
use Rattle.base_blocks.proofs.Scans.{from, from_step, from_none}
use Rattle.event_text.specs.Fields.{comma, in_first, fields_of, first_field, fields_after, same}

-- ---- the first field and those after it

pub fields_first : (s : List ℕ) → fields_of s ≡ first_field s ∷ fields_after (drop (length (first_field s)) s)
unfolding fields_of first_field fields_after in_first
fields_first [] = refl
fields_first (b ∷ bs) = go (eqb b comma) (fields_first bs)
  where
    go : (t : Bool) → fields_of bs ≡ first_field bs ∷ fields_after (drop (length (first_field bs)) bs)
        → cond t ([] ∷ fields_of bs) (in_first b (fields_of bs)) ≡ cond t [] (b ∷ first_field bs) ∷ fields_after (drop (length (cond t [] (b ∷ first_field bs))) (b ∷ bs))
    go true e = refl
    go false e = ap (in_first b) e

pub first_within : (s : List ℕ) → length (first_field s) ≤ length s
unfolding first_field
first_within [] = omega arith
first_within (b ∷ bs) = go (eqb b comma) (first_within bs)
  where
    go : (t : Bool) → length (first_field bs) ≤ length bs → length (cond t [] (b ∷ first_field bs)) ≤ suc (length bs)
    go true h = omega arith
    go false h = omega arith

-- ---- words

pub same_length : (xs ys : List ℕ) → (length xs ≡ length ys → ⊥) → same xs ys ≡ false
unfolding same
same_length [] [] h = absurd (h refl)
same_length [] (y ∷ ys) h = refl
same_length (x ∷ xs) [] h = refl
same_length (x ∷ xs) (y ∷ ys) h = go (eqb x y) (same_length xs ys (λ e. h (ap suc e)))
  where
    go : (t : Bool) → same xs ys ≡ false → t && same xs ys ≡ false
    go true e = e
    go false e = refl

module _ (xs ys : List ℕ) (i : ℕ) (e : length xs ≡ length ys) where
  pub same_more : i < length ys → get_or xs i 0 ≡ get_or ys i 0 → same (from i xs) (from i ys) ≡ same (from (i + 1) xs) (from (i + 1) ys)
  unfolding same
  same_more h t = rw (from_step i (i + 1) xs refl (omega arith), from_step i (i + 1) ys refl h, eq-eqb (get_or xs i 0) (get_or ys i 0) t)

  pub same_stop : i < length ys → (get_or xs i 0 ≡ get_or ys i 0 → ⊥) → same (from i xs) (from i ys) ≡ false
  unfolding same
  same_stop h t = rw (from_step i (i + 1) xs refl (omega arith), from_step i (i + 1) ys refl h, ne_eqb (get_or xs i 0) (get_or ys i 0) t)

  pub same_done : length ys ≤ i → same (from i xs) (from i ys) ≡ true
  unfolding same
  same_done h = rw (from_none i xs (omega arith), from_none i ys h)

pub same_all : (xs ys : List ℕ) → same (from 0 xs) (from 0 ys) ≡ same xs ys
unfolding from
same_all xs ys = refl

-- the test is equality
pub same_true : (xs ys : List ℕ) → same xs ys ≡ true → xs ≡ ys
unfolding same
same_true [] [] e = refl
same_true [] (y ∷ ys) e = absurd (let z : ◌≡◌ {A = ℕ} 0 1 = cc in let n : ⊥ = omega arith in n)
same_true (x ∷ xs) [] e = absurd (let z : ◌≡◌ {A = ℕ} 0 1 = cc in let n : ⊥ = omega arith in n)
same_true (x ∷ xs) (y ∷ ys) e =
    let q = and_both (eqb x y) (same xs ys) e in
    ap₂ (λ (a : ℕ) (l : List ℕ). a ∷ l) (eqb-true x y q.0) (same_true xs ys q.1)

pub same_self : (xs : List ℕ) → same xs xs ≡ true
unfolding same
same_self [] = refl
same_self (x ∷ xs) = ap₂ (λ (a b : Bool). a && b) (eq-eqb x x refl) (same_self xs)

-- ---- the parts of a number that was read

abbrev pub got_value : Option NumberEnd → ℕ
got_value (Some r) = r.value
got_value None = 0

abbrev pub got_end : Option NumberEnd → ℕ
got_end (Some r) = r.end
got_end None = 0
