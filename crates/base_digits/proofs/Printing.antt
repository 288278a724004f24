-- Laws of numbers printed. Assumes nothing.
use mathlib.Core.Path.{◌≡◌, refl, sym, ap, ap₂, ◌∙◌}
use mathlib.Core.Bool.{Bool, true, false, cond, ◌&&◌}
use mathlib.Core.List.{List, [], ◌∷◌, ◌++◌}
use Prim.Native.Nat.{ℕ, zero, suc, ◌+◌, ◌*◌, ◌-◌, ◌/◌, ◌%◌, ◌^◌, ◌≤◌, ◌<◌}
use native.Mathlib.Nat.{pow-suc, div-lt_iff_lt-mul}
use native.Mathlib.Omega.{arith}
use borrow.Author.Tests.{ltb-true, ltb-false, le-leb}
use lib.Dec.{ltb}
use lib.ListN.{length, get_or, length-append, get_or-append}
use Rattle.base_blocks.specs.Lists.{all}
use Rattle.base_blocks.proofs.Lists.{all_append}
use Rattle.base_digits.specs.Digits.{is_digit, value, digits, digits_of}

-- ---- what the digits of a number are

pub digits_length : (k n : ℕ) → length (digits k n) ≤ k
unfolding digits
digits_length zero n = omega arith
digits_length (suc k) n = go (ltb n 10) (digits_length k (n / 10))
  where
    xs : List ℕ
    xs = digits k (n / 10)

    go : (t : Bool) → length xs ≤ k → length (cond t ((48 + n) ∷ []) (xs ++ ((48 + n % 10) ∷ []))) ≤ suc k
    go true h = omega arith
    go false h = omega (arith, length-append xs ((48 + n % 10) ∷ []))

pub digits_some : (k n : ℕ) → 1 ≤ length (digits (suc k) n)
unfolding digits
digits_some k n = go (ltb n 10)
  where
    xs : List ℕ
    xs = digits k (n / 10)

    go : (t : Bool) → 1 ≤ length (cond t ((48 + n) ∷ []) (xs ++ ((48 + n % 10) ∷ [])))
    go true = omega arith
    go false = omega (arith, length-append xs ((48 + n % 10) ∷ []))

digit_is : (n : ℕ) → n < 10 → is_digit (48 + n) ≡ true
unfolding is_digit
digit_is n h = ap₂ (λ (s t : Bool). s && t) (le-leb 48 (48 + n) (omega arith)) (le-leb (48 + n) 57 (omega arith))

pub digits_are : (k n : ℕ) → all is_digit (digits k n) ≡ true
unfolding digits all
digits_are zero n = refl
digits_are (suc k) n = go (ltb n 10) refl (digits_are k (n / 10))
  where
    xs : List ℕ
    xs = digits k (n / 10)

    one : (m : ℕ) → m < 10 → all is_digit ((48 + m) ∷ []) ≡ true
    one m h = ap (λ (t : Bool). t && true) (digit_is m h)

    go : (t : Bool) → ltb n 10 ≡ t → all is_digit xs ≡ true → all is_digit (cond t ((48 + n) ∷ []) (xs ++ ((48 + n % 10) ∷ []))) ≡ true
    go true q r = one n (ltb-true n 10 q)
    go false q r = all_append is_digit xs ((48 + n % 10) ∷ []) ∙ ap₂ (λ (s t : Bool). s && t) r (one (n % 10) (omega arith))

value_last : (v : ℕ) (xs : List ℕ) (b : ℕ) → value v (xs ++ (b ∷ [])) ≡ value v xs * 10 + (b - 48)
unfolding value
value_last v [] b = refl
value_last v (x ∷ xs) b = value_last (v * 10 + (x - 48)) xs b

pub digits_value : (k n : ℕ) → n < 10 ^ k → value 0 (digits k n) ≡ n
unfolding digits value
digits_value zero n h = omega arith
digits_value (suc k) n h = go (ltb n 10) (digits_value k (n / 10) ((div-lt_iff_lt-mul {k = 10} {x = n} {y = 10 ^ k} (omega arith)).1 (rw (pow-suc 10 k) at h)))
  where
    xs : List ℕ
    xs = digits k (n / 10)

    go : (t : Bool) → value 0 xs ≡ n / 10 → value 0 (cond t ((48 + n) ∷ []) (xs ++ ((48 + n % 10) ∷ []))) ≡ n
    go true r = let e : 0 * 10 + (48 + n - 48) ≡ n = omega arith in e
    go false r = value_last 0 xs (48 + n % 10) ∙ (let e : value 0 xs * 10 + (48 + n % 10 - 48) ≡ n = omega arith in e)

-- at most twenty digits
pub digits_room : (n : ℕ) → length (digits_of n) ≤ 20
unfolding digits_of
digits_room n = digits_length 20 n

-- ---- no leading zero

digits_first : (k n : ℕ) → 0 < n → n < 10 ^ k → (1 ≤ length (digits k n)) × (get_or (digits k n) 0 0 ≡ 48 → ⊥)
unfolding digits
digits_first zero n h q = absurd (let y : ⊥ = omega arith in y)
digits_first (suc k) n h q = (digits_some k n, go (ltb n 10) refl (digits_first k (n / 10)))
  where
    xs : List ℕ
    xs = digits k (n / 10)

    go : (t : Bool) → ltb n 10 ≡ t → (0 < n / 10 → n / 10 < 10 ^ k → (1 ≤ length xs) × (get_or xs 0 0 ≡ 48 → ⊥))
        → get_or (cond t ((48 + n) ∷ []) (xs ++ ((48 + n % 10) ∷ []))) 0 0 ≡ 48 → ⊥
    go true e r z = let y : ⊥ = omega arith in y
    go false e r z =
        let m = ltb-false n 10 e in
        let p = r (omega arith) ((div-lt_iff_lt-mul {k = 10} {x = n} {y = 10 ^ k} (omega arith)).1 (rw (pow-suc 10 k) at q)) in
        p.1 (sym (get_or-append xs ((48 + n % 10) ∷ []) 0 0 p.0) ∙ z)

pub digits_lead : (n : ℕ) → 0 < n → n < 2 ^ 64 → get_or (digits_of n) 0 0 ≡ 48 → ⊥
unfolding digits_of
digits_lead n h q = (digits_first 20 n h (omega arith)).1
