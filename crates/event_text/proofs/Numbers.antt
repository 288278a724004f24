-- Laws of numbers read digit by digit. Assumes nothing.
use mathlib.Core.Path.{◌≡◌, refl, sym, ap, ap₂, ◌∙◌}
use Rattle.std.proofs.Common.{Option, Some, None}
use mathlib.Core.Bool.{Bool, true, false, cond, ◌&&◌, ◌||◌}
use mathlib.Core.List.{List, [], ◌∷◌}
use Prim.Native.Nat.{ℕ, suc, ◌+◌, ◌*◌, ◌-◌, ◌^◌, ◌≤◌, ◌<◌}
use native.Mathlib.Nat.{add-zero, pow-suc, one-le-pow, pow-le-pow_right}
use native.Mathlib.Omega.{arith}
use borrow.Author.Tests.{eq-eqb, ne_eqb, eqb-true, eqb-false, le-leb, lt-leb, leb-true, lt-ltb, ltb-true, ltb-false}
use lib.Dec.{eqb, leb, ltb}
use lib.ListN.{length, drop, get_or, length-drop}
use Rattle.base_blocks.specs.Lists.{all, tests, after}
use Rattle.base_blocks.proofs.Lists.{passed, not_passed}
use Rattle.base_blocks.proofs.Scans.{from, from_step, from_none}
use Rattle.event_text.proofs.Fields.{first_within, got_end}
use Rattle.event_text.specs.Fields.{comma, first_field, field_end}
use Rattle.base_digits.specs.Digits.{is_digit, value, decimal}
use Rattle.event_text.specs.declared.number.NumberEnd.{NumberEnd}
use Rattle.event_text.specs.Numbers.{number_ends, is_number, number_of, number_at, leading_digits, digits_at, read_tests, read_on}

-- more digits make no smaller number
pub value_grows : (v : ℕ) (s : List ℕ) → v ≤ value v s
unfolding value
value_grows v [] = omega arith
value_grows v (b ∷ bs) = let h = value_grows (v * 10 + (b - 48)) bs in omega arith

-- ---- digits

digit : (b : ℕ) → 48 ≤ b → b ≤ 57 → is_digit b ≡ true
unfolding is_digit
digit b h k = ap₂ (λ (s t : Bool). s && t) (le-leb 48 b h) (le-leb b 57 k)

low : (b : ℕ) → b < 48 → is_digit b ≡ false
unfolding is_digit
low b h = ap (λ (t : Bool). t && leb b 57) (lt-leb 48 b h)

high : (b : ℕ) → 57 < b → is_digit b ≡ false
unfolding is_digit
high b h = ap₂ (λ (s t : Bool). s && t) (le-leb 48 b (omega arith)) (lt-leb b 57 h)

-- tested at both ends at once
digit_range : (b : ℕ) → ltb b 48 || ltb 57 b ≡ false → (48 ≤ b) × (b ≤ 57)
digit_range b e = go (ltb b 48) (ltb 57 b) refl refl e
  where
    go : (s t : Bool) → ltb b 48 ≡ s → ltb 57 b ≡ t → s || t ≡ false → (48 ≤ b) × (b ≤ 57)
    go true t p q r = absurd (let z : ◌≡◌ {A = ℕ} 0 1 = cc in let y : ⊥ = omega arith in y)
    go false true p q r = absurd (let z : ◌≡◌ {A = ℕ} 0 1 = cc in let y : ⊥ = omega arith in y)
    go false false p q r = (ltb-false b 48 p, ltb-false 57 b q)

pub digit_low : (b : ℕ) → ltb b 48 || ltb 57 b ≡ false → 48 ≤ b
digit_low b e = (digit_range b e).0

pub digit_high : (b : ℕ) → ltb b 48 || ltb 57 b ≡ false → b ≤ 57
digit_high b e = (digit_range b e).1

digit_is : (b : ℕ) → ltb b 48 || ltb 57 b ≡ false → is_digit b ≡ true
digit_is b e = digit b (digit_low b e) (digit_high b e)

digit_not : (b : ℕ) → ltb b 48 || ltb 57 b ≡ true → is_digit b ≡ false
digit_not b e = go (ltb b 48) (ltb 57 b) refl refl e
  where
    go : (s t : Bool) → ltb b 48 ≡ s → ltb 57 b ≡ t → s || t ≡ true → is_digit b ≡ false
    go true t p q r = low b (ltb-true b 48 p)
    go false true p q r = high b (ltb-true 57 b q)
    go false false p q r = absurd (let z : ◌≡◌ {A = ℕ} 0 1 = cc in let y : ⊥ = omega arith in y)

-- ---- digits read from `at` to i so far, as the number v

pub read_start : (text : List ℕ) (at : ℕ) → read_on 0 at at (leading_digits (from at text)) ≡ digits_at text at
unfolding read_on from digits_at is_number decimal
read_start text at =
    let f : List ℕ = leading_digits (drop at text) in
    let e : at - at + length f ≡ length f = omega arith in
    rw e

pub read_one : (v at i b : ℕ) (f : List ℕ) → at ≤ i → is_digit b ≡ true → read_on v at i (b ∷ f) ≡ read_on (v * 10 + (b - 48)) at (i + 1) f
unfolding read_on value all
read_one v at i b f h d =
    let e : i - at + suc (length f) ≡ i + 1 - at + length f = omega arith in
    let g : i + suc (length f) ≡ i + 1 + length f = omega arith in
    rw (d, e, g)

read_large : (v at i : ℕ) (f : List ℕ) → 2 ^ 64 ≤ v → read_on v at i f ≡ None
unfolding read_on
read_large v at i f h =
    ap (λ (t : Bool). cond t (number_ends (value v f) (i + length f)) None)
    (not_passed (tests (read_tests v (i - at) f))
    (λ e. let k = ltb-true (value v f) (2 ^ 64) (passed (read_tests v (i - at) f) e 3) in let g = value_grows v f in let y : ⊥ = omega arith in y))

-- more than twenty
read_long : (v at i : ℕ) (f : List ℕ) → 20 < i - at + length f → read_on v at i f ≡ None
unfolding read_on
read_long v at i f h =
    ap (λ (t : Bool). cond t (number_ends (value v f) (i + length f)) None)
    (not_passed (tests (read_tests v (i - at) f))
    (λ e. let k = leb-true (i - at + length f) 20 (passed (read_tests v (i - at) f) e 2) in let y : ⊥ = omega arith in y))

-- all are read, or there is none
pub read_done : (v at i : ℕ) → at < i → i ≤ at + 20 → v < 2 ^ 64 → read_on v at i [] ≡ number_ends v i
unfolding read_on all value tests after
read_done v at i h k w =
    rw (add-zero (i - at), add-zero i, lt-ltb v (2 ^ 64) w, le-leb 1 (i - at) (omega arith), le-leb (i - at) 20 (omega arith))

pub read_nothing : (v at i : ℕ) → i ≤ at → read_on v at i [] ≡ None
unfolding read_on all value tests after
read_nothing v at i h = let e : i - at ≡ 0 = omega arith in rw (add-zero (i - at), e)

pub read_end : (text : List ℕ) (v at i : ℕ) → length text ≤ i → read_on v at i (leading_digits (from i text)) ≡ read_on v at i []
unfolding leading_digits
read_end text v at i h = ap (λ (l : List ℕ). read_on v at i (leading_digits l)) (from_none i text h)

module _ (text : List ℕ) (v at i b : ℕ) (inside : i < length text) (here : b ≡ get_or text i 0) where
  step : leading_digits (from i text) ≡ cond (is_digit b) (b ∷ leading_digits (from (i + 1) text)) []
  unfolding leading_digits
  step = ap leading_digits (from_step i (i + 1) text refl inside ∙ ap (λ (x : ℕ). x ∷ from (i + 1) text) (sym here))

  -- another digit
  pub read_more : at ≤ i → ltb b 48 || ltb 57 b ≡ false
      → read_on v at i (leading_digits (from i text)) ≡ read_on (v * 10 + (b - 48)) at (i + 1) (leading_digits (from (i + 1) text))
  read_more h e =
      ap (read_on v at i) (step ∙ ap (λ (t : Bool). cond t (b ∷ leading_digits (from (i + 1) text)) []) (digit_is b e))
      ∙ read_one v at i b (leading_digits (from (i + 1) text)) h (digit_is b e)

  -- that makes the number too large
  pub read_over : at ≤ i → ltb b 48 || ltb 57 b ≡ false → 2 ^ 64 ≤ v * 10 + (b - 48) → read_on v at i (leading_digits (from i text)) ≡ None
  read_over h e big = read_more h e ∙ read_large (v * 10 + (b - 48)) at (i + 1) (leading_digits (from (i + 1) text)) big

  -- no other
  pub read_stop : ltb b 48 || ltb 57 b ≡ true → read_on v at i (leading_digits (from i text)) ≡ read_on v at i []
  read_stop e = ap (read_on v at i) (step ∙ ap (λ (t : Bool). cond t (b ∷ leading_digits (from (i + 1) text)) []) (digit_not b e))

  -- after twenty
  pub read_past : at + 20 ≤ i → ltb b 48 || ltb 57 b ≡ false → read_on v at i (leading_digits (from i text)) ≡ None
  read_past h e =
      ap (read_on v at i) (step ∙ ap (λ (t : Bool). cond t (b ∷ leading_digits (from (i + 1) text)) []) (digit_is b e))
      ∙ read_long v at i (b ∷ leading_digits (from (i + 1) text)) (omega arith)

-- no digit stands there
pub read_none : (text : List ℕ) (at b : ℕ) → at < length text → b ≡ get_or text at 0 → ltb b 48 || ltb 57 b ≡ true → read_on 0 at at [] ≡ digits_at text at
read_none text at b inside here e = sym (read_stop text 0 at at b inside here e) ∙ read_start text at

-- one digit stands there
pub read_single : (text : List ℕ) (at b c : ℕ)
    → at + 1 < length text
    → b ≡ get_or text at 0
    → c ≡ get_or text (at + 1) 0
    → ltb b 48 || ltb 57 b ≡ false
    → ltb c 48 || ltb 57 c ≡ true
    → read_on (b - 48) at (at + 1) [] ≡ digits_at text at
read_single text at b c inside here next e f =
    let first : b - 48 ≡ 0 * 10 + (b - 48) = omega arith in
    sym (read_stop text (b - 48) at (at + 1) c inside next f)
    ∙ ap (λ (v : ℕ). read_on v at (at + 1) (leading_digits (from (at + 1) text))) first
    ∙ sym (read_more text 0 at at b (omega arith) here (omega arith) e)
    ∙ read_start text at

pub from_drop : (i : ℕ) (text : List ℕ) → from i text ≡ drop i text
unfolding from
from_drop i text = refl

-- ---- nineteen digits are no number from 2^64 on

pub tens_room : (v k : ℕ) → v < 10 ^ k → k ≤ 18 → v < 10 ^ 18
tens_room v k h e = let p : 10 ^ k ≤ 10 ^ 18 = pow-le-pow_right {n = 10} (omega arith) e in omega arith

pub value_first : (at : ℕ) → 0 < 10 ^ (at - at)
value_first at = let q : 1 ≤ 10 ^ (at - at) = one-le-pow (at - at) 10 (omega arith) in omega arith

pub value_room : (v at i : ℕ) → v < 10 ^ (i - at) → i ≤ at + 19 → v < 2 ^ 64
value_room v at i h e = let k : i - at ≤ 19 = omega arith in let p : 10 ^ (i - at) ≤ 10 ^ 19 = pow-le-pow_right {n = 10} (omega arith) k in omega arith

pub value_digit : (v at i b : ℕ) → v < 10 ^ (i - at) → at ≤ i → b ≤ 57 → v * 10 + (b - 48) < 10 ^ (i + 1 - at)
value_digit v at i b h k e =
    let q : i + 1 - at ≡ suc (i - at) = omega arith in
    let p : 10 ^ suc (i - at) ≡ 10 ^ (i - at) * 10 = pow-suc 10 (i - at) in
    rw q (omega (arith, p))

-- ---- all of s

-- s is its first field, or has a comma and is no number
whole : (s : List ℕ) → length (first_field s) ≡ length s → first_field s ≡ s
unfolding first_field
whole [] e = refl
whole (b ∷ bs) e = go (eqb b comma) refl (whole bs)
  where
    go : (t : Bool) → eqb b comma ≡ t → (length (first_field bs) ≡ length bs → first_field bs ≡ bs) → cond t [] (b ∷ first_field bs) ≡ b ∷ bs
    go true q r = absurd (let z : 0 ≡ suc (length bs) = ap (λ (x : Bool). length (cond x [] (b ∷ first_field bs))) (sym q) ∙ e in let y : ⊥ = omega arith in y)
    go false q r =
        let z : suc (length (first_field bs)) ≡ suc (length bs) = ap (λ (x : Bool). length (cond x [] (b ∷ first_field bs))) (sym q) ∙ e in
        ap (λ (l : List ℕ). b ∷ l) (r (omega arith))

parted : (s : List ℕ) → (length (first_field s) ≡ length s → ⊥) → all is_digit s ≡ false
unfolding first_field all
parted [] h = absurd (h refl)
parted (b ∷ bs) h = go (eqb b comma) refl (parted bs)
  where
    either_false : (a : Bool) → all is_digit bs ≡ false → a && all is_digit bs ≡ false
    either_false true e = e
    either_false false e = refl

    go : (t : Bool) → eqb b comma ≡ t → ((length (first_field bs) ≡ length bs → ⊥) → all is_digit bs ≡ false) → is_digit b && all is_digit bs ≡ false
    go true q r = let e = eqb-true b comma q in ap (λ (t : Bool). t && all is_digit bs) (low b (omega arith))
    go false q r = either_false (is_digit b) (r (λ e. h (ap (λ (x : Bool). length (cond x [] (b ∷ first_field bs))) q ∙ ap suc e)))

parted_none : (s : List ℕ) → all is_digit s ≡ false → number_of s ≡ None
unfolding number_of is_number tests after
parted_none s e = rw e

-- what a field's number says of all of s
unfoldable pub whole_of : List ℕ → Option NumberEnd → Option ℕ
whole_of s (Some r) = cond (eqb r.end (length s)) (Some r.value) None
whole_of s None = None

-- its first field is all of it
whole_is : (s : List ℕ) → length (first_field s) ≡ length s → whole_of s (number_at s 0) ≡ number_of s
unfolding whole_of number_at field_end number_of
whole_is s e = go (is_number (first_field s)) refl
  where
    go : (t : Bool) → is_number (first_field s) ≡ t → whole_of s (cond t (number_ends (decimal (first_field s)) (0 + length (first_field s))) None) ≡ number_of s
    go true q = rw (eq-eqb (0 + length (first_field s)) (length s) (omega arith)) (sym (rw q at (ap number_of (sym (whole s e)))))
    go false q = sym (rw q at (ap number_of (sym (whole s e))))

whole_not : (s : List ℕ) → (length (first_field s) ≡ length s → ⊥) → whole_of s (number_at s 0) ≡ None
unfolding whole_of number_at field_end
whole_not s h = go (is_number (first_field s))
  where
    go : (t : Bool) → whole_of s (cond t (number_ends (decimal (first_field s)) (0 + length (first_field s))) None) ≡ None
    go true = rw (ne_eqb (0 + length (first_field s)) (length s) (λ e. h (omega arith)))
    go false = refl

pub number_whole : (s : List ℕ) → whole_of s (number_at s 0) ≡ number_of s
number_whole s = go (eqb (length (first_field s)) (length s)) refl
  where
    go : (t : Bool) → eqb (length (first_field s)) (length s) ≡ t → whole_of s (number_at s 0) ≡ number_of s
    go true q = whole_is s (eqb-true (length (first_field s)) (length s) q)
    go false q =
        let h = eqb-false (length (first_field s)) (length s) q in
        whole_not s h ∙ sym (parted_none s (parted s h))

-- a field that is a number ends within the line
pub number_within : (line : List ℕ) (at v e : ℕ) → at ≤ length line → number_ends v e ≡ number_at line at → (at ≤ e) × (e ≤ length line)
unfolding number_at field_end
number_within line at v e h q = go (is_number (first_field (drop at line))) q
  where
    go : (t : Bool) → number_ends v e ≡ cond t (number_ends (decimal (first_field (drop at line))) (at + length (first_field (drop at line)))) None → (at ≤ e) × (e ≤ length line)
    go true p =
        let k : e ≡ at + length (first_field (drop at line)) = ap got_end p in
        (omega arith, omega (arith, first_within (drop at line), length-drop at line))
    go false p = absurd (let z : ◌≡◌ {A = ℕ} 0 1 = cc in let y : ⊥ = omega arith in y)
