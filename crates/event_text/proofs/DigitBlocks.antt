-- Laws of digits read several at a time. Assumes nothing.
use mathlib.Core.Path.{◌≡◌, refl, sym, ap, ap₂, ◌∙◌}
use mathlib.Core.Bool.{Bool, true, false, cond, ◌&&◌}
use mathlib.Core.List.{List, [], ◌∷◌, ◌++◌, append-nil}
use Prim.Native.Nat.{ℕ, zero, suc, ◌+◌, ◌*◌, ◌-◌, ◌^◌, ◌≤◌, ◌<◌}
use native.Mathlib.Nat.{add-mul, mul_assoc, mul_comm, add_assoc, add-zero, zero-add, mul-one, pow-suc}
use native.Mathlib.Omega.{arith}
use borrow.Author.Tests.{leb-true, eqb-true}
use lib.Arith.{digits_lt}
use lib.Dec.{eqb, leb}
use lib.ListN.{length, take, drop, length-drop, take-append-drop}
use lib.Seq.{length-take-le, drop-drop}
use Rattle.base_blocks.specs.Lists.{all}
use Rattle.base_blocks.proofs.Lists.{and_both}
use Rattle.event_text.specs.declared.eight.EightDigits.{EightDigits}
use Rattle.event_text.specs.Eight.{eight_digits}
use Rattle.base_digits.specs.Digits.{is_digit, value, decimal}
use Rattle.event_text.specs.Numbers.{leading_digits, digits_at, read_on, StartsDigits}
use Rattle.event_text.proofs.Numbers.{read_one, read_start, value_first, from_drop}

-- ---- the digits in front of a list

lead_digits : (l : List ℕ) → all is_digit (leading_digits l) ≡ true
unfolding leading_digits all
lead_digits [] = refl
lead_digits (b ∷ bs) = go (is_digit b) refl (lead_digits bs)
  where
    go : (t : Bool) → is_digit b ≡ t → all is_digit (leading_digits bs) ≡ true → all is_digit (cond t (b ∷ leading_digits bs) []) ≡ true
    go true d r = ap₂ (λ (x y : Bool). x && y) d r
    go false d r = refl

lead_full : (l : List ℕ) → length (leading_digits l) ≡ length l → all is_digit l ≡ true
unfolding leading_digits all
lead_full [] e = refl
lead_full (b ∷ bs) e = go (is_digit b) e (lead_full bs)
  where
    go : (t : Bool) → length (cond t (b ∷ leading_digits bs) []) ≡ suc (length bs) → (length (leading_digits bs) ≡ length bs → all is_digit bs ≡ true) → t && all is_digit bs ≡ true
    go true f r = r (omega arith)
    go false f r = absurd (let y : ⊥ = omega arith in y)

lead_append : (xs ys : List ℕ) → all is_digit xs ≡ true → leading_digits (xs ++ ys) ≡ xs ++ leading_digits ys
unfolding leading_digits all
lead_append [] ys e = refl
lead_append (b ∷ bs) ys e =
    let p = and_both (is_digit b) (all is_digit bs) e in
    ap (λ (t : Bool). cond t (b ∷ leading_digits (bs ++ ys)) []) p.0 ∙ ap (λ (l : List ℕ). b ∷ l) (lead_append bs ys p.1)

pub lead_all : (l : List ℕ) → all is_digit l ≡ true → leading_digits l ≡ l
unfolding leading_digits
lead_all l e = ap leading_digits (sym (append-nil l)) ∙ lead_append l [] e ∙ append-nil l

-- those of the first n, if they end before
lead_taken : (n : ℕ) (l : List ℕ) → length (leading_digits (take n l)) < n → leading_digits l ≡ leading_digits (take n l)
unfolding leading_digits
lead_taken zero l h = absurd (let y : ⊥ = omega arith in y)
lead_taken (suc n) [] h = refl
lead_taken (suc n) (b ∷ bs) h = go (is_digit b) h (lead_taken n bs)
  where
    go : (t : Bool) → length (cond t (b ∷ leading_digits (take n bs)) []) < suc n → (length (leading_digits (take n bs)) < n → leading_digits bs ≡ leading_digits (take n bs))
        → cond t (b ∷ leading_digits bs) [] ≡ cond t (b ∷ leading_digits (take n bs)) []
    go true f r = ap (λ (s : List ℕ). b ∷ s) (r (omega arith))
    go false f r = refl

-- ---- their number

pub digit_small : (b : ℕ) → is_digit b ≡ true → b - 48 ≤ 9
unfolding is_digit
digit_small b d = let e = leb-true b 57 (and_both (leb 48 b) (leb b 57) d).1 in omega arith

value_split : (v : ℕ) (xs : List ℕ) → value v xs ≡ v * 10 ^ length xs + decimal xs
unfolding value decimal
value_split v [] = sym (add-zero (v * 1) ∙ mul-one v)
value_split v (b ∷ bs) =
    let d : ℕ = b - 48 in
    let n : ℕ = length bs in
    value_split (v * 10 + d) bs
    ∙ ap (λ (x : ℕ). x + decimal bs) (add-mul (v * 10) d (10 ^ n) ∙ ap (λ (x : ℕ). x + d * 10 ^ n) (mul_assoc v 10 (10 ^ n) ∙ ap (λ (x : ℕ). v * x) (mul_comm 10 (10 ^ n) ∙ sym (pow-suc 10 n))))
    ∙ add_assoc (v * 10 ^ suc n) (d * 10 ^ n) (decimal bs)
    ∙ ap (λ (x : ℕ). v * 10 ^ suc n + x) (sym (value_split (0 + d) bs ∙ ap (λ (x : ℕ). x * 10 ^ n + decimal bs) (zero-add d)))

value_below : (xs : List ℕ) → all is_digit xs ≡ true → decimal xs < 10 ^ length xs
unfolding value decimal all
value_below [] e = omega arith
value_below (b ∷ bs) e =
    let p = and_both (is_digit b) (all is_digit bs) e in
    let d = digit_small b p.0 in
    let small : (0 + (b - 48)) * 10 ^ length bs + decimal bs < 10 * 10 ^ length bs = digits_lt (omega arith) (value_below bs p.1) in
    let same = value_split (0 + (b - 48)) bs in
    let power = pow-suc 10 (length bs) in
    let turned = mul_comm 10 (10 ^ length bs) in
    omega arith

-- ---- digits read on

read_block : (xs f : List ℕ) (v at i : ℕ) → at ≤ i → all is_digit xs ≡ true → read_on v at i (xs ++ f) ≡ read_on (value v xs) at (i + length xs) f
unfolding value all
read_block [] f v at i h e = ap (λ (k : ℕ). read_on v at k f) (sym (add-zero i))
read_block (b ∷ bs) f v at i h e =
    let p = and_both (is_digit b) (all is_digit bs) e in
    read_one v at i b (bs ++ f) h p.0 ∙ read_block bs f (v * 10 + (b - 48)) at (i + 1) (omega arith) p.1
    ∙ ap (λ (k : ℕ). read_on (value (v * 10 + (b - 48)) bs) at k f) (let e : i + 1 + length bs ≡ i + suc (length bs) = omega arith in e)

-- ---- the eight bytes from i on

module _ (text : List ℕ) (i : ℕ) (inside : i + 8 ≤ length text) where
  abbrev eight : List ℕ
  eight = take 8 (drop i text)

  long : length eight ≡ 8
  long = length-take-le 8 (drop i text) (omega (arith, length-drop i text))

  module _ (full : (eight_digits text i).count ≡ 8) where
    digits : all is_digit eight ≡ true
    unfolding eight_digits
    digits = lead_full eight (full ∙ sym long)

    worth : (eight_digits text i).value ≡ decimal eight
    unfolding eight_digits
    worth = ap decimal (lead_all eight digits)

    pub eight_room : (eight_digits text i).value < 100000000
    eight_room =
        let power : 10 ^ length eight ≡ 100000000 = ap (λ (n : ℕ). 10 ^ n) long in
        omega (arith, worth, power, value_below eight digits)

    -- all of them are read on
    pub read_eight : (v at : ℕ) → at ≤ i → read_on v at i (leading_digits (drop i text)) ≡ read_on (v * 100000000 + (eight_digits text i).value) at (i + 8) (leading_digits (drop (i + 8) text))
    read_eight v at h =
        let behind : List ℕ = leading_digits (drop (i + 8) text) in
        let value_is : value v eight ≡ v * 100000000 + (eight_digits text i).value =
        value_split v eight ∙ ap₂ (λ (n : ℕ) (w : ℕ). v * 10 ^ n + w) long (sym worth)
        in
        ap (λ (l : List ℕ). read_on v at i (leading_digits l)) (sym (take-append-drop 8 (drop i text)) ∙ ap (λ (l : List ℕ). eight ++ l) (drop-drop 8 i text))
        ∙ ap (read_on v at i) (lead_append eight (drop (i + 8) text) digits)
        ∙ read_block eight behind v at i h digits
        ∙ ap₂ (λ (w : ℕ) (n : ℕ). read_on w at (i + n) behind) value_is long

  -- fewer are all that there are
  pub read_few : (read : EightDigits) → read ≡ eight_digits text i → read.count < 8 → read_on read.value i (i + read.count) [] ≡ digits_at text i
  unfolding eight_digits decimal
  read_few read e h =
      let lead : List ℕ = leading_digits eight in
      let few : length lead < 8 = omega (arith, ap (λ (d : EightDigits). d.count) e) in
      ap (λ (d : EightDigits). read_on d.value i (i + d.count) []) e
      ∙ sym (sym (read_start text i)
      ∙ ap (λ (l : List ℕ). read_on 0 i i (leading_digits l)) (from_drop i text)
      ∙ ap (read_on 0 i i) (lead_taken 8 (drop i text) few ∙ sym (append-nil lead))
      ∙ read_block lead [] 0 i i (omega arith) (lead_digits eight))

-- ---- what the first of many digits are

pub starts_none : (text : List ℕ) (at : ℕ) → at ≤ length text → StartsDigits text at 0 at
unfolding StartsDigits
starts_none text at h = (
  omega arith,
  h,
  omega arith,
  value_first at,
  ap (λ (l : List ℕ). read_on 0 at at (leading_digits l)) (sym (from_drop at text)) ∙ read_start text at,
)

module _ (text : List ℕ) (at : ℕ) (high low : EightDigits) (inside : at + 16 ≤ length text)
    (first : high ≡ eight_digits text at) (second : low ≡ eight_digits text (at + 8)) (full : eqb high.count 8 && eqb low.count 8 ≡ true) where
  both : (high.count ≡ 8) × (low.count ≡ 8)
  both =
      let t = and_both (eqb high.count 8) (eqb low.count 8) full in
      (eqb-true high.count 8 t.0, eqb-true low.count 8 t.1)

  first_full : (eight_digits text at).count ≡ 8
  first_full = ap (λ (e : EightDigits). e.count) (sym first) ∙ both.0

  second_full : (eight_digits text (at + 8)).count ≡ 8
  second_full = ap (λ (e : EightDigits). e.count) (sym second) ∙ both.1

  pub high_room : high.value < 100000000
  high_room = omega (arith, ap (λ (e : EightDigits). e.value) first, eight_room text at (omega arith) first_full)

  pub low_room : low.value < 100000000
  low_room = omega (arith, ap (λ (e : EightDigits). e.value) second, eight_room text (at + 8) (omega arith) second_full)

  pub starts_sixteen : StartsDigits text at (high.value * 100000000 + low.value) (at + 16)
  unfolding StartsDigits
  starts_sixteen =
      let h : ℕ = (eight_digits text at).value in
      let l : ℕ = (eight_digits text (at + 8)).value in
      let values : high.value * 100000000 + low.value ≡ h * 100000000 + l = ap₂ (λ (a b : EightDigits). a.value * 100000000 + b.value) first second in
      let end : at + 16 ≡ at + 8 + 8 = omega arith in
      let room : 10 ^ (at + 16 - at) ≡ 10000000000000000 = ap (λ (n : ℕ). 10 ^ n) (let e : at + 16 - at ≡ 16 = omega arith in e) in (
        omega arith,
        inside,
        omega arith,
        omega (arith, room, high_room, low_room),
        ap₂ (λ (v : ℕ) (e : ℕ). read_on v at e (leading_digits (drop e text))) values end
            ∙ sym (read_eight text (at + 8) (omega arith) second_full h at (omega arith))
            ∙ ap (λ (v : ℕ). read_on v at (at + 8) (leading_digits (drop (at + 8) text))) (let e : h ≡ 0 * 100000000 + h = omega arith in e)
            ∙ sym (read_eight text at (omega arith) first_full 0 at (omega arith))
            ∙ (starts_none text at (omega arith)).4,
      )
