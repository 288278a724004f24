-- Laws of the marks of eight bytes: 128 in each that is no digit. Assumes nothing.
use mathlib.Core.Path.{◌≡◌, refl, sym, ap, ap₂, ◌∙◌}
use mathlib.Core.Bool.{Bool, true, false, cond, ◌&&◌}
use mathlib.Core.List.{List, [], ◌∷◌, map}
use Prim.Native.Nat.{ℕ, zero, suc, ◌+◌, ◌*◌, ◌-◌, ◌%◌, ◌^◌, ◌<◌}
use native.Mathlib.Nat.{add-zero, zero-add, suc-add, mul-one}
use native.Mathlib.Decide.{dec_lt}
use native.Mathlib.Omega.{arith}
use borrow.Author.Tests.{eqb-true}
use lib.Bits.{bit_and, bit_or, bit_xor, and_block, or_block, xor_block, and_le_r, or_lt, xor_lt, shifted_half, shifted_even}
use lib.Count.{count_trailing_zeros, under}
use lib.Dec.{eqb}
use lib.ListN.{length, replicate}
use Rattle.base_blocks.specs.Lists.{all}
use Rattle.base_blocks.proofs.Lists.{and_both}
use Rattle.base_digits.specs.Packed.{packed}
use Rattle.event_text.specs.Eight.{marks_of}
use Rattle.base_digits.specs.Digits.{is_digit}
use Rattle.event_text.specs.Numbers.{leading_digits}
use Rattle.base_digits.proofs.Lanes.{Below, lanes}
use Rattle.event_text.proofs.Leading.{no_way}

-- ---- one byte, by a test of all of them

-- a byte without the bits of "0", and its mark
abbrev pub plain : ℕ → ℕ
plain b = bit_xor b 48

unfoldable mark_of : ℕ → ℕ
mark_of t = bit_and (bit_or (bit_and t 127 + 118) t) 128

abbrev pub mark : ℕ → ℕ
mark b = cond (is_digit b) 0 128

unfoldable every_below : (ℕ → Bool) → ℕ → Bool
every_below p zero = true
every_below p (suc n) = p n && every_below p n

every_at : (p : ℕ → Bool) (n : ℕ) → every_below p n ≡ true → (k : ℕ) → k < n → p k ≡ true
unfolding every_below
every_at p zero e k h = absurd (let y : ⊥ = omega arith in y)
every_at p (suc n) e k h = go (dec_lt k n) (and_both (p n) (every_below p n) e) (λ f. every_at p n f k)
  where
    go : Dec (k < n) → (p n ≡ true) × (every_below p n ≡ true) → (every_below p n ≡ true → k < n → p k ≡ true) → p k ≡ true
    go (yes q) f r = r f.1 q
    go (no q) f r = let s : k ≡ n = omega arith in ap p s ∙ f.0

abbrev right : ℕ → Bool
right b = eqb (mark_of (plain b)) (mark b) && cond (is_digit b) (eqb (plain b) (b - 48)) true

all_right : every_below right 256 ≡ true
unfolding every_below mark_of is_digit
all_right = refl

mark_is : (b : ℕ) → b < 2 ^ 8 → mark_of (plain b) ≡ mark b
mark_is b h =
    eqb-true (mark_of (plain b)) (mark b)
    (and_both (eqb (mark_of (plain b)) (mark b)) (cond (is_digit b) (eqb (plain b) (b - 48)) true) (every_at right 256 all_right b h)).0

pub plain_digit : (b : ℕ) → b < 2 ^ 8 → is_digit b ≡ true → plain b ≡ b - 48
plain_digit b h d =
    eqb-true (plain b) (b - 48)
    (ap (λ (t : Bool). cond t (eqb (plain b) (b - 48)) true) (sym d)
    ∙ (and_both (eqb (mark_of (plain b)) (mark b)) (cond (is_digit b) (eqb (plain b) (b - 48)) true) (every_at right 256 all_right b h)).1)

-- ---- eight bytes

abbrev pub Bytes : List ℕ → Type 0
Bytes bs = Below 8 (λ b. b) bs

pub below_by : (f : ℕ → ℕ) → ((b : ℕ) → b < 2 ^ 8 → f b < 2 ^ 8) → (bs : List ℕ) → Bytes bs → Below 8 f bs
below_by f h [] p = tt
below_by f h (b ∷ bs) p = (h b p.0, below_by f h bs p.1)

map_same : (f g : ℕ → ℕ) → ((b : ℕ) → b < 2 ^ 8 → f b ≡ g b) → (bs : List ℕ) → Bytes bs → map f bs ≡ map g bs
map_same f g h [] p = refl
map_same f g h (b ∷ bs) p = ap₂ (λ (x : ℕ) (xs : List ℕ). x ∷ xs) (h b p.0) (map_same f g h bs p.1)

pub map_itself : (bs : List ℕ) → map (λ b. b) bs ≡ bs
map_itself [] = refl
map_itself (b ∷ bs) = ap (λ (l : List ℕ). b ∷ l) (map_itself bs)

map_constant : (c : ℕ) (bs : List ℕ) → map (λ b. c) bs ≡ replicate (length bs) c
map_constant c [] = refl
map_constant c (b ∷ bs) = ap (λ (l : List ℕ). c ∷ l) (map_constant c bs)

-- the same number in each of eight
eight_times : (c : ℕ) (bs : List ℕ) → length bs ≡ 8 → packed 8 (map (λ b. c) bs) ≡ packed 8 (replicate 8 c)
eight_times c bs e = ap (packed 8) (map_constant c bs ∙ ap (λ (n : ℕ). replicate n c) e)

packed_sum : (f g : ℕ → ℕ) (bs : List ℕ) → packed 8 (map f bs) + packed 8 (map g bs) ≡ packed 8 (map (λ b. f b + g b) bs)
unfolding packed
packed_sum f g [] = refl
packed_sum f g (b ∷ bs) = let e = packed_sum f g bs in omega arith

module _ (bs : List ℕ) (eight : length bs ≡ 8) (bytes : Bytes bs) where
  pub plain_word : bit_xor (packed 8 bs) 3472328296227680304 ≡ packed 8 (map plain bs)
  unfolding packed
  plain_word =
      ap₂ bit_xor (sym (ap (packed 8) (map_itself bs))) (sym (eight_times 48 bs eight))
      ∙ lanes bit_xor xor_block refl 8 (λ b. b) (λ b. 48) bs bytes (below_by (λ b. 48) (λ b h. omega arith) bs bytes)

  low_word : bit_and (packed 8 (map plain bs)) 9187201950435737471 + 8536140394893047414 ≡ packed 8 (map (λ b. bit_and (plain b) 127 + 118) bs)
  unfolding packed
  low_word =
      ap₂ (λ (x y : ℕ). x + y)
      (ap (bit_and (packed 8 (map plain bs))) (sym (eight_times 127 bs eight))
      ∙ lanes bit_and and_block refl 8 plain (λ b. 127) bs (below_by plain (λ b h. xor_lt 8 b 48 h (omega arith)) bs bytes) (below_by (λ b. 127) (λ b h. omega arith) bs bytes))
      (sym (eight_times 118 bs eight))
      ∙ packed_sum (λ b. bit_and (plain b) 127) (λ b. 118) bs

  pub marks_word : marks_of (packed 8 (map plain bs)) ≡ packed 8 (map mark bs)
  unfolding packed marks_of mark_of
  marks_word =
      let low : (b : ℕ) → b < 2 ^ 8 → bit_and (plain b) 127 + 118 < 2 ^ 8 = λ b h. (let e = and_le_r (plain b) 127 in omega arith) in
      let digit : (b : ℕ) → b < 2 ^ 8 → plain b < 2 ^ 8 = λ b h. xor_lt 8 b 48 h (omega arith) in
      ap₂ (λ (x y : ℕ). bit_and (bit_or x (packed 8 (map plain bs))) y) low_word (sym (eight_times 128 bs eight))
      ∙ ap (λ (x : ℕ). bit_and x (packed 8 (map (λ b. 128) bs))) (lanes bit_or or_block refl 8 (λ b. bit_and (plain b) 127 + 118) plain bs (below_by (λ b. bit_and (plain b) 127 + 118) low bs bytes) (below_by plain digit bs bytes))
      ∙ lanes bit_and and_block refl 8 (λ b. bit_or (bit_and (plain b) 127 + 118) (plain b)) (λ b. 128) bs
      (below_by (λ b. bit_or (bit_and (plain b) 127 + 118) (plain b)) (λ b h. or_lt 8 (bit_and (plain b) 127 + 118) (plain b) (low b h) (digit b h)) bs bytes)
      (below_by (λ b. 128) (λ b h. omega arith) bs bytes)
      ∙ ap (packed 8) (map_same (λ b. mark_of (plain b)) mark mark_is bs bytes)

-- ---- the lowest mark

trailing_up : (k j a : ℕ) → count_trailing_zeros (k + j) (a * 2 ^ k) ≡ k + count_trailing_zeros j a
unfolding count_trailing_zeros
trailing_up zero j a = rw (zero-add j, mul-one a, zero-add (count_trailing_zeros j a))
trailing_up (suc k) j a =
    ap (λ (n : ℕ). count_trailing_zeros n (a * 2 ^ suc k)) (suc-add k j)
    ∙ ap₂ under (shifted_even a k) (ap (count_trailing_zeros (k + j)) (shifted_half a k) ∙ trailing_up k j a)
    ∙ sym (suc-add k (count_trailing_zeros j a))

trailing_odd : (j a : ℕ) → count_trailing_zeros (suc j) (a * 2 + 1) ≡ 0
unfolding count_trailing_zeros
trailing_odd j a = let e : (a * 2 + 1) % 2 ≡ 1 = omega arith in rw e

pub lowest_mark : (bs : List ℕ) → all is_digit bs ≡ false → count_trailing_zeros (length bs * 8) (packed 8 (map mark bs)) ≡ length (leading_digits bs) * 8 + 7
unfolding packed all leading_digits
lowest_mark [] e = no_way e
lowest_mark (b ∷ bs) e = go (is_digit b) refl e (lowest_mark bs)
  where
    go : (t : Bool) → is_digit b ≡ t → t && all is_digit bs ≡ false
        → (all is_digit bs ≡ false → count_trailing_zeros (length bs * 8) (packed 8 (map mark bs)) ≡ length (leading_digits bs) * 8 + 7)
        → count_trailing_zeros (suc (length bs) * 8) (packed 8 (map mark bs) * 2 ^ 8 + cond t 0 128) ≡ length (cond t (b ∷ leading_digits bs) []) * 8 + 7
    go true d f r =
        let n : suc (length bs) * 8 ≡ 8 + length bs * 8 = omega arith in
        let i = r f in
        ap₂ count_trailing_zeros n (add-zero (packed 8 (map mark bs) * 2 ^ 8)) ∙ trailing_up 8 (length bs * 8) (packed 8 (map mark bs)) ∙ omega arith
    go false d f r =
        let n : suc (length bs) * 8 ≡ 7 + suc (length bs * 8) = omega arith in
        let m : packed 8 (map mark bs) * 2 ^ 8 + 128 ≡ (packed 8 (map mark bs) * 2 + 1) * 2 ^ 7 = omega arith in
        ap₂ count_trailing_zeros n m ∙ trailing_up 7 (suc (length bs * 8)) (packed 8 (map mark bs) * 2 + 1)
        ∙ ap (λ (t : ℕ). 7 + t) (trailing_odd (length bs * 8) (packed 8 (map mark bs)))

pub no_mark : (bs : List ℕ) → packed 8 (map mark bs) ≡ 0 → all is_digit bs ≡ true
unfolding packed all
no_mark [] e = refl
no_mark (b ∷ bs) e = go (is_digit b) refl e (no_mark bs)
  where
    go : (t : Bool) → is_digit b ≡ t → packed 8 (map mark bs) * 2 ^ 8 + cond t 0 128 ≡ 0 → (packed 8 (map mark bs) ≡ 0 → all is_digit bs ≡ true) → t && all is_digit bs ≡ true
    go true d f r = r (omega arith)
    go false d f r = absurd (let y : ⊥ = omega arith in y)

pub all_unmarked : (bs : List ℕ) → all is_digit bs ≡ true → packed 8 (map mark bs) ≡ 0
unfolding packed all
all_unmarked [] e = refl
all_unmarked (b ∷ bs) e = go (is_digit b) refl e (all_unmarked bs)
  where
    go : (t : Bool) → is_digit b ≡ t → t && all is_digit bs ≡ true → (all is_digit bs ≡ true → packed 8 (map mark bs) ≡ 0) → packed 8 (map mark bs) * 2 ^ 8 + cond t 0 128 ≡ 0
    go true d f r = let e = r f in omega arith
    go false d f r = no_way (sym f)
