-- Laws of the number that eight digits are, worked out by twos, fours and eights. Assumes nothing.
use mathlib.Core.Path.{◌≡◌, refl, sym, ap, ◌∙◌, subst}
use mathlib.Core.List.{List, [], ◌∷◌, map}
use Prim.Native.Nat.{ℕ, zero, suc, ◌+◌, ◌*◌, ◌-◌, ◌/◌, ◌%◌, ◌^◌, ◌≤◌, ◌<◌}
use native.Mathlib.Omega.{arith}
use lib.Bits.{bit_and, and_mask}
use lib.ListN.{length, get_or}
use lib.Pow.{high, low}
use Rattle.base_blocks.proofs.Scans.{from, from_all, from_step, from_none}
use Rattle.base_digits.specs.Packed.{packed}
use Rattle.event_text.specs.Eight.{twos_of, fours_of, value_of}
use Rattle.base_digits.specs.Digits.{value, decimal}
use Rattle.base_digits.proofs.Lanes.{halves}

twos_are : (a b c d e f g h : ℕ) → a ≤ 9 → b ≤ 9 → c ≤ 9 → d ≤ 9 → e ≤ 9 → f ≤ 9 → g ≤ 9 → h ≤ 9
    → twos_of (packed 8 (a ∷ b ∷ c ∷ d ∷ e ∷ f ∷ g ∷ h ∷ [])) ≡ packed 16 ((a * 10 + b) ∷ (c * 10 + d) ∷ (e * 10 + f) ∷ (g * 10 + h) ∷ [])
unfolding packed twos_of
twos_are a b c d e f g h ha hb hc hd he hf hg hh =
    let r₀ : ℕ = (b * 10 + c) * 256 + (a * 10 + b) in
    let r₁ : ℕ = (d * 10 + e) * 256 + (c * 10 + d) in
    let r₂ : ℕ = (f * 10 + g) * 256 + (e * 10 + f) in
    let r₃ : ℕ = h * 10 * 256 + (g * 10 + h) in
    let w : ℕ = packed 8 (a ∷ b ∷ c ∷ d ∷ e ∷ f ∷ g ∷ h ∷ []) in
    let s : w * 10 + w / 2 ^ 8 ≡ packed 16 (r₀ ∷ r₁ ∷ r₂ ∷ r₃ ∷ []) = omega arith in
    ap (λ (x : ℕ). bit_and x 71777214294589695) s
    ∙ halves 16 8 (r₀ ∷ r₁ ∷ r₂ ∷ r₃ ∷ []) (omega arith, (omega arith, (omega arith, (omega arith, tt)))) (omega arith, (omega arith, (omega arith, (omega arith, tt))))
    ∙ (λ i. packed 16 (
    low (b * 10 + c) 8 {lo = a * 10 + b} (omega arith) i
    ∷ low (d * 10 + e) 8 {lo = c * 10 + d} (omega arith) i
    ∷ low (f * 10 + g) 8 {lo = e * 10 + f} (omega arith) i
    ∷ low (h * 10) 8 {lo = g * 10 + h} (omega arith) i
    ∷ []))

fours_are : (a b c d : ℕ) → a ≤ 99 → b ≤ 99 → c ≤ 99 → d ≤ 99 → fours_of (packed 16 (a ∷ b ∷ c ∷ d ∷ [])) ≡ packed 32 ((a * 100 + b) ∷ (c * 100 + d) ∷ [])
unfolding packed fours_of
fours_are a b c d ha hb hc hd =
    let r₀ : ℕ = (b * 100 + c) * 65536 + (a * 100 + b) in
    let r₁ : ℕ = d * 100 * 65536 + (c * 100 + d) in
    let w : ℕ = packed 16 (a ∷ b ∷ c ∷ d ∷ []) in
    let s : w * 100 + w / 2 ^ 16 ≡ packed 32 (r₀ ∷ r₁ ∷ []) = omega arith in
    ap (λ (x : ℕ). bit_and x 281470681808895) s
    ∙ halves 32 16 (r₀ ∷ r₁ ∷ []) (omega arith, (omega arith, tt)) (omega arith, (omega arith, tt))
    ∙ (λ i. packed 32 (low (b * 100 + c) 16 {lo = a * 100 + b} (omega arith) i ∷ low (d * 100) 16 {lo = c * 100 + d} (omega arith) i ∷ []))

eight_is : (a b : ℕ) → a ≤ 9999 → b ≤ 9999 → bit_and (packed 32 (a ∷ b ∷ []) * 10000 + packed 32 (a ∷ b ∷ []) / 2 ^ 32) 4294967295 ≡ a * 10000 + b
unfolding packed
eight_is a b ha hb =
    let w : ℕ = packed 32 (a ∷ b ∷ []) in
    let e : w ≡ b * 2 ^ 32 + a = omega arith in
    let q : w / 2 ^ 32 ≡ b = ap (λ (x : ℕ). x / 2 ^ 32) e ∙ high b 32 (omega arith) in
    let s : w * 10000 + w / 2 ^ 32 ≡ b * 10000 * 2 ^ 32 + (a * 10000 + b) = omega (arith, e, q) in
    and_mask (w * 10000 + w / 2 ^ 32) 32 ∙ ap (λ (x : ℕ). x % 2 ^ 32) s ∙ low (b * 10000) 32 (omega arith)

-- what twos and fours make is what digit after digit makes
digit_by_digit : (a b c d e f g h : ℕ)
    → ((a * 10 + b) * 100 + (c * 10 + d)) * 10000 + ((e * 10 + f) * 100 + (g * 10 + h))
    ≡ (((((((0 * 10 + a) * 10 + b) * 10 + c) * 10 + d) * 10 + e) * 10 + f) * 10 + g) * 10 + h
digit_by_digit a b c d e f g h = omega arith

value_is : (a b c d e f g h : ℕ) → a ≤ 9 → b ≤ 9 → c ≤ 9 → d ≤ 9 → e ≤ 9 → f ≤ 9 → g ≤ 9 → h ≤ 9
    → value_of (packed 8 (a ∷ b ∷ c ∷ d ∷ e ∷ f ∷ g ∷ h ∷ []))
    ≡ (((((((0 * 10 + a) * 10 + b) * 10 + c) * 10 + d) * 10 + e) * 10 + f) * 10 + g) * 10 + h
unfolding value_of
value_is a b c d e f g h ha hb hc hd he hf hg hh =
    let fours =
    ap fours_of (twos_are a b c d e f g h ha hb hc hd he hf hg hh)
    ∙ fours_are (a * 10 + b) (c * 10 + d) (e * 10 + f) (g * 10 + h) (omega arith) (omega arith) (omega arith) (omega arith)
    in
    ap (λ (x : ℕ). bit_and (x * 10000 + x / 2 ^ 32) 4294967295) fours
    ∙ eight_is ((a * 10 + b) * 100 + (c * 10 + d)) ((e * 10 + f) * 100 + (g * 10 + h)) (omega arith) (omega arith)
    ∙ digit_by_digit a b c d e f g h

room : (a b c d e f g h : ℕ) → a ≤ 9 → b ≤ 9 → c ≤ 9 → d ≤ 9 → e ≤ 9 → f ≤ 9 → g ≤ 9 → h ≤ 9
    → packed 8 (a ∷ b ∷ c ∷ d ∷ e ∷ f ∷ g ∷ h ∷ []) ≤ 651061555542690057
unfolding packed
room a b c d e f g h ha hb hc hd he hf hg hh = omega arith

-- ---- eight digits as bytes

-- each is a digit
abbrev pub Digits : List ℕ → Type 0
Digits [] = Unit {0}
Digits (b ∷ bs) = (b - 48 ≤ 9) × Digits bs

digit_of : (bs : List ℕ) → Digits bs → (i : ℕ) → get_or bs i 0 - 48 ≤ 9
digit_of [] p i = omega arith
digit_of (b ∷ bs) p zero = p.0
digit_of (b ∷ bs) p (suc i) = digit_of bs p.1 i

eight_are : (l : List ℕ) → length l ≡ 8
    → l ≡ get_or l 0 0 ∷ get_or l 1 0 ∷ get_or l 2 0 ∷ get_or l 3 0 ∷ get_or l 4 0 ∷ get_or l 5 0 ∷ get_or l 6 0 ∷ get_or l 7 0 ∷ []
eight_are l e =
    sym (from_all l)
    ∙ step 0 1 refl (omega arith) (step 1 2 refl (omega arith) (step 2 3 refl (omega arith) (step 3 4 refl (omega arith)
    (step 4 5 refl (omega arith) (step 5 6 refl (omega arith) (step 6 7 refl (omega arith) (step 7 8 refl (omega arith) (from_none 8 l (omega arith)))))))))
  where
    -- the one at i, and those after it
    step : (i j : ℕ) {t : List ℕ} → i + 1 ≡ j → i < 8 → from j l ≡ t → from i l ≡ get_or l i 0 ∷ t
    step i j p h q = from_step i j l p (omega arith) ∙ ap (λ (s : List ℕ). get_or l i 0 ∷ s) q

abbrev pub digits_in : List ℕ → ℕ
digits_in bs = packed 8 (map (λ b. b - 48) bs)

module _ (bs : List ℕ) (eight : length bs ≡ 8) (digits : Digits bs) where
  at : (i : ℕ) → get_or bs i 0 - 48 ≤ 9
  at = digit_of bs digits

  pub value_eight : value_of (digits_in bs) ≡ decimal bs
  unfolding value decimal
  value_eight =
      ap (λ (l : List ℕ). value_of (digits_in l)) (eight_are bs eight)
      ∙ value_is (get_or bs 0 0 - 48) (get_or bs 1 0 - 48) (get_or bs 2 0 - 48) (get_or bs 3 0 - 48) (get_or bs 4 0 - 48) (get_or bs 5 0 - 48) (get_or bs 6 0 - 48) (get_or bs 7 0 - 48)
      (at 0) (at 1) (at 2) (at 3) (at 4) (at 5) (at 6) (at 7)
      ∙ sym (ap decimal (eight_are bs eight))

  pub room_eight : digits_in bs ≤ 651061555542690057
  room_eight =
      subst (λ (l : List ℕ). digits_in l ≤ 651061555542690057) (sym (eight_are bs eight))
      (room (get_or bs 0 0 - 48) (get_or bs 1 0 - 48) (get_or bs 2 0 - 48) (get_or bs 3 0 - 48) (get_or bs 4 0 - 48) (get_or bs 5 0 - 48) (get_or bs 6 0 - 48) (get_or bs 7 0 - 48)
      (at 0) (at 1) (at 2) (at 3) (at 4) (at 5) (at 6) (at 7))
