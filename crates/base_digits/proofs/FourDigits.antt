-- Laws of four digits made at once. Assumes nothing.
use mathlib.Core.Path.{◌≡◌, sym, ap, ap₂, ◌∙◌, subst}
use mathlib.Core.List.{List, [], ◌∷◌}
use Prim.Native.Nat.{ℕ, ◌+◌, ◌*◌, ◌-◌, ◌/◌, ◌%◌, ◌^◌, ◌<◌}
use native.Mathlib.Omega.{arith}
use lib.Bits.{bit_and}
use lib.Dec.{lit<}
use lib.ListN.{set}
use lib.Seq.{sets}
use Rattle.base_digits.specs.Packed.{packed}
use Rattle.base_digits.specs.Digits.{last_digits}
use Rattle.base_digits.proofs.Lanes.{halves}
use Rattle.base_digits.proofs.ShortNumbers.{four_last}

-- a tenth of a number below 100
tenth : (q : ℕ) → q < 100 → q * 103 / 1024 ≡ q / 10
tenth q h = omega arith

-- what stands above sixteen is gone
low_bits : (r a : ℕ) → a < 16 → (r * 6592 % 65536 + a) % 16 ≡ a
low_bits r a h = omega arith

low_room : (r a : ℕ) → a < 16 → r * 6592 % 65536 + a < 2 ^ 16
low_room r a h = omega arith

high_room : (r : ℕ) → r < 100 → r * 6592 / 65536 < 2 ^ 16
high_room r h = omega arith

small : (x : ℕ) → x < 16 → x % 16 ≡ x
small x h = omega arith

below_ten : (r : ℕ) → r < 100 → r / 10 < 16
below_ten r h = omega arith

turned : (x y : ℕ) → (0 * 65536 + x) * 65536 + y ≡ y + x * 65536
turned x y = omega arith

-- of two at once, in sixteen bits each
tens_are : (q r : ℕ) → q < 100 → r < 100 → bit_and ((q + r * 65536) * 103 / 1024) 983055 ≡ q / 10 + r / 10 * 65536
unfolding packed
tens_are q r h k =
    let a : ℕ = q * 103 / 1024 in
    let low : ℕ = r * 6592 % 65536 in
    let first = tenth q h in
    let second = tenth r k in
    let up : r * 6592 / 65536 ≡ r / 10 = omega (arith, second) in
    let s : (q + r * 65536) * 103 / 1024 ≡ packed 16 ((low + a) ∷ (r * 6592 / 65536) ∷ []) = omega arith in
    let few : a < 16 = subst (λ (x : ℕ). x < 16) (sym first) (below_ten q h) in
    let one : (low + a) % 16 ≡ q / 10 = low_bits r a few ∙ first in
    let two : r * 6592 / 65536 % 16 ≡ r / 10 = ap (λ (x : ℕ). x % 16) up ∙ small (r / 10) (below_ten r k) in
    ap (λ (x : ℕ). bit_and x 983055) s
    ∙ halves 16 4 ((low + a) ∷ (r * 6592 / 65536) ∷ []) (low_room r a few, (high_room r k, tt)) (lit< tt, (lit< tt, tt))
    ∙ ap₂ (λ (x y : ℕ). (0 * 65536 + x) * 65536 + y) two one ∙ turned (r / 10) (q / 10)

pub tens_of : (n : ℕ) → n < 10000 → bit_and ((n / 100 + (n - n / 100 * 100) * 65536) * 103 / 1024) 983055 ≡ n / 100 / 10 + (n - n / 100 * 100) / 10 * 65536
tens_of n h = tens_are (n / 100) (n - n / 100 * 100) (omega arith) (omega arith)

-- thousands a, hundreds b, tens c and ones d
laid_out : (a b c d t : ℕ) → t ≡ a + c * 65536
    → t + (a * 10 + b + (c * 10 + d) * 65536 - t * 10) * 256 + 808464432 ≡ packed 8 ((48 + a) ∷ (48 + b) ∷ (48 + c) ∷ (48 + d) ∷ [])
unfolding packed
laid_out a b c d t e = omega arith

pub four_are : (n t : ℕ) → n < 10000 → t ≡ n / 100 / 10 + (n - n / 100 * 100) / 10 * 65536
    → t + (n / 100 + (n - n / 100 * 100) * 65536 - t * 10) * 256 + 808464432 ≡ packed 8 (last_digits 4 n)
unfolding last_digits
four_are n t h e =
    let a : n / 10 / 10 / 10 % 10 ≡ n / 100 / 10 = omega arith in
    let b : n / 10 / 10 % 10 ≡ n / 100 % 10 = omega arith in
    let c : n / 10 % 10 ≡ (n - n / 100 * 100) / 10 = omega arith in
    let q : n / 100 ≡ n / 10 / 10 / 10 % 10 * 10 + n / 10 / 10 % 10 = omega arith in
    let r : n - n / 100 * 100 ≡ n / 10 % 10 * 10 + n % 10 = omega arith in
    let s : t ≡ n / 10 / 10 / 10 % 10 + n / 10 % 10 * 65536 = e ∙ ap₂ (λ (x y : ℕ). x + y * 65536) (sym a) (sym c) in
    ap₂ (λ (x y : ℕ). t + (x + y * 65536 - t * 10) * 256 + 808464432) q r
    ∙ laid_out (n / 10 / 10 / 10 % 10) (n / 10 / 10 % 10) (n / 10 % 10) (n % 10) t s

-- ---- stored byte by byte

bytes_are : (w a b c d : ℕ) → w ≡ packed 8 (a ∷ b ∷ c ∷ d ∷ []) → a < 256 → b < 256 → c < 256 → d < 256
    → (w % 256 ≡ a) × (w / 256 % 256 ≡ b) × (w / 65536 % 256 ≡ c) × (w / 16777216 % 256 ≡ d)
unfolding packed
bytes_are w a b c d e h i j k = (omega arith, omega arith, omega arith, omega arith)

digit_byte : (n : ℕ) → 48 + n % 10 < 256
digit_byte n = omega arith

pub four_stored : (l : List ℕ) (at n w : ℕ) → w ≡ packed 8 (last_digits 4 n)
    → set (set (set (set l at (w % 256)) (at + 1) (w / 256 % 256)) (at + 2) (w / 65536 % 256)) (at + 3) (w / 16777216 % 256) ≡ sets l at (last_digits 4 n)
unfolding last_digits
four_stored l at n w e =
    let b = bytes_are w (48 + n / 10 / 10 / 10 % 10) (48 + n / 10 / 10 % 10) (48 + n / 10 % 10) (48 + n % 10) e
    (digit_byte (n / 10 / 10 / 10)) (digit_byte (n / 10 / 10)) (digit_byte (n / 10)) (digit_byte n) in
    four_last l at n (w % 256) (w / 256 % 256) (w / 65536 % 256) (w / 16777216 % 256) b.0 b.1 b.2 b.3
