-- Laws of the digits that eight bytes start with: the lowest mark says how many there are, and moved up to the end they are the number. Assumes nothing.
use mathlib.Core.Path.{◌≡◌, refl, sym, ap, ap₂, ◌∙◌, subst}
use mathlib.Core.Bool.{Bool, true, false, cond}
use mathlib.Core.List.{List, [], ◌∷◌, ◌++◌, map, map-append}
use Prim.Native.Nat.{ℕ, zero, suc, ◌+◌, ◌*◌, ◌-◌, ◌%◌, ◌^◌, ◌≤◌, ◌<◌}
use native.Mathlib.Nat.{min-le_left, lt_of_lt_of_le}
use native.Mathlib.Omega.{arith}
use lib.Bits.{bit_xor}
use lib.Count.{count_trailing_zeros, trailing_le}
use lib.Pow.{pow_mono}
use lib.ListN.{length, take, drop, get_or, replicate, length-take, length-drop, length-append, length-map, length-replicate}
use lib.Seq.{length-take-le, get_or-drop, drop-drop, take-add}
use Rattle.base_blocks.specs.Lists.{all}
use Rattle.base_blocks.proofs.Lists.{not_passed}
use Rattle.base_blocks.proofs.Scans.{four_read}
use Rattle.base_digits.specs.Packed.{packed}
use Rattle.event_text.specs.Eight.{marks_of, value_of, eight_digits}
use Rattle.base_digits.specs.Digits.{is_digit, value, decimal}
use Rattle.event_text.specs.Numbers.{leading_digits}
use Rattle.event_text.proofs.DigitBlocks.{digit_small, lead_all}
use Rattle.base_digits.proofs.Lanes.{packed_below, packed_append, packed_zeros, moved_up}
use Rattle.event_text.proofs.Marks.{plain, plain_digit, mark, Bytes, below_by, map_itself, plain_word, marks_word, lowest_mark, no_mark, all_unmarked}
use Rattle.event_text.proofs.EightValues.{Digits, digits_in, value_eight, room_eight}

-- ---- bytes of a text

pub four_packed : (s : List ℕ) (at a b c d : ℕ) → at + 4 ≤ length s
    → a ≡ get_or s at 0 → b ≡ get_or s (at + 1) 0 → c ≡ get_or s (at + 2) 0 → d ≡ get_or s (at + 3) 0
    → a + b * 256 + c * 65536 + d * 16777216 ≡ packed 8 (take 4 (drop at s))
unfolding packed
four_packed s at a b c d h p q r t =
    let e : packed 8 (get_or s at 0 ∷ get_or s (at + 1) 0 ∷ get_or s (at + 2) 0 ∷ get_or s (at + 3) 0 ∷ []) ≡ packed 8 (take 4 (drop at s)) = sym (ap (packed 8) (four_read at s h)) in
    omega (arith, p, q, r, t) ∙ e

bytes_taken : (n : ℕ) (s : List ℕ) → ((i : ℕ) → get_or s i 0 < 2 ^ 8) → Bytes (take n s)
bytes_taken zero s h = tt
bytes_taken (suc n) [] h = tt
bytes_taken (suc n) (b ∷ bs) h = (h 0, bytes_taken n bs (λ i. h (suc i)))

pub bytes_of : (text : List ℕ) (n at : ℕ) → ((i : ℕ) → get_or text i 0 < 2 ^ 8) → Bytes (take n (drop at text))
bytes_of text n at h = bytes_taken n (drop at text) (λ i. subst (λ (x : ℕ). x < 2 ^ 8) (sym (get_or-drop at text i 0)) (h (at + i)))

pub four_room : (text : List ℕ) (at : ℕ) → ((i : ℕ) → get_or text i 0 < 2 ^ 8) → packed 8 (take 4 (drop at text)) < 4294967296
four_room text at h =
    let four = take 4 (drop at text) in
    let n : length four ≤ 4 = omega (arith, length-take 4 (drop at text), min-le_left 4 (length (drop at text))) in
    lt_of_lt_of_le (subst (λ (l : List ℕ). packed 8 l < 2 ^ (length four * 8)) (map_itself four) (packed_below 8 (λ b. b) four (bytes_of text 4 at h))) (pow_mono {j = 32} (omega arith))

-- the eight from `at` on are four, and four
pub eight_packed : (s : List ℕ) (at : ℕ) → at + 8 ≤ length s
    → packed 8 (take 4 (drop at s)) + packed 8 (take 4 (drop (at + 4) s)) * 4294967296 ≡ packed 8 (take 8 (drop at s))
eight_packed s at h =
    let n : length (take 4 (drop at s)) ≡ 4 = length-take-le 4 (drop at s) (omega (arith, length-drop at s)) in
    let two : take 8 (drop at s) ≡ take 4 (drop at s) ++ take 4 (drop (at + 4) s) = take-add 4 4 (drop at s) ∙ ap (λ (l : List ℕ). take 4 (drop at s) ++ take 4 l) (drop-drop 4 at s) in
    let e = ap (packed 8) two ∙ packed_append 8 (take 4 (drop at s)) (take 4 (drop (at + 4) s)) ∙ ap (λ (k : ℕ). packed 8 (take 4 (drop (at + 4) s)) * 2 ^ (k * 8) + packed 8 (take 4 (drop at s))) n in
    omega (arith, e)

-- ---- the digits in front

-- what stands after them
unfoldable behind_digits : List ℕ → List ℕ
behind_digits [] = []
behind_digits (b ∷ bs) = cond (is_digit b) (behind_digits bs) (b ∷ bs)

lead_split : (bs : List ℕ) → bs ≡ leading_digits bs ++ behind_digits bs
unfolding leading_digits behind_digits
lead_split [] = refl
lead_split (b ∷ bs) = go (is_digit b) (lead_split bs)
  where
    go : (t : Bool) → bs ≡ leading_digits bs ++ behind_digits bs → b ∷ bs ≡ cond t (b ∷ leading_digits bs) [] ++ cond t (behind_digits bs) (b ∷ bs)
    go true e = ap (λ (l : List ℕ). b ∷ l) e
    go false e = refl

-- what is known of each of them
record Lead (l : List ℕ) : Type 0 where
  digits : Digits l
  bytes : Bytes l
  same : map plain l ≡ map (λ b. b - 48) l

lead_known : (bs : List ℕ) → Bytes bs → Lead (leading_digits bs)
unfolding leading_digits
lead_known [] p = record { digits = tt; bytes = tt; same = refl }
lead_known (b ∷ bs) p = go (is_digit b) refl (lead_known bs p.1)
  where
    go : (t : Bool) → is_digit b ≡ t → Lead (leading_digits bs) → Lead (cond t (b ∷ leading_digits bs) [])
    go true d k = record {
      digits = (digit_small b d, k.digits);
      bytes = (p.0, k.bytes);
      same = ap₂ (λ (x : ℕ) (l : List ℕ). x ∷ l) (plain_digit b p.0 d) k.same;
    }
    go false d k = record { digits = tt; bytes = tt; same = refl }

-- ---- zeros before digits

zeros_digits : (j : ℕ) (l : List ℕ) → Digits l → Digits (replicate j 48 ++ l)
zeros_digits zero l p = p
zeros_digits (suc j) l p = (omega arith, zeros_digits j l p)

zeros_worth : (j : ℕ) (l : List ℕ) → decimal (replicate j 48 ++ l) ≡ decimal l
unfolding decimal value
zeros_worth zero l = refl
zeros_worth (suc j) l = zeros_worth j l

zeros_packed : (j : ℕ) (l : List ℕ) → digits_in (replicate j 48 ++ l) ≡ digits_in l * 2 ^ (j * 8)
zeros_packed j l = ap (packed 8) (go j) ∙ packed_zeros 8 j (map (λ b. b - 48) l)
  where
    go : (n : ℕ) → map (λ b. b - 48) (replicate n 48 ++ l) ≡ replicate n 0 ++ map (λ b. b - 48) l
    go zero = refl
    go (suc n) = ap (λ (s : List ℕ). 0 ∷ s) (go n)

-- ---- the eight bytes from `at` on

-- loaded as the number b, with the marks m
module _ (text : List ℕ) (at b m : ℕ) (inside : at + 8 ≤ length text) (bytes : (i : ℕ) → get_or text i 0 < 2 ^ 8)
    (loaded : b ≡ packed 8 (take 8 (drop at text))) (marks : m ≡ marks_of (bit_xor b 3472328296227680304)) where
  abbrev eight : List ℕ
  eight = take 8 (drop at text)

  abbrev lead : List ℕ
  lead = leading_digits eight

  abbrev word : ℕ
  word = bit_xor b 3472328296227680304

  long : length eight ≡ 8
  long = length-take-le 8 (drop at text) (omega (arith, length-drop at text))

  known : Bytes eight
  known = bytes_of text 8 at bytes

  plainly : word ≡ packed 8 (map plain eight)
  plainly = ap (λ (x : ℕ). bit_xor x 3472328296227680304) loaded ∙ plain_word eight long known

  marked : m ≡ packed 8 (map mark eight)
  marked = marks ∙ ap marks_of plainly ∙ marks_word eight long known

  -- all are digits
  module _ (none : m ≡ 0) where
    whole : lead ≡ eight
    whole = lead_all eight (no_mark eight (sym marked ∙ none))

    digits : Lead eight
    digits = subst Lead whole (lead_known eight known)

    word_is : word ≡ digits_in eight
    word_is = plainly ∙ ap (packed 8) digits.same

    pub whole_room : word ≤ 651061555542690057
    whole_room = omega (arith, word_is, room_eight eight long digits.digits)

    pub whole_read : (v : ℕ) → v ≡ value_of word → record { count = 8; value = v } ≡ eight_digits text at
    unfolding eight_digits
    whole_read v e =
        let n : 8 ≡ length lead = sym (ap length whole ∙ long) in
        let w : v ≡ decimal lead = e ∙ ap value_of word_is ∙ value_eight eight long digits.digits ∙ sym (ap decimal whole) in
        λ i. record { count = n i; value = w i }

  -- one is none
  module _ (some : m ≡ 0 → ⊥) where
    pub lowest : count_trailing_zeros 64 (m) ≡ length lead * 8 + 7
    lowest =
        let e = not_passed (all is_digit eight) (λ f. some (marked ∙ all_unmarked eight f)) in
        let n : 64 ≡ length eight * 8 = omega (arith, long) in
        ap₂ count_trailing_zeros n marked ∙ lowest_mark eight e

    pub few : length lead ≤ 7
    few = omega (arith, lowest, trailing_le 64 (m))

    -- with "0" in front of them there are eight
    abbrev padded : List ℕ
    padded = replicate (8 - length lead) 48 ++ lead

    padded_long : length padded ≡ 8
    padded_long = omega (arith, few, length-append (replicate (8 - length lead) 48) lead, length-replicate {A = ℕ} (8 - length lead) 48)

    padded_digits : Digits padded
    padded_digits = zeros_digits (8 - length lead) lead (lead_known eight known).digits

    -- moved up, so that the last of them stands last, they are these
    moved : (s : ℕ) → s ≡ 64 - length lead * 8 → word * 2 ^ s % 2 ^ 64 ≡ digits_in padded
    moved s e =
        let l = lead_known eight known in
        let k = length lead in
        let up : s ≡ (8 - k) * 8 = omega (arith, few, e) in
        let split : word ≡ packed 8 (map plain (behind_digits eight)) * 2 ^ (k * 8) + digits_in lead =
        plainly
        ∙ ap (λ (b : List ℕ). packed 8 (map plain b)) (lead_split eight)
        ∙ ap (packed 8) (map-append plain lead (behind_digits eight))
        ∙ packed_append 8 (map plain lead) (map plain (behind_digits eight))
        ∙ ap₂ (λ (n : ℕ) (m : ℕ). packed 8 (map plain (behind_digits eight)) * 2 ^ (n * 8) + m) (length-map lead plain) (ap (packed 8) l.same)
        in
        ap₂ (λ (w : ℕ) (n : ℕ). w * 2 ^ n % 2 ^ 64) split up
        ∙ moved_up 64 8 k (8 - k) (packed 8 (map plain (behind_digits eight))) (digits_in lead) (packed_below 8 (λ b. b - 48) lead (below_by (λ b. b - 48) (λ b h. omega arith) lead l.bytes)) (omega (arith, few))
        ∙ sym (zeros_packed (8 - k) lead)

    pub moved_room : (s : ℕ) → s ≡ 64 - length lead * 8 → word * 2 ^ s % 2 ^ 64 ≤ 651061555542690057
    moved_room s e = omega (arith, moved s e, room_eight padded padded_long padded_digits)

    pub moved_read : (s v n : ℕ) → s ≡ 64 - length lead * 8 → v ≡ value_of (word * 2 ^ s % 2 ^ 64) → n ≡ length lead → record { count = n; value = v } ≡ eight_digits text at
    unfolding eight_digits
    moved_read s v n e f g =
        let w : v ≡ decimal lead = f ∙ ap value_of (moved s e) ∙ value_eight padded padded_long padded_digits ∙ zeros_worth (8 - length lead) lead in
        λ i. record { count = g i; value = w i }

    -- there is none
    pub none_read : length lead ≡ 0 → record { count = 0; value = 0 } ≡ eight_digits text at
    unfolding eight_digits decimal value
    none_read e = let w : 0 ≡ decimal lead = sym (ap decimal (empty lead e)) in λ i. record { count = sym e i; value = w i }
      where
        empty : (l : List ℕ) → length l ≡ 0 → l ≡ []
        empty [] z = refl
        empty (b ∷ bs) z = absurd (let y : ⊥ = omega arith in y)
