-- Laws of the highest bit of a number or of a difference, by which one that passes a bound is told. Assumes nothing.
use Rattle.std.proofs.Common.{◌≡◌, ℕ, ◌+◌, ◌%◌, ◌^◌, ◌<◌, ◌≤◌, Bool, true, false, ◌&&◌, ltb, leb, List, [], ◌∷◌, ◌++◌, length, get_or, take, drop, sym, refl, ap, ◌∙◌, ap₂, add-one, arith, length-drop, get_or-drop, take-suc, le-ltb, lt-ltb, le-leb}
use native.Mathlib.Decide.{dec_lt, dec_le}
use borrow.Author.Tests.{lt-leb}
use lib.Bits.{bit_or, or_lt, or_add_and, and_le_l, and_le_r}
use Rattle.base_blocks.specs.Lists.{all}
use Rattle.base_blocks.specs.Blocks.{at_most}
use Rattle.base_blocks.proofs.Lists.{all_append}

or_left : (a b : ℕ) → a ≤ bit_or a b
or_left a b = let e = or_add_and a b in let h = and_le_r a b in omega arith

or_right : (a b : ℕ) → b ≤ bit_or a b
or_right a b = let e = or_add_and a b in let h = and_le_l a b in omega arith

-- neither has the bit
pub or_below : (a b : ℕ) → ltb (bit_or a b) (2 ^ 63) ≡ ltb a (2 ^ 63) && ltb b (2 ^ 63)
or_below a b = go (dec_lt a (2 ^ 63)) (dec_lt b (2 ^ 63))
  where
    go : Dec (a < 2 ^ 63) → Dec (b < 2 ^ 63) → ltb (bit_or a b) (2 ^ 63) ≡ ltb a (2 ^ 63) && ltb b (2 ^ 63)
    go (yes p) (yes q) = lt-ltb (bit_or a b) (2 ^ 63) (or_lt 63 a b p q) ∙ sym (ap₂ (λ (x y : Bool). x && y) (lt-ltb a (2 ^ 63) p) (lt-ltb b (2 ^ 63) q))
    go (yes p) (no q) =
        let r = or_right a b in
        le-ltb (bit_or a b) (2 ^ 63) (omega arith) ∙ sym (ap₂ (λ (x y : Bool). x && y) (lt-ltb a (2 ^ 63) p) (le-ltb b (2 ^ 63) (omega arith)))
    go (no p) q =
        let r = or_left a b in
        le-ltb (bit_or a b) (2 ^ 63) (omega arith) ∙ sym (ap (λ (x : Bool). x && ltb b (2 ^ 63)) (le-ltb a (2 ^ 63) (omega arith)))

-- w is b less x, wrapped around
pub past_bit : (x b w : ℕ) → x < 2 ^ 64 → w < 2 ^ 64 → b < 2 ^ 63 → (w + x) % 2 ^ 64 ≡ b → ltb (bit_or x w) (2 ^ 63) ≡ at_most b x
unfolding at_most
past_bit x b w hx hw hb e = or_below x w ∙ go (dec_le x b)
  where
    -- x has the bit, or the difference wrapped around
    passed : Dec (x < 2 ^ 63) → (x ≤ b → ⊥) → ltb x (2 ^ 63) && ltb w (2 ^ 63) ≡ false
    passed (yes q) p = ap₂ (λ (s t : Bool). s && t) (lt-ltb x (2 ^ 63) q) (le-ltb w (2 ^ 63) (omega arith))
    passed (no q) p = ap (λ (s : Bool). s && ltb w (2 ^ 63)) (le-ltb x (2 ^ 63) (omega arith))

    go : Dec (x ≤ b) → ltb x (2 ^ 63) && ltb w (2 ^ 63) ≡ leb x b
    go (yes p) = ap₂ (λ (s t : Bool). s && t) (lt-ltb x (2 ^ 63) (omega arith)) (lt-ltb w (2 ^ 63) (omega arith)) ∙ sym (le-leb x b p)
    go (no p) = passed (dec_lt x (2 ^ 63)) p ∙ sym (lt-leb x b (omega arith))

-- one number more
pub past_more : (s : List ℕ) (from k b bits p : ℕ) → from + k < length s → ltb bits (2 ^ 63) ≡ all (at_most b) (take k (drop from s))
    → ltb p (2 ^ 63) ≡ at_most b (get_or s (from + k) 0) → ltb (bit_or bits p) (2 ^ 63) ≡ all (at_most b) (take (k + 1) (drop from s))
unfolding all
past_more s from k b bits p h e f =
    let l : List ℕ = drop from s in
    let next : take (k + 1) l ≡ take k l ++ (get_or s (from + k) 0 ∷ []) =
    ap (λ (n : ℕ). take n l) (add-one k) ∙ take-suc l k 0 (omega (arith, length-drop from s)) ∙ ap (λ (x : ℕ). take k l ++ (x ∷ [])) (get_or-drop from s k 0)
    in
    or_below bits p ∙ ap₂ (λ (x y : Bool). x && y) e f
    ∙ sym (ap (all (at_most b)) next ∙ all_append (at_most b) (take k l) (get_or s (from + k) 0 ∷ []) ∙ ap (λ (t : Bool). all (at_most b) (take k l) && t) (alone (at_most b (get_or s (from + k) 0))))
  where
    alone : (t : Bool) → t && true ≡ t
    alone true = refl
    alone false = refl
