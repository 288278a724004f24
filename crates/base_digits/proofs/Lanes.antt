-- Laws of numbers packed into one: operations on bits go number by number. Assumes nothing.
use mathlib.Core.Path.{◌≡◌, refl, sym, ap, ap₂, ◌∙◌, subst}
use mathlib.Core.List.{List, [], ◌∷◌, ◌++◌, map}
use Prim.Native.Nat.{ℕ, zero, suc, ◌+◌, ◌*◌, ◌-◌, ◌%◌, ◌^◌, ◌<◌}
use native.Mathlib.Nat.{add-mul, mul_assoc, add_assoc, zero-mul, mul-one, add-zero, suc-mul}
use lib.Arith.{digits_lt}
use lib.Bits.{bit_and, and_block, and_mask}
use lib.Pow.{pow-add, pow_pos, low, shl_lt}
use lib.ListN.{length, replicate}
use Rattle.base_digits.specs.Packed.{packed}

-- f of each has at most k bits
abbrev pub Below : ℕ → (ℕ → ℕ) → List ℕ → Type 0
Below k f [] = Unit {0}
Below k f (x ∷ xs) = (f x < 2 ^ k) × Below k f xs

module _ (op : ℕ → ℕ → ℕ)
    (block : (k a b r s : ℕ) → r < 2 ^ k → s < 2 ^ k → op (a * 2 ^ k + r) (b * 2 ^ k + s) ≡ op a b * 2 ^ k + op r s)
    (none : op 0 0 ≡ 0) (k : ℕ) (f g : ℕ → ℕ) where
  pub lanes : (xs : List ℕ) → Below k f xs → Below k g xs → op (packed k (map f xs)) (packed k (map g xs)) ≡ packed k (map (λ x. op (f x) (g x)) xs)
  unfolding packed
  lanes [] p q = none
  lanes (x ∷ xs) p q =
      block k (packed k (map f xs)) (packed k (map g xs)) (f x) (g x) p.0 q.0
      ∙ ap (λ (a : ℕ). a * 2 ^ k + op (f x) (g x)) (lanes xs p.1 q.1)

-- one number more
higher : (n k : ℕ) → 2 ^ (n * k) * 2 ^ k ≡ 2 ^ (suc n * k)
higher n k = sym (ap (λ (e : ℕ). 2 ^ e) (suc-mul n k) ∙ pow-add 2 (n * k) k)

pub packed_below : (k : ℕ) (f : ℕ → ℕ) (xs : List ℕ) → Below k f xs → packed k (map f xs) < 2 ^ (length xs * k)
unfolding packed
packed_below k f [] p = pow_pos (0 * k)
packed_below k f (x ∷ xs) p =
    subst (λ (m : ℕ). packed k (map f xs) * 2 ^ k + f x < m) (higher (length xs) k) (digits_lt (packed_below k f xs p.1) p.0)

-- those after xs stand above them
pub packed_append : (k : ℕ) (xs ys : List ℕ) → packed k (xs ++ ys) ≡ packed k ys * 2 ^ (length xs * k) + packed k xs
unfolding packed
packed_append k [] ys = rw (zero-mul k, mul-one (packed k ys), add-zero (packed k ys))
packed_append k (x ∷ xs) ys =
    let above : ℕ = packed k ys in
    let n : ℕ = 2 ^ (length xs * k) in
    ap (λ (a : ℕ). a * 2 ^ k + x) (packed_append k xs ys)
    ∙ ap (λ (a : ℕ). a + x) (add-mul (above * n) (packed k xs) (2 ^ k) ∙ ap (λ (a : ℕ). a + packed k xs * 2 ^ k) (mul_assoc above n (2 ^ k) ∙ ap (λ (m : ℕ). above * m) (higher (length xs) k)))
    ∙ add_assoc (above * 2 ^ (suc (length xs) * k)) (packed k xs * 2 ^ k) x

-- zeros before xs move them up
pub packed_zeros : (k j : ℕ) (xs : List ℕ) → packed k (replicate j 0 ++ xs) ≡ packed k xs * 2 ^ (j * k)
unfolding packed
packed_zeros k zero xs = rw (zero-mul k, mul-one (packed k xs))
packed_zeros k (suc j) xs =
    add-zero (packed k (replicate j 0 ++ xs) * 2 ^ k) ∙ ap (λ (a : ℕ). a * 2 ^ k) (packed_zeros k j xs)
    ∙ mul_assoc (packed k xs) (2 ^ (j * k)) (2 ^ k) ∙ ap (λ (m : ℕ). packed k xs * m) (higher j k)

-- n numbers moved up by j places: the upper j are gone
pub moved_up : (w k m j a b : ℕ) → b < 2 ^ (m * k) → m * k + j * k ≡ w → (a * 2 ^ (m * k) + b) * 2 ^ (j * k) % 2 ^ w ≡ b * 2 ^ (j * k)
moved_up w k m j a b h e =
    let up : ℕ = 2 ^ (j * k) in
    let all : 2 ^ (m * k) * up ≡ 2 ^ w = sym (pow-add 2 (m * k) (j * k)) ∙ ap (λ (x : ℕ). 2 ^ x) e in
    ap (λ (x : ℕ). x % 2 ^ w) (add-mul (a * 2 ^ (m * k)) b up ∙ ap (λ (x : ℕ). x + b * up) (mul_assoc a (2 ^ (m * k)) up ∙ ap (λ (x : ℕ). a * x) all))
    ∙ low a w (subst (λ (x : ℕ). b * up < 2 ^ x) e (shl_lt (m * k) (j * k) h))

-- of each number the lower half
pub halves : (k j : ℕ) (xs : List ℕ) → Below k (λ x. x) xs → Below k (λ x. 2 ^ j - 1) xs
    → bit_and (packed k (map (λ x. x) xs)) (packed k (map (λ x. 2 ^ j - 1) xs)) ≡ packed k (map (λ x. x % 2 ^ j) xs)
halves k j xs p q = lanes bit_and and_block refl k (λ x. x) (λ x. 2 ^ j - 1) xs p q ∙ ap (packed k) (same xs)
  where
    same : (ys : List ℕ) → map (λ x. bit_and x (2 ^ j - 1)) ys ≡ map (λ x. x % 2 ^ j) ys
    same [] = refl
    same (y ∷ ys) = ap₂ (λ (a : ℕ) (l : List ℕ). a ∷ l) (and_mask y j) (same ys)
