-- Laws of lists of any elements: sums, lengths and properties of what is cut, kept, set and mapped. Assumes nothing.
use Prim.Native.Nat.{ℕ, zero, suc, ◌+◌, ◌≤◌}
use mathlib.Core.Path.{◌≡◌, refl}
use mathlib.Core.Bool.{Bool, false}
use mathlib.Core.List.{List, [], ◌∷◌, map}
use native.Mathlib.Omega.{arith}
use lib.ListN.{length, set, take, drop, replicate}
use Rattle.base_blocks.specs.Lists.{keep, total}
use Rattle.base_blocks.specs.All.{All, nil, cons}
use Rattle.base_blocks.proofs.Lists.{either}

-- ---- sums

module _ {A : Type 0} (f : A → ℕ) where
  pub total_cut : (n : ℕ) (xs : List A) → total f (drop n xs) + total f (take n xs) ≡ total f xs
  unfolding total
  total_cut zero xs = omega arith
  total_cut (suc n) [] = refl
  total_cut (suc n) (x ∷ xs) = omega (arith, total_cut n xs)

  -- those left out count nothing
  pub total_keep : (p : A → Bool) → ((x : A) → p x ≡ false → f x ≡ 0) → (xs : List A) → total f (keep p xs) ≡ total f xs
  unfolding total keep
  total_keep p e [] = refl
  total_keep p e (x ∷ xs) =
      either (λ (l : List A). total f l ≡ f x + total f xs) (p x) (x ∷ keep p xs) (keep p xs) (λ q. omega (arith, total_keep p e xs))
      (λ q. omega (arith, e x q, total_keep p e xs))

  pub total_kept : (p : A → Bool) (xs : List A) → total f (keep p xs) ≤ total f xs
  unfolding total keep
  total_kept p [] = omega arith
  total_kept p (x ∷ xs) =
      either (λ (l : List A). total f l ≤ f x + total f xs) (p x) (x ∷ keep p xs) (keep p xs) (λ q. omega (arith, total_kept p xs))
      (λ q. omega (arith, total_kept p xs))

  pub total_map : (g : A → A) → ((x : A) → f (g x) ≡ f x) → (xs : List A) → total f (map g xs) ≡ total f xs
  unfolding total
  total_map g e [] = refl
  total_map g e (x ∷ xs) = omega (arith, e x, total_map g e xs)

  pub total_mapped : (g : A → A) → ((x : A) → f (g x) ≤ f x) → (xs : List A) → total f (map g xs) ≤ total f xs
  unfolding total
  total_mapped g e [] = omega arith
  total_mapped g e (x ∷ xs) = omega (arith, e x, total_mapped g e xs)

-- ---- lengths

module _ {A : Type 0} where
  pub length_cut : (n : ℕ) (xs : List A) → length (drop n xs) + length (take n xs) ≡ length xs
  length_cut zero xs = omega arith
  length_cut (suc n) [] = refl
  length_cut (suc n) (x ∷ xs) = omega (arith, length_cut n xs)

-- ---- a property of every element

module _ {A : Type 0} {P : A → Type 0} where
  pub all_set : {xs : List A} (i : ℕ) (a : A) → P a → All P xs → All P (set xs i a)
  all_set i a p nil = nil
  all_set zero a p (cons q qs) = cons p qs
  all_set (suc i) a p (cons q qs) = cons q (all_set i a p qs)

  pub all_replicate : (n : ℕ) (a : A) → P a → All P (replicate n a)
  all_replicate zero a p = nil
  all_replicate (suc n) a p = cons p (all_replicate n a p)

  pub all_pairs : {Q : A → Type 0} {xs : List A} → All P xs → All Q xs → All (λ (x : A). P x × Q x) xs
  all_pairs nil q = nil
  all_pairs (cons p ps) (cons q qs) = cons (p, q) (all_pairs ps qs)
