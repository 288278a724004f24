-- Laws of a property of every element. Assumes nothing.
use Rattle.std.proofs.Common.{◌≡◌, ℕ, zero, suc, ◌+◌, ◌<◌, Bool, true, false, List, [], ◌∷◌, ◌++◌, map, length, get_or, drop, refl, le_of_suc-le-suc, not-suc-le-zero, add-zero, arith}
use mathlib.Core.List.{flat_map}
use Rattle.base_blocks.specs.Lists.{listed, keep}
use Rattle.base_blocks.specs.All.{All, nil, cons}

module _ {ℓ} {A : Type ℓ} {P : A → Type 0} where
  pub all_head : {x : A} {xs : List A} → All P (x ∷ xs) → P x
  all_head (cons p ps) = p

  pub all_tail : {x : A} {xs : List A} → All P (x ∷ xs) → All P xs
  all_tail (cons p ps) = ps

  -- a property of each is one of all
  pub all_each : ((x : A) → P x) → (xs : List A) → All P xs
  all_each f [] = nil
  all_each f (x ∷ xs) = cons (f x) (all_each f xs)

  pub all_both : {xs ys : List A} → All P xs → All P ys → All P (xs ++ ys)
  all_both nil q = q
  all_both (cons p ps) q = cons p (all_both ps q)

  pub all_left : (xs ys : List A) → All P (xs ++ ys) → All P xs
  all_left [] ys p = nil
  all_left (x ∷ xs) ys (cons p ps) = cons p (all_left xs ys ps)

  pub all_right : (xs : List A) {ys : List A} → All P (xs ++ ys) → All P ys
  all_right [] p = p
  all_right (x ∷ xs) (cons p ps) = all_right xs ps

  pub all_drop : (n : ℕ) {xs : List A} → All P xs → All P (drop n xs)
  all_drop zero p = p
  all_drop (suc n) nil = nil
  all_drop (suc n) (cons p ps) = all_drop n ps

  -- the element at an index
  pub all_at : (xs : List A) (i : ℕ) (d : A) → i < length xs → All P xs → P (get_or xs i d)
  all_at [] i d h p = absurd (not-suc-le-zero h)
  all_at (x ∷ xs) zero d h (cons p ps) = p
  all_at (x ∷ xs) (suc i) d h (cons p ps) = all_at xs i d (le_of_suc-le-suc h) ps

  -- what a function lists
  pub all_listed : (f : ℕ → A) (i n : ℕ) → ((j : ℕ) → j < n → P (f (i + j))) → All P (listed f i n)
  unfolding listed
  all_listed f i zero h = nil
  all_listed f i (suc n) h =
      cons (rw (add-zero i) at (h 0 (omega arith)))
      (all_listed f (suc i) n (λ j q. let e : i + suc j ≡ suc i + j = omega arith in rw e at (h (suc j) (omega arith))))

  pub all_keep : (p : A → Bool) {xs : List A} → All P xs → All P (keep p xs)
  unfolding keep
  all_keep p nil = nil
  all_keep p (cons {x = x} {xs = xs} q qs) = go (p x) refl (all_keep p qs)
    where
      go : (b : Bool) → p x ≡ b → All P (keep p xs) → All P (keep p (x ∷ xs))
      go true e r = rw e (cons q r)
      go false e r = rw e r

  -- those that were kept passed the test
  pub all_kept : (p : A → Bool) (xs : List A) → ((x : A) → p x ≡ true → P x) → All P (keep p xs)
  unfolding keep
  all_kept p [] f = nil
  all_kept p (x ∷ xs) f = go (p x) refl (all_kept p xs f)
    where
      go : (b : Bool) → p x ≡ b → All P (keep p xs) → All P (keep p (x ∷ xs))
      go true e r = rw e (cons (f x e) r)
      go false e r = rw e r

  -- and all that pass are kept
  pub kept_at : (p : A → Bool) (xs : List A) (i : ℕ) (d : A) → i < length xs → p (get_or xs i d) ≡ true → All P (keep p xs) → P (get_or xs i d)
  unfolding keep
  kept_at p [] i d h e all = absurd (not-suc-le-zero h)
  kept_at p (x ∷ xs) zero d h e all = all_head (rw e at all)
  kept_at p (x ∷ xs) (suc i) d h e all = kept_at p xs i d (le_of_suc-le-suc h) e (go (p x) refl)
    where
      go : (b : Bool) → p x ≡ b → All P (keep p xs)
      go true q = all_tail (rw q at all)
      go false q = rw q at all

pub all_mono {ℓ} : {A : Type ℓ} {P Q : A → Type 0} {xs : List A} → ((x : A) → P x → Q x) → All P xs → All Q xs
all_mono f nil = nil
all_mono f (cons {x = x} p ps) = cons (f x p) (all_mono f ps)

pub all_map {ℓ ℓ'} : {A : Type ℓ} {B : Type ℓ'} {P : A → Type 0} {Q : B → Type 0} (f : A → B) {xs : List A} → ((x : A) → P x → Q (f x)) → All P xs → All Q (map f xs)
all_map f g nil = nil
all_map f g (cons {x = x} p ps) = cons (g x p) (all_map f g ps)

pub all_flat_map {ℓ ℓ'} : {A : Type ℓ} {B : Type ℓ'} {P : A → Type 0} {Q : B → Type 0} (f : A → List B) {xs : List A} → ((x : A) → P x → All Q (f x)) → All P xs → All Q (flat_map f xs)
unfolding flat_map
all_flat_map f g nil = nil
all_flat_map f g (cons {x = x} p ps) = all_both (g x p) (all_flat_map f g ps)
