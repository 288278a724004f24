-- Lists and choices under a map. Assumes nothing.
use Prim.Native.Nat.{ℕ, zero, suc, ◌+◌}
use mathlib.Core.Path.{◌≡◌, refl, sym, ◌∙◌, ap, ap₂}
use mathlib.Core.Bool.{Bool, true, false, cond}
use mathlib.Core.List.{List, [], ◌∷◌, ◌++◌, map, flat_map}
use lib.ListN.{take, drop}
use Rattle.base_blocks.specs.Lists.{keep, total}

pub map_cond {ℓ κ} : {A : Type ℓ} {B : Type κ} (g : A → B) (b : Bool) {x y : A} {x' y' : B} → x' ≡ g x → y' ≡ g y → cond b x' y' ≡ g (cond b x y)
map_cond g true p q = p
map_cond g false p q = q

pub map_both : {A B : Type 0} (f : A → B) (xs ys : List A) → map f (xs ++ ys) ≡ map f xs ++ map f ys
map_both f [] ys = refl
map_both f (x ∷ xs) ys = ap (λ l. f x ∷ l) (map_both f xs ys)

module _ {A B : Type 0} (f : A → B) where
  pub map_take : (n : ℕ) (xs : List A) → take n (map f xs) ≡ map f (take n xs)
  map_take zero xs = refl
  map_take (suc n) [] = refl
  map_take (suc n) (x ∷ xs) = ap (λ (l : List B). f x ∷ l) (map_take n xs)

  pub map_drop : (n : ℕ) (xs : List A) → drop n (map f xs) ≡ map f (drop n xs)
  map_drop zero xs = refl
  map_drop (suc n) [] = refl
  map_drop (suc n) (x ∷ xs) = map_drop n xs

  pub map_total : (g : B → ℕ) (h : A → ℕ) → ((a : A) → g (f a) ≡ h a) → (xs : List A) → total g (map f xs) ≡ total h xs
  unfolding total
  map_total g h e [] = refl
  map_total g h e (x ∷ xs) = ap₂ (λ (a b : ℕ). a + b) (e x) (map_total g h e xs)

  pub map_keep : (p : B → Bool) (q : A → Bool) → ((a : A) → p (f a) ≡ q a) → (xs : List A) → keep p (map f xs) ≡ map f (keep q xs)
  unfolding keep
  map_keep p q e [] = refl
  map_keep p q e (x ∷ xs) = rw (e x) (map_cond (map f) (q x) (ap (λ (l : List B). f x ∷ l) (map_keep p q e xs)) (map_keep p q e xs))

  -- two maps in the other order
  pub map_swap : {C D : Type 0} (g : B → D) (h : A → C) (k : C → D) → ((a : A) → g (f a) ≡ k (h a)) → (xs : List A) → map g (map f xs) ≡ map k (map h xs)
  map_swap g h k e [] = refl
  map_swap g h k e (x ∷ xs) = ap₂ ◌∷◌ (e x) (map_swap g h k e xs)

  -- two maps that make one
  pub map_over : {C : Type 0} (g : B → C) (h : A → C) → ((a : A) → g (f a) ≡ h a) → (xs : List A) → map g (map f xs) ≡ map h xs
  map_over g h e [] = refl
  map_over g h e (x ∷ xs) = ap₂ ◌∷◌ (e x) (map_over g h e xs)

  pub map_flat : {C D : Type 0} (g : B → List D) (h : A → List C) (k : C → D) → ((a : A) → g (f a) ≡ map k (h a)) → (xs : List A)
      → flat_map g (map f xs) ≡ map k (flat_map h xs)
  unfolding flat_map
  map_flat g h k e [] = refl
  map_flat g h k e (x ∷ xs) = ap₂ ◌++◌ (e x) (map_flat g h k e xs) ∙ sym (map_both k (h x) (flat_map h xs))

  pub flat_over : {C : Type 0} (g : B → List C) (h : A → List C) → ((a : A) → g (f a) ≡ h a) → (xs : List A) → flat_map g (map f xs) ≡ flat_map h xs
  unfolding flat_map
  flat_over g h e [] = refl
  flat_over g h e (x ∷ xs) = ap₂ ◌++◌ (e x) (flat_over g h e xs)
