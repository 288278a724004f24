-- Lists cut and joined again, under a map and as runs that stand one behind the other. Assumes nothing.
use mathlib.Core.Path.{◌≡◌, refl, sym, ap, ap₂, ◌∙◌}
use mathlib.Core.List.{List, [], ◌∷◌, ◌++◌, map, flat_map, map-append, append_assoc}
use Prim.Native.Nat.{ℕ, zero, suc, ◌+◌, ◌*◌, ◌-◌, ◌≤◌, ◌<◌}
use native.Mathlib.Numerals.{add-one}
use native.Mathlib.Nat.{add-zero, add_assoc, mul-add, mul-zero}
use native.Mathlib.Omega.{arith}
use lib.ListN.{length, take, drop, get_or, set, length-drop, take-append-drop}
use lib.Seq.{set_split, take-add, take-take, take-append-add, drop-drop, drop-append-le, drop-append-add, get_or-take, get_or-drop, length-take-le}
use Rattle.base_blocks.specs.Lists.{total, removed, inserted}
use Rattle.base_blocks.proofs.Lists.{total_append}
use Rattle.pool_rules.proofs.Lists.{total_cut}

-- ---- under a map

module _ {A B : Type 0} (f : A → B) where
  pub map_set : (xs : List A) (i : ℕ) (a : A) → map f (set xs i a) ≡ set (map f xs) i (f a)
  map_set [] i a = refl
  map_set (x ∷ xs) zero a = refl
  map_set (x ∷ xs) (suc i) a = ap (λ (l : List B). f x ∷ l) (map_set xs i a)

  pub map_take : (n : ℕ) (xs : List A) → map f (take n xs) ≡ take n (map f xs)
  map_take zero xs = refl
  map_take (suc n) [] = refl
  map_take (suc n) (x ∷ xs) = ap (λ (l : List B). f x ∷ l) (map_take n xs)

  pub map_drop : (n : ℕ) (xs : List A) → map f (drop n xs) ≡ drop n (map f xs)
  map_drop zero xs = refl
  map_drop (suc n) [] = refl
  map_drop (suc n) (x ∷ xs) = map_drop n xs

  pub map_removed : (i k : ℕ) (xs : List A) → map f (removed i k xs) ≡ removed i k (map f xs)
  unfolding removed
  map_removed i k xs = map-append f (take i xs) (drop (i + k) xs) ∙ ap₂ (λ (a b : List B). a ++ b) (map_take i xs) (map_drop (i + k) xs)

  pub map_inserted : (i : ℕ) (ys xs : List A) → map f (inserted i ys xs) ≡ inserted i (map f ys) (map f xs)
  unfolding inserted
  map_inserted i ys xs =
      map-append f (take i xs) (ys ++ drop i xs)
      ∙ ap₂ (λ (a b : List B). a ++ b) (map_take i xs) (map-append f ys (drop i xs) ∙ ap (λ (b : List B). map f ys ++ b) (map_drop i xs))

  pub flat_mapped : {C : Type 0} (g : B → List C) (xs : List A) → flat_map (λ (x : A). g (f x)) xs ≡ flat_map g (map f xs)
  unfolding flat_map
  flat_mapped g [] = refl
  flat_mapped {C = C} g (x ∷ xs) = ap (λ (ys : List C). g (f x) ++ ys) (flat_mapped g xs)

  pub total_mapped : (g : B → ℕ) (xs : List A) → total (λ (x : A). g (f x)) xs ≡ total g (map f xs)
  unfolding total
  total_mapped g [] = refl
  total_mapped g (x ∷ xs) = ap (λ (n : ℕ). g (f x) + n) (total_mapped g xs)

-- ---- sums over the first of them

module _ {A : Type 0} (f : A → ℕ) where
  pub total_next : (xs : List A) (i : ℕ) (d : A) → i < length xs → total f (take (suc i) xs) ≡ total f (take i xs) + f (get_or xs i d)
  unfolding total
  total_next [] i d h = absurd (let y : ⊥ = omega arith in y)
  total_next (x ∷ xs) zero d h = omega arith
  total_next (x ∷ xs) (suc i) d h = omega (arith, total_next xs i d (omega arith))

  pub total_within : (xs : List A) (i : ℕ) (d : A) → i < length xs → total f (take i xs) + f (get_or xs i d) ≤ total f xs
  total_within xs i d h = omega (arith, total_next xs i d h, total_cut f (suc i) xs)

-- ---- what each gives, joined

module _ {A B : Type 0} (f : A → List B) where
  pub flat_append : (xs ys : List A) → flat_map f (xs ++ ys) ≡ flat_map f xs ++ flat_map f ys
  unfolding flat_map
  flat_append [] ys = refl
  flat_append (x ∷ xs) ys = ap (λ (l : List B). f x ++ l) (flat_append xs ys) ∙ sym (append_assoc (f x) (flat_map f xs) (flat_map f ys))

  -- how much the first i give
  abbrev pub up_to : ℕ → List A → ℕ
  up_to i xs = total (λ (x : A). length (f x)) (take i xs)

  pub flat_take : (i : ℕ) (xs : List A) → flat_map f (take i xs) ≡ take (up_to i xs) (flat_map f xs)
  unfolding flat_map total
  flat_take zero xs = refl
  flat_take (suc i) [] = refl
  flat_take (suc i) (x ∷ xs) = ap (λ (l : List B). f x ++ l) (flat_take i xs) ∙ sym (take-append-add (f x) (flat_map f xs) (up_to i xs))

  pub flat_drop : (i : ℕ) (xs : List A) → flat_map f (drop i xs) ≡ drop (up_to i xs) (flat_map f xs)
  unfolding flat_map total
  flat_drop zero xs = refl
  flat_drop (suc i) [] = refl
  flat_drop (suc i) (x ∷ xs) = flat_drop i xs ∙ sym (drop-append-add (f x) (flat_map f xs) (up_to i xs))

  -- one replaced, one taken out, some put in
  pub flat_set : (i : ℕ) (xs : List A) (a d : A) → i < length xs
      → flat_map f (set xs i a) ≡ take (up_to i xs) (flat_map f xs) ++ (f a ++ drop (up_to i xs + length (f (get_or xs i d))) (flat_map f xs))
  unfolding flat_map
  flat_set i xs a d h =
      ap (flat_map f) (set_split xs i a h)
      ∙ flat_append (take i xs) (a ∷ drop (suc i) xs)
      ∙ ap₂ (λ (l r : List B). l ++ (f a ++ r)) (flat_take i xs)
      (flat_drop (suc i) xs ∙ ap (λ (n : ℕ). drop n (flat_map f xs)) (total_next (λ (x : A). length (f x)) xs i d h))

  pub flat_removed : (i : ℕ) (xs : List A) (d : A) → i < length xs
      → flat_map f (removed i 1 xs) ≡ removed (up_to i xs) (length (f (get_or xs i d))) (flat_map f xs)
  unfolding removed
  flat_removed i xs d h =
      flat_append (take i xs) (drop (i + 1) xs)
      ∙ ap₂ (λ (l r : List B). l ++ r) (flat_take i xs)
      (ap (λ (n : ℕ). flat_map f (drop n xs)) (add-one i) ∙ flat_drop (suc i) xs
      ∙ ap (λ (n : ℕ). drop n (flat_map f xs)) (total_next (λ (x : A). length (f x)) xs i d h))

  pub flat_inserted : (i : ℕ) (ys xs : List A) → flat_map f (inserted i ys xs) ≡ inserted (up_to i xs) (flat_map f ys) (flat_map f xs)
  unfolding inserted
  flat_inserted i ys xs =
      flat_append (take i xs) (ys ++ drop i xs)
      ∙ ap₂ (λ (l r : List B). l ++ r) (flat_take i xs) (flat_append ys (drop i xs) ∙ ap (λ (r : List B). flat_map f ys ++ r) (flat_drop i xs))

-- ---- a run of a list changed: `at` is where it begins, n is how long it is

module _ {A : Type 0} (xs : List A) (at n : ℕ) (fits : at + n ≤ length xs) where
  abbrev run : List A
  run = take n (drop at xs)

  -- more behind it
  pub run_longer : (ys : List A) → take at xs ++ ((run ++ ys) ++ drop (at + n) xs) ≡ inserted (at + n) ys xs
  unfolding inserted
  run_longer ys =
      ap (λ (l : List A). take at xs ++ l) (append_assoc run ys (drop (at + n) xs))
      ∙ sym (append_assoc (take at xs) run (ys ++ drop (at + n) xs))
      ∙ ap (λ (l : List A). l ++ (ys ++ drop (at + n) xs)) (sym (take-add at n xs))

  -- its first k out
  pub run_dropped : (k : ℕ) → k ≤ n → take at xs ++ (drop k run ++ drop (at + n) xs) ≡ removed at k xs
  unfolding removed
  run_dropped k h =
      ap (λ (l : List A). take at xs ++ l)
      (sym (drop-append-le k run (drop (at + n) xs) (omega (arith, length-take-le n (drop at xs) (omega (arith, length-drop at xs)))))
      ∙ ap (drop k) (ap (λ (l : List A). run ++ l) (sym (drop-drop n at xs)) ∙ take-append-drop n (drop at xs))
      ∙ drop-drop k at xs)

  -- all but its first k out
  pub run_taken : (k : ℕ) → k ≤ n → take at xs ++ (take k run ++ drop (at + n) xs) ≡ removed (at + k) (n - k) xs
  unfolding removed
  run_taken k h =
      sym (append_assoc (take at xs) (take k run) (drop (at + n) xs))
      ∙ ap₂ (λ (l : List A) (m : ℕ). l ++ drop m xs)
      (ap (λ (l : List A). take at xs ++ l) (take-take k n (drop at xs) h) ∙ sym (take-add at k xs))
      (let e : at + n ≡ at + k + (n - k) = omega arith in e)

-- ---- runs of a list that stand one behind the other

length_take_some {ℓ} : {A : Type ℓ} (i : ℕ) (xs : List A) (j : ℕ) → j < length (take i xs) → (j < i) × (j < length xs)
length_take_some zero xs j h = absurd (let y : ⊥ = omega arith in y)
length_take_some (suc i) [] j h = absurd (let y : ⊥ = omega arith in y)
length_take_some (suc i) (x ∷ xs) zero h = (omega arith, omega arith)
length_take_some (suc i) (x ∷ xs) (suc j) h = let k = length_take_some i xs j (omega arith) in (omega (arith, k.0), omega (arith, k.1))

module _ {A : Type 0} (f : A → List ℕ) (w : A → ℕ) (c : ℕ) (s : List ℕ) (d : A) where
  -- from c * at on, each has its run of c * w numbers
  abbrev pub Stands : ℕ → List A → Type 0
  Stands at xs = (j : ℕ) → j < length xs → f (get_or xs j d) ≡ take (c * w (get_or xs j d)) (drop (c * (at + total w (take j xs))) s)

  pub stands_whole : (at : ℕ) (xs : List A) → Stands at xs → flat_map f xs ≡ take (c * total w xs) (drop (c * at) s)
  unfolding flat_map total
  stands_whole at [] h = sym (ap (λ (k : ℕ). take k (drop (c * at) s)) (mul-zero c))
  stands_whole at (x ∷ xs) h =
      ap₂ (λ (a b : List ℕ). a ++ b)
      (h 0 (omega arith) ∙ ap (λ (k : ℕ). take (c * w x) (drop (c * k) s)) (add-zero at))
      (stands_whole (at + w x) xs
      (λ j q. h (suc j) (omega arith) ∙ ap (λ (k : ℕ). take (c * w (get_or xs j d)) (drop (c * k) s)) (sym (add_assoc at (w x) (total w (take j xs)))))
      ∙ ap (take (c * total w xs)) (ap (λ (k : ℕ). drop k s) (mul-add c at (w x)) ∙ sym (drop-drop (c * w x) (c * at) s)))
      ∙ sym (take-add (c * w x) (c * total w xs) (drop (c * at) s))
      ∙ ap (λ (k : ℕ). take k (drop (c * at) s)) (sym (mul-add c (w x) (total w xs)))

  pub stands_take : (at i : ℕ) (xs : List A) → Stands at xs → Stands at (take i xs)
  stands_take at i xs h j q =
      let k = length_take_some i xs j q in
      ap f (get_or-take i xs j d k.0)
      ∙ h j k.1
      ∙ ap₂ (λ (x : A) (ys : List A). take (c * w x) (drop (c * (at + total w ys)) s)) (sym (get_or-take i xs j d k.0))
      (sym (take-take j i xs (omega (arith, k.0))))

  pub stands_drop : (at i : ℕ) (xs : List A) → Stands at xs → Stands (at + total w (take i xs)) (drop i xs)
  stands_drop at i xs h j q =
      let e : at + total w (take (i + j) xs) ≡ at + total w (take i xs) + total w (take j (drop i xs)) =
      ap (λ (n : ℕ). at + n) (ap (total w) (take-add i j xs) ∙ total_append w (take i xs) (take j (drop i xs)))
      ∙ sym (add_assoc at (total w (take i xs)) (total w (take j (drop i xs)))) in
      ap f (get_or-drop i xs j d)
      ∙ h (i + j) (omega (arith, q, length-drop i xs))
      ∙ ap₂ (λ (x : A) (n : ℕ). take (c * w x) (drop (c * n) s)) (sym (get_or-drop i xs j d)) e
