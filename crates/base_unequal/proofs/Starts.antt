-- Laws of where blocks begin: sums of the sizes before them, and what a change of some blocks does to them. Assumes nothing.
use mathlib.Core.Path.{◌≡◌, refl, sym, ap, ap₂, ◌∙◌}
use mathlib.Core.List.{List, [], ◌∷◌, ◌++◌, flat_map}
use Prim.Native.Nat.{ℕ, zero, suc, ◌+◌, ◌*◌, ◌-◌, ◌≤◌, ◌<◌}
use native.Mathlib.Nat.{mul-zero, mul-suc}
use native.Mathlib.Omega.{arith}
use lib.ListN.{length, take, drop, get_or, set, take-append-drop}
use lib.Seq.{take_all, take-add, take-take, take-append-le, take-append-add, drop-drop, length-take-le}
use Rattle.base_blocks.specs.Lists.{total}
use Rattle.base_blocks.specs.All.{All, nil, cons}
use Rattle.base_blocks.proofs.Lists.{total_append}
use Rattle.base_unequal.specs.Unequal.{start_of, renewed}

module _ {ℓ} {A : Type ℓ} (size : A → ℕ) where
  pub total_parts : (i : ℕ) (xs : List A) → total size (take i xs) + total size (drop i xs) ≡ total size xs
  total_parts i xs = sym (total_append size (take i xs) (drop i xs)) ∙ ap (total size) (take-append-drop i xs)

  pub start_none : (xs : List A) → start_of size 0 xs ≡ 0
  unfolding start_of total
  start_none xs = refl

  pub start_all : (xs : List A) (n : ℕ) → length xs ≤ n → start_of size n xs ≡ total size xs
  unfolding start_of
  start_all xs n h = ap (total size) (take_all n xs h)

  pub start_next : (xs : List A) (i : ℕ) (d : A) → i < length xs → start_of size (suc i) xs ≡ start_of size i xs + size (get_or xs i d)
  unfolding start_of total
  start_next [] i d h = absurd (let y : ⊥ = omega arith in y)
  start_next (x ∷ xs) zero d h = omega arith
  start_next (x ∷ xs) (suc i) d h = omega (arith, start_next xs i d (omega arith))

  -- a run of k blocks from i on ends where the next begins
  pub start_run : (xs : List A) (i k : ℕ) → start_of size (i + k) xs ≡ start_of size i xs + total size (take k (drop i xs))
  unfolding start_of
  start_run xs i k = ap (total size) (take-add i k xs) ∙ total_append size (take i xs) (take k (drop i xs))

  pub start_bound : (xs : List A) (i : ℕ) → start_of size i xs ≤ total size xs
  unfolding start_of
  start_bound xs i = omega (arith, total_parts i xs)

  pub start_order : (xs : List A) (i j : ℕ) → i ≤ j → start_of size i xs ≤ start_of size j xs
  start_order xs i j h = omega (arith, start_run xs i (j - i), ap (λ (n : ℕ). start_of size n xs) (let e : i + (j - i) ≡ j = omega arith in e))

  -- block i ends within all of them, and before any later one begins
  pub start_end : (xs : List A) (i : ℕ) (d : A) → i < length xs → start_of size i xs + size (get_or xs i d) ≤ total size xs
  start_end xs i d h = omega (arith, start_next xs i d h, start_bound xs (suc i))

  pub start_apart : (xs : List A) (i j : ℕ) (d : A) → i < j → i < length xs → start_of size i xs + size (get_or xs i d) ≤ start_of size j xs
  start_apart xs i j d h k = omega (arith, start_next xs i d k, start_order xs (suc i) j (omega arith))

  -- ---- some blocks renewed

  pub total_renewed : (xs ys : List A) (i k : ℕ)
      → total size (renewed i k ys xs) + total size (take k (drop i xs)) ≡ total size xs + total size ys
  unfolding renewed
  total_renewed xs ys i k =
      let a = total_append size (take i xs) (ys ++ drop (i + k) xs) in
      let b = total_append size ys (drop (i + k) xs) in
      let c = total_parts i xs in
      let d = total_parts k (drop i xs) in
      let e = ap (total size) (drop-drop k i xs) in
      omega (arith, a, b, c, d, e)

  -- those before them begin where they began
  pub start_before : (xs ys : List A) (i k j : ℕ) → j ≤ i → i ≤ length xs → start_of size j (renewed i k ys xs) ≡ start_of size j xs
  unfolding start_of renewed
  start_before xs ys i k j h q =
      ap (total size) (take-append-le j (take i xs) (ys ++ drop (i + k) xs) (omega (arith, length-take-le i xs q)) ∙ take-take j i xs h)

  -- those after them begin later by what the new blocks take more
  pub start_after : (xs ys : List A) (i k j : ℕ) → i + k ≤ length xs
      → start_of size (i + length ys + j) (renewed i k ys xs) + total size (take k (drop i xs)) ≡ start_of size (i + k + j) xs + total size ys
  unfolding start_of renewed
  start_after xs ys i k j h =
      let l = length-take-le i xs (omega arith) in
      let n : i + length ys + j ≡ length (take i xs) + (length ys + j) = omega arith in
      let f : take (i + length ys + j) (take i xs ++ (ys ++ drop (i + k) xs)) ≡ take i xs ++ (ys ++ take j (drop (i + k) xs)) =
      ap (λ (m : ℕ). take m (take i xs ++ (ys ++ drop (i + k) xs))) n
      ∙ take-append-add (take i xs) (ys ++ drop (i + k) xs) (length ys + j)
      ∙ ap (λ (r : List A). take i xs ++ r) (take-append-add ys (drop (i + k) xs) j) in
      let a = ap (total size) f in
      let b = total_append size (take i xs) (ys ++ take j (drop (i + k) xs)) in
      let c = total_append size ys (take j (drop (i + k) xs)) in
      let d = ap (total size) (take-add (i + k) j xs) in
      let e = total_append size (take (i + k) xs) (take j (drop (i + k) xs)) in
      let g = ap (total size) (take-add i k xs) in
      let r = total_append size (take i xs) (take k (drop i xs)) in
      omega (arith, a, b, c, d, e, g, r)

  -- one replaced by another of its size: every block begins where it began
  pub start_set : (xs : List A) (i j : ℕ) (x d : A) → i < length xs → size x ≡ size (get_or xs i d) → start_of size j (set xs i x) ≡ start_of size j xs
  unfolding start_of total
  start_set [] i j x d h e = absurd (let y : ⊥ = omega arith in y)
  start_set (y ∷ xs) zero zero x d h e = refl
  start_set (y ∷ xs) zero (suc j) x d h e = ap (λ (n : ℕ). n + total size (take j xs)) e
  start_set (y ∷ xs) (suc i) zero x d h e = refl
  start_set (y ∷ xs) (suc i) (suc j) x d h e = ap (λ (n : ℕ). size y + n) (start_set xs i j x d (omega arith) e)

  -- ---- blocks of one size, which records of a table are

  pub total_equal : (w : ℕ) → ((a : A) → size a ≡ w) → (xs : List A) → total size xs ≡ w * length xs
  unfolding total
  total_equal w e [] = sym (mul-zero w)
  total_equal w e (x ∷ xs) = omega (arith, e x, total_equal w e xs, mul-suc w (length xs))

  pub start_equal : (w : ℕ) → ((a : A) → size a ≡ w) → (xs : List A) (i : ℕ) → i ≤ length xs → start_of size i xs ≡ w * i
  unfolding start_of
  start_equal w e xs i h = total_equal w e (take i xs) ∙ ap (λ (n : ℕ). w * n) (length-take-le i xs h)

  -- blocks that take at most w numbers each
  pub total_below : (w : ℕ) (xs : List A) → All (λ (a : A). size a ≤ w) xs → total size xs ≤ w * length xs
  unfolding total
  total_below w [] nil = omega arith
  total_below w (x ∷ xs) (cons h hs) = omega (arith, total_below w xs hs, mul-suc w (length xs))

-- two ways to say the sizes
pub start_same {ℓ} : {A : Type ℓ} (f g : A → ℕ) (xs : List A) (i : ℕ) → All (λ (a : A). f a ≡ g a) xs → start_of f i xs ≡ start_of g i xs
unfolding start_of total
start_same f g xs zero e = refl
start_same f g [] (suc i) e = refl
start_same f g (x ∷ xs) (suc i) (cons e es) = ap₂ (λ (a b : ℕ). a + b) e (start_same f g xs i es)

pub total_same {ℓ} : {A : Type ℓ} (f g : A → ℕ) (xs : List A) → All (λ (a : A). f a ≡ g a) xs → total f xs ≡ total g xs
unfolding total
total_same f g [] nil = refl
total_same f g (x ∷ xs) (cons e es) = ap₂ (λ (a b : ℕ). a + b) e (total_same f g xs es)

-- ---- blocks of blocks: each outer block is made of inner ones

module _ {ℓ} {A B : Type ℓ} (size : B → ℕ) (gs : A → List B) where
  pub total_inner : (ts : List A) → total size (flat_map gs ts) ≡ total (λ (t : A). total size (gs t)) ts
  unfolding total flat_map
  total_inner [] = refl
  total_inner (t ∷ ts) = total_append size (gs t) (flat_map gs ts) ∙ ap (λ (n : ℕ). total size (gs t) + n) (total_inner ts)

  -- inner block k of outer block i, by its number among all inner blocks
  pub start_inner : (ts : List A) (i k : ℕ) (d : A) → i < length ts → k ≤ length (gs (get_or ts i d))
      → start_of size (start_of (λ (t : A). length (gs t)) i ts + k) (flat_map gs ts)
      ≡ start_of (λ (t : A). total size (gs t)) i ts + start_of size k (gs (get_or ts i d))
  unfolding start_of total flat_map
  start_inner [] i k d h q = absurd (let y : ⊥ = omega arith in y)
  start_inner (t ∷ ts) zero k d h q =
      ap (λ (n : ℕ). total size (take n (gs t ++ flat_map gs ts))) (let e : 0 + k ≡ k = omega arith in e)
      ∙ ap (total size) (take-append-le k (gs t) (flat_map gs ts) q)
      ∙ (let e : total size (take k (gs t)) ≡ 0 + total size (take k (gs t)) = omega arith in e)
  start_inner (t ∷ ts) (suc i) k d h q =
      let n = total (λ (u : A). length (gs u)) (take i ts) in
      let r = start_inner ts i k d (omega arith) q in
      let m : length (gs t) + n + k ≡ length (gs t) + (n + k) = omega arith in
      let a = ap (λ (j : ℕ). total size (take j (gs t ++ flat_map gs ts))) m in
      let b = ap (total size) (take-append-add (gs t) (flat_map gs ts) (n + k)) in
      let c = total_append size (gs t) (take (n + k) (flat_map gs ts)) in
      omega (arith, a, b, c, r)
