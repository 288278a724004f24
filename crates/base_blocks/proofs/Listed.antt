-- Laws of what a function lists; tables and rings are both listed, so these serve both. Assumes nothing.
use Rattle.std.proofs.Common.{◌≡◌, ℕ, zero, suc, ◌+◌, ◌-◌, ◌<◌, ◌≤◌, Bool, true, false, ltb, List, [], ◌∷◌, ◌++◌, map, length, get_or, take, drop, sym, refl, ap, ◌∙◌, ap₂, add-zero, zero-add, add-one, arith}
use native.Mathlib.Nat.{sub-zero}
use native.Mathlib.Decide.{dec_lt}
use Rattle.base_blocks.specs.Lists.{listed, all, total, ascending}
use Rattle.base_blocks.proofs.Lists.{all_get}

module _ {ℓ} {A : Type ℓ} (f : ℕ → A) where
  pub length_listed : (i n : ℕ) → length (listed f i n) ≡ n
  unfolding listed
  length_listed i zero = refl
  length_listed i (suc n) = ap suc (length_listed (suc i) n)

  -- one more, at the end
  pub listed_more : (i n : ℕ) → listed f i (suc n) ≡ listed f i n ++ (f (i + n) ∷ [])
  unfolding listed
  listed_more i zero = ap (λ (k : ℕ). f k ∷ []) (sym (add-zero i))
  listed_more i (suc n) =
      ap (λ (l : List A). f i ∷ l) (listed_more (suc i) n ∙ ap (λ (k : ℕ). listed f (suc i) n ++ (f k ∷ [])) (let e : suc i + n ≡ i + suc n = omega arith in e))

  -- the first m, and then n more
  pub listed_split : (i m n : ℕ) → listed f i (m + n) ≡ listed f i m ++ listed f (i + m) n
  unfolding listed
  listed_split i zero n = ap₂ (listed f) (sym (add-zero i)) (zero-add n)
  listed_split i (suc m) n =
      ap (listed f i) (let e : suc m + n ≡ suc (m + n) = omega arith in e)
      ∙ ap (λ (l : List A). f i ∷ l) (listed_split (suc i) m n ∙ ap (λ (k : ℕ). listed f (suc i) m ++ listed f k n) (let e : suc i + m ≡ i + suc m = omega arith in e))

  pub drop_listed : (k i n : ℕ) → k ≤ n → drop k (listed f i n) ≡ listed f (i + k) (n - k)
  unfolding listed
  drop_listed zero i n h = sym (ap₂ (listed f) (add-zero i) (sub-zero n))
  drop_listed (suc k) i zero h = absurd (let y : ⊥ = omega arith in y)
  drop_listed (suc k) i (suc n) h =
      drop_listed k (suc i) n (omega arith)
      ∙ ap₂ (listed f) (let e : suc i + k ≡ i + suc k = omega arith in e) (let e : n - k ≡ suc n - suc k = omega arith in e)

  pub take_listed : (k i n : ℕ) → k ≤ n → take k (listed f i n) ≡ listed f i k
  unfolding listed
  take_listed zero i n h = refl
  take_listed (suc k) i zero h = absurd (let y : ⊥ = omega arith in y)
  take_listed (suc k) i (suc n) h = ap (λ (l : List A). f i ∷ l) (take_listed k (suc i) n (omega arith))

  pub get_or_listed : (i n j : ℕ) (d : A) → j < n → get_or (listed f i n) j d ≡ f (i + j)
  unfolding listed
  get_or_listed i zero j d h = absurd (let y : ⊥ = omega arith in y)
  get_or_listed i (suc n) zero d h = ap f (sym (add-zero i))
  get_or_listed i (suc n) (suc j) d h = get_or_listed (suc i) n j d (omega arith) ∙ ap f (let e : suc i + j ≡ i + suc j = omega arith in e)

  -- two functions that agree list the same
  pub listed_same : (g : ℕ → A) (n i k : ℕ) → ((j : ℕ) → j < n → f (i + j) ≡ g (k + j)) → listed f i n ≡ listed g k n
  unfolding listed
  listed_same g zero i k h = refl
  listed_same g (suc n) i k h =
      ap₂ (λ (x : A) (l : List A). x ∷ l)
      (ap f (sym (add-zero i)) ∙ h 0 (omega arith) ∙ ap g (add-zero k))
      (listed_same g n (suc i) (suc k)
      (λ j q. ap f (let e : suc i + j ≡ i + suc j = omega arith in e) ∙ h (suc j) (omega arith) ∙ ap g (let e : k + suc j ≡ suc k + j = omega arith in e)))

pub map_listed {ℓ ℓ'} : {A : Type ℓ} {B : Type ℓ'} (g : A → B) (f : ℕ → A) (i n : ℕ) → map g (listed f i n) ≡ listed (λ k. g (f k)) i n
unfolding listed
map_listed g f i zero = refl
map_listed {B = B} g f i (suc n) = ap (λ (l : List B). g (f i) ∷ l) (map_listed g f (suc i) n)

-- what a test of each number below n shows of one of them
pub tested_below : (p : ℕ → Bool) (n i : ℕ) → all p (listed (λ (k : ℕ). k) 0 n) ≡ true → i < n → p i ≡ true
tested_below p n i e h =
    ap p (sym (get_or_listed (λ (k : ℕ). k) 0 n i 0 h ∙ zero-add i))
    ∙ all_get p (listed (λ (k : ℕ). k) 0 n) i 0 e (omega (arith, length_listed (λ (k : ℕ). k) 0 n))

-- a list lists its own elements
pub listed_get_d {ℓ} : {A : Type ℓ} (d : A) (xs : List A) → listed (λ k. get_or xs k d) 0 (length xs) ≡ xs
unfolding listed
listed_get_d d [] = refl
listed_get_d {A = A} d (x ∷ xs) =
    ap (λ (l : List A). x ∷ l) (listed_same (λ k. get_or (x ∷ xs) k d) (λ k. get_or xs k d) (length xs) 1 0 (λ j q. ap (λ (k : ℕ). get_or (x ∷ xs) k d) (let e : 1 + j ≡ suc (0 + j) = omega arith in e))
    ∙ listed_get_d d xs)

-- ---- a loop over what is listed: of the n, those from i on

unfoldable pub left {ℓ} : {A : Type ℓ} → (ℕ → A) → ℕ → ℕ → List A
left f n i = listed f i (n - i)

module _ {ℓ} {A : Type ℓ} (f : ℕ → A) (n : ℕ) where
  pub left_all : left f n 0 ≡ listed f 0 n
  unfolding left
  left_all = ap (listed f 0) (sub-zero n)

  pub left_step : (i : ℕ) → i < n → left f n i ≡ f i ∷ left f n (i + 1)
  unfolding left listed
  left_step i h =
      ap (listed f i) (let e : n - i ≡ suc (n - (i + 1)) = omega arith in e)
      ∙ ap (λ (k : ℕ). f i ∷ listed f k (n - (i + 1))) (sym (add-one i))

  pub left_none : (i : ℕ) → n ≤ i → left f n i ≡ []
  unfolding left listed
  left_none i h = let e : n - i ≡ 0 = omega arith in rw e

  -- those before i, and those from i on
  pub left_split : (i : ℕ) → i ≤ n → listed f 0 n ≡ listed f 0 i ++ left f n i
  unfolding left
  left_split i h =
      ap (listed f 0) (let e : n ≡ i + (n - i) = omega arith in e)
      ∙ listed_split f 0 i (n - i)
      ∙ ap (λ (k : ℕ). listed f 0 i ++ listed f k (n - i)) (zero-add i)

  pub drop_left : (i : ℕ) → i ≤ n → left f n i ≡ drop i (listed f 0 n)
  unfolding left
  drop_left i h = sym (drop_listed f i 0 n h ∙ ap (λ (k : ℕ). listed f k (n - i)) (zero-add i))

  module _ (p : A → Bool) (i : ℕ) where
    pub all_more : i < n → p (f i) ≡ true → all p (left f n i) ≡ all p (left f n (i + 1))
    unfolding all
    all_more h t = rw (left_step i h, t)

    pub all_stop : i < n → p (f i) ≡ false → all p (left f n i) ≡ false
    unfolding all
    all_stop h t = rw (left_step i h, t)

    pub all_done : n ≤ i → all p (left f n i) ≡ true
    unfolding all
    all_done h = rw (left_none i h)

  module _ (g : A → ℕ) (i : ℕ) where
    pub total_more : i < n → total g (left f n i) ≡ g (f i) + total g (left f n (i + 1))
    unfolding total
    total_more h = rw (left_step i h)

    pub total_done : n ≤ i → total g (left f n i) ≡ 0
    unfolding total
    total_done h = rw (left_none i h)

    pub ascending_more : i + 1 < n → ltb (g (f i)) (g (f (i + 1))) ≡ true → ascending g (left f n i) ≡ ascending g (left f n (i + 1))
    unfolding ascending
    ascending_more h t = rw (left_step i (omega arith), left_step (i + 1) h, t)

    pub ascending_stop : i + 1 < n → ltb (g (f i)) (g (f (i + 1))) ≡ false → ascending g (left f n i) ≡ false
    unfolding ascending
    ascending_stop h t = rw (left_step i (omega arith), left_step (i + 1) h, t)

    pub ascending_done : n ≤ i + 1 → ascending g (left f n i) ≡ true
    unfolding ascending
    ascending_done h = go (dec_lt i n)
      where
        go : Dec (i < n) → ascending g (left f n i) ≡ true
        go (yes q) = rw (left_step i q, left_none (i + 1) h)
        go (no q) = rw (left_none i (omega arith))
