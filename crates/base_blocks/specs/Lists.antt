-- Rule: Lists and numbers: what every layer's definitions are made of.
use Rattle.std.specs.Prelude.{ℕ, zero, suc, ◌+◌, ◌-◌, ◌/◌, Bool, true, cond, ◌&&◌, List, [], ◌∷◌, ◌++◌, length, take, drop, nat_lt}

-- a / b, rounded up
unfoldable pub ceil_div : ℕ → ℕ → ℕ
ceil_div a b = (a + (b - 1)) / b

-- f i, f (i + 1), .., n of them
unfoldable pub listed {ℓ} : {A : Type ℓ} → (ℕ → A) → ℕ → ℕ → List A
listed f i zero = []
listed f i (suc n) = f i ∷ listed f (suc i) n

-- xs laid over the front of ys: what stands past xs stays
unfoldable pub over {ℓ} : {A : Type ℓ} → List A → List A → List A
over xs ys = xs ++ drop (length xs) ys

-- xs without the k elements from index i on
unfoldable pub removed {ℓ} : {A : Type ℓ} → ℕ → ℕ → List A → List A
removed i k xs = take i xs ++ drop (i + k) xs

-- xs with ys put in before its element at index i
unfoldable pub inserted {ℓ} : {A : Type ℓ} → ℕ → List A → List A → List A
inserted i ys xs = take i xs ++ (ys ++ drop i xs)

-- p holds of every one
unfoldable pub all {ℓ} : {A : Type ℓ} → (A → Bool) → List A → Bool
all p [] = true
all p (x ∷ xs) = p x && all p xs

-- those of which p holds, in order
unfoldable pub keep {ℓ} : {A : Type ℓ} → (A → Bool) → List A → List A
keep p [] = []
keep p (x ∷ xs) = cond (p x) (x ∷ keep p xs) (keep p xs)

-- the sum of f over them
unfoldable pub total {ℓ} : {A : Type ℓ} → (A → ℕ) → List A → ℕ
total f [] = 0
total f (x ∷ xs) = f x + total f xs

-- f is strictly ascending along them
unfoldable pub ascending {ℓ} : {A : Type ℓ} → (A → ℕ) → List A → Bool
ascending f [] = true
ascending f (x ∷ []) = true
ascending f (x ∷ y ∷ xs) = nat_lt (f x) (f y) && ascending f (y ∷ xs)

-- every test of the list passes; of a list that is written out this computes to the tests joined by `&&`
unfoldable pub after : Bool → List Bool → Bool
after a [] = a
after a (b ∷ bs) = after (a && b) bs

unfoldable pub tests : List Bool → Bool
unfolding after
tests bs = after true bs
