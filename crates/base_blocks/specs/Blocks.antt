-- Rule: The largest number of a list (`largest`), and blocks of numbers moved, turned and looked through within one list.
use Rattle.std.specs.Prelude.{ℕ, ◌+◌, max, Bool, false, ◌||◌, List, [], ◌∷◌, ◌++◌, reverse, take, drop, ◌==◌, nat_le}
use Rattle.std.proofs.Math.Seq.{paste}

-- xs with the n numbers from index `from` on copied to the n places from index `to` on
unfoldable pub moved : List ℕ → ℕ → ℕ → ℕ → List ℕ
moved xs to from n = paste xs to (drop from xs) n

-- xs with its n elements from index at on in reverse order
unfoldable pub turned {ℓ} : {A : Type ℓ} → ℕ → ℕ → List A → List A
turned at n xs = take at xs ++ (reverse (take n (drop at xs)) ++ drop (at + n) xs)

-- xs with the k elements from index at + n on put before the n elements from index at on
unfoldable pub rotated {ℓ} : {A : Type ℓ} → ℕ → ℕ → ℕ → List A → List A
rotated at n k xs = take at xs ++ (take k (drop (at + n) xs) ++ (take n (drop at xs) ++ drop (at + n + k) xs))

-- x is at most b
unfoldable pub at_most : ℕ → ℕ → Bool
at_most b x = nat_le x b

-- b is one of the numbers
unfoldable pub member : ℕ → List ℕ → Bool
member b [] = false
member b (x ∷ xs) = x == b || member b xs

-- the largest of the numbers; 0 of none
unfoldable pub largest : List ℕ → ℕ
largest [] = 0
largest (x ∷ xs) = max x (largest xs)
