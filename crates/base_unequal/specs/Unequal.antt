-- Rule: Blocks of any sizes, written one after the other from the front of one list of numbers.
use Rattle.std.specs.Prelude.{ℕ, ◌+◌, Bool, true, ◌&&◌, List, [], ◌∷◌, ◌++◌, eqb, length, take, drop}
use Rattle.base_blocks.specs.Lists.{total}

-- the numbers of the blocks, one block after the other; wr writes one out
unfoldable pub flat {ℓ} : {A : Type ℓ} → (A → List ℕ) → List A → List ℕ
flat wr [] = []
flat wr (x ∷ xs) = wr x ++ flat wr xs

-- how many numbers a block takes
abbrev pub size_by {ℓ} : {A : Type ℓ} → (A → List ℕ) → A → ℕ
size_by wr a = length (wr a)

-- where block i begins: the sum of the sizes before it
unfoldable pub start_of {ℓ} : {A : Type ℓ} → (A → ℕ) → ℕ → List A → ℕ
start_of size i xs = total size (take i xs)

-- xs with its k elements from index i on replaced by ys, which may be more or fewer
unfoldable pub renewed {ℓ} : {A : Type ℓ} → ℕ → ℕ → List A → List A → List A
renewed i k ys xs = take i xs ++ (ys ++ drop (i + k) xs)

-- one block for each head: the head says how many numbers the block takes, and reads it from just these
unfoldable pub blocks {ℓ ℓ'} : {H : Type ℓ} {A : Type ℓ'} → (H → ℕ) → (H → List ℕ → A) → List H → List ℕ → List A
blocks size rd [] s = []
blocks size rd (h ∷ hs) s = rd h (take (size h) s) ∷ blocks size rd hs (drop (size h) s)

-- each head holds where its block begins, n being where the first does: blocks neither overlap nor leave a gap
unfoldable pub starts_fit {ℓ} : {H : Type ℓ} → (H → ℕ) → (H → ℕ) → ℕ → List H → Bool
starts_fit size start n [] = true
starts_fit size start n (h ∷ hs) = eqb (start h) n && starts_fit size start (n + size h) hs
