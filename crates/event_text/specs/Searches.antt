-- Helper: A byte looked for in a list of bytes.
use Rattle.std.specs.Prelude.{ℕ, zero, suc, Bool, false, cond, ◌||◌, List, [], ◌∷◌, eqb}

-- where the first is that is b, or the length where none is
unfoldable pub index_of : ℕ → List ℕ → ℕ
index_of b [] = 0
index_of b (x ∷ xs) = cond (eqb x b) 0 (suc (index_of b xs))

-- one of the first k is b
unfoldable pub among : ℕ → ℕ → List ℕ → Bool
among zero b xs = false
among (suc k) b [] = false
among (suc k) b (x ∷ xs) = eqb x b || among k b xs
