-- Rule: A property of every element of a list.
use Rattle.std.specs.Prelude.{List, [], ◌∷◌}

pub data All {ℓ} {A : Type ℓ} (P : A → Type 0) : List A → Type ℓ where
  nil : All P []
  cons : {x : A} {xs : List A} → P x → All P xs → All P (x ∷ xs)
