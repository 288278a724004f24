-- Helper: Several small numbers as one, by which the code handles a few bytes at once.
use Rattle.std.specs.Prelude.{ℕ, ◌+◌, ◌*◌, ◌^◌, List, [], ◌∷◌}

-- numbers of k bits each as one, the first as the lowest
unfoldable pub packed : ℕ → List ℕ → ℕ
packed k [] = 0
packed k (b ∷ bs) = packed k bs * 2 ^ k + b
