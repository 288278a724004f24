-- Rule: A list of numbers as a table of records of w numbers each: rd reads a record from the front of a list. Records are blocks of one size, and
-- `flat wr` writes them out.
use Rattle.std.specs.Prelude.{ℕ, ◌*◌, List, drop}
use Rattle.base_blocks.specs.Lists.{listed}
unfoldable pub use Rattle.base_unequal.specs.Unequal.{flat}

-- record i of s
unfoldable pub record_at {ℓ} : {A : Type ℓ} → ℕ → (List ℕ → A) → List ℕ → ℕ → A
record_at w rd s i = rd (drop (w * i) s)

-- the first n records of s
unfoldable pub table {ℓ} : {A : Type ℓ} → ℕ → (List ℕ → A) → ℕ → List ℕ → List A
table w rd n s = listed (record_at w rd s) 0 n
