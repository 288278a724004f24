-- Rule: A ring of records of w numbers each: cap places in one list of numbers, the first record at place head, wrapping at the end.
use Rattle.std.specs.Prelude.{ℕ, ◌+◌, ◌*◌, ◌-◌, suc, cond, List, [], ◌∷◌, ltb}
use Rattle.std.proofs.lemmas.List.Edits.{sets}
use Rattle.base_blocks.specs.Lists.{listed}
use Rattle.base_tables.specs.Records.{record_at}

-- the place of the i-th record
unfoldable pub place_of : ℕ → ℕ → ℕ → ℕ
place_of cap head i = cond (ltb i (cap - head)) (head + i) (i - (cap - head))

-- the i-th record
unfoldable pub along {ℓ} : {A : Type ℓ} → ℕ → (List ℕ → A) → ℕ → ℕ → List ℕ → ℕ → A
along w rd cap head s i = record_at w rd s (place_of cap head i)

-- the first n records
unfoldable pub ring {ℓ} : {A : Type ℓ} → ℕ → (List ℕ → A) → ℕ → ℕ → ℕ → List ℕ → List A
ring w rd cap head n s = listed (along w rd cap head s) 0 n

-- the records written along the ring from its i-th place on; what stands elsewhere stays
unfoldable pub laid {ℓ} : {A : Type ℓ} → ℕ → (A → List ℕ) → ℕ → ℕ → ℕ → List A → List ℕ → List ℕ
laid w wr cap head i [] s = s
laid w wr cap head i (x ∷ xs) s = laid w wr cap head (suc i) xs (sets s (w * place_of cap head i) (wr x))
