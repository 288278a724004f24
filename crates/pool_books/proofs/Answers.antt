-- What was written to an answer's buffer is what is read from it. Assumes nothing.
use Prim.Native.Nat.{ℕ, zero, suc, ◌+◌, ◌*◌, ◌<◌}
use mathlib.Core.Path.{◌≡◌, refl, sym, ap, ap₂, ◌∙◌}
use mathlib.Core.List.{List, [], ◌∷◌, ◌++◌, append_assoc}
use native.Mathlib.Nat.{mul-zero, mul-suc, add_comm}
use native.Mathlib.Omega.{arith}
use lib.ListN.{length, take, drop, get_or}
use lib.Seq.{drop-append-add, take-length}
use Rattle.base_blocks.specs.Lists.{listed, over}
use Rattle.base_blocks.proofs.Lists.{take_over}
use Rattle.base_blocks.proofs.Listed.{listed_same, listed_get_d}
use Rattle.base_tables.specs.Records.{record_at, table, flat}
use Rattle.grid_rects.specs.declared.rect.Region.{Region}
use Rattle.grid_rects.specs.declared.rect.Region.TheVariants.{Whole, Part}
use Rattle.pool_rules.specs.Model.{PreserveCopy}
use Rattle.pool_memory.specs.Calls.{copy_numbers, view_numbers, region_numbers}
use Rattle.pool_books.specs.LentLists.{read_copy}
use Rattle.pool_memory.specs.MemoryConstants.{copy_stride}

-- records that are read as they were written, whatever else is read
module _ {A : Type 0} (w : ℕ) (rd : List ℕ → A) (wr : A → List ℕ) (long : (a : A) → length (wr a) ≡ w)
    (read : (a : A) (l : List ℕ) → rd (wr a ++ l) ≡ a) where
  record_flat : (xs : List A) (rest : List ℕ) (k : ℕ) (d : A) → k < length xs → record_at w rd (flat wr xs ++ rest) k ≡ get_or xs k d
  unfolding record_at flat
  record_flat [] rest k d h = absurd (let y : ⊥ = omega arith in y)
  record_flat (x ∷ xs) rest zero d h =
      ap₂ (λ (n : ℕ) (l : List ℕ). rd (drop n l)) (mul-zero w) (append_assoc (wr x) (flat wr xs) rest) ∙ read x (flat wr xs ++ rest)
  record_flat (x ∷ xs) rest (suc k) d h =
      ap₂ (λ (n : ℕ) (l : List ℕ). rd (drop n l)) (mul-suc w k ∙ add_comm (w * k) w ∙ ap (λ (n : ℕ). n + w * k) (sym (long x)))
      (append_assoc (wr x) (flat wr xs) rest)
      ∙ ap rd (drop-append-add (wr x) (flat wr xs ++ rest) (w * k))
      ∙ record_flat xs rest k d (omega arith)

  pub table_over : (xs : List A) (buffer : List ℕ) → table w rd (length xs) (over (flat wr xs) buffer) ≡ xs
  unfolding table over listed
  table_over [] buffer = refl
  table_over (x ∷ xs) buffer =
      let rest = drop (length (flat wr (x ∷ xs))) buffer in
      listed_same (record_at w rd (flat wr (x ∷ xs) ++ rest)) (λ k. get_or (x ∷ xs) k x) (length (x ∷ xs)) 0 0
      (λ j q. record_flat (x ∷ xs) rest (0 + j) x (omega arith))
      ∙ listed_get_d x (x ∷ xs)

long_copy : (c : PreserveCopy) → length (copy_numbers c) ≡ copy_stride
unfolding copy_numbers
long_copy c = go c.region
  where
    go : (r : Region) → length (c.slice ∷ c.level ∷ region_numbers r) ≡ copy_stride
    go Whole = refl
    go (Part r) = refl

read_copy_lem : (c : PreserveCopy) (l : List ℕ) → read_copy (copy_numbers c ++ l) ≡ c
unfolding copy_numbers read_copy
read_copy_lem c l = go c.region
  where
    go : (r : Region) → read_copy (c.slice ∷ c.level ∷ (region_numbers r ++ l)) ≡ record { slice = c.slice; level = c.level; region = r }
    go Whole = refl
    go (Part r) = refl

pub copies_read : (cs : List PreserveCopy) (buffer : List ℕ) → table copy_stride read_copy (length cs) (over (flat copy_numbers cs) buffer) ≡ cs
copies_read = table_over copy_stride read_copy copy_numbers long_copy read_copy_lem

flat_views : (vs : List ℕ) → flat view_numbers vs ≡ vs
unfolding flat
flat_views [] = refl
flat_views (v ∷ vs) = ap (λ (l : List ℕ). v ∷ l) (flat_views vs)

pub views_read : (vs buffer : List ℕ) → take (length vs) (over (flat view_numbers vs) buffer) ≡ vs
views_read vs buffer =
    ap (λ (l : List ℕ). take (length vs) (over l buffer)) (flat_views vs) ∙ take_over vs buffer (length vs) (omega arith) ∙ take-length vs
