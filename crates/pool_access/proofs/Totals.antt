-- Laws of a sum over the first records of a table. Assumes nothing.
use mathlib.Core.Path.{◌≡◌, refl, ap, ◌∙◌}
use mathlib.Core.List.{List, [], ◌∷◌}
use Prim.Native.Nat.{ℕ, ◌+◌, ◌≤◌, ◌<◌}
use native.Mathlib.Numerals.{add-one}
use native.Mathlib.Nat.{zero-add, add-zero}
use native.Mathlib.Omega.{arith}
use Rattle.base_blocks.specs.Lists.{listed, total}
use Rattle.base_tables.specs.Records.{record_at, table}
use Rattle.base_tables.proofs.Records.{table_left}
use Rattle.base_blocks.proofs.Lists.{total_append}
use Rattle.base_blocks.proofs.Listed.{listed_more, left, left_split, total_more, total_done}

module _ {ℓ} {A : Type ℓ} (w : ℕ) (rd : List ℕ → A) (f : A → ℕ) (s : List ℕ) where
  pub total_none : total f (table w rd 0 s) ≡ 0
  unfolding table listed total
  total_none = refl

  -- one record more
  pub total_next : (i : ℕ) → total f (table w rd (i + 1) s) ≡ total f (table w rd i s) + f (record_at w rd s i)
  unfolding table total
  total_next i =
      let rec = record_at w rd s in
      ap (λ (k : ℕ). total f (listed rec 0 k)) (add-one i)
      ∙ ap (total f) (listed_more rec 0 i)
      ∙ total_append f (listed rec 0 i) (rec (0 + i) ∷ [])
      ∙ ap (λ (k : ℕ). total f (listed rec 0 i) + k) (add-zero (f (rec (0 + i))) ∙ ap (λ (k : ℕ). f (rec k)) (zero-add i))

  -- the sum of the first i, and that of those from i on
  pub total_split : (i n : ℕ) → i ≤ n → total f (table w rd n s) ≡ total f (table w rd i s) + total f (left (record_at w rd s) n i)
  unfolding table
  total_split i n h = ap (total f) (left_split (record_at w rd s) n i h) ∙ total_append f (listed (record_at w rd s) 0 i) (left (record_at w rd s) n i)

  -- the first i sum up to no more than all
  pub total_first : (i n : ℕ) → i ≤ n → total f (table w rd i s) ≤ total f (table w rd n s)
  total_first i n h = omega (arith, total_split i n h)

  -- nor do they with record i
  pub total_with : (i n : ℕ) → i < n → total f (table w rd i s) + f (record_at w rd s i) ≤ total f (table w rd n s)
  total_with i n h = omega (arith, total_split i n (omega arith), total_more (record_at w rd s) n f i h)

  -- ---- the loop that sums the first n up: what it has, and what is left

  pub sum_start : (n : ℕ) → 0 + total f (left (record_at w rd s) n 0) ≡ total f (table w rd n s)
  sum_start n = zero-add (total f (left (record_at w rd s) n 0)) ∙ ap (total f) (table_left w rd n s)

  module _ (n i sum : ℕ) (inv : sum + total f (left (record_at w rd s) n i) ≡ total f (table w rd n s)) where
    -- with the next one it stays within the sum of all
    pub sum_fits : (x : ℕ) → x ≡ f (record_at w rd s i) → i < n → sum + x ≤ total f (table w rd n s)
    sum_fits x e h = omega (arith, total_more (record_at w rd s) n f i h)

    pub sum_more : (x : ℕ) → x ≡ f (record_at w rd s i) → i < n → sum + x + total f (left (record_at w rd s) n (i + 1)) ≡ total f (table w rd n s)
    sum_more x e h = omega (arith, total_more (record_at w rd s) n f i h)

    pub sum_done : n ≤ i → sum ≡ total f (table w rd n s)
    sum_done h = omega (arith, total_done (record_at w rd s) n f i h)
