-- Laws of sums that stop at 2 ^ 64 - 1. Assumes nothing.
use mathlib.Core.Path.{◌≡◌, refl, sym, ap, ◌∙◌}
use mathlib.Core.List.{List, [], ◌∷◌, ◌++◌}
use Prim.Native.Nat.{ℕ, ◌+◌, ◌≤◌, ◌<◌, min, ◌^◌, ◌-◌}
use native.Mathlib.Nat.{add-zero, zero-add, add_assoc}
use native.Mathlib.Numerals.{add-one}
use native.Mathlib.Decide.{dec_lt}
use native.Mathlib.Omega.{arith}
use borrow.Author.Tests.{lt-ltb, le-ltb}
use Rattle.base_blocks.specs.Lists.{total, listed}
use Rattle.base_blocks.proofs.Lists.{total_append}
use Rattle.base_blocks.proofs.Listed.{listed_more}
use Rattle.base_digits.specs.Digits.{digits_of}
use Rattle.base_tables.specs.Records.{table, record_at}
use Rattle.grid_shapes.specs.declared.shape.VersionShape.{VersionShape}
use Rattle.pool_rules.specs.Model.{PreserveCopy}
use Rattle.pool_books.specs.LentLists.{read_copy}
use Rattle.pool_memory.specs.MemoryConstants.{copy_stride}
use Rattle.event_cost.specs.declared.sums.Sums.{Sums}
use Rattle.event_cost.specs.Costs.{copy_cost, whole_cost, plan_bytes, whole_bytes, copy_sums, plan_sums, no_sums, plus, largest_sum, clipped, clipped_sums, sum_field}

-- ---- one sum

-- a sum past the largest, and one within it
pub clip_past : (a b : ℕ) → a < 2 ^ 64 → largest_sum - a < b → largest_sum ≡ clipped (a + b)
unfolding clipped
clip_past a b f h = omega arith

pub clip_within : (a b : ℕ) → a < 2 ^ 64 → b ≤ largest_sum - a → a + b ≡ clipped (a + b)
unfolding clipped
clip_within a b f h = omega arith

clip_first : (a b : ℕ) → clipped (clipped a + b) ≡ clipped (a + b)
unfolding clipped
clip_first a b = omega arith

clip_second : (a b : ℕ) → clipped (a + clipped b) ≡ clipped (a + b)
unfolding clipped
clip_second a b = omega arith

-- ---- a sum as it is printed

pub field_past : (n : ℕ) → largest_sum ≤ n → 45 ∷ [] ≡ sum_field n
unfolding sum_field
field_past n h = rw (le-ltb n largest_sum h)

pub field_within : (n : ℕ) → n < largest_sum → digits_of n ≡ sum_field n
unfolding sum_field
field_within n h = rw (lt-ltb n largest_sum h)

-- a clipped sum is printed as the sum is
pub field_clipped : (n : ℕ) → sum_field (clipped n) ≡ sum_field n
unfolding clipped
field_clipped n = go (dec_lt n largest_sum)
  where
    go : Dec (n < largest_sum) → sum_field (min n largest_sum) ≡ sum_field n
    go (yes h) = ap sum_field (let e : min n largest_sum ≡ n = omega arith in e)
    go (no h) = sym (field_past (min n largest_sum) (omega arith)) ∙ field_past n (omega arith)

-- ---- both sums

module _ (a b : Sums) where
  pub clip_added : clipped_sums (plus (clipped_sums a) b) ≡ clipped_sums (plus a b)
  unfolding clipped_sums plus
  clip_added = λ i. record { moved = clip_first a.moved b.moved i; whole = clip_first a.whole b.whole i }

  pub clip_more : clipped_sums (plus a (clipped_sums b)) ≡ clipped_sums (plus a b)
  unfolding clipped_sums plus
  clip_more = λ i. record { moved = clip_second a.moved b.moved i; whole = clip_second a.whole b.whole i }

pub plus_assoc : (a b c : Sums) → plus (plus a b) c ≡ plus a (plus b c)
unfolding plus
plus_assoc a b c =
    λ i. record { moved = add_assoc a.moved b.moved c.moved i; whole = add_assoc a.whole b.whole c.whole i }

pub plus_none : (a : Sums) → plus a no_sums ≡ a
unfolding plus no_sums
plus_none a = λ i. record { moved = add-zero a.moved i; whole = add-zero a.whole i }

pub none_plus : (a : Sums) → plus no_sums a ≡ a
unfolding plus no_sums
none_plus a = λ i. record { moved = zero-add a.moved i; whole = zero-add a.whole i }

-- ---- the copies of a buffer one after the other

module _ (s : VersionShape) (copies : List ℕ) where
  one_more : (f : PreserveCopy → ℕ) (xs : List PreserveCopy) (x : PreserveCopy) → total f (xs ++ (x ∷ [])) ≡ total f xs + f x
  unfolding total
  one_more f xs x = total_append f xs (x ∷ []) ∙ ap (λ (k : ℕ). total f xs + k) (add-zero (f x))

  more_listed : (i : ℕ) → table copy_stride read_copy (i + 1) copies ≡ table copy_stride read_copy i copies ++ (record_at copy_stride read_copy copies i ∷ [])
  unfolding table
  more_listed i =
      ap (λ (k : ℕ). table copy_stride read_copy k copies) (add-one i) ∙ listed_more (record_at copy_stride read_copy copies) 0 i
      ∙ ap (λ (k : ℕ). table copy_stride read_copy i copies ++ (record_at copy_stride read_copy copies k ∷ [])) (zero-add i)

  copies_more : (i : ℕ) → plan_sums s (table copy_stride read_copy (i + 1) copies)
      ≡ plus (plan_sums s (table copy_stride read_copy i copies)) (copy_sums s (record_at copy_stride read_copy copies i))
  unfolding plan_sums plan_bytes whole_bytes plus copy_sums
  copies_more i =
      let xs = table copy_stride read_copy i copies in
      let x = record_at copy_stride read_copy copies i in
      ap (plan_sums s) (more_listed i) ∙ (λ j. record { moved = one_more (copy_cost s) xs x j; whole = one_more (whole_cost s) xs x j })

  pub copies_none : no_sums ≡ clipped_sums (plan_sums s (table copy_stride read_copy 0 copies))
  unfolding no_sums clipped_sums clipped plan_sums plan_bytes whole_bytes table listed total
  copies_none = refl

  pub copies_next : (i : ℕ) (sums cost added : Sums) → sums ≡ clipped_sums (plan_sums s (table copy_stride read_copy i copies))
      → cost ≡ copy_sums s (record_at copy_stride read_copy copies i) → added ≡ clipped_sums (plus sums cost)
      → added ≡ clipped_sums (plan_sums s (table copy_stride read_copy (i + 1) copies))
  copies_next i sums cost added p q r =
      r ∙ rw (p, q) (clip_added (plan_sums s (table copy_stride read_copy i copies)) (copy_sums s (record_at copy_stride read_copy copies i)) ∙ ap clipped_sums (sym (copies_more i)))
