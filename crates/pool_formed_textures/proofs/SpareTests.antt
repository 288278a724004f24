-- What a pass learns at one spare. Assumes nothing.
use mathlib.Core.Path.{◌≡◌, sym, ap, ap₂, ◌∙◌}
use mathlib.Core.Bool.{Bool, true, false, ◌&&◌, and-false}
use mathlib.Core.List.{List}
use Prim.Native.Nat.{ℕ, zero, suc, ◌+◌, ◌*◌, ◌≤◌, ◌<◌}
use native.Mathlib.Omega.{arith}
use borrow.Author.Tests.{leb-true, le-leb, lt-leb}
use lib.Dec.{leb}
use lib.ListN.{drop, get_or}
use lib.Seq.{get_or-drop}
use Rattle.base_tables.specs.Records.{record_at}
use Rattle.pool_rules.specs.Model.{limit}
use Rattle.pool_records.specs.Held.{held_of}
use Rattle.pool_records.specs.Spare.{read_spare}
use Rattle.pool_memory.specs.IsPool.{is_held_count, is_spare}
use Rattle.pool_formed_textures.specs.Textures.{model_spare_at}
use Rattle.pool_formed_textures.proofs.Tests.{same_test}
use Rattle.pool_records.specs.RecordConstants.{spare_held_at, spare_parked_at, spare_stride}

-- one more than the count stands there, and 0 for unknown
held_count : (n : ℕ) → is_held_count (held_of n) ≡ leb n (limit + 1)
held_count zero = sym (le-leb 0 (limit + 1) (omega arith))
held_count (suc c) =
    same_test (leb c limit) (leb (suc c) (limit + 1)) (λ e. le-leb (suc c) (limit + 1) (omega (arith, leb-true c limit e))) (λ e. le-leb c limit (omega (arith, leb-true (suc c) (limit + 1) e)))

module _ (s : List ℕ) (k : ℕ) where
  spare_test : is_spare (model_spare_at s k) ≡ leb (get_or s (spare_stride * k + spare_held_at) 0) (limit + 1) && leb (get_or s (spare_stride * k + spare_parked_at) 0) limit
  unfolding is_spare model_spare_at record_at read_spare
  spare_test =
      ap₂ (λ (a b : Bool). a && b)
      (held_count (get_or (drop (spare_stride * k) s) 1 0) ∙ ap (λ (n : ℕ). leb n (limit + 1)) (get_or-drop (spare_stride * k) s spare_held_at 0))
      (ap (λ (n : ℕ). leb n limit) (get_or-drop (spare_stride * k) s spare_parked_at 0))

  pub spare_fits : get_or s (spare_stride * k + spare_held_at) 0 ≤ limit + 1 → get_or s (spare_stride * k + spare_parked_at) 0 ≤ limit → is_spare (model_spare_at s k) ≡ true
  spare_fits h p = spare_test ∙ rw (le-leb (get_or s (spare_stride * k + spare_held_at) 0) (limit + 1) h, le-leb (get_or s (spare_stride * k + spare_parked_at) 0) limit p)

  pub spare_holds_more : limit + 1 < get_or s (spare_stride * k + spare_held_at) 0 → is_spare (model_spare_at s k) ≡ false
  spare_holds_more h = spare_test ∙ rw (lt-leb (get_or s (spare_stride * k + spare_held_at) 0) (limit + 1) h)

  pub spare_parked_late : limit < get_or s (spare_stride * k + spare_parked_at) 0 → is_spare (model_spare_at s k) ≡ false
  spare_parked_late h = spare_test ∙ rw (lt-leb (get_or s (spare_stride * k + spare_parked_at) 0) limit h) (and-false (leb (get_or s (spare_stride * k + spare_held_at) 0) (limit + 1)))
