-- The counts after a texture is changed, put in or taken out, and after spares are put in or taken out. Assumes nothing.
use mathlib.Core.Path.{◌≡◌, refl, sym, ap, ◌∙◌}
use mathlib.Core.List.{List, [], ◌∷◌, flat_map}
use Prim.Native.Nat.{ℕ, zero, suc, ◌+◌, ◌-◌, ◌≤◌, ◌<◌}
use native.Mathlib.Numerals.{add-one}
use native.Mathlib.Omega.{arith}
use lib.ListN.{length, take, drop, get_or, set, length-append}
use Rattle.base_blocks.specs.Lists.{total, removed, inserted}
use Rattle.base_blocks.proofs.Lists.{length_removed, length_inserted, total_append}
use Rattle.pool_rules.specs.Model.{Spare, VersionState, PoolModel}
use Rattle.pool_rules.proofs.Lists.{total_cut}
use Rattle.pool_memory.specs.Lent.{Lent}
use Rattle.pool_memory.specs.Reading.{tracked_records, model_of}
use Rattle.pool_memory.specs.Writing.{every_spare}
use Rattle.pool_memory.proofs.Parts.{total_next}
use Rattle.pool_memory.proofs.Runs.{spares_of, spare_count, state_of, tracked_model, model_at}
use Rattle.pool_memory.proofs.Changes.{spares_before, length_spares}

-- as many as all of them in a row
pub count_spares : (ts : List (VersionState ℕ)) → total spare_count ts ≡ length (every_spare ts)
unfolding total flat_map
count_spares [] = refl
count_spares (t ∷ ts) = ap (λ (n : ℕ). spare_count t + n) (count_spares ts) ∙ sym (length-append t.spares (every_spare ts))

-- ---- a sum after one is changed, taken out or put in

module _ {A : Type 0} (f : A → ℕ) where
  pub total_set : (xs : List A) (i : ℕ) (a d : A) → i < length xs → total f (set xs i a) + f (get_or xs i d) ≡ total f xs + f a
  unfolding total
  total_set [] i a d h = absurd (let y : ⊥ = omega arith in y)
  total_set (x ∷ xs) zero a d h = omega arith
  total_set (x ∷ xs) (suc i) a d h = omega (arith, total_set xs i a d (omega arith))

  pub total_removed : (xs : List A) (i : ℕ) (d : A) → i < length xs → total f (removed i 1 xs) + f (get_or xs i d) ≡ total f xs
  unfolding removed
  total_removed xs i d h =
      omega (
        arith,
        total_append f (take i xs) (drop (i + 1) xs),
        ap (λ (n : ℕ). total f (drop n xs)) (add-one i),
        total_cut f (suc i) xs,
        total_next f xs i d h,
      )

  pub total_inserted : (xs : List A) (i : ℕ) (a : A) → total f (inserted i (a ∷ []) xs) ≡ total f xs + f a
  unfolding inserted total
  total_inserted xs i a = omega (arith, total_append f (take i xs) (a ∷ drop i xs), total_cut f i xs)

module _ (l : Lent) (p : PoolModel ℕ) where
  -- ---- tracked textures

  pub tracked_removed : (i k : ℕ) → i + k ≤ l.pool.tracked → p.textures ≡ removed i k (model_of l).textures
      → length p.textures ≡ l.pool.tracked - k
  tracked_removed i k h e =
      ap length e ∙ length_removed i (model_of l).textures k (omega (arith, tracked_model l)) ∙ ap (λ (n : ℕ). n - k) (tracked_model l)

  -- ---- kept spares

  module _ (kept : total spares_of (tracked_records l) ≡ l.pool.kept) where
    pub kept_inserted : (k : ℕ) (x : Spare ℕ) → k ≤ l.pool.kept → every_spare p.textures ≡ inserted k (x ∷ []) (spares_before l)
        → total spare_count p.textures ≡ l.pool.kept + 1
    kept_inserted k x h e =
        count_spares p.textures ∙ ap length e ∙ length_inserted k (spares_before l) (x ∷ []) (omega (arith, length_spares l))
        ∙ ap (λ (n : ℕ). n + 1) (length_spares l ∙ kept)

    pub kept_removed : (k n : ℕ) → k + n ≤ l.pool.kept → every_spare p.textures ≡ removed k n (spares_before l)
        → total spare_count p.textures ≡ l.pool.kept - n
    kept_removed k n h e =
        count_spares p.textures ∙ ap length e ∙ length_removed k (spares_before l) n (omega (arith, length_spares l))
        ∙ ap (λ (m : ℕ). m - n) (length_spares l ∙ kept)

  -- ---- what the histories use: grids or stamps, whichever `used` counts

  module _ (used : VersionState ℕ → ℕ) (count : ℕ) (counted : total used (model_of l).textures ≡ count) where
    -- texture i changed
    pub used_set : (i : ℕ) (t : VersionState ℕ) → i < l.pool.tracked → p.textures ≡ set (model_of l).textures i t
        → total used p.textures + used (state_of l i) ≡ count + used t
    used_set i t h e =
        let a = ap (total used) e in
        let b = total_set used (model_of l).textures i t (state_of l 0) (omega (arith, tracked_model l)) in
        let c = ap used (model_at l i (state_of l 0) h) in
        omega (arith, a, b, c, counted)

    -- taken out
    pub used_removed : (i : ℕ) → i < l.pool.tracked → p.textures ≡ removed i 1 (model_of l).textures
        → total used p.textures + used (state_of l i) ≡ count
    used_removed i h e =
        let a = ap (total used) e in
        let b = total_removed used (model_of l).textures i (state_of l 0) (omega (arith, tracked_model l)) in
        let c = ap used (model_at l i (state_of l 0) h) in
        omega (arith, a, b, c, counted)

    -- one put in
    pub used_inserted : (i : ℕ) (t : VersionState ℕ) → p.textures ≡ inserted i (t ∷ []) (model_of l).textures
        → total used p.textures ≡ count + used t
    used_inserted i t e =
        let a = ap (total used) e in
        let b = total_inserted used (model_of l).textures i t in
        omega (arith, a, b, counted)
