-- The numbers that stand for a history's grids, two for each: how many they are, and each of them. Assumes nothing.
use mathlib.Core.Path.{◌≡◌, refl, sym, ap, ap₂, ◌∙◌}
use mathlib.Core.List.{List, [], ◌∷◌, ◌++◌}
use Prim.Native.Nat.{ℕ, zero, suc, ◌+◌, ◌*◌, ◌<◌}
use native.Mathlib.Nat.{add-zero}
use native.Mathlib.Omega.{arith}
use lib.ListN.{length, get_or, set}
use Rattle.base_blocks.specs.Lists.{listed}
use Rattle.grid_shapes.specs.declared.shape.VersionShape.{VersionShape}
use Rattle.grid_stamps.specs.Grids.{StampGrid}
use Rattle.pool_rules.specs.RuleConstants.{grid_stride}
use Rattle.pool_records.specs.Tilings.{tiling_number}
use Rattle.pool_memory.specs.Writing.{newest_from}

-- two for one more
two_more : (n : ℕ) → grid_stride * suc n ≡ suc (suc (grid_stride * n))
two_more n = omega arith

two_beside : (n : ℕ) → grid_stride * suc n + 1 ≡ suc (suc (grid_stride * n + 1))
two_beside n = omega arith

module _ (s : VersionShape) where
  pub length_newest_from : (j : ℕ) (gs : List StampGrid) → length (newest_from s j gs) ≡ grid_stride * length gs
  unfolding newest_from
  length_newest_from j [] = refl
  length_newest_from j (g ∷ gs) = ap (λ (n : ℕ). suc (suc n)) (length_newest_from (suc j) gs) ∙ sym (two_more (length gs))

  -- the k-th grid's newest stamp, and its tiling
  pub newest_of_lem : (j : ℕ) (gs : List StampGrid) (others : List ℕ) (k : ℕ) (d : StampGrid) → k < length gs
      → get_or (newest_from s j gs ++ others) (grid_stride * k) 0 ≡ (get_or gs k d).newest
  unfolding newest_from
  newest_of_lem j [] others k d h = absurd (let y : ⊥ = omega arith in y)
  newest_of_lem j (g ∷ gs) others zero d h = refl
  newest_of_lem j (g ∷ gs) others (suc k) d h =
      ap (λ (n : ℕ). get_or (newest_from s j (g ∷ gs) ++ others) n 0) (two_more k) ∙ newest_of_lem (suc j) gs others k d (omega arith)

  pub tiling_of_lem : (j : ℕ) (gs : List StampGrid) (others : List ℕ) (k : ℕ) → k < length gs
      → get_or (newest_from s j gs ++ others) (grid_stride * k + 1) 0 ≡ tiling_number s (j + k)
  unfolding newest_from
  tiling_of_lem j [] others k h = absurd (let y : ⊥ = omega arith in y)
  tiling_of_lem j (g ∷ gs) others zero h = ap (tiling_number s) (sym (add-zero j))
  tiling_of_lem j (g ∷ gs) others (suc k) h =
      ap (λ (n : ℕ). get_or (newest_from s j (g ∷ gs) ++ others) n 0) (two_beside k)
      ∙ tiling_of_lem (suc j) gs others k (omega arith)
      ∙ ap (tiling_number s) (let e : suc j + k ≡ j + suc k = omega arith in e)

  -- one grid stamped: its newest stamp alone changes
  pub newest_set : (j : ℕ) (gs : List StampGrid) (k : ℕ) (g : StampGrid)
      → newest_from s j (set gs k g) ≡ set (newest_from s j gs) (grid_stride * k) g.newest
  unfolding newest_from
  newest_set j [] k g = refl
  newest_set j (x ∷ gs) zero g = refl
  newest_set j (x ∷ gs) (suc k) g =
      ap (λ (l : List ℕ). x.newest ∷ (tiling_number s j ∷ l)) (newest_set (suc j) gs k g)
      ∙ sym (ap (λ (n : ℕ). set (newest_from s j (x ∷ gs)) n g.newest) (two_more k))

  -- grids that are read one behind the other: where their tilings stand beside their newest stamps, the numbers are those that stand there
  pub newest_listed : (read : ℕ → StampGrid) (at : ℕ → ℕ) (j p n : ℕ)
      → ((k : ℕ) → k < n → ((read (j + k)).newest ≡ at (p + grid_stride * k)) × (tiling_number s (j + k) ≡ at (p + grid_stride * k + 1)))
      → newest_from s j (listed read j n) ≡ listed at p (grid_stride * n)
  unfolding newest_from listed
  newest_listed read at j p zero h = refl
  newest_listed read at j p (suc n) h =
      ap₂ (λ (a : ℕ) (l : List ℕ). a ∷ l)
      (ap (λ (m : ℕ). (read m).newest) (sym (add-zero j)) ∙ (h 0 (omega arith)).0 ∙ ap at (let e : p + grid_stride * 0 ≡ p = omega arith in e))
      (ap₂ (λ (a : ℕ) (l : List ℕ). a ∷ l)
      (ap (tiling_number s) (sym (add-zero j)) ∙ (h 0 (omega arith)).1 ∙ ap at (let e : p + grid_stride * 0 + 1 ≡ suc p = omega arith in e))
      (newest_listed read at (suc j) (suc (suc p)) n (λ k q. (
        ap (λ (m : ℕ). (read m).newest) (let e : suc j + k ≡ j + suc k = omega arith in e) ∙ (h (suc k) (omega arith)).0
            ∙ ap at (let e : p + grid_stride * suc k ≡ suc (suc p) + grid_stride * k = omega arith in e),
        ap (tiling_number s) (let e : suc j + k ≡ j + suc k = omega arith in e) ∙ (h (suc k) (omega arith)).1
            ∙ ap at (let e : p + grid_stride * suc k + 1 ≡ suc (suc p) + grid_stride * k + 1 = omega arith in e),
      ))))
      ∙ sym (ap (listed at p) (two_more n))
