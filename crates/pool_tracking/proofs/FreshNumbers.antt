-- The numbers of a new history's grids, written grid by grid: each grid's tiling, and the run of them one longer. Assumes nothing.
use mathlib.Core.Path.{◌≡◌, refl, sym, ap, ap₂, ◌∙◌}
use mathlib.Core.List.{List, [], ◌∷◌, ◌++◌}
use Prim.Native.Nat.{ℕ, zero, suc, ◌+◌, ◌*◌}
use native.Mathlib.Nat.{add-zero, zero-add}
use native.Mathlib.Numerals.{add-one}
use native.Mathlib.Omega.{arith}
use lib.ListN.{length, set}
use lib.Seq.{sets}
use Rattle.grid_shapes.specs.declared.shape.VersionShape.{VersionShape}
use Rattle.pool_rules.specs.RuleConstants.{grid_stride}
use Rattle.pool_records.specs.Tilings.{tiling_number, fresh_from}
use Rattle.pool_memory.proofs.Rewritten.{sets_append}

module _ (s : VersionShape) where
  -- ---- a run of them

  pub length_fresh : (j k : ℕ) → length (fresh_from s j k) ≡ grid_stride * k
  unfolding fresh_from
  length_fresh j zero = refl
  length_fresh j (suc k) =
      ap (λ (n : ℕ). suc (suc n)) (length_fresh (suc j) k) ∙ (let e : suc (suc (grid_stride * k)) ≡ grid_stride * suc k = omega arith in e)

  -- the last of them
  fresh_more : (j k : ℕ) → fresh_from s j (suc k) ≡ fresh_from s j k ++ (0 ∷ (tiling_number s (j + k) ∷ []))
  unfolding fresh_from
  fresh_more j zero = ap (λ (m : ℕ). 0 ∷ (tiling_number s m ∷ [])) (sym (add-zero j))
  fresh_more j (suc k) =
      ap (λ (l : List ℕ). 0 ∷ (tiling_number s j ∷ l))
      (fresh_more (suc j) k
      ∙ ap (λ (m : ℕ). fresh_from s (suc j) k ++ (0 ∷ (tiling_number s m ∷ []))) (let e : suc j + k ≡ j + suc k = omega arith in e))

  pub none_written : (l : List ℕ) (at : ℕ) → l ≡ sets l at (fresh_from s 0 0)
  unfolding fresh_from
  none_written l at = refl

  -- a grid's two numbers, behind those of the grids before it
  pub one_written : (l : List ℕ) (at k number : ℕ) → number ≡ tiling_number s k
      → set (set (sets l at (fresh_from s 0 k)) (at + grid_stride * k) 0) (at + grid_stride * k + 1) number ≡ sets l at (fresh_from s 0 (k + 1))
  one_written l at k number e =
      let before = sets l at (fresh_from s 0 k) in
      ap₂ (λ (p t : ℕ). set (set before (at + grid_stride * k) 0) p t) (add-one (at + grid_stride * k)) (e ∙ ap (tiling_number s) (sym (zero-add k)))
      ∙ ap (λ (n : ℕ). sets before (at + n) (0 ∷ (tiling_number s (0 + k) ∷ []))) (sym (length_fresh 0 k))
      ∙ sym (sets_append l at (fresh_from s 0 k) (0 ∷ (tiling_number s (0 + k) ∷ [])))
      ∙ ap (sets l at) (sym (fresh_more 0 k))
      ∙ ap (λ (n : ℕ). sets l at (fresh_from s 0 n)) (sym (add-one k))
