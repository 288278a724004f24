-- The newest stamps of a history's grids written, each at its grid's place: what stands elsewhere stays, and so do the tilings beside them. Assumes nothing.
use mathlib.Core.Path.{◌≡◌, refl, sym, ap, ap₂, ◌∙◌}
use mathlib.Core.List.{List, [], ◌∷◌, ◌++◌}
use Prim.Native.Nat.{ℕ, suc, ◌+◌, ◌*◌, ◌<◌}
use native.Mathlib.Nat.{add-zero, zero-add}
use native.Mathlib.Omega.{arith}
use lib.ListN.{length, get_or, set}
use lib.Seq.{sets, get_or-set_other, set-get_or}
use Rattle.grid_shapes.specs.declared.shape.VersionShape.{VersionShape}
use Rattle.grid_stamps.specs.Grids.{StampGrid}
use Rattle.pool_rules.specs.Model.{grid_count}
use Rattle.pool_rules.specs.RuleConstants.{grid_stride}
use Rattle.pool_records.specs.Tilings.{tiling_number, TilingsAt}
use Rattle.pool_memory.specs.Writing.{newest_from}
use Rattle.pool_history.specs.Remade.{newest_written}

-- a number that is no grid's newest stamp stays
pub elsewhere_stays : (newest : List ℕ) (grid : ℕ) (gs : List StampGrid) (p : ℕ) → ((j : ℕ) → j < length gs → p ≡ grid + grid_stride * j → ⊥)
    → get_or (newest_written newest grid gs) p 0 ≡ get_or newest p 0
unfolding newest_written
elsewhere_stays newest grid [] p ne = refl
elsewhere_stays newest grid (g ∷ gs) p ne =
    elsewhere_stays (set newest grid g.newest) (grid + grid_stride) gs p (λ j h e. ne (suc j) (omega arith) (omega (arith, e)))
    ∙ get_or-set_other newest grid p g.newest 0 (λ e. ne 0 (omega arith) (omega (arith, e)))

-- one more
pub written_more : (newest : List ℕ) (grid : ℕ) (gs : List StampGrid) (g : StampGrid)
    → newest_written newest grid (gs ++ (g ∷ [])) ≡ set (newest_written newest grid gs) (grid + grid_stride * length gs) g.newest
unfolding newest_written
written_more newest grid [] g = ap (λ (p : ℕ). set newest p g.newest) (sym (add-zero grid))
written_more newest grid (x ∷ gs) g =
    written_more (set newest grid x.newest) (grid + grid_stride) gs g
    ∙ ap (λ (p : ℕ). set (newest_written (set newest grid x.newest) (grid + grid_stride) gs) p g.newest)
    (let e : grid + grid_stride + grid_stride * length gs ≡ grid + grid_stride * suc (length gs) = omega arith in e)

-- ---- beside them their tilings

module _ (s : VersionShape) where
  written_from : (newest : List ℕ) (grid j : ℕ) (gs : List StampGrid)
      → ((k : ℕ) → k < length gs → get_or newest (grid + grid_stride * k + 1) 0 ≡ tiling_number s (j + k))
      → newest_written newest grid gs ≡ sets newest grid (newest_from s j gs)
  unfolding newest_written newest_from
  written_from newest grid j [] beside = refl
  written_from newest grid j (g ∷ gs) beside =
      let one = set newest grid g.newest in
      let here : get_or one (suc grid) 0 ≡ tiling_number s j =
      get_or-set_other newest grid (suc grid) g.newest 0 (λ e. omega (arith, e))
      ∙ ap (λ (p : ℕ). get_or newest p 0) (let e : suc grid ≡ grid + grid_stride * 0 + 1 = omega arith in e)
      ∙ beside 0 (omega arith) ∙ ap (tiling_number s) (add-zero j) in
      written_from one (grid + grid_stride) (suc j) gs (λ k h.
      get_or-set_other newest grid (grid + grid_stride + grid_stride * k + 1) g.newest 0 (λ e. omega (arith, e))
      ∙ ap (λ (p : ℕ). get_or newest p 0) (let e : grid + grid_stride + grid_stride * k + 1 ≡ grid + grid_stride * suc k + 1 = omega arith in e)
      ∙ beside (suc k) (omega arith) ∙ ap (tiling_number s) (let e : j + suc k ≡ suc j + k = omega arith in e))
      ∙ ap₂ (λ (l : List ℕ) (p : ℕ). sets l p (newest_from s (suc j) gs))
      (sym (ap (set one (suc grid)) (sym here) ∙ set-get_or one (suc grid) 0))
      (let e : grid + grid_stride ≡ suc (suc grid) = omega arith in e)

  -- a history's numbers written over, where its tilings stand beside the newest stamps
  pub written_all : (newest : List ℕ) (grid : ℕ) (gs : List StampGrid) → length gs ≡ grid_count s → TilingsAt newest grid s
      → newest_written newest grid gs ≡ sets newest grid (newest_from s 0 gs)
  written_all newest grid gs n beside =
      written_from newest grid 0 gs (λ k h. beside k (omega (arith, n)) ∙ ap (tiling_number s) (sym (zero-add k)))

  -- the tilings stay
  pub tilings_stay : (newest : List ℕ) (grid : ℕ) (gs : List StampGrid) → TilingsAt newest grid s → TilingsAt (newest_written newest grid gs) grid s
  tilings_stay newest grid gs beside k h =
      elsewhere_stays newest grid gs (grid + grid_stride * k + 1) (λ j q e. omega (arith, e)) ∙ beside k h
