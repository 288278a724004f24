-- A grid lent on as the part from its first stamp to its last. Assumes nothing.
use mathlib.Core.Path.{◌≡◌, sym, ap, ap₂, ◌∙◌, subst}
use mathlib.Core.Bool.{true}
use mathlib.Core.List.{List}
use Prim.Native.Nat.{ℕ, ◌+◌, ◌≤◌}
use native.Mathlib.Omega.{arith}
use lib.ListN.{length, take, drop, get_or, length-drop}
use lib.Seq.{length-take-le, take-take}
use Rattle.grid_shapes.specs.declared.shape.VersionShape.{VersionShape}
use Rattle.grid_shapes.specs.Shapes.{is_shape}
use Rattle.grid_stamps.specs.declared.grid.Tiling.{Tiling}
use Rattle.grid_stamps.specs.Grids.{TilingOk, grid_in, tiling_of, stamp_count}
use Rattle.grid_stamps.proofs.Tilings.{tiling_ok}
use Rattle.pool_memory.specs.Reading.{grid_on}

module _ (s : VersionShape) (shaped : is_shape s ≡ true) (level : ℕ) (newest stamps : List ℕ) (p at : ℕ)
    (room : at + stamp_count (tiling_of s level) ≤ length stamps) where
  abbrev pub count : ℕ
  count = stamp_count (tiling_of s level)

  -- the part has as many stamps
  pub part_long : (m : ℕ) → m ≡ count → length (take m (drop at stamps)) ≡ count
  part_long m e = length-take-le m (drop at stamps) (omega (arith, length-drop at stamps)) ∙ e

  -- the part is the grid
  pub part_grid : (m : ℕ) (g : Tiling) → m ≡ count → g ≡ tiling_of s level
      → grid_in g (get_or newest p 0) (take m (drop at stamps)) ≡ grid_on s level newest stamps p at
  unfolding grid_on grid_in
  part_grid m g e f =
      ap₂ (λ (h : Tiling) (i : ℕ). grid_in h (get_or newest p 0) (take i (drop at stamps))) f e
      ∙ (λ i. record { newest = get_or newest p 0; stamps = take-take count count (drop at stamps) (omega arith) i })

  -- what it has to be to be lent on
  pub part_fits : (m : ℕ) (g : Tiling) → m ≡ count → g ≡ tiling_of s level → TilingOk g × (stamp_count g ≤ length (take m (drop at stamps)))
  part_fits m g e f = (subst TilingOk (sym f) (tiling_ok s shaped level), omega (arith, part_long m e, ap stamp_count f))

  -- a grid's stamps, stamped or not, are as many as its tiles
  pub length_grid : length (grid_on s level newest stamps p at).stamps ≡ count
  unfolding grid_on grid_in
  length_grid = length-take-le count (drop at stamps) (omega (arith, length-drop at stamps))
