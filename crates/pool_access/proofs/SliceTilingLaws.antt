-- A slice of a new history: its levels' tilings, as they are worked out level by level, and those of every grid by a slice's. Assumes nothing.
use mathlib.Core.Path.{◌≡◌, sym, ap, ap₂, ◌∙◌, subst}
use mathlib.Core.Bool.{true}
use mathlib.Core.List.{List}
use Prim.Native.Nat.{ℕ, ◌+◌, ◌*◌, ◌/◌, ◌%◌, ◌^◌, ◌≤◌, ◌<◌}
use native.Mathlib.Nat.{mod-eq_of_lt, mod-lt, div-add-mod', zero-mul, zero-add, mul-le-mul_right}
use native.Mathlib.Decide.{dec_lt}
use native.Mathlib.Omega.{arith}
use lib.Dec.{eqb}
use lib.ListN.{length, get_or, set}
use lib.Seq.{get_or-set_same, get_or-set_other}
use Rattle.grid_shapes.specs.declared.shape.VersionShape.{VersionShape}
use Rattle.grid_shapes.specs.Shapes.{is_shape, slices_of}
use Rattle.base_blocks.proofs.Lists.{either}
use Rattle.grid_shapes.proofs.Shapes.{shape_bounds}
use Rattle.grid_stamps.specs.declared.grid.Tiling.{Tiling}
use Rattle.grid_stamps.specs.Grids.{tiling_of}
use Rattle.pool_rules.specs.Model.{grid_count}
use Rattle.pool_rules.specs.HistorySizes.{grid_start, level_start}
use Rattle.pool_rules.proofs.HistorySizes.{grid_start_lem}
use Rattle.pool_records.specs.declared.tiling.GridTiling.{GridTiling}
use Rattle.pool_records.specs.Tilings.{packed_tiling, TilingFits, grid_tiling, tiling_number}
use Rattle.pool_records.proofs.Tilings.{tiling_fits}
use Rattle.pool_access.specs.declared.slices.SliceTilings.{SliceTilings}
use Rattle.pool_access.specs.Slices.{SliceOf}

-- ---- the numbers worked out so far

-- one more of them
pub numbers_more : (f : ℕ → ℕ) (l : List ℕ) (n x : ℕ) → n < length l → x ≡ f n → ((k : ℕ) → k < n → get_or l k 0 ≡ f k)
    → (k : ℕ) → k < n + 1 → get_or (set l n x) k 0 ≡ f k
numbers_more f l n x h e known k q = go (dec_lt k n)
  where
    go : Dec (k < n) → get_or (set l n x) k 0 ≡ f k
    go (yes p) = get_or-set_other l n k x 0 (λ i. let y : ⊥ = omega (arith, p, i) in y) ∙ known k p
    go (no p) = let same : k ≡ n = omega (arith, q, p) in ap (λ (j : ℕ). get_or (set l n x) j 0) same ∙ get_or-set_same l n x 0 h ∙ e ∙ ap f (sym same)

module _ (s : VersionShape) where
  -- ---- the first slice's grids

  -- a history has each level once at least
  pub first_place : (level : ℕ) → level < s.levels → level < grid_count s
  unfolding grid_count slices_of
  first_place level h =
      let some = either (λ (n : ℕ). 1 ≤ n) (eqb s.kind 1) 6 1 (λ e. omega arith) (λ e. omega arith) in
      omega (arith, h, mul-le-mul_right s.levels some)

  first_start : (level : ℕ) → level < s.levels → level < grid_count s → grid_start s level ≡ level_start s level
  first_start level h k =
      let e : 0 * s.levels + level ≡ level = ap (λ (n : ℕ). n + level) (zero-mul s.levels) ∙ zero-add level in
      ap (grid_start s) (sym e) ∙ grid_start_lem s 0 level (omega arith) (omega (arith, e))
      ∙ ap (λ (n : ℕ). n + level_start s level) (zero-mul (level_start s s.levels)) ∙ zero-add (level_start s level)

  -- a level's tiling, as the code has it
  module _ (level start : ℕ) (g : Tiling) (h : level < s.levels) (k : level < grid_count s) (begins : start ≡ level_start s level)
      (e : g ≡ tiling_of s level) where
    abbrev made : GridTiling
    made = record { start = start; across = g.across.edge; down = g.down.edge }

    made_is : made ≡ grid_tiling s level
    unfolding grid_tiling
    made_is =
        let tiled : g ≡ tiling_of s (level % s.levels) = e ∙ ap (tiling_of s) (sym (mod-eq_of_lt h)) in
        λ j. record {
          start = (begins ∙ sym (first_start level h k)) j;
          across = (tiled j).across.edge;
          down = (tiled j).down.edge;
        }

    pub made_number : packed_tiling made ≡ tiling_number s level
    unfolding tiling_number
    made_number = ap packed_tiling made_is

    pub made_fits : is_shape s ≡ true → TilingFits made
    made_fits shaped = subst TilingFits (sym made_is) (tiling_fits s shaped level k)

  -- ---- every grid's

  -- the k-th grid's tiling is that of its level in the first slice, by the stamps of the slices before it later
  sliced_number : is_shape s ≡ true → (k : ℕ) → k < grid_count s
      → k / s.levels * level_start s s.levels + tiling_number s (k % s.levels) ≡ tiling_number s k
  unfolding tiling_number packed_tiling grid_tiling
  sliced_number shaped k h =
      let small : k % s.levels < s.levels = mod-lt k (shape_bounds s shaped).levels_pos in
      let place : k / s.levels * s.levels + k % s.levels ≡ k = div-add-mod' k s.levels in
      let start : grid_start s k ≡ k / s.levels * level_start s s.levels + level_start s (k % s.levels)
      = ap (grid_start s) (sym place) ∙ grid_start_lem s (k / s.levels) (k % s.levels) (omega (arith, small)) (omega (arith, place, h)) in
      let same : k % s.levels % s.levels ≡ k % s.levels = mod-eq_of_lt small in
      omega (
        arith,
        start,
        first_start (k % s.levels) small (omega (arith, place, h)),
        ap (λ (l : ℕ). (tiling_of s l).across.edge) same,
        ap (λ (l : ℕ). (tiling_of s l).down.edge) same,
      )

  -- so it is written by a slice's tilings
  module _ (t : SliceTilings) (of : SliceOf s t) (shaped : is_shape s ≡ true) (k : ℕ) (h : k < grid_count s) where
    pub number_made : k / s.levels * t.stamps + get_or t.levels (k % s.levels) 0 ≡ tiling_number s k
    number_made =
        ap₂ (λ (one tiling : ℕ). k / s.levels * one + tiling) of.stamps (of.levels (k % s.levels) (mod-lt k (shape_bounds s shaped).levels_pos))
        ∙ sliced_number shaped k h

    pub number_bound : k / s.levels * t.stamps + get_or t.levels (k % s.levels) 0 < 2 ^ 48
    unfolding tiling_number packed_tiling
    number_bound = let f = tiling_fits s shaped k h in omega (arith, number_made, f.start, f.across, f.down)
