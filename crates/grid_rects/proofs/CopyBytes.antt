-- What a copy moves: no product on the way to its bytes wraps, what a copy of a whole level moves, and how the bytes stand to those that 01 had.
use Prim.Native.Nat.{ℕ, zero, suc, ◌+◌, ◌*◌, ◌/◌, ◌≤◌, ◌<◌}
use mathlib.Core.Path.{◌≡◌, refl, sym, ap, ◌∙◌}
use mathlib.Core.Bool.{true}
use mathlib.Core.List.{List, [], ◌∷◌}
use native.Mathlib.Omega.{arith}
use native.Mathlib.Nat.{mul-le-mul, mul-le-mul_right, mul_comm, mul_right_comm, div-one, div-le_of_le-mul, one-mul, zero-mul, le_trans}
use lib.Dec.{eqb}
use Rattle.base_blocks.specs.Lists.{listed, total}
use Rattle.grid_shapes.specs.declared.shape.VersionShape.{VersionShape}
use Rattle.grid_rects.specs.declared.rect.Region.{Region}
use Rattle.grid_rects.specs.declared.rect.Region.TheVariants.{Whole}
use Rattle.grid_shapes.specs.Formats.{block_edge, block_bytes}
use Rattle.grid_shapes.specs.Shapes.{is_shape, level_extent, level_width, level_height, level_depth, level_bytes, slices_of, bytes_of}
use Rattle.grid_rects.specs.Copies.{region_blocks, copy_bytes}
use Rattle.grid_rects.specs.RoundedCopies.{region_texels, rounded_copy_bytes}
use Rattle.base_blocks.proofs.Lists.{either}
use Rattle.base_blocks.proofs.Numbers.{ceil_bound}
use Rattle.grid_shapes.proofs.Formats.{block_edge_pos, block_bytes_bound}
use Rattle.grid_shapes.proofs.Shapes.{ShapeBounds, shape_bounds, extent_pos, width_bound, height_bound, depth_bound}
use Rattle.grid_shapes.specs.ShapeConstants.{most_shape_bytes}
use Rattle.grid_rects.proofs.Blocks.{region_covers, region_at_most, region_whole, region_most, region_one}

-- a region of a level that a shape can have has no more blocks than that level has texels
pub region_bound : (edge width height : ℕ) (r : Region) → 0 < edge → width ≤ 16384 → height ≤ 16384 → region_blocks edge width height r ≤ 268435456
region_bound edge width height r pos w h =
    le_trans (region_most edge width height r pos) (mul-le-mul (ceil_bound width edge 16384 pos w) (ceil_bound height edge 16384 pos h))

-- the region's blocks in the shape's level, at one depth
abbrev pub blocks_in : VersionShape → ℕ → Region → ℕ
blocks_in s level r = region_blocks (block_edge s.format) (level_width s level) (level_height s level) r

module _ (s : VersionShape) (z : ShapeBounds s) (level : ℕ) (r : Region) where
  -- the products on the way to a copy's bytes, as the code makes them
  pub all_depths_bound : blocks_in s level r * level_depth s level ≤ 549755813888
  all_depths_bound =
      mul-le-mul
      (region_bound (block_edge s.format) (level_width s level) (level_height s level) r (block_edge_pos s.format) (width_bound s z level) (height_bound s z level))
      (depth_bound s z level)

  pub bounds_copy : copy_bytes s level r ≤ 8796093022208
  unfolding copy_bytes
  bounds_copy = mul-le-mul all_depths_bound (block_bytes_bound s.format)

pub copy_bound : (s : VersionShape) (level : ℕ) (r : Region) → is_shape s ≡ true → copy_bytes s level r ≤ most_shape_bytes
copy_bound s level r e = omega (arith, bounds_copy s (shape_bounds s e) level r)

-- ---- whole levels

pub copy_whole : (s : VersionShape) (level : ℕ) → copy_bytes s level Whole ≡ level_bytes s level
unfolding copy_bytes level_bytes
copy_whole s level =
    ap (λ (n : ℕ). n * level_depth s level * block_bytes s.format) (region_whole (block_edge s.format) (level_width s level) (level_height s level) (block_edge_pos s.format))

levels_whole : (s : VersionShape) (levels : List ℕ) → total (λ (level : ℕ). copy_bytes s level Whole) levels ≡ total (level_bytes s) levels
unfolding total
levels_whole s [] = refl
levels_whole s (level ∷ levels) = λ i. copy_whole s level i + levels_whole s levels i

pub copies_version : (s : VersionShape) → total (λ (level : ℕ). copy_bytes s level Whole) (listed (λ (level : ℕ). level) 0 s.levels) * slices_of s ≡ bytes_of s
unfolding bytes_of
copies_version s = ap (λ (n : ℕ). n * slices_of s) (levels_whole s (listed (λ (level : ℕ). level) 0 s.levels))

module _ (s : VersionShape) (level : ℕ) (r : Region) where
  pub copy_most : copy_bytes s level r ≤ copy_bytes s level Whole
  unfolding copy_bytes
  copy_most =
      mul-le-mul_right (block_bytes s.format)
      (mul-le-mul_right (level_depth s level)
      (rw (region_whole (block_edge s.format) (level_width s level) (level_height s level) (block_edge_pos s.format))
      (region_most (block_edge s.format) (level_width s level) (level_height s level) r (block_edge_pos s.format))))

  -- ---- texels and blocks

  abbrev texels : ℕ
  texels = region_texels (level_width s level) (level_height s level) r

  covers : texels ≤ blocks_in s level r * (block_edge s.format * block_edge s.format)
  covers = region_covers (block_edge s.format) (level_width s level) (level_height s level) r (block_edge_pos s.format)

  pub copy_none : texels ≡ 0 → copy_bytes s level r ≡ 0
  unfolding copy_bytes
  copy_none e =
      let none : blocks_in s level r ≡ 0 = omega (arith, region_at_most (block_edge s.format) (level_width s level) (level_height s level) r (block_edge_pos s.format)) in
      ap (λ (n : ℕ). n * level_depth s level * block_bytes s.format) none
      ∙ ap (λ (n : ℕ). n * block_bytes s.format) (zero-mul (level_depth s level)) ∙ zero-mul (block_bytes s.format)

  depth_pos : 1 ≤ level_depth s level
  unfolding level_depth
  depth_pos = either (λ (n : ℕ). 1 ≤ n) (eqb s.kind 2) (level_extent s.depth level) 1 (λ e. extent_pos s.depth level) (λ e. omega arith)

  blocks_pos : 0 < texels → 1 ≤ blocks_in s level r
  blocks_pos h = go (blocks_in s level r) covers
    where
      go : (n : ℕ) → texels ≤ n * (block_edge s.format * block_edge s.format) → 1 ≤ n
      go zero k = absurd (let y : ⊥ = omega (arith, zero-mul (block_edge s.format * block_edge s.format)) in y)
      go (suc n) k = omega arith

  pub copy_some : 0 < texels → block_bytes s.format ≤ copy_bytes s level r
  unfolding copy_bytes
  copy_some h =
      let once = mul-le-mul_right (block_bytes s.format) (mul-le-mul {n₁ = 1} {m₁ = 1} (blocks_pos h) depth_pos) in
      omega (arith, once, one-mul (block_bytes s.format))

  -- ---- what 01 had

  pub copy_no_less : rounded_copy_bytes s level r ≤ copy_bytes s level r
  unfolding rounded_copy_bytes copy_bytes
  copy_no_less =
      let square = block_edge s.format * block_edge s.format in
      let depth = level_depth s level in
      let bytes = block_bytes s.format in
      let blocks = blocks_in s level r in
      let turned : blocks * square * depth * bytes ≡ square * (blocks * depth * bytes) =
      ap (λ (n : ℕ). n * bytes) (mul_right_comm blocks square depth) ∙ mul_right_comm (blocks * depth) square bytes ∙ mul_comm (blocks * depth * bytes) square in
      div-le_of_le-mul square (rw (sym turned) (mul-le-mul_right bytes (mul-le-mul_right depth covers)))

  pub copy_others : block_edge s.format ≡ 1 → copy_bytes s level r ≡ rounded_copy_bytes s level r
  unfolding rounded_copy_bytes copy_bytes
  copy_others e =
      let depth = level_depth s level in
      let bytes = block_bytes s.format in
      ap (λ (edge : ℕ). region_blocks edge (level_width s level) (level_height s level) r * depth * bytes) e
      ∙ ap (λ (n : ℕ). n * depth * bytes) (region_one (level_width s level) (level_height s level) r)
      ∙ sym (div-one (texels * depth * bytes)) ∙ ap (λ (edge : ℕ). texels * depth * bytes / (edge * edge)) (sym e)
