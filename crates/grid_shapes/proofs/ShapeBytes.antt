-- How large a level and a version are at most.
use Prim.Native.Nat.{ℕ, zero, suc, ◌+◌, ◌*◌, ◌^◌, ◌≤◌}
use mathlib.Core.Path.{◌≡◌, refl, sym, ap, ◌∙◌}
use mathlib.Core.Bool.{true}
use mathlib.Core.List.{List, [], ◌∷◌}
use native.Mathlib.Omega.{arith}
use native.Mathlib.Nat.{mul-le-mul, pow-le-pow_right, mul_assoc, zero-mul, add-mul}
use lib.Dec.{eqb}
use borrow.Author.Tests.{eqb-true}
use Rattle.base_blocks.specs.Lists.{listed, total}
use Rattle.grid_shapes.specs.declared.shape.VersionShape.{VersionShape}
use Rattle.grid_shapes.specs.Formats.{block_edge, block_bytes}
use Rattle.grid_shapes.specs.Shapes.{is_shape, slices_of, level_width, level_height, level_depth, level_blocks, level_bytes, bytes_of}
use Rattle.base_blocks.proofs.Lists.{either}
use Rattle.base_blocks.proofs.Numbers.{ceil_bound}
use Rattle.grid_shapes.proofs.Formats.{block_edge_pos, block_bytes_bound}
use Rattle.grid_shapes.proofs.Shapes.{ShapeBounds, shape_bounds, extent_below, depth_below, depth_flat, width_bound, height_bound, depth_bound, pow_pos}
use Rattle.grid_shapes.specs.ShapeConstants.{most_shape_bytes}

-- n terms of at most c each
sum_bound : (f : ℕ → ℕ) (c a n : ℕ) → ((k : ℕ) → a ≤ k → f k ≤ c) → total f (listed (λ (k : ℕ). k) a n) ≤ n * c
unfolding total listed
sum_bound f c a zero h = omega arith
sum_bound f c a (suc n) h = omega (arith, h a (omega arith), sum_bound f c (suc a) n (λ k g. h k (omega arith)))

-- the bytes of a level of at most w by h by d texels, in any format
pub level_below : (s : VersionShape) (level w h d : ℕ) → level_width s level ≤ w → level_height s level ≤ h → level_depth s level ≤ d →
    level_bytes s level ≤ w * h * d * 16
unfolding level_bytes
level_below s level w h d p q r =
    let e = block_edge_pos s.format in
    mul-le-mul
    (mul-le-mul (mul-le-mul (ceil_bound (level_width s level) (block_edge s.format) w e p) (ceil_bound (level_height s level) (block_edge s.format) h e q)) r)
    (block_bytes_bound s.format)

module _ (s : VersionShape) (z : ShapeBounds s) where
  -- a level whose extents are the base's over d or less, for a d that divides the largest extents
  shrunk : (d w e level : ℕ) → d * w ≡ 16384 → d * e ≡ 2048 → 1 ≤ w → 1 ≤ e → 1 ≤ d → d ≤ 2 ^ level →
      level_bytes s level ≤ w * w * e * 16
  unfolding level_width level_height
  shrunk d w e level p q wpos epos dpos k =
      level_below s level w w e (extent_below s.width d w level wpos dpos (omega (arith, z.width)) k)
      (extent_below s.height d w level wpos dpos (omega (arith, z.height)) k)
      (depth_below s d e level epos dpos (omega (arith, z.depth)) k)

  pub level_bound : (level : ℕ) → level_bytes s level ≤ 8796093022208
  level_bound level = shrunk 1 16384 2048 level refl refl (omega arith) (omega arith) (omega arith) (pow_pos level)

  -- the blocks of one level, and of all of them
  pub blocks_bound : (level : ℕ) → level_blocks s level ≤ 549755813888
  unfolding level_blocks
  blocks_bound level =
      let e = block_edge_pos s.format in
      mul-le-mul
      (mul-le-mul (ceil_bound (level_width s level) (block_edge s.format) 16384 e (width_bound s z level)) (ceil_bound (level_height s level) (block_edge s.format) 16384 e (height_bound s z level)))
      (depth_bound s z level)

  pub sum_of_blocks : total (level_blocks s) (listed (λ (k : ℕ). k) 0 s.levels) ≤ 8246337208320
  sum_of_blocks = omega (arith, sum_bound (level_blocks s) 549755813888 0 s.levels (λ k g. blocks_bound k), z.levels_bound)

  -- fifteen levels of that size would be too many: the second is an eighth, and every later one at most a 64th
  second_bound : level_bytes s 1 ≤ 1099511627776
  second_bound = shrunk 2 8192 1024 1 refl refl (omega arith) (omega arith) (omega arith) (omega arith)

  later_bound : (level : ℕ) → 2 ≤ level → level_bytes s level ≤ 137438953472
  later_bound level h =
      shrunk 4 4096 512 level refl refl (omega arith) (omega arith) (omega arith) (pow-le-pow_right {n = 2} (omega arith) {i = 2} {j = level} h)

  levels_of : (n : ℕ) → n ≤ 15 → total (level_bytes s) (listed (λ (k : ℕ). k) 0 n) ≤ most_shape_bytes
  unfolding total listed
  levels_of zero h = omega arith
  levels_of (suc zero) h = omega (arith, level_bound 0)
  levels_of (suc (suc n)) h = omega (arith, level_bound 0, second_bound, sum_bound (level_bytes s) 137438953472 2 n later_bound)

  -- a cube has no depth, so its six slices are no more than a volume
  cube_level : s.kind ≡ 1 → (level : ℕ) → level_bytes s level ≤ 4294967296
  unfolding level_width level_height
  cube_level e level =
      let one = pow_pos level in
      let flat = depth_flat s level (λ q. apart e q) in
      level_below s level 16384 16384 1 (extent_below s.width 1 16384 level (omega arith) (omega arith) (omega (arith, z.width)) one)
      (extent_below s.height 1 16384 level (omega arith) (omega arith) (omega (arith, z.height)) one) (omega arith)
    where
      apart : s.kind ≡ 1 → s.kind ≡ 2 → ⊥
      apart p q = omega arith

  pub bounds_bytes : bytes_of s ≤ most_shape_bytes
  unfolding bytes_of slices_of
  bounds_bytes =
      either (λ (n : ℕ). total (level_bytes s) (listed (λ (k : ℕ). k) 0 s.levels) * n ≤ most_shape_bytes) (eqb s.kind 1) 6 1
      (λ e. omega (arith, sum_bound (level_bytes s) 4294967296 0 s.levels (λ k g. cube_level (eqb-true _ _ e) k), z.levels_bound))
      (λ e. omega (arith, levels_of s.levels z.levels_bound))

pub bytes_bound : (s : VersionShape) → is_shape s ≡ true → bytes_of s ≤ most_shape_bytes
bytes_bound s e = bounds_bytes s (shape_bounds s e)

-- each level has its blocks times the bytes of one
levels_by_blocks : (s : VersionShape) (levels : List ℕ) → total (level_bytes s) levels ≡ total (level_blocks s) levels * block_bytes s.format
unfolding total level_bytes level_blocks
levels_by_blocks s [] = sym (zero-mul (block_bytes s.format))
levels_by_blocks s (level ∷ levels) =
    ap (λ (n : ℕ). level_bytes s level + n) (levels_by_blocks s levels)
    ∙ sym (add-mul (level_blocks s level) (total (level_blocks s) levels) (block_bytes s.format))

-- the bytes of a block and the slices, multiplied once
pub bytes_by_blocks : (s : VersionShape) → total (level_blocks s) (listed (λ (k : ℕ). k) 0 s.levels) * (block_bytes s.format * slices_of s) ≡ bytes_of s
unfolding bytes_of
bytes_by_blocks s =
    let sum = total (level_blocks s) (listed (λ (k : ℕ). k) 0 s.levels) in
    sym (mul_assoc sum (block_bytes s.format) (slices_of s))
    ∙ sym (ap (λ (n : ℕ). n * slices_of s) (levels_by_blocks s (listed (λ (k : ℕ). k) 0 s.levels)))
