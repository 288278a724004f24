-- Laws of shapes: what a shape that passes refusal 2 is bounded by, when two shapes are the same, and the extents of levels.
use Prim.Native.Nat.{ℕ, ◌+◌, ◌*◌, ◌/◌, ◌^◌, ◌≤◌, ◌<◌, max}
use mathlib.Core.Path.{◌≡◌, refl, sym, ap, ◌∙◌}
use mathlib.Core.Bool.{Bool, true, false, cond}
use native.Mathlib.Omega.{arith}
use native.Mathlib.Nat.{le-max_left, max-le, mul-le-mul, mul-le-mul_right, le_trans, pow-le-pow_right, div-le_of_le-mul, div-eq_of_lt, div-div-eq-div-mul}
use lib.Dec.{eqb}
use lib.Pow.{pow-add}
use borrow.Author.Tests.{leb-true, eqb-true, le-leb, eq-eqb, ne_eqb}
use Rattle.base_blocks.specs.Lists.{after, tests}
use Rattle.grid_shapes.specs.declared.shape.VersionShape.{VersionShape}
use Rattle.grid_shapes.specs.Shapes.{is_shape, same_shape, slices_of, level_extent, level_width, level_height, level_depth}
use Rattle.base_blocks.proofs.Lists.{either, passed}

pub record ShapeBounds (s : VersionShape) : Type 0 where
  pub width : s.width ≤ 16384
  pub height : s.height ≤ 16384
  pub depth : s.depth ≤ 2048
  pub levels_pos : 1 ≤ s.levels
  pub levels_bound : s.levels ≤ 15
  pub kind : s.kind ≤ 2
  pub format : s.format ≤ 8

pub shape_bounds : (s : VersionShape) → is_shape s ≡ true → ShapeBounds s
unfolding is_shape
shape_bounds s e =
    record {
      width = leb-true _ _ (passed _ e 0);
      height = leb-true _ _ (passed _ e 1);
      depth = leb-true _ _ (passed _ e 2);
      levels_pos = leb-true _ _ (passed _ e 3);
      levels_bound = leb-true _ _ (passed _ e 4);
      kind = leb-true _ _ (passed _ e 5);
      format = leb-true _ _ (passed _ e 6);
    }

pub bounds_shape : (s : VersionShape) → ShapeBounds s → is_shape s ≡ true
unfolding is_shape tests after
bounds_shape s z =
    rw (
      le-leb _ _ z.width,
      le-leb _ _ z.height,
      le-leb _ _ z.depth,
      le-leb _ _ z.levels_pos,
      le-leb _ _ z.levels_bound,
      le-leb _ _ z.kind,
      le-leb _ _ z.format,
    )

pub same_shape_lem : (a b : VersionShape) → same_shape a b ≡ true → a ≡ b
unfolding same_shape
same_shape_lem a b e =
    λ i. record {
      format = eqb-true a.format b.format (passed _ e 0) i;
      width = eqb-true a.width b.width (passed _ e 1) i;
      height = eqb-true a.height b.height (passed _ e 2) i;
      depth = eqb-true a.depth b.depth (passed _ e 3) i;
      levels = eqb-true a.levels b.levels (passed _ e 4) i;
      kind = eqb-true a.kind b.kind (passed _ e 5) i;
      storage = eqb-true a.storage b.storage (passed _ e 6) i;
      usage = eqb-true a.usage b.usage (passed _ e 7) i;
      red = eqb-true a.red b.red (passed _ e 8) i;
      green = eqb-true a.green b.green (passed _ e 9) i;
      blue = eqb-true a.blue b.blue (passed _ e 10) i;
      alpha = eqb-true a.alpha b.alpha (passed _ e 11) i;
    }

itself : (n : ℕ) → eqb n n ≡ true
itself n = eq-eqb n n refl

pub same_self : (a : VersionShape) → same_shape a a ≡ true
unfolding same_shape tests after
same_self a = simp itself

pub slices_bound : (s : VersionShape) → slices_of s ≤ 6
unfolding slices_of
slices_bound s = either (λ (n : ℕ). n ≤ 6) (eqb s.kind 1) 6 1 (λ e. omega arith) (λ e. omega arith)

pub extent_pos : (base level : ℕ) → 1 ≤ level_extent base level
unfolding level_extent
extent_pos base level = le-max_left 1 (max 1 base / 2 ^ level)

-- a base of at most d times m texels has at most m in a level that halves it into d parts or more
pub extent_below : (base d m level : ℕ) → 1 ≤ m → 1 ≤ d → base ≤ d * m → d ≤ 2 ^ level → level_extent base level ≤ m
unfolding level_extent
extent_below base d m level mpos dpos h k =
    max-le mpos (div-le_of_le-mul (2 ^ level) (le_trans (max-le (mul-le-mul {n₁ = 1} {m₁ = 1} {n₂ = d} {m₂ = m} dpos mpos) h) (mul-le-mul_right m k)))

pub pow_pos : (k : ℕ) → 1 ≤ 2 ^ k
pow_pos k = pow-le-pow_right {n = 2} (omega arith) {i = 0} {j = k} (omega arith)

pub extent_bound : (base n level : ℕ) → base ≤ n → 1 ≤ n → level_extent base level ≤ n
extent_bound base n level h pos = extent_below base 1 n level pos (omega arith) (omega arith) (pow_pos level)

-- a level's extent is the last level's, halved
pub extent_halved : (base level : ℕ) → max 1 (level_extent base level / 2) ≡ level_extent base (level + 1)
unfolding level_extent
extent_halved base level =
    let halved : max 1 base / 2 ^ (level + 1) ≡ max 1 base / 2 ^ level / 2 =
    ap (λ (d : ℕ). max 1 base / d) (pow-add 2 level 1) ∙ sym (div-div-eq-div-mul (max 1 base) (2 ^ level) 2) in
    omega (arith, halved)

-- a level past the bits of its base has one texel
pub extent_past : (base k level : ℕ) → 1 ≤ k → base < 2 ^ k → k ≤ level → level_extent base level ≡ 1
unfolding level_extent
extent_past base k level pos h past =
    let more : 2 ^ k ≤ 2 ^ level = pow-le-pow_right {n = 2} (omega arith) {i = k} {j = level} past in
    let two : 2 ≤ 2 ^ k = pow-le-pow_right {n = 2} (omega arith) {i = 1} {j = k} pos in
    let small : max 1 base < 2 ^ level = omega arith in
    ap (max 1) (div-eq_of_lt small)

pub width_pos : (s : VersionShape) (level : ℕ) → 1 ≤ level_width s level
unfolding level_width
width_pos s level = extent_pos s.width level

pub height_pos : (s : VersionShape) (level : ℕ) → 1 ≤ level_height s level
unfolding level_height
height_pos s level = extent_pos s.height level

pub depth_below : (s : VersionShape) (d m level : ℕ) → 1 ≤ m → 1 ≤ d → s.depth ≤ d * m → d ≤ 2 ^ level → level_depth s level ≤ m
unfolding level_depth
depth_below s d m level mpos dpos h k =
    either (λ (n : ℕ). n ≤ m) (eqb s.kind 2) (level_extent s.depth level) 1 (λ e. extent_below s.depth d m level mpos dpos h k) (λ e. mpos)

pub depth_halved : (s : VersionShape) (level : ℕ) → max 1 (level_depth s level / 2) ≡ level_depth s (level + 1)
unfolding level_depth
depth_halved s level = go (eqb s.kind 2)
  where
    go : (b : Bool) → max 1 (cond b (level_extent s.depth level) 1 / 2) ≡ cond b (level_extent s.depth (level + 1)) 1
    go true = extent_halved s.depth level
    go false = refl

pub slices_cube : (s : VersionShape) → s.kind ≡ 1 → slices_of s ≡ 6
unfolding slices_of
slices_cube s e = rw (eq-eqb s.kind 1 e)

pub slices_other : (s : VersionShape) → (s.kind ≡ 1 → ⊥) → slices_of s ≡ 1
unfolding slices_of
slices_other s h = rw (ne_eqb s.kind 1 h)

-- only a volume has depth
pub depth_volume : (s : VersionShape) (level : ℕ) → s.kind ≡ 2 → level_depth s level ≡ level_extent s.depth level
unfolding level_depth
depth_volume s level e = rw (eq-eqb s.kind 2 e)

pub depth_flat : (s : VersionShape) (level : ℕ) → (s.kind ≡ 2 → ⊥) → level_depth s level ≡ 1
unfolding level_depth
depth_flat s level h = rw (ne_eqb s.kind 2 h)

module _ (s : VersionShape) (z : ShapeBounds s) (level : ℕ) where
  pub width_bound : level_width s level ≤ 16384
  unfolding level_width
  width_bound = extent_bound s.width 16384 level z.width (omega arith)

  pub height_bound : level_height s level ≤ 16384
  unfolding level_height
  height_bound = extent_bound s.height 16384 level z.height (omega arith)

  pub depth_bound : level_depth s level ≤ 2048
  depth_bound = depth_below s 1 2048 level (omega arith) (omega arith) (omega (arith, z.depth)) (pow_pos level)
