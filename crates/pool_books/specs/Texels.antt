-- Rule: Texels of a shape, and those that a rectangle takes in (01, "Two books").
use Rattle.std.specs.Prelude.{ℕ, ◌+◌, ◌<◌, Bool, ◌&&◌, leb, ltb, eqb}
use Rattle.grid_shapes.specs.declared.shape.VersionShape.{VersionShape}
use Rattle.grid_shapes.specs.Shapes.{slices_of, level_width, level_height, level_depth}
use Rattle.grid_rects.specs.declared.rect.TexelRect.{TexelRect}
use Rattle.pool_rules.specs.Histories.{in_shape}

pub record Texel : Type 0 where
  pub slice : ℕ
  pub level : ℕ
  pub x : ℕ
  pub y : ℕ
  pub z : ℕ

-- a texel of the shape; z is 0 but in volumes, where `level_depth` is above 1
pub record Inside (s : VersionShape) (t : Texel) : Type 0 where
  pub slice : t.slice < slices_of s
  pub level : t.level < s.levels
  pub x : t.x < level_width s t.level
  pub y : t.y < level_height s t.level
  pub z : t.z < level_depth s t.level

-- a texel of that slice and level
abbrev pub is_of : ℕ → ℕ → Texel → Bool
is_of slice level t = eqb t.slice slice && eqb t.level level

-- "In a volume a rectangle, written or copied, takes in every depth": z is not looked at
unfoldable pub in_rect : ℕ → ℕ → TexelRect → Texel → Bool
in_rect slice level r t =
    is_of slice level t
    && ((leb r.x t.x && ltb t.x (r.x + r.width)) && (leb r.y t.y && ltb t.y (r.y + r.height)))

-- what a reported write covers: nothing where it is outside the shape
unfoldable pub in_write : VersionShape → ℕ → ℕ → TexelRect → Texel → Bool
in_write s slice level r t = in_shape s slice level && in_rect slice level r t

-- "a regeneration covers every level but 0, in each slice"
abbrev pub in_regeneration : Texel → Bool
in_regeneration t = ltb 0 t.level

-- a rectangle of the whole level
unfoldable pub is_whole : VersionShape → ℕ → TexelRect → Bool
is_whole s level r =
    (eqb r.x 0 && eqb r.y 0) && (leb (level_width s level) (r.x + r.width) && leb (level_height s level) (r.y + r.height))
