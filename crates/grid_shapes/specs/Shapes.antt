-- Rule: Shapes, their levels and their bytes (01, "Levels, tiles, shapes", and refusal 2 of "Outcomes").
use Rattle.std.specs.Prelude.{ℕ, ◌*◌, ◌/◌, ◌%◌, ◌^◌, max, Bool, cond, not, [], ◌∷◌, leb, eqb}
use Rattle.base_blocks.specs.Lists.{ceil_div, listed, total, tests}
use Rattle.grid_shapes.specs.declared.shape.VersionShape.{VersionShape}
use Rattle.grid_shapes.specs.Formats.{block_edge, block_bytes}
use Rattle.grid_shapes.specs.Outcomes.{Outcome, accepted, refused}

-- the shape passes 2: width and height are at most 16,384, depth at most 2,048, levels 1 to 15, kind 0 to 2, format 0 to 8
unfoldable pub is_shape : VersionShape → Bool
is_shape s =
    tests (leb s.width 16384 ∷ leb s.height 16384 ∷ leb s.depth 2048 ∷ leb 1 s.levels ∷ leb s.levels 15 ∷ leb s.kind 2 ∷ leb s.format 8 ∷ [])

-- the shapes agree in every field
unfoldable pub same_shape : VersionShape → VersionShape → Bool
same_shape a b =
    tests (eqb a.format b.format ∷ eqb a.width b.width ∷ eqb a.height b.height ∷ eqb a.depth b.depth
    ∷ eqb a.levels b.levels ∷ eqb a.kind b.kind ∷ eqb a.storage b.storage ∷ eqb a.usage b.usage
    ∷ eqb a.red b.red ∷ eqb a.green b.green ∷ eqb a.blue b.blue ∷ eqb a.alpha b.alpha ∷ [])

-- kind 0 is flat, 1 a cube of six slices, 2 a volume
unfoldable pub slices_of : VersionShape → ℕ
slices_of s = cond (eqb s.kind 1) 6 1

-- (base, at least 1) shifted right by the level, at least 1
unfoldable pub level_extent : ℕ → ℕ → ℕ
level_extent base level = max 1 (max 1 base / 2 ^ level)

unfoldable pub level_width : VersionShape → ℕ → ℕ
level_width s level = level_extent s.width level

unfoldable pub level_height : VersionShape → ℕ → ℕ
level_height s level = level_extent s.height level

-- depth counts in volumes only
unfoldable pub level_depth : VersionShape → ℕ → ℕ
level_depth s level = cond (eqb s.kind 2) (level_extent s.depth level) 1

-- whole blocks across times down times depth
unfoldable pub level_blocks : VersionShape → ℕ → ℕ
level_blocks s level = ceil_div (level_width s level) (block_edge s.format) * ceil_div (level_height s level) (block_edge s.format) * level_depth s level

-- and times block bytes
unfoldable pub level_bytes : VersionShape → ℕ → ℕ
level_bytes s level =
    ceil_div (level_width s level) (block_edge s.format) * ceil_div (level_height s level) (block_edge s.format) * level_depth s level * block_bytes s.format

-- the bytes of a version: summed over the levels, times slices
unfoldable pub bytes_of : VersionShape → ℕ
bytes_of s = total (level_bytes s) (listed (λ (level : ℕ). level) 0 s.levels) * slices_of s

-- 2 for what is no shape
unfoldable pub bytes_outcome : VersionShape → Outcome
bytes_outcome s = cond (is_shape s) (accepted (bytes_of s ∷ [])) (refused 2)

-- every write of the texture is reported: no volume, the application's usage has neither render target (bit 0) nor depth-stencil
-- (bit 1), no depth format
unfoldable pub records_every_write : VersionShape → ℕ → Bool
records_every_write s usage =
    tests (not (eqb s.kind 2) ∷ eqb (usage % 2) 0 ∷ eqb (usage / 2 % 2) 0 ∷ not (eqb s.format 7) ∷ not (eqb s.format 8) ∷ [])

unfoldable pub records_outcome : VersionShape → ℕ → Outcome
records_outcome s usage = cond (is_shape s) (accepted (cond (records_every_write s usage) 1 0 ∷ [])) (refused 2)
