-- Rule: Bytes of a copy (02, W-203): "the blocks that its texels in the level touch, at all depths, times the block's bytes". A copy is of a box of texels or of the whole
-- level, in one slice. The function itself is 01's ("Added: bytes of a copy"), whose rounding down 02 withdraws.
use Rattle.std.specs.Prelude.{ℕ, ◌+◌, ◌-◌, ◌*◌, ◌/◌, min, cond, [], ◌∷◌, eqb, ltb}
use Rattle.grid_shapes.specs.declared.shape.VersionShape.{VersionShape}
use Rattle.grid_rects.specs.declared.rect.Region.{Region}
use Rattle.grid_rects.specs.declared.rect.Region.TheVariants.{Whole, Part}
use Rattle.grid_shapes.specs.Formats.{block_edge, block_bytes}
use Rattle.grid_shapes.specs.Shapes.{is_shape, level_width, level_height, level_depth}
use Rattle.grid_shapes.specs.Outcomes.{Outcome, accepted, refused}

-- how many of `size` texels from `start` on lie within `extent`
unfoldable pub cut_size : ℕ → ℕ → ℕ → ℕ
cut_size extent start size = min (start + size) extent - start

-- Along an axis, blocks of `edge` texels stand side by side from the level's texel 0 on. The blocks that `texels` texels from `start` on touch are those from
-- the first texel's to the last texel's; no texels touch none.
unfoldable pub touched_blocks : ℕ → ℕ → ℕ → ℕ
touched_blocks edge start texels = cond (eqb texels 0) 0 ((start + texels - 1) / edge - start / edge + 1)

-- the blocks that `size` texels from `start` on touch with those texels that lie within `extent`
unfoldable pub cut_blocks : ℕ → ℕ → ℕ → ℕ → ℕ
cut_blocks edge extent start size = touched_blocks edge start (cut_size extent start size)

-- the blocks, of `edge` by `edge` texels, that the region's texels in a level of `width` by `height` touch, at one depth
unfoldable pub region_blocks : ℕ → ℕ → ℕ → Region → ℕ
region_blocks edge width height Whole = touched_blocks edge 0 width * touched_blocks edge 0 height
region_blocks edge width height (Part r) = cut_blocks edge width r.x r.width * cut_blocks edge height r.y r.height

-- at all depths, times the block's bytes
unfoldable pub copy_bytes : VersionShape → ℕ → Region → ℕ
copy_bytes s level region =
    region_blocks (block_edge s.format) (level_width s level) (level_height s level) region * level_depth s level * block_bytes s.format

-- 2 for what is no shape; 0 bytes in a level that the shape lacks
unfoldable pub copy_outcome : VersionShape → ℕ → Region → Outcome
copy_outcome s level region = cond (is_shape s) (accepted (cond (ltb level s.levels) (copy_bytes s level region) 0 ∷ [])) (refused 2)
