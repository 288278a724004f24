-- Rule: Bytes of a copy as 01 had them before 02's W-203: texels, not blocks, "times block bytes over texels per block, rounded down". No code computes
-- this: it stands here so that CopyClaims.antt can say what stayed.
use Rattle.std.specs.Prelude.{ℕ, ◌*◌, ◌/◌}
use Rattle.grid_shapes.specs.declared.shape.VersionShape.{VersionShape}
use Rattle.grid_rects.specs.declared.rect.Region.{Region}
use Rattle.grid_rects.specs.declared.rect.Region.TheVariants.{Whole, Part}
use Rattle.grid_shapes.specs.Formats.{block_edge, block_bytes}
use Rattle.grid_shapes.specs.Shapes.{level_width, level_height, level_depth}
use Rattle.grid_rects.specs.Copies.{cut_size}

-- the region's texels in a level of `width` by `height`, at one depth
unfoldable pub region_texels : ℕ → ℕ → Region → ℕ
region_texels width height Whole = width * height
region_texels width height (Part r) = cut_size width r.x r.width * cut_size height r.y r.height

-- its texels in the level, all depths, times block bytes over texels per block, rounded down
unfoldable pub rounded_copy_bytes : VersionShape → ℕ → Region → ℕ
rounded_copy_bytes s level region =
    region_texels (level_width s level) (level_height s level) region * level_depth s level * block_bytes s.format / (block_edge s.format * block_edge s.format)
