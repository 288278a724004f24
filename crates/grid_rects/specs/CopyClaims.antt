-- Rule: What 02's W-203 says of the bytes of a copy, as one claim. Law `copy_claims` of proofs/Claims.antt shows it. Nothing here depends on which block
-- edges there are.
use Rattle.std.specs.Prelude.{ℕ, ◌+◌, ◌*◌, ◌/◌, ◌≤◌, ◌<◌, ◌≡◌}
use Rattle.base_blocks.specs.Lists.{listed, total}
use Rattle.grid_shapes.specs.declared.shape.VersionShape.{VersionShape}
use Rattle.grid_rects.specs.declared.rect.Region.{Region}
use Rattle.grid_rects.specs.declared.rect.Region.TheVariants.{Whole}
use Rattle.grid_shapes.specs.Formats.{block_edge, block_bytes}
use Rattle.grid_shapes.specs.Shapes.{level_width, level_height, slices_of, bytes_of}
use Rattle.grid_rects.specs.Copies.{cut_blocks, copy_bytes}
use Rattle.grid_rects.specs.RoundedCopies.{region_texels, rounded_copy_bytes}

-- a texel of the level, one of the `size` from `start` on, that lies in this block
pub record TexelOf (edge extent start size block : ℕ) : Type 0 where
  pub texel : ℕ
  pub from : start ≤ texel
  pub before : texel < start + size
  pub in_level : texel < extent
  pub in_block : texel / edge ≡ block

pub record CopyClaims : Type 0 where
  -- "the blocks that its texels in the level touch": along an axis they are `cut_blocks` many from the block of `start` on, since each texel lies in one of them
  pub texels_in : (edge extent start size block : ℕ) → 0 < edge → TexelOf edge extent start size block
      → (start / edge ≤ block) × (block < start / edge + cut_blocks edge extent start size)
  -- and in each of them lies a texel
  pub blocks_touched : (edge extent start size block : ℕ) → 0 < edge → start / edge ≤ block → block < start / edge + cut_blocks edge extent start size
      → TexelOf edge extent start size block
  -- "moves whole blocks": a copy that has no texel in the level costs nothing, any other a block at least
  pub none : (s : VersionShape) (level : ℕ) (r : Region) → region_texels (level_width s level) (level_height s level) r ≡ 0 → copy_bytes s level r ≡ 0
  pub some : (s : VersionShape) (level : ℕ) (r : Region) → 0 < region_texels (level_width s level) (level_height s level) r
      → block_bytes s.format ≤ copy_bytes s level r
  -- copies of every level whole, in every slice, move the bytes of a version
  pub version : (s : VersionShape) → total (λ (level : ℕ). copy_bytes s level Whole) (listed (λ (level : ℕ). level) 0 s.levels) * slices_of s ≡ bytes_of s
  -- and no copy moves more than that of its whole level
  pub at_most_whole : (s : VersionShape) (level : ℕ) (r : Region) → copy_bytes s level r ≤ copy_bytes s level Whole
  -- "Document 01's rounding down is withdrawn for formats 5 and 6": no copy costs less than it gave
  pub no_less : (s : VersionShape) (level : ℕ) (r : Region) → rounded_copy_bytes s level r ≤ copy_bytes s level r
  -- "the others give what they gave"
  pub others : (s : VersionShape) (level : ℕ) (r : Region) → block_edge s.format ≡ 1 → copy_bytes s level r ≡ rounded_copy_bytes s level r
