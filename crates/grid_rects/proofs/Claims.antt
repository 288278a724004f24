-- What 02 says of the bytes of a copy holds. Assumes nothing.
use Rattle.grid_rects.specs.CopyClaims.{CopyClaims}
use Rattle.grid_rects.proofs.Blocks.{texel_counted, block_has_texel}
use Rattle.grid_rects.proofs.CopyBytes.{copies_version, copy_most, copy_none, copy_some, copy_no_less, copy_others}

pub copy_claims : CopyClaims
copy_claims = record {
  texels_in = λ edge extent start size block pos t. texel_counted edge pos extent start size block t;
  blocks_touched = λ edge extent start size block pos low high. block_has_texel edge pos extent start size block low high;
  none = copy_none;
  some = copy_some;
  version = copies_version;
  at_most_whole = copy_most;
  no_less = copy_no_less;
  others = copy_others;
}
