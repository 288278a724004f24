-- `grid_rects::copies::cut_blocks` meets its contract. What is left of a cut lies in the level, so the sum of start and texels does not wrap.
use mathlib.Core.Path.{◌∙◌, ap}
use native.Mathlib.Omega.{arith}
use Rattle.grid_rects.specs.Copies.{cut_size, touched_blocks, cut_blocks}
use Rattle.grid_rects.proofs.copies.cut_blocks.Goals as goal

pub touched_blocks-requires : goal.touched_blocks-requires
unfolding cut_size
touched_blocks-requires c = (c.requires, omega (arith, c.cut_size-texels.ensures))

pub returns : goal.returns
unfolding cut_blocks
returns c =
    let a = c.args in
    c.touched_blocks.ensures ∙ ap (touched_blocks a.edge a.start) c.cut_size-texels.ensures
