-- `grid_rects::copies::touched_blocks` meets its contract. The last texel is not before the first, nor is its block.
use mathlib.Core.Path.{sym}
use native.Mathlib.Omega.{arith}
use Rattle.grid_rects.specs.Copies.{touched_blocks}
use Rattle.grid_rects.proofs.Blocks.{touched_some}
use Rattle.grid_rects.proofs.copies.touched_blocks.Goals as goal

pub returns-then-texels-eq0 : goal.returns-then-texels-eq0
unfolding touched_blocks
returns-then-texels-eq0 c = rw c.if-texels-eq0.true

pub returns : goal.returns
returns c =
    let a = c.args in
    sym (touched_some a.edge a.start a.texels (omega (arith, c.if-texels-eq0.false)))
