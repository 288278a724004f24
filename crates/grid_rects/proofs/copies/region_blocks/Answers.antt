-- `grid_rects::copies::region_blocks` meets its contract. By the region, whose blocks are no more than the level's texels.
use Prim.Native.Nat.{◌*◌}
use mathlib.Core.Path.{sym, ◌∙◌, ap}
use native.Mathlib.Omega.{arith}
use Rattle.grid_rects.specs.Copies.{region_blocks}
use Rattle.grid_rects.proofs.CopyBytes.{region_bound}
use Rattle.grid_rects.proofs.copies.region_blocks.Goals as goal

-- the two products are the definition's
pub returns-in-Whole : goal.returns-in-Whole
unfolding region_blocks
returns-in-Whole c =
    let a = c.args in
    (λ i. c.touched_blocks.ensures i * c.touched_blocks-in-Whole.ensures i)
    ∙ sym (ap (region_blocks a.edge a.width a.height) c.in-Whole.is)

pub returns-in-Part : goal.returns-in-Part
unfolding region_blocks
returns-in-Part c =
    let a = c.args in
    (λ i. c.cut_blocks.ensures i * c.cut_blocks-in-Part.ensures i)
    ∙ sym (ap (region_blocks a.edge a.width a.height) c.in-Part.is)

pub overflow_mul-result : goal.overflow_mul-result
overflow_mul-result c =
    omega (arith, returns-in-Whole c, region_bound c.args.edge c.args.width c.args.height c.args.region c.requires.0 c.requires.1 c.requires.2)

pub overflow_mul-result-in-Part : goal.overflow_mul-result-in-Part
overflow_mul-result-in-Part c =
    omega (arith, returns-in-Part c, region_bound c.args.edge c.args.width c.args.height c.args.region c.requires.0 c.requires.1 c.requires.2)
