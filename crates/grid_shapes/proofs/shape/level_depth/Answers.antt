-- `grid_shapes::shape::level_depth` meets its contract. By kind.
use mathlib.Core.Path.{sym, ◌∙◌}
use Rattle.grid_shapes.proofs.Shapes.{depth_volume, depth_flat}
use Rattle.grid_shapes.proofs.shape.level_depth.Goals as goal

pub returns-then-s-eq2 : goal.returns-then-s-eq2
returns-then-s-eq2 c = c.level_extent.ensures ∙ sym (depth_volume c.args.s c.args.level c.if-s-eq2.true)

pub returns-else-s-eq2 : goal.returns-else-s-eq2
returns-else-s-eq2 c = sym (depth_flat c.args.s c.args.level c.if-s-eq2.false)
