-- `grid_shapes::shape::slices` meets its contract. By kind.
use mathlib.Core.Path.{sym}
use Rattle.grid_shapes.proofs.Shapes.{slices_cube, slices_other}
use Rattle.grid_shapes.proofs.shape.slices.Goals as goal

pub returns-then-s-eq1 : goal.returns-then-s-eq1
returns-then-s-eq1 c = sym (slices_cube c.args.s c.if-s-eq1.true)

pub returns-else-s-eq1 : goal.returns-else-s-eq1
returns-else-s-eq1 c = sym (slices_other c.args.s c.if-s-eq1.false)
