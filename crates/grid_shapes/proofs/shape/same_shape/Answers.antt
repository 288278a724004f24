-- `grid_shapes::shape::same_shape` meets its contract. The tests of the definition, in its order.
use Rattle.std.proofs.Math.Bool.{and_assoc}
use Rattle.base_blocks.specs.Lists.{after, tests}
use Rattle.grid_shapes.specs.Shapes.{same_shape}
use Rattle.grid_shapes.proofs.shape.same_shape.Goals as goal

pub returns : goal.returns
unfolding same_shape tests after
returns c = simp and_assoc c.eq.ensures
