-- `grid_shapes::shape::is_shape` meets its contract. The tests of the definition, in its order.
use mathlib.Core.Path.{refl}
use Rattle.base_blocks.specs.Lists.{after, tests}
use Rattle.grid_shapes.specs.Shapes.{is_shape}
use Rattle.grid_shapes.proofs.shape.is_shape.Goals as goal

pub returns : goal.returns
unfolding is_shape tests after
returns c = refl
