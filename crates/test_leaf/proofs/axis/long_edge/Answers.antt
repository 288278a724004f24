-- The tile edge of a long axis, as `grid_axes` proves that of a level's. Assumes nothing.
use native.Mathlib.Omega.{arith}
use Rattle.base_blocks.specs.Lists.{ceil_div}
use Rattle.base_blocks.proofs.Numbers.{ceil_least}
use Rattle.grid_axes.specs.Axes.{tile_edge}
use Rattle.test_leaf.proofs.axis.long_edge.Goals as goal

pub overflow_mul-result : goal.overflow_mul-result
unfolding ceil_div
overflow_mul-result c = omega (arith, c.max-least.ensures, ceil_least c.max-least.result c.args.block c.requires.1)

pub returns : goal.returns
unfolding tile_edge ceil_div
returns c = rw c.max-least.ensures
