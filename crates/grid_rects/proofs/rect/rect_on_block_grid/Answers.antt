-- `grid_rects::rect::rect_on_block_grid` meets its contract. The two sides.
use mathlib.Core.Bool.{◌&&◌}
use Rattle.grid_rects.specs.Rects.{rect_on_grid}
use Rattle.grid_rects.proofs.rect.rect_on_block_grid.Goals as goal

pub returns : goal.returns
unfolding rect_on_grid
returns c = λ i. c.side_on_grid.ensures i && c.side_on_grid-2.ensures i
