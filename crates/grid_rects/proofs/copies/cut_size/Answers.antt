-- `grid_rects::copies::cut_size` meets its contract. The sum of start and size is not made: it could wrap.
use native.Mathlib.Omega.{arith}
use Rattle.grid_rects.specs.Copies.{cut_size}
use Rattle.grid_rects.proofs.copies.cut_size.Goals as goal

pub returns-then-extent-start : goal.returns-then-extent-start
unfolding cut_size
returns-then-extent-start c = omega arith

pub returns : goal.returns
unfolding cut_size
returns c = omega arith
