-- Whole tiles in texels. Assumes nothing.
use Rattle.grid_stamps.specs.Grids.{box_of}
use Rattle.grid_stamps.proofs.since.box_of.Goals as goal

pub returns : goal.returns
unfolding box_of
returns c = rw (c.span_start.ensures, c.span_start-2.ensures, c.span_size.ensures, c.span_size-2.ensures)
