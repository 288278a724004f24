-- The largest stamp of a grid. Assumes nothing.
use mathlib.Core.Path.{ap, ◌∙◌}
use lib.ListN.{take}
use Rattle.base_blocks.specs.Blocks.{largest}
use Rattle.grid_stamps.specs.Grids.{largest_stamp}
use Rattle.grid_stamps.proofs.newest.largest_stamp.Goals as goal

pub returns : goal.returns
unfolding largest_stamp
returns c = c.largest_of.ensures ∙ ap (λ n. largest (take n c.args.page.now)) c.stamp_count-count.ensures
