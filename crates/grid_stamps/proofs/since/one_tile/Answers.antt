-- The span of one tile. Assumes nothing.
use mathlib.Core.Path.{refl}
use Rattle.grid_axes.specs.Axes.{one_tile}
use Rattle.grid_stamps.proofs.since.one_tile.Goals as goal

pub returns : goal.returns
unfolding one_tile
returns c = refl
