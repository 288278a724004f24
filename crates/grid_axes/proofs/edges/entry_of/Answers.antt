-- One entry of a table, widened. Assumes nothing.
use mathlib.Core.Path.{refl}
use Rattle.grid_axes.specs.EdgeTables.{entry_of}
use Rattle.grid_axes.proofs.edges.entry_of.Goals as goal

pub returns : goal.returns
unfolding entry_of
returns c = refl
