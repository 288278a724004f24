-- The first texel of whole tiles. Assumes nothing.
use mathlib.Core.Path.{refl}
use Rattle.grid_axes.specs.Axes.{span_start}
use Rattle.grid_axes.proofs.axis.span_start.Goals as goal

pub returns : goal.returns
unfolding span_start
returns c = refl
