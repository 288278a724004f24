-- `shape_of` meets its contract. Assumes nothing.
use mathlib.Core.Path.{refl}
use Rattle.event_lines.specs.Grammar.{shape_of}
use Rattle.event_lines.proofs.line.shape_of.Goals as goal

pub returns : goal.returns
unfolding shape_of
returns c = refl
