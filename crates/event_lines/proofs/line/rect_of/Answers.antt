-- `rect_of` meets its contract. Assumes nothing.
use mathlib.Core.Path.{refl}
use Rattle.event_lines.specs.Grammar.{rect_of}
use Rattle.event_lines.proofs.line.rect_of.Goals as goal

pub returns : goal.returns
unfolding rect_of
returns c = refl
