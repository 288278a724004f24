-- `other_start` meets its contract. Assumes nothing.
use native.Mathlib.Omega.{arith}
use Rattle.event_lines.proofs.Starts.{pop_starts}
use Rattle.event_lines.proofs.words.other_start.Goals as goal

pub returns-then-code-eq-POP : goal.returns-then-code-eq-POP
returns-then-code-eq-POP c = pop_starts _ _ c.requires.1 c.if-code-eq-POP.true

pub returns-then-text-lt7 : goal.returns-then-text-lt7
returns-then-text-lt7 c = c.any_start.ensures

pub long_start-requires : goal.long_start-requires
long_start-requires c = (omega (arith, c.if-text-lt7.false), c.requires.1)

pub returns : goal.returns
returns c = c.long_start.ensures
