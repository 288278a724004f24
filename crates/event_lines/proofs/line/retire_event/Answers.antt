-- `retire_event` meets its contract. Assumes nothing.
use borrow.Author.Tests.{eq-eqb, ne_eqb}
use Rattle.event_lines.specs.Grammar.{retire_event}
use Rattle.event_lines.proofs.Choices.{chosen, refused}
use Rattle.event_lines.proofs.line.retire_event.Goals as goal

pub returns-then-count-eq3 : goal.returns-then-count-eq3
unfolding retire_event
returns-then-count-eq3 c = chosen _ _ _ (eq-eqb _ _ c.if-count-eq3.true)

pub returns : goal.returns
returns c = refused _ _ _ (ne_eqb _ _ c.if-count-eq3.false)
