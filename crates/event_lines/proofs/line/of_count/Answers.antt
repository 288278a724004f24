-- `of_count` meets its contract. Assumes nothing.
use borrow.Author.Tests.{eq-eqb, ne_eqb}
use Rattle.event_lines.proofs.Choices.{chosen, refused}
use Rattle.event_lines.proofs.line.of_count.Goals as goal

pub returns-then-count-wanted : goal.returns-then-count-wanted
returns-then-count-wanted c = chosen _ _ _ (eq-eqb _ _ c.if-count-wanted.true)

pub returns : goal.returns
returns c = refused _ _ _ (ne_eqb _ _ c.if-count-wanted.false)
