-- `plan_event` meets its contract. Assumes nothing.
use Rattle.event_lines.specs.Grammar.{plan_event}
use Rattle.base_blocks.specs.Lists.{tests, after}
use Rattle.event_lines.specs.Reading.{fits, limits_of, limit_tests}
use Rattle.event_lines.proofs.Choices.{chosen, refused}
use Rattle.event_lines.proofs.line.plan_event.Goals as goal

pub returns-then-count-n : goal.returns-then-count-n
unfolding plan_event fits limits_of limit_tests tests after
returns-then-count-n c = chosen _ _ _ c.if-count-n.true

pub returns : goal.returns
unfolding fits limits_of limit_tests tests after
returns c = refused _ _ _ c.if-count-n.false
