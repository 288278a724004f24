-- `take_event` meets its contract. Assumes nothing.
use mathlib.Core.Path.{ap, ◌∙◌}
use lib.Dec.{eqb}
use lib.ListN.{get_or}
use Rattle.event_lines.specs.declared.event.Event.{Event}
use Rattle.event_lines.specs.Grammar.{take_event}
use Rattle.base_blocks.specs.Lists.{tests, after}
use Rattle.event_lines.specs.Reading.{fits, limits_of, limit_tests}
use Rattle.event_lines.proofs.Choices.{chosen, refused}
use Rattle.event_lines.proofs.line.take_event.Goals as goal

pub returns-then-count-n : goal.returns-then-count-n
unfolding take_event fits limits_of limit_tests tests after
returns-then-count-n c =
    let n = c.args.n.now in
    ap (λ s. Event.Take (get_or n 0 0) s (eqb (get_or n 7 0) 1) (get_or n 8 0)) c.shape_of.ensures ∙ chosen _ _ _ c.if-count-n.true

pub returns : goal.returns
unfolding fits limits_of limit_tests tests after
returns c = refused _ _ _ c.if-count-n.false
