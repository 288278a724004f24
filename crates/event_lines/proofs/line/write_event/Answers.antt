-- `write_event` meets its contract. Assumes nothing.
use mathlib.Core.Path.{ap, ◌∙◌}
use lib.ListN.{get_or}
use Rattle.event_lines.specs.declared.event.Event.{Event}
use Rattle.event_lines.specs.Grammar.{write_event}
use Rattle.base_blocks.specs.Lists.{tests, after}
use Rattle.event_lines.specs.Reading.{fits, limits_of, limit_tests}
use Rattle.event_lines.proofs.Choices.{chosen, refused}
use Rattle.event_lines.proofs.line.write_event.Goals as goal

pub returns-then-count-n : goal.returns-then-count-n
unfolding write_event fits limits_of limit_tests tests after
returns-then-count-n c =
    let n = c.args.n.now in
    ap (λ s. Event.Write (get_or n 0 0) (get_or n 1 0) (get_or n 2 0) s) c.rect_of.ensures ∙ chosen _ _ _ c.if-count-n.true

pub returns : goal.returns
unfolding fits limits_of limit_tests tests after
returns c = refused _ _ _ c.if-count-n.false
