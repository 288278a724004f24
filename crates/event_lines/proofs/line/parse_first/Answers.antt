-- `parse_first` meets its contract: what was read is the event of the first line. Assumes nothing.
use mathlib.Core.Path.{◌∙◌}
use native.Mathlib.Nat.{zero-add}
use Rattle.event_lines.specs.Reading.{unread_fields}
use Rattle.event_lines.proofs.Choices.{chosen, refused}
use Rattle.event_lines.proofs.Grammar.{checked, first_event, first_end, start_room}
use Rattle.event_lines.proofs.line.parse_first.Goals as goal

pub read_fields-requires : goal.read_fields-requires
read_fields-requires c = start_room _ _ _ c.start_of-start.ensures

pub returns-in_default : goal.returns-in_default
unfolding checked
returns-in_default c =
    (first_event _ _ _ c.start_of-start.ensures unread_fields c.in_default.ensures.0, c.find_byte.ensures ∙ zero-add _)

pub returns-then-read : goal.returns-then-read
unfolding checked
returns-then-read c =
    let q = c.in-Some.ensures in
    let s = c.start_of-start.ensures in
    (c.dash_event.ensures ∙ chosen c.in-Some.read.dash _ _ c.if-read.true ∙ first_event _ _ _ s _ q.0, first_end _ _ _ s _ q.1)

pub returns : goal.returns
unfolding checked
returns c =
    let q = c.in-Some.ensures in
    let s = c.start_of-start.ensures in
    (c.numbers_event.ensures ∙ refused c.in-Some.read.dash _ _ c.if-read.false ∙ first_event _ _ _ s _ q.0, first_end _ _ _ s _ q.1)
