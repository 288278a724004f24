-- `four_start` meets its contract. Assumes nothing.
use Rattle.event_lines.proofs.Starts.{take_starts, plan_starts, park_starts, trim_starts, note_starts}
use Rattle.event_lines.proofs.words.four_start.Goals as goal

pub returns-then-code-eq-TAKE : goal.returns-then-code-eq-TAKE
returns-then-code-eq-TAKE c =
    let p = c.requires in
    take_starts _ _ p.1 p.0 c.if-code-eq-TAKE.true p.2

pub returns-then-code-eq-PLAN : goal.returns-then-code-eq-PLAN
returns-then-code-eq-PLAN c =
    let p = c.requires in
    plan_starts _ _ p.1 p.0 c.if-code-eq-PLAN.true p.2

pub returns-then-code-eq-PARK : goal.returns-then-code-eq-PARK
returns-then-code-eq-PARK c =
    let p = c.requires in
    park_starts _ _ p.1 p.0 c.if-code-eq-PARK.true p.2

pub returns-then-code-eq-TRIM : goal.returns-then-code-eq-TRIM
returns-then-code-eq-TRIM c =
    let p = c.requires in
    trim_starts _ _ p.1 p.0 c.if-code-eq-TRIM.true p.2

pub returns-then-code-eq-NOTE : goal.returns-then-code-eq-NOTE
returns-then-code-eq-NOTE c =
    let p = c.requires in
    note_starts _ _ p.1 p.0 c.if-code-eq-NOTE.true p.2

pub returns : goal.returns
returns c = c.any_start.ensures
