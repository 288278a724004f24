-- `long_start` meets its contract. Assumes nothing.
use Rattle.event_lines.proofs.Starts.{retire_starts, doomed_starts, regen_starts, write_starts}
use Rattle.event_lines.proofs.words.long_start.Goals as goal

pub returns-then-code-text : goal.returns-then-code-text
returns-then-code-text c =
    let p = c.requires in
    retire_starts _ _ p.1 p.0 c.if-code-text.true

pub returns-then-code-text-2 : goal.returns-then-code-text-2
returns-then-code-text-2 c =
    let p = c.requires in
    doomed_starts _ _ p.1 p.0 c.if-code-text-2.true

pub returns-then-code-text-3 : goal.returns-then-code-text-3
returns-then-code-text-3 c =
    let p = c.requires in
    regen_starts _ _ p.1 p.0 c.if-code-text-3.true

pub returns-then-code-text-4 : goal.returns-then-code-text-4
returns-then-code-text-4 c =
    let p = c.requires in
    write_starts _ _ p.1 p.0 c.if-code-text-4.true

pub returns : goal.returns
returns c = c.any_start.ensures
