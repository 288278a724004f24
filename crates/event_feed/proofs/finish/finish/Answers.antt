-- `finish` meets its contract: the line feed stands after the line that is held. Assumes nothing.
use Prim.Native.Nat.{◌<◌}
use native.Mathlib.Omega.{arith}
use lib.ListN.{length}
use Rattle.event_feed.proofs.Ends.{more_came, none_held, line_ended}
use Rattle.event_feed.proofs.finish.finish.Goals as goal

pub returns-then-from-held : goal.returns-then-from-held
returns-then-from-held c =
    let a = c.args in
    more_came a.from a.held a.end a.buf.now c.requires.0 c.requires.1 c.if-from-held.true

pub returns-then-held-eq0 : goal.returns-then-held-eq0
returns-then-held-eq0 c =
    let a = c.args in
    none_held a.from a.held a.end a.buf.now c.requires.0 c.requires.1 c.if-from-held.false (omega (arith, c.if-held-eq0.true))

pub returns : goal.returns
returns c =
    let a = c.args in
    let t = c.if-from-held.false in
    let room : a.end < length a.buf.now = c.requires.2 (omega (arith, c.requires.0, t)) in
    line_ended a.from a.held a.end a.buf.now c.requires.0 c.requires.1 t (omega (arith, c.if-held-eq0.false)) room
