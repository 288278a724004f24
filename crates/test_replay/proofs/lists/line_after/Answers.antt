-- What is found lies within the part. Assumes nothing.
use native.Mathlib.Omega.{arith}
use lib.Seq.{length-take-le}
use Rattle.event_text.proofs.Searches.{found_within}
use Rattle.test_replay.proofs.lists.line_after.Goals as goal

pub returns-else-end-to : goal.returns-else-end-to
returns-else-end-to c =
    let a = c.args in
    let p = c.requires in
    let k = length-take-le a.to a.input.now p.1 in
    let w = found_within _ _ _ _ (omega (arith, k, p.0)) c.find_byte-end.ensures in
    let no = c.if-end-to.false in
    (omega (arith, no, p.0), omega (arith, w, k))
