-- `put_box` meets its contract. Assumes nothing.
use native.Mathlib.Omega.{arith}
use Rattle.event_answers.proofs.Puts.{put_field}
use Rattle.event_answers.proofs.entry.put_box.Goals as goal

pub returns : goal.returns
returns c =
    let f1 = c.put_field-second.ensures in
    let f2 = c.put_field-third.ensures in
    let f3 = c.put_field-fourth.ensures in
    let f4 = c.put_last.ensures in
    (omega (arith, f1.0, f2.0, f3.0, f4.0), put_field _ _ f1.1 (put_field _ _ f2.1 (put_field _ _ f3.1 f4.1)))
