-- `record_at` meets its contract: the part from the record's start to its end. Assumes nothing.
use mathlib.Core.Path.{◌≡◌, ap, ◌∙◌}
use Prim.Native.Nat.{◌+◌, ◌*◌, ◌-◌, ◌≤◌}
use native.Mathlib.Omega.{arith}
use lib.ListN.{length, take, drop, length-drop}
use lib.Seq.{length-take-le}
use Rattle.base_tables.proofs.table.record_at.Goals as goal

pub returns : goal.returns
returns c =
    let a = c.args in
    let at = a.w * a.i in
    let size : at + a.w - at ≡ a.w = omega arith in
    let part = ap (λ m. take m (drop at a.s.now)) size in
    let room : a.w ≤ length (drop at a.s.now) = rw length-drop (omega arith) in
    (ap length part ∙ length-take-le a.w (drop at a.s.now) room, part)
