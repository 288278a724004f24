-- `put_plan` meets its contract. Assumes nothing.
use borrow.Author.Rules.{rules}
use mathlib.Core.Path.{sym, ap}
use native.Mathlib.Omega.{arith}
use Rattle.base_digits.proofs.Puts.{put_as}
use Rattle.event_cost.specs.Told.{row_told}
use Rattle.event_cost.proofs.Telling.{put_no_row}
use Rattle.event_cost.proofs.put_cost.put_plan.Goals as goal

pub returns-in-Refused : goal.returns-in-Refused
unfolding row_told
returns-in-Refused c =
    let a = c.args in
    let p = c.put_row.ensures in
    (omega (arith, p.0), put_as (ap (row_told a.number a.bytes) (sym c.in-Refused.is)) p.1)

pub returns-in-Copies : goal.returns-in-Copies
unfolding row_told
returns-in-Copies c =
    let a = c.args in
    let p = c.put_bytes.ensures in
    (p.0, put_as (ap (row_told a.number a.bytes) (sym c.in-Copies.is)) p.1)

pub returns-in_default : goal.returns-in_default
returns-in_default c =
    let a = c.args in
    (search rules, put_no_row a.number a.bytes a.answer a.out.now a.at c.in_default.not-Refused c.in_default.not-Copies)
