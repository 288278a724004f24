-- `put_field` meets its contract. Assumes nothing.
use borrow.Author.Rules.{rules}
use native.Mathlib.Omega.{arith}
use mathlib.Core.Path.{◌∙◌}
use lib.ListN.{length-set}
use Rattle.base_digits.proofs.Puts.{put_before, number_put, number_most}
use Rattle.event_answers.proofs.row.put_field.Goals as goal

pub put_number-requires : goal.put_number-requires
put_number-requires c = simp length-set (search rules)

pub shape_of-out : goal.shape_of-out
shape_of-out c =
    let a = c.args in
    c.put_number.auto.out ∙ length-set a.out.now a.at 44

pub returns : goal.returns
returns c =
    let p = c.put_number.ensures in
    (omega (arith, number_most _ _ _ p.0), put_before (number_put _ _ _ p))
