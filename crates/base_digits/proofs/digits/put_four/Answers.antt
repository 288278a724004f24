-- `put_four` meets its contract. Assumes nothing.
use borrow.Author.Rules.{rules}
use lib.ListN.{length-set}
use Rattle.base_digits.proofs.FourDigits.{four_stored}
use Rattle.base_digits.proofs.digits.put_four.Goals as goal

pub bounds-out-at-2 : goal.bounds-out-at-2
bounds-out-at-2 c = simp length-set (search rules)

pub bounds-out-at-3 : goal.bounds-out-at-3
bounds-out-at-3 c = simp length-set (search rules)

pub bounds-out-at-4 : goal.bounds-out-at-4
bounds-out-at-4 c = simp length-set (search rules)

pub returns : goal.returns
returns c = four_stored _ c.args.at c.args.n _ c.four_digits-word.ensures
