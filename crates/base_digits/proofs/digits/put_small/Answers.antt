-- `put_small` meets its contract. Assumes nothing.
use borrow.Author.Rules.{rules}
use lib.ListN.{length-set}
use Rattle.base_digits.proofs.ShortNumbers.{put_one, put_two, put_three, put_four}
use Rattle.base_digits.proofs.digits.put_small.Goals as goal

pub returns-then-n-lt10 : goal.returns-then-n-lt10
returns-then-n-lt10 c = put_one _ _ _ _ c.digit.ensures c.if-n-lt10.true

pub bounds-out-at-then-n-lt100-2 : goal.bounds-out-at-then-n-lt100-2
bounds-out-at-then-n-lt100-2 c = simp length-set (search rules)

pub returns-then-n-lt100 : goal.returns-then-n-lt100
returns-then-n-lt100 c =
    put_two _ _ _ _ _ c.digit-then-n-lt100.ensures c.digit-then-n-lt100-2.ensures c.if-n-lt10.false c.if-n-lt100.true

pub bounds-out-at-then-n-lt1000-2 : goal.bounds-out-at-then-n-lt1000-2
bounds-out-at-then-n-lt1000-2 c = simp length-set (search rules)

pub bounds-out-at-then-n-lt1000-3 : goal.bounds-out-at-then-n-lt1000-3
bounds-out-at-then-n-lt1000-3 c = simp length-set (search rules)

pub returns-then-n-lt1000 : goal.returns-then-n-lt1000
returns-then-n-lt1000 c =
    put_three _ _ _ _ _ _ c.digit-then-n-lt1000.ensures c.digit-then-n-lt1000-2.ensures c.digit-then-n-lt1000-3.ensures c.if-n-lt100.false c.if-n-lt1000.true

pub returns : goal.returns
returns c =
    put_four _ _ _ _ c.put_four.ensures c.if-n-lt1000.false c.requires.0
