-- `numbers_fit` meets its contract. Assumes nothing.
use Rattle.pool_formed.proofs.NumberTests.{numbers_test}
use borrow.Author.Rules.{rules}
use Rattle.pool_formed.proofs.numbers_fit.numbers_fit.Goals as goal

pub returns : goal.returns
returns c = (numbers_test c.args.pool c.args.book _ c.within.ensures, search rules)
