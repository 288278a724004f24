-- `put_eight` meets its contract. Assumes nothing.
use Rattle.base_digits.proofs.ShortNumbers.{eight_last}
use Rattle.base_digits.proofs.digits.put_eight.Goals as goal

pub returns : goal.returns
returns c = eight_last _ _ c.args.n _ _ c.put_four.ensures c.put_four-2.ensures
