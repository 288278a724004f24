-- `opened_book` meets its contract. Assumes nothing.
use mathlib.Core.Path.{refl}
use Rattle.pool_memory.specs.Calls.{opened_book}
use Rattle.pool_open.proofs.calls.open.opened_book.Goals as goal

pub returns : goal.returns
unfolding opened_book
returns c = refl
