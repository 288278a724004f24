-- `taken_book` meets its contract. Assumes nothing.
use native.Mathlib.Numerals.{add-one}
use Rattle.pool_take_doomed.specs.TakeDoomed.{taken_book}
use Rattle.pool_take_doomed.proofs.calls.take_doomed.taken_book.Goals as goal

pub returns : goal.returns
unfolding taken_book
returns c = rw add-one
