-- `drained_book` meets its contract. Assumes nothing.
use mathlib.Core.Path.{refl}
use Rattle.pool_take_doomed.specs.DrainVersions.{drained_book}
use Rattle.pool_take_doomed.proofs.calls.drain_versions.drained_book.Goals as goal

pub returns : goal.returns
unfolding drained_book
returns c = refl
