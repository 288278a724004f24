-- `lengths_fit` meets its contract. Assumes nothing.
use mathlib.Core.Path.{sym}
use Rattle.pool_open.proofs.Sizes.{too_many_textures, lengths_test}
use Rattle.pool_open.proofs.calls.sizes_fit.lengths_fit.Goals as goal

pub returns-then-places-gt-MOST_PLACES : goal.returns-then-places-gt-MOST_PLACES
returns-then-places-gt-MOST_PLACES c = sym (too_many_textures _ _ _ _ _ _ c.if-places-gt-MOST_PLACES.true)

pub returns : goal.returns
returns c = lengths_test _ _ _ _ _ _ _ c.newest_length-numbers.ensures
