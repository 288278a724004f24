-- The sizes are the lengths' alone. Assumes nothing.
use mathlib.Core.Path.{sym, ◌∙◌}
use Rattle.pool_open.proofs.Sizes.{sizes_lengths}
use Rattle.pool_open.proofs.calls.sizes_fit.sizes_fit.Goals as goal

pub returns : goal.returns
returns c = λ pool book. c.lengths_fit.ensures ∙ sym (sizes_lengths _)
