-- `stamp_end` meets its contract: the number read is the next record's. Assumes nothing.
use mathlib.Core.Path.{◌∙◌}
use Rattle.pool_access.proofs.Fields.{next_stamp}
use Rattle.pool_access.proofs.starts.stamp_end.Goals as goal

pub returns : goal.returns
returns c = c.run_end.ensures ∙ next_stamp c.args.textures.now c.args.n c.args.used c.args.i
