-- `version_bytes` meets its contract. Assumes nothing.
use mathlib.Core.Path.{◌∙◌}
use Rattle.pool_relief_line.proofs.Parked.{bytes_number}
use Rattle.pool_relief_line.proofs.line.version_bytes.Goals as goal

pub returns : goal.returns
returns c = bytes_number c.args.textures.now c.args.i ∙ c.requires.1
