-- `spares_before` meets its contract: no texture stands before the first. Assumes nothing.
use native.Mathlib.Omega.{arith}
use Rattle.pool_records.specs.declared.texture.TextureRecord.{TextureRecord}
use Rattle.pool_records.specs.Texture.{read_texture}
use Rattle.pool_records.specs.RecordConstants.{texture_stride}
use Rattle.pool_access.proofs.Totals.{total_none}
use Rattle.pool_access.proofs.spare.spares_before.Goals as goal

pub returns : goal.returns
returns c = omega (arith, c.spares_between.ensures, total_none texture_stride read_texture (λ (t : TextureRecord). t.spares) c.args.textures.now)
