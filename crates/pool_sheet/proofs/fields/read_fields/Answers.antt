-- `read_fields` meets its contract. Assumes nothing.
use mathlib.Core.Path.{refl}
use native.Mathlib.Omega.{arith}
use Rattle.pool_records.specs.Texture.{read_texture}
use Rattle.pool_sheet.proofs.fields.read_fields.Goals as goal

pub overflow_mul-result : goal.overflow_mul-result
unfolding read_texture
overflow_mul-result c = omega (arith, c.requires.1.parked)

pub returns : goal.returns
unfolding read_texture
returns c = refl
