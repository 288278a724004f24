-- `records_fit` meets its contract. Assumes nothing.
use mathlib.Core.Path.{◌≡◌}
use Rattle.base_blocks.specs.Lists.{all}
use Rattle.base_blocks.proofs.Listed.{left}
use Rattle.pool_records.specs.Texture.{texture_in, textures_in}
use Rattle.pool_formed_textures.specs.Textures.{is_record}
use Rattle.pool_formed_textures.proofs.records_fit.records_fit.Given as goal

abbrev pub invariant-loop-i : goal.invariant-loop-i
invariant-loop-i l = all is_record (left (texture_in l.textures) l.n l.i) ≡ all is_record (textures_in l.n l.textures)
