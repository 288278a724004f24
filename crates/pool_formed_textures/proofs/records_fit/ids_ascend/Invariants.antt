-- `ids_ascend` meets its contract. Assumes nothing.
use mathlib.Core.Path.{◌≡◌}
use Prim.Native.Nat.{◌-◌}
use Rattle.base_blocks.specs.Lists.{ascending}
use Rattle.base_blocks.proofs.Listed.{left}
use Rattle.pool_records.specs.Texture.{texture_in, textures_in}
use Rattle.pool_records.specs.Find.{id_of}
use Rattle.pool_formed_textures.proofs.records_fit.ids_ascend.Given as goal

abbrev pub invariant-loop-i : goal.invariant-loop-i
invariant-loop-i l = ascending id_of (left (texture_in l.textures) l.n (l.i - 1)) ≡ ascending id_of (textures_in l.n l.textures)
