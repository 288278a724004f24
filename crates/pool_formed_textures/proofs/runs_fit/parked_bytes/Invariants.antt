-- `parked_bytes` meets its contract: no more than 4,096 times 2^44 bytes. Assumes nothing.
use mathlib.Core.Path.{◌≡◌}
use Prim.Native.Nat.{◌+◌}
use Rattle.base_blocks.specs.Lists.{total}
use Rattle.base_blocks.proofs.Listed.{left}
use Rattle.pool_records.specs.Texture.{texture_in, record_bytes, textures_in}
use Rattle.pool_formed_textures.proofs.runs_fit.parked_bytes.Given as goal

abbrev pub invariant-loop-i : goal.invariant-loop-i
invariant-loop-i l = l.sum + total record_bytes (left (texture_in l.textures) l.n l.i) ≡ total record_bytes (textures_in l.n l.textures)
