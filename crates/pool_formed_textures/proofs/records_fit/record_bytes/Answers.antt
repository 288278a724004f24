-- `record_bytes` meets its contract: the record keeps the bytes of one version. Assumes nothing.
use mathlib.Core.Path.{ap}
use Prim.Native.Nat.{ℕ, ◌*◌}
use native.Mathlib.Omega.{arith}
use lib.ListN.{get_or}
use Rattle.pool_records.specs.Texture.{read_texture, record_bytes}
use Rattle.pool_formed_textures.proofs.RecordTests.{bytes_small}
use Rattle.pool_records.specs.RecordConstants.{texture_spares_at}
use Rattle.pool_formed_textures.proofs.records_fit.record_bytes.Goals as goal

pub overflow_mul-result : goal.overflow_mul-result
unfolding read_texture
overflow_mul-result c =
    let t = read_texture c.args.p.now in
    omega (arith, bytes_small t.shape t.bytes t.spares c.requires.3 c.requires.1 c.requires.2)

pub returns : goal.returns
unfolding record_bytes read_texture
returns c =
    ap (λ (n : ℕ). n * get_or c.args.p.now texture_spares_at 0) c.requires.3
