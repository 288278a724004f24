-- `parked_bytes` meets its contract: no more than 4,096 times 2^44 bytes. Assumes nothing.
use mathlib.Core.Path.{ap, ◌∙◌}
use native.Mathlib.Omega.{arith}
use Rattle.base_blocks.specs.Lists.{total}
use Rattle.base_blocks.proofs.Listed.{total_done}
use Rattle.base_tables.proofs.Records.{table_left}
use Rattle.pool_records.specs.declared.texture.TextureRecord.{TextureRecord}
use Rattle.pool_records.specs.Texture.{read_texture, texture_in, record_bytes}
use Rattle.pool_formed_textures.proofs.RecordTests.{texture_read, read_shape, read_bytes, spares_at_lem}
use Rattle.pool_formed_textures.proofs.Claims.{parked_more, parked_room}
use Rattle.pool_records.specs.RecordConstants.{texture_stride}
use Rattle.pool_formed_textures.proofs.runs_fit.parked_bytes.Goals as goal

pub loop-i-init : goal.loop-i-init
loop-i-init c = omega (arith, ap (total record_bytes) (table_left texture_stride read_texture c.args.n c.args.textures.now))

pub record_bytes-sum-requires : goal.record_bytes-sum-requires
record_bytes-sum-requires c =
    let a = c.args in
    let s = a.textures.now in
    let r = c.record_at.ensures in
    let q = ap (λ (t : TextureRecord). t.spares) (texture_read s c.loop-i.i _ r.1) in
    let h = c.loop-i-test.true in (
      omega (arith, r.0),
      read_shape s c.loop-i.i _ r.1 a.n c.requires.1 h,
      omega (arith, q, spares_at_lem s a.n c.loop-i.i h, c.requires.2),
      read_bytes s c.loop-i.i _ r.1 a.n c.requires.1 h,
    )

pub overflow_add-sum : goal.overflow_add-sum
overflow_add-sum c =
    let a = c.args in
    let s = a.textures.now in
    let e = c.record_bytes-sum.ensures ∙ ap record_bytes (texture_read s c.loop-i.i _ c.record_at.ensures.1) in
    omega (arith, parked_room s a.n c.loop-i.i c.loop-i.sum _ c.loop-i-test.true c.loop-i.invariant e c.requires.1 c.requires.2)

pub loop-i-preserved : goal.loop-i-preserved
loop-i-preserved c =
    let a = c.args in
    let s = a.textures.now in
    let e = c.record_bytes-sum.ensures ∙ ap record_bytes (texture_read s c.loop-i.i _ c.record_at.ensures.1) in
    parked_more s a.n c.loop-i.i c.loop-i.sum _ c.loop-i-test.true c.loop-i.invariant e

pub returns : goal.returns
returns c =
    let a = c.args in
    omega (arith, c.loop-i.invariant, total_done (texture_in a.textures.now) a.n record_bytes c.loop-i.i (omega arith))
