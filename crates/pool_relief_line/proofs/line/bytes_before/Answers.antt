-- `bytes_before` meets its contract: one texture's spares after the other's. Assumes nothing.
use mathlib.Core.Path.{ap}
use Prim.Native.Nat.{◌<◌, ◌+◌, ◌*◌}
use native.Mathlib.Omega.{arith}
use lib.ListN.{get_or}
use Rattle.base_blocks.specs.Lists.{total}
use Rattle.base_tables.proofs.Records.{table_left}
use Rattle.grid_shapes.specs.Shapes.{bytes_of}
use Rattle.pool_records.specs.Texture.{read_texture, texture_in, record_spares, record_bytes}
use Rattle.pool_relief_line.specs.Parked.{bytes_from}
use Rattle.pool_relief_line.proofs.Parked.{spares_rest, bytes_rest, before_rest, before_done, counted_bytes}
use Rattle.pool_records.specs.RecordConstants.{texture_spares_at, texture_stride}
use Rattle.pool_relief_line.proofs.line.bytes_before.Goals as goal

pub loop-i-init : goal.loop-i-init
loop-i-init c =
    let a = c.args in
    let f = c.requires in
    let all = table_left texture_stride read_texture a.n a.textures.now in (
      omega (arith, ap (total record_spares) all),
      omega (arith, ap (total record_bytes) all, f.bytes),
      omega (arith, ap (bytes_from a.spares.now a.line 0) all),
    )

pub run_bytes-sum-requires : goal.run_bytes-sum-requires
run_bytes-sum-requires c =
    let a = c.args in
    let f = c.requires in
    let h : c.loop-i.i < a.n = omega arith in (
      omega (arith, h, f.fits),
      f.recorded c.loop-i.i h,
      omega (arith, c.loop-i.invariant.0, spares_rest a.textures.now a.spares.now a.n c.loop-i.i h, f.runs),
      omega (arith, c.loop-i.invariant.1, bytes_rest a.textures.now a.spares.now a.n c.loop-i.i h),
    )

pub overflow_add-sum : goal.overflow_add-sum
overflow_add-sum c =
    let a = c.args in
    let h : c.loop-i.i < a.n = omega arith in
    omega (
      arith,
      c.loop-i.invariant.1,
      c.run_bytes-sum.ensures,
      bytes_rest a.textures.now a.spares.now a.n c.loop-i.i h,
      counted_bytes (bytes_of (texture_in a.textures.now c.loop-i.i).shape) a.line a.spares.now c.loop-i.from
          (get_or a.textures.now (texture_stride * c.loop-i.i + texture_spares_at) 0),
    )

pub overflow_add-from : goal.overflow_add-from
overflow_add-from c =
    let a = c.args in
    let f = c.requires in
    omega (
      arith,
      c.loop-i.invariant.0,
      spares_rest a.textures.now a.spares.now a.n c.loop-i.i (omega arith),
      f.runs,
      c.well_formed,
    )

pub loop-i-preserved : goal.loop-i-preserved
loop-i-preserved c =
    let a = c.args in
    let h : c.loop-i.i < a.n = omega arith in
    let kept = get_or a.textures.now (texture_stride * c.loop-i.i + texture_spares_at) 0 in (
      omega (arith, c.loop-i.invariant.0, spares_rest a.textures.now a.spares.now a.n c.loop-i.i h),
      omega (
        arith,
        c.loop-i.invariant.1,
        c.run_bytes-sum.ensures,
        bytes_rest a.textures.now a.spares.now a.n c.loop-i.i h,
        counted_bytes (bytes_of (texture_in a.textures.now c.loop-i.i).shape) a.line a.spares.now c.loop-i.from kept,
      ),
      omega (arith, c.loop-i.invariant.2, c.run_bytes-sum.ensures, before_rest a.textures.now a.spares.now a.n c.loop-i.i h a.line c.loop-i.from),
    )

pub returns : goal.returns
returns c =
    let a = c.args in (
      omega (arith, c.loop-i.invariant.1),
      omega (arith, c.loop-i.invariant.2, before_done a.textures.now a.spares.now a.n c.loop-i.i a.line c.loop-i.from (omega arith)),
    )
