-- `ids_ascend` meets its contract. Assumes nothing.
use mathlib.Core.Path.{sym, ap, ◌∙◌}
use Prim.Native.Nat.{◌-◌}
use native.Mathlib.Omega.{arith}
use Rattle.base_blocks.specs.Lists.{ascending}
use Rattle.base_blocks.proofs.Listed.{ascending_done}
use Rattle.base_tables.proofs.Records.{table_left}
use Rattle.pool_records.specs.Texture.{read_texture, texture_in}
use Rattle.pool_records.specs.Find.{id_of}
use Rattle.pool_formed_textures.proofs.RecordTests.{ids_more, ids_stop}
use Rattle.pool_records.specs.RecordConstants.{texture_stride}
use Rattle.pool_formed_textures.proofs.records_fit.ids_ascend.Goals as goal

pub loop-i-init : goal.loop-i-init
loop-i-init c = ap (ascending id_of) (table_left texture_stride read_texture _ _)

pub returns-then-textures-i : goal.returns-then-textures-i
returns-then-textures-i c =
    let a = c.args in
    sym (ids_stop a.textures.now a.n c.loop-i.i (omega arith) c.loop-i-test.true (omega (arith, c.if-textures-i.true))) ∙ c.loop-i.invariant

pub loop-i-preserved : goal.loop-i-preserved
loop-i-preserved c =
    let a = c.args in
    sym (ids_more a.textures.now a.n c.loop-i.i (omega arith) c.loop-i-test.true c.if-textures-i.false) ∙ c.loop-i.invariant

pub returns : goal.returns
returns c =
    let a = c.args in
    sym (ascending_done (texture_in a.textures.now) a.n id_of (c.loop-i.i - 1) (omega arith)) ∙ c.loop-i.invariant
