-- `runs_fit` meets its contract. What is left of the claim goes down. Assumes nothing.
use native.Mathlib.Omega.{arith}
use mathlib.Core.Path.{sym, ap, ◌∙◌}
use lib.Dec.{eqb}
use Rattle.base_blocks.specs.Lists.{total}
use Rattle.base_tables.proofs.Records.{table_left}
use Rattle.pool_records.specs.declared.texture.TextureRecord.{TextureRecord}
use mathlib.Core.List.{List}
use Rattle.pool_records.specs.Texture.{read_texture, record_spares}
use Rattle.pool_formed_textures.proofs.RecordTests.{read_spares}
use Rattle.pool_formed_textures.proofs.Claims.{claim_more, claim_short, claim_done}
use Rattle.pool_records.specs.RecordConstants.{texture_stride}
use Rattle.pool_formed_textures.proofs.runs_fit.runs_fit.Goals as goal

pub loop-i-init : goal.loop-i-init
loop-i-init c =
    let a = c.args in
    ap (λ (ts : List TextureRecord). eqb a.kept (total record_spares ts)) (table_left texture_stride read_texture a.n a.textures.now)

pub returns-then-k-spares : goal.returns-then-k-spares
returns-then-k-spares c =
    let a = c.args in
    let s = a.textures.now in
    sym (claim_short s a.n c.loop-i.i c.loop-i.spares c.loop-i-test.true _ (read_spares s c.loop-i.i _ c.record_at-p.ensures.1) c.if-k-spares.true)
    ∙ c.loop-i.invariant

pub loop-i-preserved : goal.loop-i-preserved
loop-i-preserved c =
    let a = c.args in
    let s = a.textures.now in
    sym (claim_more s a.n c.loop-i.i c.loop-i.spares c.loop-i-test.true _ (read_spares s c.loop-i.i _ c.record_at-p.ensures.1) c.if-k-spares.false) ∙ c.loop-i.invariant

pub returns : goal.returns
returns c =
    let a = c.args in
    sym (claim_done a.textures.now a.n c.loop-i.i c.loop-i.spares (omega arith)) ∙ c.loop-i.invariant
