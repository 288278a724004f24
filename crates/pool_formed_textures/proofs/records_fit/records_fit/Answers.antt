-- `records_fit` meets its contract. Assumes nothing.
use native.Mathlib.Omega.{arith}
use mathlib.Core.Path.{sym, ap, ◌∙◌}
use borrow.Author.Tests.{not-true, not-false}
use Rattle.base_blocks.specs.Lists.{all}
use Rattle.base_blocks.proofs.Listed.{all_more, all_stop, all_done}
use Rattle.base_tables.proofs.Records.{table_left}
use Rattle.pool_records.specs.Texture.{read_texture, texture_in}
use Rattle.pool_formed_textures.specs.Textures.{is_record}
use Rattle.pool_formed_textures.proofs.RecordTests.{texture_read}
use Rattle.pool_records.specs.RecordConstants.{texture_stride}
use Rattle.pool_formed_textures.proofs.records_fit.records_fit.Goals as goal

pub loop-i-init : goal.loop-i-init
loop-i-init c = ap (all is_record) (table_left texture_stride read_texture _ _)

pub returns-then-not-is_record : goal.returns-then-not-is_record
returns-then-not-is_record c =
    let a = c.args in
    let s = a.textures.now in
    let e = sym (ap is_record (texture_read s c.loop-i.i _ c.record_at.ensures.1)) ∙ sym c.is_record.ensures ∙ not-true _ c.if-not-is_record.true-raw in
    sym (all_stop (texture_in s) a.n is_record c.loop-i.i c.loop-i-test.true e) ∙ c.loop-i.invariant

pub loop-i-preserved : goal.loop-i-preserved
loop-i-preserved c =
    let a = c.args in
    let s = a.textures.now in
    let e = sym (ap is_record (texture_read s c.loop-i.i _ c.record_at.ensures.1)) ∙ sym c.is_record.ensures ∙ not-false _ c.if-not-is_record.false-raw in
    sym (all_more (texture_in s) a.n is_record c.loop-i.i c.loop-i-test.true e) ∙ c.loop-i.invariant

pub returns : goal.returns
returns c =
    let a = c.args in
    sym (all_done (texture_in a.textures.now) a.n is_record c.loop-i.i (omega arith)) ∙ c.loop-i.invariant
