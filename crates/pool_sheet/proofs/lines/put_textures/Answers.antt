-- `put_textures` meets its contract: the lines of those before i are put. Assumes nothing.
use borrow.Author.Rules.{rules}
use mathlib.Core.Path.{sym, ap, ◌∙◌, subst}
use mathlib.Core.List.{flat_map}
use Prim.Native.Nat.{◌+◌, ◌*◌, ◌<◌}
use native.Mathlib.Omega.{arith}
use lib.Seq.{sets}
use Rattle.base_tables.proofs.Records.{table_left}
use Rattle.base_digits.proofs.Puts.{put_next, put_all, put_as}
use Rattle.pool_records.specs.declared.texture.TextureRecord.{TextureRecord}
use Rattle.pool_records.specs.RecordConstants.{texture_stride}
use Rattle.pool_records.specs.Texture.{read_texture, texture_in}
use Rattle.pool_sheet.specs.declared.fields.SheetFields.{SheetFields}
use Rattle.pool_sheet.specs.Sheet.{texture_texts, line}
use Rattle.pool_sheet.specs.Records.{line_bytes, record_fields, record_line, FieldsFit}
use Rattle.pool_sheet.proofs.Widths.{fields_length, texture_from}
use Rattle.pool_sheet.proofs.lines.put_textures.Goals as goal

pub read_fields-fields-requires : goal.read_fields-fields-requires
read_fields-fields-requires c =
    let i = c.loop-i.i in
    (search rules, subst (λ (t : TextureRecord). FieldsFit (record_fields t)) (sym (texture_from c.args.textures.now i)) (c.requires.1 i (omega arith)))

pub put_fields-requires : goal.put_fields-requires
put_fields-requires c =
    let l = c.loop-i in
    let t : c.loop-i.i < c.args.n = omega arith in
    let e = c.read_fields-fields.ensures ∙ ap record_fields (texture_from c.args.textures.now l.i) in
    (subst FieldsFit (sym e) (c.requires.1 l.i t), omega (arith, c.requires.2, l.invariant.0, t))

pub loop-i-preserved : goal.loop-i-preserved
unfolding record_line
loop-i-preserved c =
    let l = c.loop-i in
    let a = c.args in
    let t : c.loop-i.i < c.args.n = omega arith in
    let f = record_fields (texture_in a.textures.now l.i) in
    let e = c.read_fields-fields.ensures ∙ ap record_fields (texture_from a.textures.now l.i) in
    let long = fields_length f (c.requires.1 l.i t) in (
      search rules,
      put_next record_line (texture_in a.textures.now) a.n t l.invariant.1
          (record { ends = omega (arith, long); makes = c.put_fields.ensures ∙ ap (λ (g : SheetFields). sets l.out (a.at + line_bytes * l.i) (line (texture_texts g))) e }),
    )

pub returns : goal.returns
returns c =
    let l = c.loop-i in
    let a = c.args in
    (put_as (ap (flat_map record_line) (table_left texture_stride read_texture a.n a.textures.now))
    (put_all record_line (texture_in a.textures.now) a.n (omega arith) l.invariant.1)).makes
