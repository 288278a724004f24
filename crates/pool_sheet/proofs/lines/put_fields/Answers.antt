-- `put_fields` meets its contract: its columns one after the other. Assumes nothing.
use native.Mathlib.Omega.{arith}
use Rattle.base_digits.proofs.Printing.{digits_room}
use Rattle.base_digits.proofs.Puts.{put_as, put_then, text_put}
use Rattle.pool_sheet.proofs.Widths.{kind_wide, levels_wide, spares_wide, parked_wide, last_wide, fields_columns}
use Rattle.pool_sheet.proofs.lines.put_fields.Goals as goal

pub put_column-kind_at-requires : goal.put_column-kind_at-requires
put_column-kind_at-requires c =
    let a = c.args in
    (digits_room a.fields.id, omega (arith, c.requires.1))

pub put_column-levels_at-requires : goal.put_column-levels_at-requires
put_column-levels_at-requires c =
    let a = c.args in
    (kind_wide a.fields c.requires.0, omega (arith, c.requires.1, c.put_column-kind_at.ensures.0, c.put_column-kind_at.auto.out))

pub put_column-spares_at-requires : goal.put_column-spares_at-requires
put_column-spares_at-requires c =
    let a = c.args in
    (levels_wide a.fields c.requires.0, omega (arith, c.requires.1, c.put_column-kind_at.ensures.0, c.put_column-kind_at.auto.out, c.put_column-levels_at.ensures.0, c.put_column-levels_at.auto.out))

pub put_column-parked_at-requires : goal.put_column-parked_at-requires
put_column-parked_at-requires c =
    let a = c.args in
    (spares_wide a.fields c.requires.0, omega (arith, c.requires.1, c.put_column-kind_at.ensures.0, c.put_column-kind_at.auto.out, c.put_column-levels_at.ensures.0, c.put_column-levels_at.auto.out, c.put_column-spares_at.ensures.0, c.put_column-spares_at.auto.out))

pub put_column-last_at-requires : goal.put_column-last_at-requires
put_column-last_at-requires c =
    let a = c.args in
    (parked_wide a.fields c.requires.0, omega (arith, c.requires.1, c.put_column-kind_at.ensures.0, c.put_column-kind_at.auto.out, c.put_column-levels_at.ensures.0, c.put_column-levels_at.auto.out, c.put_column-spares_at.ensures.0, c.put_column-spares_at.auto.out, c.put_column-parked_at.ensures.0, c.put_column-parked_at.auto.out))

pub put_column-end-requires : goal.put_column-end-requires
put_column-end-requires c =
    let a = c.args in
    (last_wide a.fields c.requires.0, omega (arith, c.requires.1, c.put_column-kind_at.ensures.0, c.put_column-kind_at.auto.out, c.put_column-levels_at.ensures.0, c.put_column-levels_at.auto.out, c.put_column-spares_at.ensures.0, c.put_column-spares_at.auto.out, c.put_column-parked_at.ensures.0, c.put_column-parked_at.auto.out, c.put_column-last_at.ensures.0, c.put_column-last_at.auto.out))

pub returns : goal.returns
returns c =
    let f = c.args.fields in
    let text = c.put_text in
    (put_as (fields_columns f c.requires.0) (put_then c.put_column-kind_at.ensures.1 (put_then c.put_column-levels_at.ensures.1 (put_then c.put_column-spares_at.ensures.1 (put_then c.put_column-parked_at.ensures.1 (put_then c.put_column-last_at.ensures.1 (put_then c.put_column-end.ensures.1 (text_put _ _ _ text.ensures)))))))).makes
