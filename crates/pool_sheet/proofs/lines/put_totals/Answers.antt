-- `put_totals` meets its contract: blanks, two columns, blanks. Assumes nothing.
use mathlib.Core.Path.{refl}
use mathlib.Core.List.{[], ◌∷◌, ◌++◌}
use native.Mathlib.Omega.{arith}
use lib.ListN.{replicate}
use Rattle.base_digits.specs.Characters.{blank, line_feed}
use Rattle.base_digits.proofs.Puts.{put_as, put_then, text_put}
use Rattle.pool_sheet.proofs.Widths.{four_wide, nineteen_wide, totals_made}
use Rattle.pool_sheet.proofs.lines.put_totals.Goals as goal

pub put_column-parked_at-requires : goal.put_column-parked_at-requires
put_column-parked_at-requires c =
    (four_wide c.args.spares c.requires.0, omega (arith, c.requires.2, c.put_blanks.auto.out))

pub put_column-end-requires : goal.put_column-end-requires
put_column-end-requires c =
    let p = c.put_column-parked_at in
    (nineteen_wide c.args.parked c.requires.1, omega (arith, c.requires.2, p.ensures.0, p.auto.out, c.put_blanks.auto.out))

pub returns : goal.returns
returns c =
    let a = c.args in
    (put_as (totals_made a.spares a.parked c.requires.0 c.requires.1)
    (put_then {xs = replicate 26 blank} (record { ends = refl; makes = c.put_blanks.ensures })
    (put_then c.put_column-parked_at.ensures.1 (put_then c.put_column-end.ensures.1 (text_put _ _ (replicate 21 blank ++ (line_feed ∷ [])) c.put_text.ensures))))).makes
