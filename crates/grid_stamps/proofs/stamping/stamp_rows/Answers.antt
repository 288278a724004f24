-- Rows of stamps, one after the other. Assumes nothing.
use mathlib.Core.Path.{sym, ap, ◌∙◌}
use Prim.Native.Nat.{◌+◌, ◌-◌, ◌*◌, ◌≤◌}
use Rattle.grid_stamps.specs.Scans.{rows_stamped}
use Rattle.grid_stamps.proofs.Rows.{row_within, rows_next, rows_done}
use Rattle.grid_stamps.proofs.stamping.stamp_rows.Goals as goal
use Rattle.grid_stamps.proofs.stamping.stamp_rows.Goals.{In-loop-row}

-- the row's run ends within the page
run : (c : In-loop-row)
    → c.loop-row.row * c.args.columns + c.args.left + c.args.width
    ≤ c.args.bottom * c.args.columns
run c =
    row_within c.args.columns c.args.left c.args.width c.loop-row.row c.args.bottom c.requires.0 c.loop-row-test.true

pub loop-row-preserved : goal.loop-row-preserved
loop-row-preserved c =
    let a = c.args in (
      c.fill.auto.s ∙ c.loop-row.invariant.0,
      ap (rows_stamped a.columns a.left a.width a.n (c.loop-row.row + 1) (a.bottom - (c.loop-row.row + 1))) c.fill.ensures
          ∙ sym (rows_next a.columns a.left a.width a.n a.bottom c.loop-row.page c.loop-row.row c.loop-row-test.true)
          ∙ c.loop-row.invariant.1,
    )

pub returns : goal.returns
returns c =
    let a = c.args in
    sym (rows_done a.columns a.left a.width a.n a.bottom c.loop-row.page c.loop-row.row c.loop-row-test.false) ∙ c.loop-row.invariant.1
