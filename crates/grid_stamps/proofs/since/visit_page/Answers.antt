-- Every row of a page. Assumes nothing.
use mathlib.Core.Path.{◌≡◌, sym, ap, ◌∙◌}
use Prim.Native.Nat.{◌+◌, ◌-◌, ◌*◌, ◌≤◌}
use native.Mathlib.Nat.{mul_comm}
use native.Mathlib.Omega.{arith}
use lib.ListN.{length, take, drop, length-drop}
use lib.Seq.{length-take-le}
use Rattle.grid_stamps.specs.Scans.{nothing_seen, all_joined, dirty_row}
use Rattle.grid_stamps.proofs.Rows.{row_within}
use Rattle.grid_stamps.proofs.Seen.{line_at, rows_all, rows_step, rows_done}
use Rattle.grid_stamps.proofs.since.visit_page.Goals as goal
use Rattle.grid_stamps.proofs.since.visit_page.Goals.{In-loop-row}

-- the row ends within the page
run : (c : In-loop-row) → c.loop-row.row * c.args.columns + c.args.columns ≤ length c.args.page.now
run c =
    let a = c.args in
    omega (arith, row_within a.columns 0 a.columns c.loop-row.row a.rows (omega arith) c.loop-row-test.true, mul_comm a.columns a.rows, c.requires.0)

pub loop-row-init : goal.loop-row-init
loop-row-init c =
    let a = c.args in
    ap (all_joined nothing_seen) (rows_all a.columns a.rows a.held a.page.now)

pub loop-row-preserved : goal.loop-row-preserved
loop-row-preserved c =
    let a = c.args in
    let row = c.loop-row.row in
    let line = line_at a.columns a.page.now row in
    let n : row * a.columns + a.columns - row * a.columns ≡ a.columns = omega arith in
    let m : length line ≡ a.columns = length-take-le a.columns (drop (row * a.columns) a.page.now) (rw length-drop (omega (arith, run (goal.at.loop-row-preserved c).In-loop-row))) in
    let e : c.visit_row-seen.result ≡ all_joined c.loop-row.seen (dirty_row a.columns row a.held line) =
    c.visit_row-seen.ensures
    ∙ ap (λ k. all_joined c.loop-row.seen (dirty_row (length (take k (drop (row * a.columns) a.page.now))) row a.held (take k (drop (row * a.columns) a.page.now)))) n
    ∙ ap (λ k. all_joined c.loop-row.seen (dirty_row k row a.held line)) m in
    rw e (sym (rows_step a.columns a.rows a.held a.page.now c.loop-row.seen row c.loop-row-test.true) ∙ c.loop-row.invariant)

pub returns : goal.returns
returns c =
    let a = c.args in
    sym (rows_done a.columns a.rows a.held a.page.now c.loop-row.seen c.loop-row.row c.loop-row-test.false) ∙ c.loop-row.invariant
