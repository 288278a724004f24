-- One row more. Assumes nothing.
use mathlib.Core.Path.{sym, ap, ◌∙◌}
use lib.ListN.{length}
use Rattle.grid_stamps.specs.Scans.{all_joined}
use Rattle.grid_stamps.proofs.Seen.{row_all, row_step, row_done, clean_row}
use Rattle.grid_stamps.proofs.since.visit_row.Goals as goal

pub returns-then-within : goal.returns-then-within
unfolding all_joined
returns-then-within c =
    let a = c.args in
    sym (ap (all_joined a.seen) (clean_row a.row a.held a.line.now (sym c.within.ensures ∙ c.if-within.true)))

pub loop-column-init : goal.loop-column-init
loop-column-init c =
    let a = c.args in
    ap (all_joined a.seen) (row_all (length a.line.now) a.row a.held a.line.now)

pub loop-column-preserved : goal.loop-column-preserved
loop-column-preserved c =
    let a = c.args in
    rw c.visit-all.ensures (sym (row_step (length a.line.now) a.row a.held a.line.now c.loop-column.all c.loop-column.column c.loop-column-test.true) ∙ c.loop-column.invariant)

pub returns : goal.returns
returns c =
    let a = c.args in
    sym (row_done (length a.line.now) a.row a.held a.line.now c.loop-column.all c.loop-column.column c.loop-column-test.false) ∙ c.loop-column.invariant
