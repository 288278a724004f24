-- One row more. Assumes nothing.
use mathlib.Core.Path.{◌≡◌}
use lib.ListN.{length}
use Rattle.grid_stamps.specs.Scans.{all_joined, dirty_row}
use Rattle.grid_stamps.proofs.Seen.{row_left}
use Rattle.grid_stamps.proofs.since.visit_row.Given as goal

abbrev pub invariant-loop-column : goal.invariant-loop-column
invariant-loop-column l =
    all_joined l.all (row_left (length l.line) l.row l.held l.line l.column) ≡ all_joined l.initial.all (dirty_row (length l.line) l.row l.held l.line)
