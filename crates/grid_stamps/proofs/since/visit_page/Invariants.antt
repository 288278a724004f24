-- Every row of a page. Assumes nothing.
use mathlib.Core.Path.{◌≡◌}
use Rattle.grid_stamps.specs.Grids.{dirty_tiles}
use Rattle.grid_stamps.specs.Scans.{nothing_seen, all_joined}
use Rattle.grid_stamps.proofs.Seen.{rows_left}
use Rattle.grid_stamps.proofs.since.visit_page.Given as goal

abbrev pub invariant-loop-row : goal.invariant-loop-row
invariant-loop-row l =
    all_joined l.seen (rows_left l.columns l.rows l.held l.page l.row) ≡ all_joined nothing_seen (dirty_tiles l.columns l.rows l.held l.page)
