-- Rows of stamps, one after the other. Assumes nothing.
use mathlib.Core.Path.{◌≡◌}
use Prim.Native.Nat.{◌-◌}
use lib.ListN.{length}
use Rattle.grid_stamps.specs.Scans.{rows_stamped}
use Rattle.grid_stamps.proofs.stamping.stamp_rows.Given as goal

abbrev pub invariant-loop-row : goal.invariant-loop-row
invariant-loop-row l =
    (length l.page ≡ length l.initial.page)
    × (rows_stamped l.columns l.left l.width l.n l.row (l.bottom - l.row) l.page ≡ rows_stamped l.columns l.left l.width l.n l.top (l.bottom - l.top) l.initial.page)
