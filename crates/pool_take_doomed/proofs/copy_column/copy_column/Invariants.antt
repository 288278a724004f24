-- `copy_column` meets its contract: one number of each record after the other. Assumes nothing.
use mathlib.Core.Path.{◌≡◌}
use lib.Seq.{sets}
use Rattle.pool_take_doomed.specs.Views.{column}
use Rattle.pool_take_doomed.proofs.copy_column.copy_column.Given as goal

abbrev pub invariant-loop-j : goal.invariant-loop-j
invariant-loop-j l = l.out ≡ sets l.initial.out l.at (column l.w l.k l.cap l.head l.s l.i l.j)
