-- `put_views` meets its contract: the rows of those before i are put. Assumes nothing.
use mathlib.Core.Path.{◌≡◌}
use Prim.Native.Nat.{ℕ, ◌+◌, ◌*◌, ◌≤◌}
use lib.ListN.{length, get_or}
use Rattle.event_answers.specs.Printed.{view_row}
use Rattle.base_digits.proofs.Puts.{PutTo}
use Rattle.event_answers.proofs.entry.put_views.Given as goal

abbrev pub invariant-loop-view : goal.invariant-loop-view
invariant-loop-view l = (l.end ≤ l.at + 147 * l.view-index) × (length l.out ≡ length l.initial.out) × PutTo (view_row l.number) (λ (k : ℕ). get_or l.views k 0) l.n l.initial.out l.at l.view-index l.out l.end
