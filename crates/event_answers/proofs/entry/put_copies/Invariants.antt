-- `put_copies` meets its contract: the rows of those before i are put. Assumes nothing.
use mathlib.Core.Path.{◌≡◌}
use Prim.Native.Nat.{◌+◌, ◌*◌, ◌≤◌}
use lib.ListN.{length}
use Rattle.base_tables.specs.Records.{record_at}
use Rattle.pool_books.specs.LentLists.{read_copy}
use Rattle.event_answers.specs.Printed.{copy_row}
use Rattle.base_digits.proofs.Puts.{PutTo}
use Rattle.pool_memory.specs.MemoryConstants.{copy_stride}
use Rattle.event_answers.proofs.entry.put_copies.Given as goal

abbrev pub invariant-loop-i : goal.invariant-loop-i
invariant-loop-i l = (l.i ≤ l.n) × (l.end ≤ l.at + 147 * l.i) × (length l.out ≡ length l.initial.out) × PutTo (copy_row l.number) (record_at copy_stride read_copy l.copies) l.n l.initial.out l.at l.i l.out l.end
