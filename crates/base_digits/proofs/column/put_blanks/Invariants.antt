-- `put_blanks` meets its contract: a copy of a run of one byte. Assumes nothing.
use Rattle.std.proofs.Common.{◌≡◌, length, replicate}
use Rattle.base_digits.specs.Characters.{blank}
use lib.Seq.{paste}
use Rattle.base_digits.proofs.column.put_blanks.Given as goal

abbrev pub invariant-loop-i : goal.invariant-loop-i
invariant-loop-i l = (length l.out ≡ length l.initial.out) × (l.out ≡ paste l.initial.out l.at (replicate l.i blank) l.i)
