-- `marks` meets its contract. Assumes nothing.
use borrow.Author.Rules.{rules}
use native.Mathlib.Omega.{arith}
use lib.Bits.{and_le_r}
use Rattle.event_text.specs.Eight.{marks_of}
use Rattle.event_text.proofs.eight.marks.Goals as goal

pub overflow_add-result : goal.overflow_add-result
overflow_add-result c = omega (arith, and_le_r c.args.word 9187201950435737471)

pub returns : goal.returns
unfolding marks_of
returns c = search rules
