-- `eight_value` meets its contract. Assumes nothing.
use borrow.Author.Rules.{rules}
use Prim.Native.Nat.{◌+◌, ◌*◌, ◌/◌, ◌^◌}
use native.Mathlib.Omega.{arith}
use lib.Bits.{and_le_r}
use Rattle.event_text.specs.Eight.{twos_of, fours_of, value_of}
use Rattle.event_text.proofs.eight.eight_value.Goals as goal

pub overflow_mul-fours : goal.overflow_mul-fours
overflow_mul-fours c = omega (arith, and_le_r (c.args.word * 10 + c.args.word / 2 ^ 8) 71777214294589695)

pub overflow_add-fours : goal.overflow_add-fours
overflow_add-fours c = omega (arith, and_le_r (c.args.word * 10 + c.args.word / 2 ^ 8) 71777214294589695)

pub overflow_mul-result : goal.overflow_mul-result
unfolding twos_of
overflow_mul-result c = omega (arith, and_le_r (twos_of c.args.word * 100 + twos_of c.args.word / 2 ^ 16) 281470681808895)

pub overflow_add-result : goal.overflow_add-result
unfolding twos_of
overflow_add-result c = omega (arith, and_le_r (twos_of c.args.word * 100 + twos_of c.args.word / 2 ^ 16) 281470681808895)

pub returns : goal.returns
unfolding twos_of fours_of value_of
returns c = search rules
