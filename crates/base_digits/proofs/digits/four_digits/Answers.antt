-- `four_digits` meets its contract. Assumes nothing.
use native.Mathlib.Omega.{arith}
use Rattle.base_digits.proofs.FourDigits.{tens_of, four_are}
use Rattle.base_digits.proofs.digits.four_digits.Goals as goal

pub overflow_mul-result : goal.overflow_mul-result
overflow_mul-result c = omega (arith, tens_of c.args.n c.requires)

pub overflow_sub-result : goal.overflow_sub-result
overflow_sub-result c = omega (arith, tens_of c.args.n c.requires)

pub overflow_mul-result-2 : goal.overflow_mul-result-2
overflow_mul-result-2 c = omega (arith, tens_of c.args.n c.requires)

pub overflow_add-result : goal.overflow_add-result
overflow_add-result c = omega (arith, tens_of c.args.n c.requires)

pub overflow_add-result-2 : goal.overflow_add-result-2
overflow_add-result-2 c = omega (arith, tens_of c.args.n c.requires)

pub returns : goal.returns
returns c = four_are c.args.n _ c.requires (tens_of c.args.n c.requires)
