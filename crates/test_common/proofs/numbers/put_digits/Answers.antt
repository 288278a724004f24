-- A number below 2^64 has at most twenty digits. Assumes nothing.
use native.Mathlib.Omega.{arith}
use Rattle.base_digits.proofs.Printing.{digits_room}
use Rattle.test_common.proofs.numbers.put_digits.Goals as goal

pub returns : goal.returns
returns c = omega (arith, c.put_number.ensures.0, digits_room c.args.value)
