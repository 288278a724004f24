-- A number printed and read is the number. Assumes nothing.
use mathlib.Core.Path.{◌≡◌}
use Rattle.std.proofs.Common.{Some}
use Prim.Native.Nat.{ℕ, ◌^◌, ◌<◌}
use native.Mathlib.Omega.{arith}
use borrow.Author.Tests.{lt-ltb, le-leb}
use lib.ListN.{length}
use Rattle.base_blocks.specs.Lists.{tests, after}
use Rattle.base_digits.specs.Digits.{value, decimal, digits, digits_of}
use Rattle.base_digits.proofs.Printing.{digits_length, digits_some, digits_are, digits_value}
use Rattle.event_text.specs.Numbers.{is_number, number_of}

pub digits_number : (n : ℕ) → n < 2 ^ 64 → number_of (digits_of n) ≡ Some n
unfolding number_of is_number decimal digits_of tests after
digits_number n h =
    let v : value 0 (digits 20 n) ≡ n = digits_value 20 n (omega arith) in
    rw (digits_are 20 n, le-leb 1 (length (digits 20 n)) (digits_some 19 n), le-leb (length (digits 20 n)) 20 (digits_length 20 n), v, lt-ltb n (2 ^ 64) h)
