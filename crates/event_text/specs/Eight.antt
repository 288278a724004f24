-- Helper: The digits that eight bytes start with, and the numbers by which the code tells them all at once.
use Rattle.std.specs.Prelude.{ℕ, ◌+◌, ◌*◌, ◌/◌, ◌^◌, List, length, take, drop}
use Rattle.std.specs.Int.Bits.{bit_and, bit_or}
use Rattle.event_text.specs.declared.eight.EightDigits.{EightDigits}
use Rattle.base_digits.specs.Digits.{decimal}
use Rattle.event_text.specs.Numbers.{leading_digits}

-- how many digits the eight bytes from `at` on start with, and the number that these are
unfoldable pub eight_digits : List ℕ → ℕ → EightDigits
eight_digits text at =
    let f = leading_digits (take 8 (drop at text)) in
    record { count = length f; value = decimal f }

-- in each byte, 128 where it is above 9
unfoldable pub marks_of : ℕ → ℕ
marks_of w = bit_and (bit_or (bit_and w 9187201950435737471 + 8536140394893047414) w) 9259542123273814144

-- every second byte: ten times itself, and the byte after it; of these, every second: a hundred times itself, and the one after it; and once more
unfoldable pub twos_of : ℕ → ℕ
twos_of w = bit_and (w * 10 + w / 2 ^ 8) 71777214294589695

unfoldable pub fours_of : ℕ → ℕ
fours_of w = bit_and (w * 100 + w / 2 ^ 16) 281470681808895

unfoldable pub value_of : ℕ → ℕ
value_of w = bit_and (fours_of (twos_of w) * 10000 + fours_of (twos_of w) / 2 ^ 32) 4294967295
