-- Rule: Numbers of a line: 1 to 20 digits, below 2^64. Leading zeros are digits.
use Rattle.std.specs.Prelude.{◌≡◌, ℕ, ◌+◌, ◌-◌, ◌^◌, ◌≤◌, ◌<◌, Bool, cond, Option, Some, None, List, [], ◌∷◌, leb, ltb, length, drop}
use Rattle.base_blocks.specs.Lists.{all, tests}
use Rattle.base_digits.specs.Digits.{is_digit, value, decimal}
use Rattle.event_text.specs.declared.number.NumberEnd.{NumberEnd}
use Rattle.event_text.specs.Fields.{first_field, field_end}

unfoldable pub is_number : List ℕ → Bool
is_number s = tests (all is_digit s ∷ leb 1 (length s) ∷ leb (length s) 20 ∷ ltb (decimal s) (2 ^ 64) ∷ [])

unfoldable pub number_of : List ℕ → Option ℕ
number_of s = cond (is_number s) (Some (decimal s)) None

-- a number, and where it ends
abbrev pub number_ends : ℕ → ℕ → Option NumberEnd
number_ends v e = Some (record { value = v; end = e })

-- the number that the field from `at` on is, and where the field ends
unfoldable pub number_at : List ℕ → ℕ → Option NumberEnd
number_at line at = cond (is_number (first_field (drop at line))) (number_ends (decimal (first_field (drop at line))) (field_end line at)) None

-- the digits that a text starts with
unfoldable pub leading_digits : List ℕ → List ℕ
leading_digits [] = []
leading_digits (b ∷ bs) = cond (is_digit b) (b ∷ leading_digits bs) []

-- the number that the digits from `at` on are, and where they end
unfoldable pub digits_at : List ℕ → ℕ → Option NumberEnd
digits_at text at =
    let f = leading_digits (drop at text) in
    cond (is_number f) (number_ends (decimal f) (at + length f)) None

-- the number that digits are in the end, if those from `at` to i are v and those from i on are f
abbrev pub read_tests : ℕ → ℕ → List ℕ → List Bool
read_tests v n f = all is_digit f ∷ leb 1 (n + length f) ∷ leb (n + length f) 20 ∷ ltb (value v f) (2 ^ 64) ∷ []

unfoldable pub read_on : ℕ → ℕ → ℕ → List ℕ → Option NumberEnd
read_on v at i f = cond (tests (read_tests v (i - at) f)) (number_ends (value v f) (i + length f)) None

-- the digits from `at` to `end` are v: what is read from `end` on, as digits after them, is what is read from `at` on
unfoldable pub StartsDigits : List ℕ → ℕ → ℕ → ℕ → Type 0
StartsDigits text at v end =
    (at ≤ end) × (end ≤ length text) × (end ≤ at + 19) × (v < 10 ^ (end - at))
    × (read_on v at end (leading_digits (drop end text)) ≡ digits_at text at)
