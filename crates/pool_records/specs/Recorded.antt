-- Rule: A texture's write history as one number: 0 is none, w + 1 is one with w writes.
use Rattle.std.specs.Prelude.{ℕ, zero, suc, ◌<◌, ◌^◌, Option, Some, None}

-- the write count, or none for a texture without a history
abbrev pub Recorded : Type 0
Recorded = Option ℕ

abbrev pub recorded_of : ℕ → Recorded
recorded_of zero = None
recorded_of (suc w) = Some w

abbrev pub recorded_number : Recorded → ℕ
recorded_number (Some w) = suc w
recorded_number None = zero

-- the number fits a word: a write count is below 2^64 - 1
abbrev pub RecordedFits : Recorded → Type 0
RecordedFits h = recorded_number h < 2 ^ 64
