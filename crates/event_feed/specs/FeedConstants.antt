-- Rule: The numbers that have a name, each with its reason.
use Rattle.std.specs.Prelude.{ℕ}

-- The bytes that are kept of a line that is not whole yet. No event has as many: the longest is a word of 6 bytes and 9 fields of 20,
-- with a comma before each. So a longer line is none, with its rest or without it (law `cut_unread` of
-- crates/event_runs/proofs/LongLines.antt).
abbrev pub kept_bytes : ℕ
kept_bytes = 196
