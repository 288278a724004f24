-- Rule: What can be said of a run of standard input's lines. No contract says which bytes a read brought or a write took, so the input is some list of bytes.
-- But every byte that came was fed; where the input ended, all its lines were run, and there were as many bytes of output as theirs has, which were given
-- to be written where output is shown; and a run stops before that only where output could not be written or a 64-bit number could not count on. However
-- it stops, it leaves a pool once one was opened, so that a caller may go on with it.
use Rattle.std.specs.Prelude.{ℕ, ◌+◌, ◌^◌, ◌≤◌, ◌<◌, ◌≡◌, Bool, true, cond, ◌||◌, List, eqb, leb, length, Option, Some, None}
use Rattle.event_stream.specs.declared.calls.reason.StopReason.{StopReason}
use Rattle.event_stream.specs.declared.calls.reason.StopReason.TheVariants.{Ended, Unwritten, TooLong}
use Rattle.event_sessions.specs.Sessions.{SessionState, HoldsPool}
use Rattle.event_runs.specs.Lines.{whole_lines, output}
use Rattle.event_runs.specs.Texts.{all_lines, after_lines, text_output}

-- ---- why a run stops, as a number, with 0 where it goes on

abbrev pub why_going : ℕ
why_going = 0

abbrev pub why_ended : ℕ
why_ended = 1

abbrev pub why_unwritten : ℕ
why_unwritten = 2

abbrev pub why_too_long : ℕ
why_too_long = 3

abbrev pub reason_number : StopReason → ℕ
reason_number Ended = why_ended
reason_number Unwritten = why_unwritten
reason_number TooLong = why_too_long

abbrev pub why_number : Option StopReason → ℕ
why_number None = why_going
why_number (Some why) = reason_number why

-- a turn that reads up to `size` bytes more and writes up to `room` bytes more could count past 2 ^ 64 - 1
unfoldable pub is_full : ℕ → ℕ → ℕ → ℕ → Bool
is_full read size written room = leb (2 ^ 64) (read + size) || leb (2 ^ 64) (written + room)

-- the reason after a turn for which `came` bytes were there, whose output was written or not
unfoldable pub reason_of : ℕ → Bool → Bool → ℕ
reason_of came written full = cond written (cond (eqb came 0) why_ended (cond full why_too_long why_going)) why_unwritten

-- ---- a run from state s to state t, with answer buffers of `copies` and `views` numbers, and buffers of `size` bytes for input and `room` for output

pub record RunOf (copies views size room : ℕ) (s t : SessionState) (why read lines written : ℕ) : Type 0 where
  pub stopped : (why_going < why) × (why ≤ why_too_long)
  -- once opened, the stores form a pool
  pub pool : HoldsPool t
  -- what was fed
  pub input : List ℕ
  pub fed_bytes : length input ≤ read
  pub ended : why ≡ why_ended
      → (length input ≡ read) × (t ≡ after_lines copies views s (all_lines input)) × (lines ≡ length (all_lines input))
      × (written ≡ length (text_output copies views s input))
  pub long : why ≡ why_too_long
      → (is_full read size written room ≡ true) × (t ≡ after_lines copies views s (whole_lines input)) × (lines ≡ length (whole_lines input))
      × (written ≡ length (output copies views 0 s (whole_lines input)))
