-- Laws of the room that an answer needs. Assumes nothing.
use mathlib.Core.Path.{◌≡◌, sym}
use mathlib.Core.Bool.{true, false}
use mathlib.Core.List.{List}
use Prim.Native.Nat.{ℕ, ◌+◌, ◌-◌, ◌/◌, ◌≤◌, ◌<◌, min, max}
use native.Mathlib.Nat.{le-max_left, le-max_right}
use native.Mathlib.Omega.{arith}
use borrow.Author.Tests.{le-leb, lt-leb}
use lib.Dec.{leb}
use lib.ListN.{length}
use Rattle.event_answers.specs.declared.answer.Answer.{Answer}
use Rattle.event_answers.specs.declared.answer.Answer.TheVariants.{Question, Refused, Done, Spare, NoSpare, Version, NothingSettled, Views, Copies}
use Rattle.event_answers.specs.Answers.{reply_told, entries, InBuffers}
use Rattle.event_answers.specs.Printed.{printed, most_bytes}
use Rattle.event_answers.proofs.Most.{printed_most}
use Rattle.event_runs.specs.Lines.{longest_answer}
use Rattle.pool_memory.specs.MemoryConstants.{copy_stride}

-- an answer has no more entries than its buffers have room for
pub entries_most : (a : Answer) (copies views : List ℕ) → InBuffers a copies views → entries a ≤ max (length copies / copy_stride) (length views)
unfolding entries InBuffers
entries_most Question copies views h = omega arith
entries_most (Refused n) copies views h = omega arith
entries_most Done copies views h = omega arith
entries_most (Spare view held) copies views h = omega arith
entries_most NoSpare copies views h = omega arith
entries_most (Version id view) copies views h = omega arith
entries_most NothingSettled copies views h = omega arith
entries_most (Views n) copies views h = omega (arith, le-max_right (length copies / copy_stride) (length views))
entries_most (Copies n) copies views h = omega (arith, le-max_left (length copies / copy_stride) (length views))

-- ---- whether the buffer has it

-- `room` is the longest answer, or one byte more than the buffer has if the answer is longer: a test of either decides the same
module _ (longest room filled size : ℕ) (fits : filled ≤ size) (is-room : room ≡ min longest (size + 1)) where
  pub room_none : size - filled < room → leb (filled + longest) size ≡ false
  room_none h = lt-leb (filled + longest) size (omega arith)

  pub room_some : room ≤ size - filled → leb (filled + longest) size ≡ true
  room_some h = le-leb (filled + longest) size (omega arith)

-- the longest answer's room is enough for each
pub answer_fits : (a : Answer) (copies views : List ℕ) (m n filled size : ℕ) → InBuffers a copies views → length copies ≡ m → length views ≡ n
    → filled + longest_answer m n ≤ size → filled + most_bytes (entries a) ≤ size
answer_fits a copies views m n filled size h p q r =
    let e : entries a ≤ max (m / copy_stride) n = rw (sym p, sym q) (entries_most a copies views h) in omega arith

-- and its output ends inside the buffer
pub output_fits : (a : Answer) (copies views : List ℕ) (m n filled size number end : ℕ) → InBuffers a copies views → length copies ≡ m → length views ≡ n
    → filled + longest_answer m n ≤ size → end ≡ filled + length (printed number (reply_told a copies views)) → end ≤ size
output_fits a copies views m n filled size number end h p q r e =
    let k = answer_fits a copies views m n filled size h p q r in
    let o = printed_most a copies views number in
    omega arith
