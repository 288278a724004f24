-- Helper: What a call of the pool says as the answer of a line, and what it leaves.
use Rattle.std.specs.Prelude.{ℕ, ◌≡◌, List, length, replicate}
use Rattle.std.proofs.Math.Option.{Option, none, some}
use Rattle.pool_memory.specs.Lent.{Lent}
use Rattle.pool_memory.specs.declared.answer.TakenVersion.{TakenVersion}
use Rattle.pool_memory.specs.declared.answer.PoppedVersion.{PoppedVersion}
use Rattle.pool_memory.specs.Calls.{Told, refused_with, answer}
use Rattle.pool_books.specs.Demand3.{Reply}
use Rattle.pool_books.specs.LentLists.{LentCall, lent_call}
use Rattle.event_answers.specs.Answers.{reply_told, InBuffers}
use Rattle.event_answers.specs.declared.answer.Answer.{Answer}
use Rattle.event_answers.specs.declared.answer.Answer.TheVariants.{Refused, Done, Spare, NoSpare, Version, NothingSettled, Views, Copies}
use Rattle.pool_books.specs.Lists.{between, doomed_call, drain_call, forget_call, note_call, park_call, plan_call, pop_call, regen_call, retire_call, take_call, trim_call, write_call}

-- the answer and the buffers say this reply
abbrev pub Says : Answer → List ℕ → List ℕ → Reply → Type 0
Says a copies views r = InBuffers a copies views × (reply_told a copies views ≡ some r)

-- the answer says it, whatever the buffers hold
abbrev pub SaysAlone : Answer → Reply → Type 0
SaysAlone a r = (copies views : List ℕ) → Says a copies views r

-- ---- a call made on lent stores: what the answer says, and the stores at exit

unfoldable pub Made : Lent → LentCall → Answer → Lent → Type 0
Made l c a exit = SaysAlone a (lent_call l c).0 × (exit ≡ (lent_call l c).1)

-- Of the calls that fill a buffer, the buffer at exit is part of the answer. What a buffer held before does not show in the reply or in the stores
-- (law `any_buffer`), so the call is that with as many zeros.
abbrev pub blank : List ℕ → List ℕ
blank buffer = replicate (length buffer) 0

abbrev pub blanked : LentCall → LentCall
blanked (plan_call id shape held upload buffer) = plan_call id shape held upload (blank buffer)
blanked (between (doomed_call buffer)) = between (doomed_call (blank buffer))
blanked (between (drain_call buffer)) = between (drain_call (blank buffer))
blanked (take_call id shape records seq) = take_call id shape records seq
blanked (retire_call id view seq) = retire_call id view seq
blanked (between (write_call id slice level rect)) = between (write_call id slice level rect)
blanked (between (regen_call id)) = between (regen_call id)
blanked (between (pop_call settled)) = between (pop_call settled)
blanked (between (park_call failed now)) = between (park_call failed now)
blanked (between (note_call allocated)) = between (note_call allocated)
blanked (between (trim_call now)) = between (trim_call now)
blanked (between (forget_call id)) = between (forget_call id)

unfoldable pub MadeCopies : Lent → LentCall → Answer → List ℕ → Lent → Type 0
MadeCopies l c a copies exit = ((views : List ℕ) → Says a copies views (lent_call l c).0) × (exit ≡ (lent_call l c).1)

unfoldable pub MadeViews : Lent → LentCall → Answer → List ℕ → Lent → Type 0
MadeViews l c a views exit = ((copies : List ℕ) → Says a copies views (lent_call l c).0) × (exit ≡ (lent_call l c).1)

-- ---- what each call's answer is as a line's

abbrev pub done_answer : Told (Unit {0}) → Answer
done_answer (refused_with n) = Refused n
done_answer (answer a) = Done

abbrev pub taken_answer : Told (Option TakenVersion) → Answer
taken_answer (refused_with n) = Refused n
taken_answer (answer none) = NoSpare
taken_answer (answer (some v)) = Spare v.view v.held

abbrev pub popped_answer : Told (Option PoppedVersion) → Answer
popped_answer (refused_with n) = Refused n
popped_answer (answer none) = NothingSettled
popped_answer (answer (some v)) = Version v.id v.view

abbrev pub views_answer : Told ℕ → Answer
views_answer (refused_with n) = Refused n
views_answer (answer n) = Views n

abbrev pub copies_answer : Told ℕ → Answer
copies_answer (refused_with n) = Refused n
copies_answer (answer n) = Copies n
