-- What an event's call says and leaves is what its step has. Assumes nothing.
use Prim.Native.Nat.{ℕ}
use mathlib.Core.Path.{◌≡◌, refl}
use mathlib.Core.Bool.{Bool, true, false}
use mathlib.Core.Option.{some}
use mathlib.Core.List.{List}
use lib.ListN.{replicate}
use Rattle.grid_shapes.specs.declared.shape.VersionShape.{VersionShape}
use Rattle.pool_rules.specs.declared.held.Held.{Held}
use Rattle.pool_rules.specs.Model.{UploadFootprint}
use Rattle.pool_memory.specs.Lent.{Lent}
use Rattle.pool_books.specs.LentLists.{LentCall, lent_call}
use Rattle.event_lines.specs.declared.event.Event.{Event}
use Rattle.event_answers.specs.Answers.{reply_told, InBuffers}
use Rattle.event_answers.specs.declared.answer.Answer.{Answer}
use Rattle.event_answers.specs.declared.answer.Answer.TheVariants.{Question}
use Rattle.event_calls.specs.Calls.{Made, MadeCopies, MadeViews}
use Rattle.event_sessions.specs.Sessions.{SessionState, line_step}
use Rattle.event_sessions.specs.Parts.{session_opened, Stepped}
use Rattle.pool_books.specs.Lists.{between, doomed_call, drain_call, forget_call, note_call, park_call, plan_call, pop_call, regen_call, retire_call, take_call, trim_call, write_call}
use Rattle.event_sessions.specs.Noted.{taken_after, shape_after}

-- ---- the step of an opened session

module _ (copies views : ℕ) (taken : Bool) (shape : VersionShape) (l : Lent) (a : Answer) (copiesExit viewsExit : List ℕ) (exit : Lent) where
  -- an event's call was made, with buffers of so many numbers; a second `open` and an unread line have none
  abbrev CallMade : Event → Type 0
  CallMade (Event.Take id s records seq) = Made l (take_call id s records seq) a exit
  CallMade (Event.Plan id held slice level cover) =
      let upload : UploadFootprint = record { slice = slice; level = level; cover = cover } in
      (taken ≡ true) × MadeCopies l (plan_call id shape held upload (replicate copies 0)) a copiesExit exit
  CallMade (Event.Retire id view seq) = Made l (retire_call id view seq) a exit
  CallMade (Event.Write id slice level rect) = Made l (between (write_call id slice level rect)) a exit
  CallMade (Event.Regen id) = Made l (between (regen_call id)) a exit
  CallMade (Event.Pop settled) = Made l (between (pop_call settled)) a exit
  CallMade (Event.Park failed now) = Made l (between (park_call failed now)) a exit
  CallMade (Event.Note allocated) = Made l (between (note_call allocated)) a exit
  CallMade Event.Doomed = MadeViews l (between (doomed_call (replicate views 0))) a viewsExit exit
  CallMade Event.Drain = MadeViews l (between (drain_call (replicate views 0))) a viewsExit exit
  CallMade (Event.Trim now) = Made l (between (trim_call now)) a exit
  CallMade (Event.Forget id) = Made l (between (forget_call id)) a exit
  CallMade (Event.Open working) = ⊥
  CallMade Event.Unread = ⊥

  abbrev SteppedHere : Event → Type 0
  SteppedHere e = Stepped copies views (session_opened taken shape l) e a copiesExit viewsExit exit

  -- a call that fills no buffer
  alone : (c : LentCall) → Made l c a exit → InBuffers a copiesExit viewsExit × (reply_told a copiesExit viewsExit ≡ some (lent_call l c).0) × (exit ≡ (lent_call l c).1)
  unfolding Made
  alone c m = ((m.0 copiesExit viewsExit).0, (m.0 copiesExit viewsExit).1, m.1)

  made_stepped : (e : Event) → CallMade e → SteppedHere e
  unfolding MadeCopies MadeViews Stepped line_step
  made_stepped (Event.Take id s records seq) m = alone _ m
  made_stepped (Event.Plan id held slice level cover) m = rw m.0 ((m.1.0 viewsExit).0, (m.1.0 viewsExit).1, m.1.1)
  made_stepped (Event.Retire id view seq) m = alone _ m
  made_stepped (Event.Write id slice level rect) m = alone _ m
  made_stepped (Event.Regen id) m = alone _ m
  made_stepped (Event.Pop settled) m = alone _ m
  made_stepped (Event.Park failed now) m = alone _ m
  made_stepped (Event.Note allocated) m = alone _ m
  made_stepped Event.Doomed m = ((m.0 copiesExit).0, (m.0 copiesExit).1, m.1)
  made_stepped Event.Drain m = ((m.0 copiesExit).0, (m.0 copiesExit).1, m.1)
  made_stepped (Event.Trim now) m = alone _ m
  made_stepped (Event.Forget id) m = alone _ m
  made_stepped (Event.Open working) m = absurd m
  made_stepped Event.Unread m = absurd m

  -- by what the event was matched with
  pub stepped : (e f : Event) → e ≡ f → CallMade f → SteppedHere e
  stepped e f q m = rw q (made_stepped f m)

-- ---- no call is made

module _ (taken : Bool) (shape : VersionShape) (l : Lent) (copiesExit viewsExit : List ℕ) (copies views : ℕ) where
  abbrev NotCalled : Event → Type 0
  NotCalled e = Stepped copies views (session_opened taken shape l) e Question copiesExit viewsExit l

  -- a second `open` and an unread line ask for none, and a plan without a take line has none
  pub open_uncalled : (e : Event) (working : ℕ) → e ≡ Event.Open working → NotCalled e
  unfolding Stepped line_step InBuffers reply_told
  open_uncalled e working q = rw q (tt, refl, refl)

  pub unread_uncalled : (e : Event) → e ≡ Event.Unread → NotCalled e
  unfolding Stepped line_step InBuffers reply_told
  unread_uncalled e q = rw q (tt, refl, refl)

  pub plan_uncalled : (e : Event) (id : ℕ) (held : Held) (slice level : ℕ) (cover : Bool) → e ≡ Event.Plan id held slice level cover → taken ≡ false → NotCalled e
  unfolding Stepped line_step InBuffers reply_told
  plan_uncalled e id held slice level cover q t = rw (q, t) (tt, refl, refl)

-- what a step notes of the line
module _ (copies views : ℕ) (taken : Bool) (shape : VersionShape) (l : Lent) where
  abbrev noted : Event → SessionState
  noted e = record {
    opened = true;
    taken = taken_after true taken e;
    shape = shape_after shape e;
    lent = (line_step copies views (session_opened taken shape l) e).1.lent;
  }

  pub step_notes : (e : Event) → (line_step copies views (session_opened taken shape l) e).1 ≡ noted e
  unfolding line_step
  step_notes (Event.Take id s records seq) = refl
  step_notes (Event.Retire id view seq) = refl
  step_notes (Event.Write id slice level rect) = refl
  step_notes (Event.Regen id) = refl
  step_notes (Event.Pop settled) = refl
  step_notes (Event.Park failed now) = refl
  step_notes (Event.Note allocated) = refl
  step_notes (Event.Trim now) = refl
  step_notes (Event.Forget id) = refl
  step_notes (Event.Open working) = refl
  step_notes Event.Doomed = refl
  step_notes Event.Drain = refl
  step_notes Event.Unread = refl
  step_notes (Event.Plan id held slice level cover) = go taken
    where
      go : (t : Bool) → (line_step copies views (session_opened t shape l) (Event.Plan id held slice level cover)).1
          ≡ record { opened = true; taken = t; shape = shape; lent = (line_step copies views (session_opened t shape l) (Event.Plan id held slice level cover)).1.lent }
      go true = refl
      go false = refl
