-- The calls that fill no buffer: what each answers as a line, and what it leaves. Assumes nothing.
use Prim.Native.Nat.{ℕ}
use mathlib.Core.Path.{◌≡◌, refl, ap, ◌∙◌}
use mathlib.Core.Bool.{Bool}
use mathlib.Core.Option.{Option, none, some}
use Rattle.grid_shapes.specs.declared.shape.VersionShape.{VersionShape}
use Rattle.grid_rects.specs.declared.rect.TexelRect.{TexelRect}
use Rattle.pool_memory.specs.Lent.{Lent}
use Rattle.pool_memory.specs.declared.answer.TakenVersion.{TakenVersion}
use Rattle.pool_memory.specs.declared.answer.PoppedVersion.{PoppedVersion}
use Rattle.pool_memory.specs.Calls.{Told, refused_with, answer, take_spare_on, retire_on, note_write_on, note_mip_regeneration_on, pop_retired_on, park_on, note_allocated_on, trim_on, forget_texture_on}
use Rattle.pool_books.specs.Demand3.{Reply, done}
use Rattle.pool_books.specs.LentLists.{LentCall, said, reply_of as told_reply, taken_reply, popped_version_reply, lent_call}
use Rattle.event_answers.specs.Answers.{reply_told, InBuffers}
use Rattle.event_answers.specs.declared.answer.Answer.{Answer}
use Rattle.event_calls.specs.Calls.{SaysAlone, Made, done_answer, taken_answer, popped_answer}
use Rattle.pool_books.specs.Lists.{between, forget_call, note_call, park_call, pop_call, regen_call, retire_call, take_call, trim_call, write_call}

-- ---- what an answer says

done_says : (t : Told (Unit {0})) → SaysAlone (done_answer t) (told_reply (λ a. done) t)
unfolding reply_told InBuffers
done_says (refused_with n) copies views = (tt, refl)
done_says (answer a) copies views = (tt, refl)

taken_says : (t : Told (Option TakenVersion)) → SaysAlone (taken_answer t) (told_reply taken_reply t)
unfolding reply_told InBuffers
taken_says (refused_with n) copies views = (tt, refl)
taken_says (answer none) copies views = (tt, refl)
taken_says (answer (some v)) copies views = (tt, refl)

popped_says : (t : Told (Option PoppedVersion)) → SaysAlone (popped_answer t) (told_reply popped_version_reply t)
unfolding reply_told InBuffers
popped_says (refused_with n) copies views = (tt, refl)
popped_says (answer none) copies views = (tt, refl)
popped_says (answer (some v)) copies views = (tt, refl)

-- ---- a call, by what its contract says

module _ (l after : Lent) where
  says_made : (c : LentCall) (r : Reply) (a b : Answer) → (r, after) ≡ lent_call l c → SaysAlone b r → a ≡ b → Made l c a after
  unfolding Made
  says_made c r a b k s q =
      rw q (
        λ copies views. ((s copies views).0, (s copies views).1 ∙ ap (λ (x : Reply × Lent). some x.0) k),
        ap (λ (x : Reply × Lent). x.1) k,
      )

  pub made_take : (t : Told (Option TakenVersion)) (id : ℕ) (shape : VersionShape) (records : Bool) (seq : ℕ)
      → (t, after) ≡ take_spare_on l id shape records seq → (a : Answer) → a ≡ taken_answer t → Made l (take_call id shape records seq) a after
  unfolding lent_call
  made_take t id shape records seq e a q =
      says_made (take_call id shape records seq) (told_reply taken_reply t) a (taken_answer t) (ap (said taken_reply) e) (taken_says t) q

  pub made_pop : (t : Told (Option PoppedVersion)) (settled : ℕ) → (t, after) ≡ pop_retired_on l settled
      → (a : Answer) → a ≡ popped_answer t → Made l (between (pop_call settled)) a after
  unfolding lent_call
  made_pop t settled e a q =
      says_made (between (pop_call settled)) (told_reply popped_version_reply t) a (popped_answer t) (ap (said popped_version_reply) e) (popped_says t) q

  module _ (t : Told (Unit {0})) (a : Answer) (q : a ≡ done_answer t) where
    done_made : (c : LentCall) → (told_reply (λ a. done) t, after) ≡ lent_call l c → Made l c a after
    done_made c k = says_made c (told_reply (λ a. done) t) a (done_answer t) k (done_says t) q

    pub made_retire : (id view seq : ℕ) → (t, after) ≡ retire_on l id view seq → Made l (retire_call id view seq) a after
    unfolding lent_call
    made_retire id view seq e = done_made (retire_call id view seq) (ap (said (λ a. done)) e)

    pub made_write : (id slice level : ℕ) (rect : TexelRect) → (t, after) ≡ note_write_on l id slice level rect → Made l (between (write_call id slice level rect)) a after
    unfolding lent_call
    made_write id slice level rect e = done_made (between (write_call id slice level rect)) (ap (said (λ a. done)) e)

    pub made_regen : (id : ℕ) → (t, after) ≡ note_mip_regeneration_on l id → Made l (between (regen_call id)) a after
    unfolding lent_call
    made_regen id e = done_made (between (regen_call id)) (ap (said (λ a. done)) e)

    pub made_park : (failed now : ℕ) → (t, after) ≡ park_on l failed now → Made l (between (park_call failed now)) a after
    unfolding lent_call
    made_park failed now e = done_made (between (park_call failed now)) (ap (said (λ a. done)) e)

    pub made_note : (allocated : ℕ) → (t, after) ≡ note_allocated_on l allocated → Made l (between (note_call allocated)) a after
    unfolding lent_call
    made_note allocated e = done_made (between (note_call allocated)) (ap (said (λ a. done)) e)

    pub made_trim : (now : ℕ) → (t, after) ≡ trim_on l now → Made l (between (trim_call now)) a after
    unfolding lent_call
    made_trim now e = done_made (between (trim_call now)) (ap (said (λ a. done)) e)

    pub made_forget : (id : ℕ) → (t, after) ≡ forget_texture_on l id → Made l (between (forget_call id)) a after
    unfolding lent_call
    made_forget id e = done_made (between (forget_call id)) (ap (said (λ a. done)) e)
