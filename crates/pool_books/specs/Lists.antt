-- Rule: Lists of calls, renames in them, and both books along a list (01, "Two books").
use Rattle.std.specs.Prelude.{ℕ, suc, ◌≡◌, Bool, List, [], ◌∷◌}
use Rattle.std.proofs.Math.Option.{Option, none}
use Rattle.grid_shapes.specs.declared.shape.VersionShape.{VersionShape}
use Rattle.grid_rects.specs.declared.rect.TexelRect.{TexelRect}
use Rattle.pool_rules.specs.declared.held.Held.{Held}
use Rattle.pool_rules.specs.Model.{Spare, PoolModel, Places, Out, refused, accepted, PreserveCopy, UploadFootprint}
use Rattle.pool_rules.specs.Updates.{with_retiring}
use Rattle.pool_rules.specs.TakeSpare.{take_spare}
use Rattle.pool_rules.specs.PreservePlan.{preserve_plan}
use Rattle.pool_rules.specs.Retire.{retire}
use Rattle.pool_rules.specs.NoteWrite.{note_write, note_mip_regeneration}
use Rattle.pool_rules.specs.PopRetired.{pop_retired}
use Rattle.pool_rules.specs.Park.{park}
use Rattle.pool_rules.specs.NoteAllocated.{note_allocated}
use Rattle.pool_rules.specs.TakeDoomed.{take_doomed}
use Rattle.pool_rules.specs.DrainVersions.{drain_versions}
use Rattle.pool_rules.specs.Trim.{trim}
use Rattle.pool_rules.specs.ForgetTexture.{forget_texture}
use Rattle.pool_rules.specs.Open.{opened}
use Rattle.pool_books.specs.VersionBook.{Numbers, Retired, Book, Books, change_book, start_book, book_write, book_regeneration, held_by_spare, numbers_of, live_of, copied, skipped, renamed, carried_by, lost_hand}

-- ---- calls, named as in the event lines, each with its arguments; B is what is said of the answer's buffer

-- the calls that stand between renames
pub data BetweenOf (B : Type 0) : Type 0 where
  write_call : ℕ → ℕ → ℕ → TexelRect → BetweenOf B
  regen_call : ℕ → BetweenOf B
  pop_call : ℕ → BetweenOf B
  park_call : ℕ → ℕ → BetweenOf B
  note_call : ℕ → BetweenOf B
  doomed_call : B → BetweenOf B
  drain_call : B → BetweenOf B
  trim_call : ℕ → BetweenOf B
  forget_call : ℕ → BetweenOf B

pub data CallOf (B : Type 0) : Type 0 where
  take_call : ℕ → VersionShape → Bool → ℕ → CallOf B
  plan_call : ℕ → VersionShape → Held → UploadFootprint → B → CallOf B
  retire_call : ℕ → ℕ → ℕ → CallOf B
  between : BetweenOf B → CallOf B

-- a list's calls say how much room a buffer has
abbrev pub Between : Type 0
Between = BetweenOf ℕ

abbrev pub Call : Type 0
Call = CallOf ℕ

-- ---- renames

-- where a list stands: in no rename; after its take, with the id, the shape, the answer's held writes and the new version's numbers; after
-- its plan, with the id, what the plan skipped and the new version's numbers
pub data Phase : Type 0 where
  idle : Phase
  taken : ℕ → VersionShape → Held → Numbers → Phase
  planned : ℕ → (ℕ → ℕ → Bool) → Numbers → Phase

-- "A rename is, for one id, take_spare, preserve_plan with its answer's held writes (unknown for a fresh version) and the same shape, retire,
-- in a row"; "the first three stand only in renames"
abbrev pub Allowed : Phase → Call → Type 0
Allowed idle (take_call id shape records seq) = Unit {0}
Allowed idle (plan_call id shape held u buffer) = ⊥
Allowed idle (retire_call id view seq) = ⊥
Allowed idle (between c) = Unit {0}
Allowed (taken id shape held new) (take_call id' shape' records seq) = ⊥
Allowed (taken id shape held new) (plan_call id' shape' held' u buffer) = (id' ≡ id) × (shape' ≡ shape) × (held' ≡ held)
Allowed (taken id shape held new) (retire_call id' view seq) = ⊥
Allowed (taken id shape held new) (between c) = ⊥
Allowed (planned id skip new) (take_call id' shape' records seq) = ⊥
Allowed (planned id skip new) (plan_call id' shape' held' u buffer) = ⊥
Allowed (planned id skip new) (retire_call id' view seq) = id' ≡ id
Allowed (planned id skip new) (between c) = ⊥

-- ---- both books along a list

-- the version book's copy of the pool, the books of each id, how many writes and regenerations were counted, and where the list stands
pub record State : Type 0 where
  pub pool : PoolModel Retired
  pub books : Books
  pub count : ℕ
  pub phase : Phase

-- "If one of the three calls is refused the rename ends, the live version stays, a taken spare is gone"
abbrev pub ended : State → State
ended s = record { pool = s.pool; books = s.books; count = s.count; phase = idle }

unfoldable pub after_take : State → ℕ → VersionShape → Out Retired (Option (Spare Retired)) → State
after_take s id shape (refused n) = ended s
after_take s id shape (accepted spare p) = record {
  pool = p;
  books = start_book id shape (s.books id) s.books;
  count = s.count;
  phase = taken id shape (held_by_spare spare) (numbers_of spare);
}

abbrev pub plan_in : Phase → UploadFootprint → List PreserveCopy → Books → Phase
plan_in idle u cs books = idle
plan_in (taken id shape held new) u cs books = planned id (skipped u cs) (copied cs (live_of (books id)) new)
plan_in (planned id skip new) u cs books = idle

unfoldable pub after_plan : State → UploadFootprint → Out Retired (List PreserveCopy) → State
after_plan s u (refused n) = ended s
after_plan s u (accepted cs p) = record { pool = p; books = s.books; count = s.count; phase = plan_in s.phase u cs s.books }

unfoldable pub rename_in : ℕ → Phase → Books → Books
rename_in seq idle books = books
rename_in seq (taken id shape held new) books = books
rename_in seq (planned id skip new) books = change_book (renamed seq skip new) id books

unfoldable pub after_retire : State → ℕ → Out Retired (Unit {0}) → State
after_retire s seq (refused n) = ended s
after_retire s seq (accepted a p) = record { pool = p; books = rename_in seq s.phase s.books; count = s.count; phase = idle }

-- a call that changes no book: "accepted calls alone count"
abbrev pub just_pool : State → {A : Type 0} → Out Retired A → State
just_pool s (refused n) = s
just_pool s (accepted a p) = record { pool = p; books = s.books; count = s.count; phase = s.phase }

-- an accepted write or regeneration "puts the next number", "tracked or not": one count serves the whole list
unfoldable pub marking : State → (ℕ → Book → Book) → ℕ → Out Retired (Unit {0}) → State
marking s f id (refused n) = s
marking s f id (accepted a p) = record { pool = p; books = change_book (f (suc s.count)) id s.books; count = suc s.count; phase = s.phase }

-- the version book's copy of the pool as a call finds it: parking loses an aborted version's numbers
abbrev pub ready_between : PoolModel Retired → Between → PoolModel Retired
ready_between p (write_call id slice level r) = p
ready_between p (regen_call id) = p
ready_between p (pop_call settled) = p
ready_between p (park_call failed now) = with_retiring p.retiring (lost_hand failed p.hand) p
ready_between p (note_call allocated) = p
ready_between p (doomed_call buffer) = p
ready_between p (drain_call buffer) = p
ready_between p (trim_call now) = p
ready_between p (forget_call id) = p

unfoldable pub step_between : State → Between → State
step_between s (write_call id slice level r) = marking s (λ n. book_write n slice level r) id (note_write s.pool id slice level r)
step_between s (regen_call id) = marking s book_regeneration id (note_mip_regeneration s.pool id)
step_between s (pop_call settled) = just_pool s (pop_retired s.pool settled)
step_between s (park_call failed now) = just_pool s (park (ready_between s.pool (park_call failed now)) failed now)
step_between s (note_call allocated) = just_pool s (note_allocated s.pool allocated)
step_between s (doomed_call buffer) = just_pool s (take_doomed s.pool buffer)
step_between s (drain_call buffer) = just_pool s (drain_versions s.pool buffer)
step_between s (trim_call now) = just_pool s (trim s.pool now)
step_between s (forget_call id) = just_pool s (forget_texture s.pool id)

unfoldable pub step : State → Call → State
step s (take_call id shape records seq) = after_take s id shape (take_spare s.pool id shape records seq)
step s (plan_call id shape held u buffer) = after_plan s u (preserve_plan s.pool id shape held u buffer)
step s (retire_call id view seq) = after_retire s seq (retire s.pool id (carried_by s.books id view) seq)
step s (between c) = step_between s c

unfoldable pub run : State → List Call → State
run s [] = s
run s (c ∷ cs) = run (step s c) cs

-- the list keeps to renames; it may end inside one
unfoldable pub Renames : State → List Call → Type 0
Renames s [] = Unit {0}
Renames s (c ∷ cs) = Allowed s.phase c × Renames (step s c) cs

-- "from any pool just opened"
unfoldable pub start : Places → ℕ → State
start places working = record { pool = opened places working; books = λ id. none; count = 0; phase = idle }
