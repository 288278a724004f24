-- Rule: Demand 3 about the lent stores (01, "Two books"): "for every list of take, plan, retire, write, regen, pop, park, note, doomed, drain, trim and
-- forget calls, with any arguments and answer buffers, refused ones included, from any pool just opened, each answered as demands 1 and 2 have it,
-- the live numbers of every id equal the plain book after each call"; "each call gets pool, stores and pacing book as the last left them; nobody
-- else writes them".
--
-- The stores are numbers here, and each call is what its contract says of them. An answer is what a caller reads: the outcome and the values, or,
-- of the three calls that fill a buffer, as many entries of the buffer at exit as the call says.
use Rattle.std.specs.Prelude.{ℕ, ◌/◌, ◌≡◌, true, cond, List, map, eqb, length, take, get_or}
use Rattle.std.proofs.Math.Option.{Option, none, some}
use Rattle.base_tables.specs.Records.{table}
use Rattle.grid_rects.specs.declared.rect.Region.TheVariants.{Whole, Part}
use Rattle.pool_rules.specs.declared.held.Held.TheVariants.{Unknown}
use Rattle.pool_rules.specs.Model.{PreserveCopy}
use Rattle.pool_memory.specs.Lent.{Lent, lent}
use Rattle.pool_memory.specs.Reading.{model_of}
use Rattle.pool_memory.specs.IsPool.{is_pool, sizes_fit}
use Rattle.pool_memory.specs.declared.answer.TakenVersion.{TakenVersion}
use Rattle.pool_memory.specs.declared.answer.PoppedVersion.{PoppedVersion}
use Rattle.pool_memory.specs.Calls.{opened_pool, opened_book, Told, refused_with, answer, take_spare_on, retire_on, note_write_on, note_mip_regeneration_on, pop_retired_on, park_on, note_allocated_on, trim_on, forget_texture_on, preserve_plan_on, take_doomed_on, drain_versions_on}
use Rattle.pool_books.specs.Lists.{write_call, regen_call, pop_call, park_call, note_call, doomed_call, drain_call, trim_call, forget_call, Call, take_call, plan_call, retire_call, between, Renames, start, CallOf}
use Rattle.pool_books.specs.Demand3.{Reply, refusal, done, spare_taken, copies_planned, version_popped, views_handed, ThroughoutOf}
use Rattle.pool_memory.specs.MemoryConstants.{copy_stride}

-- ---- calls, named as in the event lines, each with its arguments and its answer's buffer

abbrev pub LentCall : Type 0
LentCall = CallOf (List ℕ)

-- the model's call: a buffer has room for a copy in every seven numbers, and for a view number in each
abbrev pub room_of : LentCall → Call
room_of (take_call id shape records seq) = take_call id shape records seq
room_of (plan_call id shape held u buffer) = plan_call id shape held u (length buffer / copy_stride)
room_of (retire_call id view seq) = retire_call id view seq
room_of (between (write_call id slice level r)) = between (write_call id slice level r)
room_of (between (regen_call id)) = between (regen_call id)
room_of (between (pop_call settled)) = between (pop_call settled)
room_of (between (park_call failed now)) = between (park_call failed now)
room_of (between (note_call allocated)) = between (note_call allocated)
room_of (between (doomed_call buffer)) = between (doomed_call (length buffer))
room_of (between (drain_call buffer)) = between (drain_call (length buffer))
room_of (between (trim_call now)) = between (trim_call now)
room_of (between (forget_call id)) = between (forget_call id)

-- ---- answers

abbrev pub reply_of : {A : Type 0} → (A → Reply) → Told A → Reply
reply_of f (refused_with n) = refusal n
reply_of f (answer a) = f a

abbrev pub taken_reply : Option TakenVersion → Reply
taken_reply none = spare_taken none Unknown
taken_reply (some v) = spare_taken (some v.view) v.held

abbrev pub popped_version_reply : Option PoppedVersion → Reply
popped_version_reply none = version_popped none
popped_version_reply (some v) = version_popped (some (v.id, v.view))

-- a copy out of seven numbers: slice, level, whole or not, left, top, width, height
unfoldable pub read_copy : List ℕ → PreserveCopy
read_copy s = record {
  slice = get_or s 0 0;
  level = get_or s 1 0;
  region = cond (eqb (get_or s 2 0) 1) Whole (Part (record { x = get_or s 3 0; y = get_or s 4 0; width = get_or s 5 0; height = get_or s 6 0 }));
}

-- the first n entries of a buffer
abbrev pub copies_filled : ℕ → List ℕ → Reply
copies_filled n buffer = copies_planned (table copy_stride read_copy n buffer)

abbrev pub views_filled : ℕ → List ℕ → Reply
views_filled n buffer = views_handed (take n buffer)

-- ---- a call on the lent stores: what a caller reads, and the stores after it

abbrev pub said : {A : Type 0} → (A → Reply) → Told A × Lent → Reply × Lent
said f (told, l) = (reply_of f told, l)

abbrev pub filled : (ℕ → List ℕ → Reply) → Told ℕ × (List ℕ × Lent) → Reply × Lent
filled f (told, (buffer, l)) = (reply_of (λ (n : ℕ). f n buffer) told, l)

unfoldable pub lent_call : Lent → LentCall → Reply × Lent
lent_call l (take_call id shape records seq) = said taken_reply (take_spare_on l id shape records seq)
lent_call l (plan_call id shape held u buffer) = filled copies_filled (preserve_plan_on l buffer id shape held u)
lent_call l (retire_call id view seq) = said (λ a. done) (retire_on l id view seq)
lent_call l (between (write_call id slice level r)) = said (λ a. done) (note_write_on l id slice level r)
lent_call l (between (regen_call id)) = said (λ a. done) (note_mip_regeneration_on l id)
lent_call l (between (pop_call settled)) = said popped_version_reply (pop_retired_on l settled)
lent_call l (between (park_call failed now)) = said (λ a. done) (park_on l failed now)
lent_call l (between (note_call allocated)) = said (λ a. done) (note_allocated_on l allocated)
lent_call l (between (doomed_call buffer)) = filled views_filled (take_doomed_on l buffer)
lent_call l (between (drain_call buffer)) = filled views_filled (drain_versions_on l buffer)
lent_call l (between (trim_call now)) = said (λ a. done) (trim_on l now)
lent_call l (between (forget_call id)) = said (λ a. done) (forget_texture_on l id)

-- ---- the claim

-- any memory, just opened
abbrev pub opened_lent : ℕ → List ℕ → List ℕ → List ℕ → List ℕ → List ℕ → List ℕ → Lent
opened_lent working textures retiring doomed spares newest stamps =
    lent (opened_pool working) opened_book textures retiring doomed spares newest stamps

-- of lent stores along a list: each answer is that of the version book's copy, and the books agree at every point
abbrev pub ThroughoutLent : Lent → ℕ → List LentCall → Type 0
ThroughoutLent l working cs = ThroughoutOf room_of lent_call (start (model_of l).places working) l cs

abbrev pub Demand3From : Lent → ℕ → Type 0
Demand3From l working =
    sizes_fit l ≡ true → (cs : List LentCall) → Renames (start (model_of l).places working) (map room_of cs) → ThroughoutLent l working cs

unfoldable pub Demand3Lent : Type 0
Demand3Lent = (working : ℕ) (textures retiring doomed spares newest stamps : List ℕ)
    → Demand3From (opened_lent working textures retiring doomed spares newest stamps) working

-- ---- "No accepted call on a pool leaves anything else": nor does a refused one, which leaves the stores as they were

unfoldable pub EveryCallKeepsPool : Type 0
EveryCallKeepsPool = (l : Lent) → is_pool l ≡ true → (c : LentCall) → is_pool (lent_call l c).1 ≡ true

unfoldable pub OpenedIsPool : Type 0
OpenedIsPool = (working : ℕ) (textures retiring doomed spares newest stamps : List ℕ)
    → sizes_fit (opened_lent working textures retiring doomed spares newest stamps) ≡ true
    → is_pool (opened_lent working textures retiring doomed spares newest stamps) ≡ true
