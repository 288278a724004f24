-- Demand 3 about the lent stores. Each call does to the stores what the model's does to the pool that they stand for, so the theorem about the model
-- carries over. Assumes nothing.
use Prim.Native.Nat.{ℕ, ◌/◌}
use mathlib.Core.Path.{◌≡◌, refl, sym, ap, ◌∙◌, subst}
use mathlib.Core.Option.{Option, none, some}
use mathlib.Core.List.{List, map-id}
use lib.ListN.{length}
use Rattle.base_blocks.specs.Lists.{over}
use Rattle.base_tables.specs.Records.{flat}
use Rattle.pool_rules.specs.Model.{Spare, Retiring, PoolModel, Out, refused, accepted}
use Rattle.pool_rules.specs.Formed.{Formed}
use Rattle.pool_rules.specs.Closed.{OutFormed, formed}
use Rattle.pool_rules.specs.TakeSpare.{take_spare}
use Rattle.pool_rules.specs.PreservePlan.{preserve_plan}
use Rattle.pool_rules.specs.Retire.{retire}
use Rattle.pool_rules.specs.NoteWrite.{note_write, note_mip_regeneration}
use Rattle.pool_rules.specs.PopRetired.{pop_retired}
use Rattle.pool_rules.specs.Park.{park}
use Rattle.pool_rules.specs.NoteAllocated.{note_allocated}
use Rattle.pool_rules.specs.TakeDoomed.{take_doomed}
use Rattle.pool_rules.specs.DrainVersions.{drain_versions}
use Rattle.pool_rules.specs.Trim.{trim}
use Rattle.pool_rules.specs.ForgetTexture.{forget_texture}
use Rattle.pool_rules.proofs.Closure.{closed}
use Rattle.pool_memory.specs.Lent.{Lent}
use Rattle.pool_memory.specs.Reading.{model_of}
use Rattle.pool_memory.specs.Writing.{lent_after}
use Rattle.pool_memory.specs.Calls.{written_back, asked, in_buffer, taken_of, popped_of, copy_numbers, view_numbers, take_spare_on, retire_on, note_write_on, note_mip_regeneration_on, pop_retired_on, park_on, note_allocated_on, trim_on, forget_texture_on, preserve_plan_on, take_doomed_on, drain_versions_on}
use Rattle.pool_memory.proofs.Fits.{Fits}
use Rattle.pool_memory.proofs.FromPool.{pool_fits, are_places_lem}
use Rattle.pool_memory.proofs.FitsOpened.{opened_model, opened_fits}
use Rattle.pool_memory.proofs.ToPool.{fits_pool}
use Rattle.pool_memory.proofs.ReadBack.{read_back, after_fits}
use Rattle.pool_books.specs.Demand3.{Reply, answered, perform, perform_between, call, done, copies_planned, views_handed, spare_reply, popped_reply as pop_reply, views_reply as handed_reply}
use Rattle.pool_books.specs.LentLists.{LentCall, room_of, taken_reply, popped_version_reply, copies_filled, views_filled, said, filled, lent_call, opened_lent, Demand3Lent, EveryCallKeepsPool, OpenedIsPool}
use Rattle.pool_books.proofs.End.{demand3_of}
use Rattle.pool_books.proofs.Places.{SamePlaces, take_spare_places, preserve_plan_places, retire_places, note_write_places, note_mip_regeneration_places, pop_retired_places, park_places, note_allocated_places, take_doomed_places, drain_versions_places, trim_places, forget_texture_places}
use Rattle.pool_books.proofs.Answers.{copies_read, views_read}
use Rattle.pool_memory.specs.MemoryConstants.{copy_stride}
use Rattle.pool_books.specs.Lists.{between, doomed_call, drain_call, forget_call, note_call, park_call, plan_call, pop_call, regen_call, retire_call, take_call, trim_call, write_call}

-- the stores stand for the pool
abbrev pub Represents : Lent → PoolModel ℕ → Type 0
Represents l p = Fits l × (model_of l ≡ p)

abbrev number : ℕ → ℕ
number n = n

abbrev carried : ℕ → ℕ → ℕ
carried id n = n

-- the same answer, and stores that stand for the pool that the model leaves
abbrev pub Simulates : Reply × Lent → Reply × PoolModel ℕ → Type 0
Simulates x y = (x.0 ≡ y.0) × Represents x.1 y.1

module _ (l : Lent) (p : PoolModel ℕ) (represents : Represents l p) {A : Type 0} (rule : PoolModel ℕ → Out ℕ A) (kept : OutFormed (rule p))
    (same : SamePlaces p (rule p)) where
  asked_model : {B : Type 0} (f : A → B) → asked f l rule ≡ written_back f l (rule p)
  unfolding asked
  asked_model f = rw (fits_pool l represents.0, represents.1)

  after_represents : (q : PoolModel ℕ) → Formed q → q.places ≡ p.places → Represents (lent_after q l) q
  after_represents q k e =
      let f = e ∙ ap (λ (r : PoolModel ℕ). r.places) (sym represents.1) in
      (after_fits l q represents.0 k f, read_back l q represents.0 k f)

  -- a call that answers numbers
  says : {B : Type 0} (f : A → B) (g : B → Reply) (r : A → Reply) → ((a : A) → g (f a) ≡ r a)
      → Simulates (said g (asked f l rule)) (answered number carried r p (rule p))
  says f g r e = subst (λ x. Simulates (said g x) (answered number carried r p (rule p))) (sym (asked_model f)) (go (rule p) kept same)
    where
      go : (o : Out ℕ A) → OutFormed o → SamePlaces p o → Simulates (said g (written_back f l o)) (answered number carried r p o)
      go (refused n) k s = (refl, represents)
      go (accepted a q) (formed k) s = (e a, after_represents q k s)

  -- one that answers nothing but its outcome
  does : {B : Type 0} (f : A → B) → Simulates (said (λ b. done) (asked f l rule)) (answered number carried (λ a. done) p (rule p))
  does f = says f (λ b. done) (λ a. done) (λ a. refl)

-- a call that fills a buffer
fills : (l : Lent) (p : PoolModel ℕ) (represents : Represents l p) {A : Type 0} (rule : PoolModel ℕ → Out ℕ (List A)) → OutFormed (rule p) → SamePlaces p (rule p)
    → (wr : A → List ℕ) (buffer : List ℕ) (g : ℕ → List ℕ → Reply) (r : List A → Reply)
    → ((xs : List A) → g (length xs) (over (flat wr xs) buffer) ≡ r xs)
    → Simulates (filled g (in_buffer wr buffer (asked (λ a. a) l rule))) (answered number carried r p (rule p))
fills l p represents {A} rule kept same wr buffer g r e =
    subst (λ x. Simulates (filled g (in_buffer wr buffer x)) (answered number carried r p (rule p)))
    (sym (asked_model l p represents rule kept same (λ a. a))) (go (rule p) kept same)
  where
    go : (o : Out ℕ (List A)) → OutFormed o → SamePlaces p o
        → Simulates (filled g (in_buffer wr buffer (written_back (λ a. a) l o))) (answered number carried r p o)
    go (refused n) k s = (refl, represents)
    go (accepted xs q) (formed k) s = (e xs, after_represents l p represents rule kept same q k s)

-- ---- the twelve calls

taken_reply_lem : (o : Option (Spare ℕ)) → taken_reply (taken_of o) ≡ spare_reply number carried o
taken_reply_lem none = refl
taken_reply_lem (some s) = refl

popped_reply_lem : (o : Option (Retiring ℕ)) → popped_version_reply (popped_of o) ≡ pop_reply number carried o
popped_reply_lem none = refl
popped_reply_lem (some v) = refl

views_reply_lem : (buffer vs : List ℕ) → views_filled (length vs) (over (flat view_numbers vs) buffer) ≡ handed_reply number carried vs
views_reply_lem buffer vs = ap views_handed (views_read vs buffer ∙ sym (map-id vs))

pub simulates : (l : Lent) (p : PoolModel ℕ) (c : LentCall) → Formed p → Represents l p → Simulates (lent_call l c) (call p (room_of c))
unfolding lent_call perform perform_between take_spare_on retire_on note_write_on note_mip_regeneration_on pop_retired_on park_on note_allocated_on trim_on forget_texture_on preserve_plan_on take_doomed_on drain_versions_on
simulates l p (take_call id shape records seq) k r =
    says l p r (λ q. take_spare q id shape records seq) ((closed p k).take_spare_lem id shape records seq) (take_spare_places p id shape records seq)
    taken_of taken_reply _ taken_reply_lem
simulates l p (plan_call id shape held u buffer) k r =
    fills l p r (λ q. preserve_plan q id shape held u (length buffer / copy_stride)) ((closed p k).preserve_plan_lem id shape held u (length buffer / copy_stride))
    (preserve_plan_places p id shape held u (length buffer / copy_stride)) copy_numbers buffer copies_filled _ (λ cs. ap copies_planned (copies_read cs buffer))
simulates l p (retire_call id view seq) k r =
    does l p r (λ q. retire q id view seq) ((closed p k).retires id view seq) (retire_places p id view seq) (λ a. a)
simulates l p (between (write_call id slice level rect)) k r =
    does l p r (λ q. note_write q id slice level rect) ((closed p k).note_write_lem id slice level rect) (note_write_places p id slice level rect) (λ a. a)
simulates l p (between (regen_call id)) k r =
    does l p r (λ q. note_mip_regeneration q id) ((closed p k).note_mip_regeneration_lem id) (note_mip_regeneration_places p id) (λ a. a)
simulates l p (between (pop_call settled)) k r =
    says l p r (λ q. pop_retired q settled) ((closed p k).pop_retired_lem settled) (pop_retired_places p settled) popped_of popped_version_reply _ popped_reply_lem
simulates l p (between (park_call failed now)) k r =
    does l p r (λ q. park q failed now) ((closed p k).parks failed now) (park_places p failed now) (λ a. a)
simulates l p (between (note_call allocated)) k r =
    does l p r (λ q. note_allocated q allocated) ((closed p k).note_allocated_lem allocated) (note_allocated_places p allocated) (λ a. a)
simulates l p (between (doomed_call buffer)) k r =
    fills l p r (λ q. take_doomed q (length buffer)) ((closed p k).take_doomed_lem (length buffer)) (take_doomed_places p (length buffer))
    view_numbers buffer views_filled _ (views_reply_lem buffer)
simulates l p (between (drain_call buffer)) k r =
    fills l p r (λ q. drain_versions q (length buffer)) ((closed p k).drain_versions_lem (length buffer)) (drain_versions_places p (length buffer))
    view_numbers buffer views_filled _ (views_reply_lem buffer)
simulates l p (between (trim_call now)) k r = does l p r (λ q. trim q now) ((closed p k).trims now) (trim_places p now) (λ a. a)
simulates l p (between (forget_call id)) k r =
    does l p r (λ q. forget_texture q id) ((closed p k).forget_texture_lem id) (forget_texture_places p id) (λ a. a)

-- ---- every list of them

pub demand3_lent : Demand3Lent
unfolding Demand3Lent
demand3_lent working textures retiring doomed spares newest stamps sized cs list =
    let l = opened_lent working textures retiring doomed spares newest stamps in
    demand3_of room_of lent_call Represents simulates (model_of l).places (are_places_lem l sized) working l
    (opened_fits working textures retiring doomed spares newest stamps sized, opened_model working textures retiring doomed spares newest stamps) cs list

-- ---- a pool stays a pool

pub calls_keep_pool : EveryCallKeepsPool
unfolding EveryCallKeepsPool
calls_keep_pool l e c =
    let f = pool_fits l e in
    fits_pool (lent_call l c).1 (simulates l (model_of l) c f.formed (f, refl)).1.0

pub opened_is_pool : OpenedIsPool
unfolding OpenedIsPool
opened_is_pool working textures retiring doomed spares newest stamps sized =
    fits_pool (opened_lent working textures retiring doomed spares newest stamps) (opened_fits working textures retiring doomed spares newest stamps sized)
