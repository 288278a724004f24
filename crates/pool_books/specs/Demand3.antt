-- Rule: Demand 3 (01, "Two books"): "the live numbers of every id equal the plain book after each call", but for what is left out.
use Rattle.std.specs.Prelude.{ℕ, ◌≡◌, false, List, [], ◌∷◌, map}
use Rattle.std.proofs.Math.Option.{Option, none, some}
use Rattle.pool_rules.specs.declared.held.Held.{Held}
use Rattle.pool_rules.specs.declared.held.Held.TheVariants.{Unknown}
use Rattle.pool_rules.specs.Model.{Spare, Retiring, PoolModel, Places, Out, refused, accepted, PreserveCopy}
use Rattle.pool_rules.specs.TakeSpare.{take_spare}
use Rattle.pool_rules.specs.PreservePlan.{preserve_plan}
use Rattle.pool_rules.specs.Retire.{retire}
use Rattle.pool_rules.specs.NoteWrite.{note_write, note_mip_regeneration}
use Rattle.pool_rules.specs.PopRetired.{pop_retired}
use Rattle.pool_rules.specs.Park.{park}
use Rattle.pool_rules.specs.NoteAllocated.{note_allocated}
use Rattle.pool_rules.specs.TakeDoomed.{take_doomed}
use Rattle.pool_rules.specs.DrainVersions.{drain_versions}
use Rattle.pool_rules.specs.Trim.{trim}
use Rattle.pool_rules.specs.ForgetTexture.{forget_texture}
use Rattle.pool_rules.specs.Open.{opened}
use Rattle.pool_books.specs.Texels.{Texel, Inside}
use Rattle.pool_books.specs.VersionBook.{Retired, Book, carried_by}
use Rattle.pool_books.specs.Carry.{map_pool}
use Rattle.pool_books.specs.Lists.{Between, write_call, regen_call, pop_call, park_call, note_call, doomed_call, drain_call, trim_call, forget_call, Call, take_call, plan_call, retire_call, between, State, ready_between, step, Renames, start}

-- the live numbers of an id equal the plain book, but for what is left out
unfoldable pub Agrees : Option Book → Type 0
Agrees none = Unit {0}
Agrees (some b) = (t : Texel) → Inside b.shape t → b.left t.slice t.level ≡ false → b.live t ≡ some (b.plain t)

-- ---- the pool itself, with plain view numbers: what the calls answer and leave, as demands 1 and 2 have it

pub data Reply : Type 0 where
  refusal : ℕ → Reply
  done : Reply
  spare_taken : Option ℕ → Held → Reply
  copies_planned : List PreserveCopy → Reply
  version_popped : Option (ℕ × ℕ) → Reply
  views_handed : List ℕ → Reply

-- a call on a pool of any views, of which `number` gives the view number; `carried` makes the view of a version retired under an id
module _ {W : Type 0} (number : W → ℕ) (carried : ℕ → ℕ → W) where
  abbrev pub answered : {A : Type 0} → (A → Reply) → PoolModel W → Out W A → Reply × PoolModel W
  answered f p (refused n) = (refusal n, p)
  answered f p (accepted a q) = (f a, q)

  abbrev pub spare_reply : Option (Spare W) → Reply
  spare_reply none = spare_taken none Unknown
  spare_reply (some s) = spare_taken (some (number s.view)) s.held

  abbrev pub popped_reply : Option (Retiring W) → Reply
  popped_reply none = version_popped none
  popped_reply (some v) = version_popped (some (v.id, number v.view))

  abbrev pub views_reply : List W → Reply
  views_reply vs = views_handed (map number vs)

  unfoldable pub perform_between : PoolModel W → Between → Reply × PoolModel W
  perform_between p (write_call id slice level r) = answered (λ a. done) p (note_write p id slice level r)
  perform_between p (regen_call id) = answered (λ a. done) p (note_mip_regeneration p id)
  perform_between p (pop_call settled) = answered popped_reply p (pop_retired p settled)
  perform_between p (park_call failed now) = answered (λ a. done) p (park p failed now)
  perform_between p (note_call allocated) = answered (λ a. done) p (note_allocated p allocated)
  perform_between p (doomed_call buffer) = answered views_reply p (take_doomed p buffer)
  perform_between p (drain_call buffer) = answered views_reply p (drain_versions p buffer)
  perform_between p (trim_call now) = answered (λ a. done) p (trim p now)
  perform_between p (forget_call id) = answered (λ a. done) p (forget_texture p id)

  unfoldable pub perform : PoolModel W → Call → Reply × PoolModel W
  perform p (take_call id shape records seq) = answered spare_reply p (take_spare p id shape records seq)
  perform p (plan_call id shape held u buffer) = answered copies_planned p (preserve_plan p id shape held u buffer)
  perform p (retire_call id view seq) = answered (λ a. done) p (retire p id (carried id view) seq)
  perform p (between c) = perform_between p c

-- a call on the pool of plain view numbers
abbrev pub call : PoolModel ℕ → Call → Reply × PoolModel ℕ
call p c = perform (λ (n : ℕ). n) (λ (id n : ℕ). n) p c

-- what the version book's copy of the pool answers
abbrev pub ready : PoolModel Retired → Call → PoolModel Retired
ready p (take_call id shape records seq) = p
ready p (plan_call id shape held u buffer) = p
ready p (retire_call id view seq) = p
ready p (between c) = ready_between p c

abbrev pub view_of : Retired → ℕ
view_of r = r.view

abbrev pub replied : State → Call → Reply
replied s c = (perform view_of (carried_by s.books) (ready s.pool c) c).0

-- ---- the claim

-- at a point of a list: the books agree, and the pool is the version book's copy with plain view numbers
pub record Here (s : State) (p : PoolModel ℕ) : Type 0 where
  pub agrees : (id : ℕ) → Agrees (s.books id)
  pub same : p ≡ map_pool view_of s.pool

-- at every point, with each answer that of the pool
abbrev pub Throughout : State → PoolModel ℕ → List Call → Type 0
Throughout s p [] = Here s p
Throughout s p (c ∷ cs) = Here s p × ((call p c).0 ≡ replied s c) × Throughout (step s c) (call p c).1 cs

-- one claim about the list, whatever the calls, their arguments and their answers' buffers
unfoldable pub Demand3 : Type 0
Demand3 = (places : Places) (working : ℕ) (cs : List Call) → Renames (start places working) cs → Throughout (start places working) (opened places working) cs

-- the same of anything that takes calls, of whatever type, each of which stands for one of the model's: it answers each as the version book's copy
-- does, and the books agree at every point
module _ {S C : Type 0} (stands_for : C → Call) (calls : S → C → Reply × S) where
  abbrev pub ThroughoutOf : State → S → List C → Type 0
  ThroughoutOf s σ [] = (id : ℕ) → Agrees (s.books id)
  ThroughoutOf s σ (c ∷ cs) =
      ((id : ℕ) → Agrees (s.books id)) × ((calls σ c).0 ≡ replied s (stands_for c)) × ThroughoutOf (step s (stands_for c)) (calls σ c).1 cs
