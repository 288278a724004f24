-- Demand 3 carried to anything that answers as the pool's model does. It owes one lemma for each call: on what represents a formed pool, the
-- same answer, and a representation of the pool that the model leaves.
use Prim.Native.Nat.{ℕ}
use mathlib.Core.Path.{◌≡◌, ◌∙◌}
use mathlib.Core.Bool.{true}
use mathlib.Core.List.{List, [], ◌∷◌, map}
use Rattle.pool_rules.specs.Model.{PoolModel, Places, Out, refused, accepted}
use Rattle.pool_rules.specs.Formed.{Formed}
use Rattle.pool_rules.specs.Closed.{OutFormed, formed}
use Rattle.pool_rules.specs.Open.{are_places, opened}
use Rattle.pool_rules.proofs.Closure.{closed, opened_formed}
use Rattle.pool_books.specs.Lists.{Between, write_call, regen_call, pop_call, park_call, note_call, doomed_call, drain_call, trim_call, forget_call, Call, take_call, plan_call, retire_call, between, State, step, Renames, start}
use Rattle.pool_books.specs.Demand3.{Reply, answered, perform, perform_between, call, Throughout, ThroughoutOf, Demand3}
use Rattle.pool_books.proofs.Demand3.{demand3}

-- ---- a call, refused or not, leaves a formed pool

answer_formed : {A : Type 0} (f : A → Reply) (p : PoolModel ℕ) → Formed p → (o : Out ℕ A) → OutFormed o → Formed (answered (λ (n : ℕ). n) (λ (id n : ℕ). n) f p o).1
answer_formed f p k (refused n) o = k
answer_formed f p k (accepted a q) (formed o) = o

between_formed : (p : PoolModel ℕ) → Formed p → (c : Between) → Formed (perform_between (λ (n : ℕ). n) (λ (id n : ℕ). n) p c).1
unfolding perform_between
between_formed p k (write_call id slice level r) = answer_formed _ p k _ ((closed p k).note_write_lem id slice level r)
between_formed p k (regen_call id) = answer_formed _ p k _ ((closed p k).note_mip_regeneration_lem id)
between_formed p k (pop_call settled) = answer_formed _ p k _ ((closed p k).pop_retired_lem settled)
between_formed p k (park_call failed now) = answer_formed _ p k _ ((closed p k).parks failed now)
between_formed p k (note_call allocated) = answer_formed _ p k _ ((closed p k).note_allocated_lem allocated)
between_formed p k (doomed_call buffer) = answer_formed _ p k _ ((closed p k).take_doomed_lem buffer)
between_formed p k (drain_call buffer) = answer_formed _ p k _ ((closed p k).drain_versions_lem buffer)
between_formed p k (trim_call now) = answer_formed _ p k _ ((closed p k).trims now)
between_formed p k (forget_call id) = answer_formed _ p k _ ((closed p k).forget_texture_lem id)

pub call_formed : (p : PoolModel ℕ) → Formed p → (c : Call) → Formed (call p c).1
unfolding perform
call_formed p k (take_call id sh records seq) = answer_formed _ p k _ ((closed p k).take_spare_lem id sh records seq)
call_formed p k (plan_call id sh held u buffer) = answer_formed _ p k _ ((closed p k).preserve_plan_lem id sh held u buffer)
call_formed p k (retire_call id view seq) = answer_formed _ p k _ ((closed p k).retires id view seq)
call_formed p k (between c) = between_formed p k c

-- ---- demand 3 of what represents the pool

module _ {S C : Type 0} (stands_for : C → Call) (calls : S → C → Reply × S) (Represents : S → PoolModel ℕ → Type 0)
    (simulates : (σ : S) (p : PoolModel ℕ) (c : C) → Formed p → Represents σ p
    → ((calls σ c).0 ≡ (call p (stands_for c)).0) × Represents (calls σ c).1 (call p (stands_for c)).1) where
  along : (s : State) (p : PoolModel ℕ) (σ : S) (cs : List C) → Formed p → Represents σ p → Throughout s p (map stands_for cs)
      → ThroughoutOf stands_for calls s σ cs
  along s p σ [] k r t = t.agrees
  along s p σ (c ∷ cs) k r t = (
    t.0.agrees,
    (simulates σ p c k r).0 ∙ t.1,
    along (step s (stands_for c)) (call p (stands_for c)).1 (calls σ c).1 cs (call_formed p k (stands_for c)) (simulates σ p c k r).1 t.2,
  )

  pub demand3_of : (places : Places) → are_places places ≡ true → (working : ℕ) (σ : S) → Represents σ (opened places working) → (cs : List C)
      → Renames (start places working) (map stands_for cs) → ThroughoutOf stands_for calls (start places working) σ cs
  unfolding Demand3
  demand3_of places enough working σ r cs list =
      along (start places working) (opened places working) σ cs (opened_formed places enough working) r (demand3 places working (map stands_for cs) list)
