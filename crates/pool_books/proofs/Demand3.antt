-- Demand 3, for the pool's model: every list of calls that keeps to renames, from any pool just opened.
use Prim.Native.Nat.{ℕ, suc}
use mathlib.Core.Path.{◌≡◌, refl, sym, ◌∙◌, ap}
use mathlib.Core.Bool.{Bool, not, ◌&&◌}
use mathlib.Core.Option
use mathlib.Core.Option.{Option, none, some}
use mathlib.Core.List.{List, [], ◌∷◌, map}
use lib.Dec.{leb, eqb}
use Rattle.base_blocks.specs.All.{nil}
use Rattle.base_blocks.proofs.Lists.{either}
use Rattle.grid_shapes.specs.declared.shape.VersionShape.{VersionShape}
use Rattle.pool_rules.specs.declared.held.Held.{Held}
use Rattle.pool_rules.specs.Model.{Spare, Retiring, Places, PoolModel, Out, refused, accepted, PreserveCopy, UploadFootprint}
use Rattle.pool_rules.specs.Formed.{end}
use Rattle.pool_rules.specs.Updates.{with_retiring}
use Rattle.pool_rules.specs.TakeSpare.{take_spare}
use Rattle.pool_rules.specs.PreservePlan.{preserve_plan}
use Rattle.pool_rules.specs.Retire.{retire}
use Rattle.pool_rules.specs.NoteWrite.{note_write, note_mip_regeneration}
use Rattle.pool_rules.specs.PopRetired.{pop_retired}
use Rattle.pool_rules.specs.Park.{park}
use Rattle.pool_rules.specs.NoteAllocated.{note_allocated}
use Rattle.pool_rules.specs.TakeDoomed.{take_doomed}
use Rattle.pool_rules.specs.DrainVersions.{drain_versions}
use Rattle.pool_rules.specs.Trim.{trim}
use Rattle.pool_rules.specs.ForgetTexture.{forget_texture}
use Rattle.pool_rules.specs.Open.{opened}
use Rattle.pool_books.specs.VersionBook.{Numbers, Retired, Book, live_of, copied, skipped, carried_by, lost_hand}
use Rattle.pool_books.specs.Carry.{map_retiring, map_spare, map_pool}
use Rattle.pool_books.specs.Lists.{Between, write_call, regen_call, pop_call, park_call, note_call, doomed_call, drain_call, trim_call, forget_call, Call, take_call, plan_call, retire_call, between, Phase, idle, taken, planned}
use Rattle.pool_books.specs.Lists.{Allowed, State, after_take, after_plan, after_retire, rename_in, just_pool, marking, step_between, step, run, Renames, start}
use Rattle.pool_books.specs.Demand3.{Agrees, Reply, done, copies_planned, views_handed, answered, spare_reply, popped_reply, views_reply, perform_between, perform, call, view_of, replied, Throughout, Demand3}
use Rattle.pool_books.proofs.Inv.{Inv, InvOf, OutOk, ok, just_pool_lem, note_inv, doomed_inv, drain_inv, trim_inv, forget_inv, pop_inv}
use Rattle.pool_books.proofs.Marks.{Marks, write_inv, regenerate_inv, park_inv}
use Rattle.pool_books.proofs.Renames.{Takes, take_inv, plan_inv}
use Rattle.pool_books.proofs.Retires.{retire_inv}
use Rattle.pool_books.proofs.Mapped.{map_over}
use Rattle.pool_books.proofs.Natural.{Carried, alike, alike_no, take_map, plan_map, retire_map, write_map, regenerate_map, pop_map, park_map}
use Rattle.pool_books.proofs.NaturalOut.{note_map, doomed_map, drain_map, trim_map, forget_map}

-- ---- the invariant holds after each call

marks : (s : State) (f : ℕ → Book → Book) (id : ℕ) (o : Out Retired (Unit {0})) → s.phase ≡ idle → InvOf s → Marks (f (suc s.count)) id s.books o → InvOf (marking s f id o)
unfolding marking
marks s f id (refused n) ph i k = i
marks s f id (accepted a p) ph i (ok k) = rw ph k

idle_inv : (s : State) → s.phase ≡ idle → InvOf s → Inv s.pool s.books idle
idle_inv s ph i = rw ph at i

between_step : (s : State) (c : Between) → s.phase ≡ idle → InvOf s → InvOf (step_between s c)
unfolding step_between
between_step s (write_call id slice level r) ph i = marks s _ id _ ph i (write_inv s.pool s.books (idle_inv s ph i) (suc s.count) id slice level r)
between_step s (regen_call id) ph i = marks s _ id _ ph i (regenerate_inv s.pool s.books (idle_inv s ph i) (suc s.count) id)
between_step s (pop_call settled) ph i = just_pool_lem s _ ph i (pop_inv s.pool s.books (idle_inv s ph i) settled)
between_step s (park_call failed now) ph i = just_pool_lem s _ ph i (park_inv s.pool s.books (idle_inv s ph i) failed now)
between_step s (note_call allocated) ph i = just_pool_lem s _ ph i (note_inv s.pool s.books (idle_inv s ph i) allocated)
between_step s (doomed_call buffer) ph i = just_pool_lem s _ ph i (doomed_inv s.pool s.books (idle_inv s ph i) buffer)
between_step s (drain_call buffer) ph i = just_pool_lem s _ ph i (drain_inv s.pool s.books (idle_inv s ph i) buffer)
between_step s (trim_call now) ph i = just_pool_lem s _ ph i (trim_inv s.pool s.books (idle_inv s ph i) now)
between_step s (forget_call id) ph i = just_pool_lem s _ ph i (forget_inv s.pool s.books (idle_inv s ph i) id)

-- a refusal ends the rename
stop : (s : State) → InvOf s → Inv s.pool s.books idle
stop s i = record { ids = i.ids; states = i.states; waits = i.waits; agrees = i.agrees; phase = tt }

take_step : (s : State) (id : ℕ) (sh : VersionShape) (o : Out Retired (Option (Spare Retired))) → InvOf s → Takes id sh s.books o → InvOf (after_take s id sh o)
unfolding after_take
take_step s id sh (refused n) i k = stop s i
take_step s id sh (accepted a p) i (ok k) = k

plan_step : (s : State) (id : ℕ) (sh : VersionShape) (held : Held) (new : Numbers) (u : UploadFootprint) (o : Out Retired (List PreserveCopy))
    → s.phase ≡ taken id sh held new → InvOf s
    → OutOk (λ cs q. Inv q s.books (planned id (skipped u cs) (copied cs (live_of (s.books id)) new))) o → InvOf (after_plan s u o)
unfolding after_plan
plan_step s id sh held new u (refused n) ph i k = stop s i
plan_step s id sh held new u (accepted cs p) ph i (ok k) = rw ph k

retire_step : (s : State) (seq id : ℕ) (u : ℕ → ℕ → Bool) (new : Numbers) (o : Out Retired (Unit {0})) → s.phase ≡ planned id u new → InvOf s
    → OutOk (λ a q. Inv q (rename_in seq (planned id u new) s.books) idle) o → InvOf (after_retire s seq o)
unfolding after_retire
retire_step s seq id u new (refused n) ph i k = stop s i
retire_step s seq id u new (accepted a p) ph i (ok k) = rw ph k

keeps : (s : State) (c : Call) → InvOf s → Allowed s.phase c → InvOf (step s c)
unfolding step
keeps s c i a = go s.phase refl c a
  where
    go : (ph : Phase) → s.phase ≡ ph → (c : Call) → Allowed ph c → InvOf (step s c)
    go idle e (take_call id sh records seq) a = take_step s id sh _ i (take_inv s.pool s.books (stop s i) id sh records seq)
    go idle e (plan_call id sh held u buffer) a = absurd a
    go idle e (retire_call id view seq) a = absurd a
    go idle e (between c) a = between_step s c e i
    go (taken id sh held new) e (take_call id' sh' records seq) a = absurd a
    go (taken id sh held new) e (plan_call id' sh' held' u buffer) a =
        rw (a.0, a.1, a.2) (plan_step s id sh held new u _ e i (plan_inv s.pool s.books id sh held new (rw e at i) u buffer))
    go (taken id sh held new) e (retire_call id' view seq) a = absurd a
    go (taken id sh held new) e (between c) a = absurd a
    go (planned id u new) e (take_call id' sh' records seq) a = absurd a
    go (planned id u new) e (plan_call id' sh' held' u' buffer) a = absurd a
    go (planned id u new) e (retire_call id' view seq) a = rw a (retire_step s seq id u new _ e i (retire_inv s.pool s.books id u new (rw e at i) view seq))
    go (planned id u new) e (between c) a = absurd a

start_inv : (places : Places) (working : ℕ) → InvOf (start places working)
unfolding start Agrees
start_inv places working = record { ids = end; states = nil; waits = nil; agrees = λ id. tt; phase = tt }

-- ---- the pool of plain view numbers and the version book's copy answer alike

same_answer : {A B : Type 0} (g : A → B) (fr : A → Reply) (fr' : B → Reply) (carry : ℕ → ℕ → Retired) → ((a : A) → fr' (g a) ≡ fr a) → (p0 p1 : PoolModel Retired)
    {o : Out Retired A} {o' : Out ℕ B} → Carried view_of g o o'
    → answered (λ (n : ℕ). n) (λ (id n : ℕ). n) fr' (map_pool view_of p0) o' ≡ ((answered view_of carry fr p1 o).0, map_pool view_of (answered view_of carry fr p0 o).1)
same_answer g fr fr' carry e p0 p1 alike_no = refl
same_answer g fr fr' carry e p0 p1 (alike {a = a} f q) = λ i. ((ap fr' f ∙ e a) i, q i)

module _ (s : State) where
  spare_same : (o : Option (Spare Retired)) → spare_reply (λ (n : ℕ). n) (λ (id n : ℕ). n) (Option.map (map_spare view_of) o) ≡ spare_reply view_of (carried_by s.books) o
  spare_same none = refl
  spare_same (some v) = refl

  popped_same : (o : Option (Retiring Retired)) → popped_reply (λ (n : ℕ). n) (λ (id n : ℕ). n) (Option.map (map_retiring view_of) o) ≡ popped_reply view_of (carried_by s.books) o
  popped_same none = refl
  popped_same (some v) = refl

  views_same : (vs : List Retired) → views_reply (λ (n : ℕ). n) (λ (id n : ℕ). n) (map view_of vs) ≡ views_reply view_of (carried_by s.books) vs
  views_same vs = ap views_handed (map_over view_of (λ (n : ℕ). n) view_of (λ r. refl) vs)

  -- a step leaves the pool that the outcome has
  take_pool : (id : ℕ) (sh : VersionShape) (o : Out Retired (Option (Spare Retired)))
      → (answered view_of (carried_by s.books) (spare_reply view_of (carried_by s.books)) s.pool o).1 ≡ (after_take s id sh o).pool
  unfolding after_take
  take_pool id sh (refused n) = refl
  take_pool id sh (accepted a p) = refl

  plan_pool : (u : UploadFootprint) (o : Out Retired (List PreserveCopy)) → (answered view_of (carried_by s.books) copies_planned s.pool o).1 ≡ (after_plan s u o).pool
  unfolding after_plan
  plan_pool u (refused n) = refl
  plan_pool u (accepted a p) = refl

  retire_pool : (seq : ℕ) (o : Out Retired (Unit {0})) → (answered view_of (carried_by s.books) (λ a. done) s.pool o).1 ≡ (after_retire s seq o).pool
  unfolding after_retire
  retire_pool seq (refused n) = refl
  retire_pool seq (accepted a p) = refl

  just_same : {A : Type 0} (f : A → Reply) (o : Out Retired A) → (answered view_of (carried_by s.books) f s.pool o).1 ≡ (just_pool s o).pool
  just_same f (refused n) = refl
  just_same f (accepted a p) = refl

  marking_same : (f : ℕ → Book → Book) (id : ℕ) (o : Out Retired (Unit {0})) → (answered view_of (carried_by s.books) (λ a. done) s.pool o).1 ≡ (marking s f id o).pool
  unfolding marking
  marking_same f id (refused n) = refl
  marking_same f id (accepted a p) = refl

  abbrev Mirrors : Call → Type 0
  Mirrors c = call (map_pool view_of s.pool) c ≡ (replied s c, map_pool view_of (step s c).pool)

  lost_same : (failed : ℕ) (h : Option (Retiring Retired)) → Option.map (map_retiring view_of) (lost_hand failed h) ≡ Option.map (map_retiring view_of) h
  lost_same failed none = refl
  lost_same failed (some v) =
      ap (λ (n : ℕ). some (record { id = v.id; view = n; seq = v.seq; epoch = v.epoch; birth = v.birth; held = v.held; bytes = v.bytes }))
      (either (λ (r : Retired). r.view ≡ v.view.view) (not (eqb failed 0) && leb v.view.before failed) _ _ (λ e. refl) (λ e. refl))

  then : {x : Reply × PoolModel ℕ} {r : Reply} {p q : PoolModel Retired} → x ≡ (r, map_pool view_of p) → p ≡ q → x ≡ (r, map_pool view_of q)
  then {r = r} a b = a ∙ ap (λ (z : PoolModel Retired). (r, map_pool view_of z)) b

  mirror_between : (c : Between) → Mirrors (between c)
  unfolding step perform perform_between step_between
  mirror_between (write_call id slice level r) =
      then (same_answer _ _ _ (carried_by s.books) (λ a. refl) s.pool s.pool (write_map view_of s.pool id slice level r))
      (marking_same _ id (note_write s.pool id slice level r))
  mirror_between (regen_call id) =
      then (same_answer _ _ _ (carried_by s.books) (λ a. refl) s.pool s.pool (regenerate_map view_of s.pool id)) (marking_same _ id (note_mip_regeneration s.pool id))
  mirror_between (pop_call settled) =
      then (same_answer _ _ _ (carried_by s.books) popped_same s.pool s.pool (pop_map view_of s.pool settled))
      (just_same (popped_reply view_of (carried_by s.books)) (pop_retired s.pool settled))
  mirror_between (park_call failed now) =
      let p1 = with_retiring s.pool.retiring (lost_hand failed s.pool.hand) s.pool in
      let e : map_pool view_of p1 ≡ map_pool view_of s.pool =
      λ i. with_retiring (map (map_retiring view_of) s.pool.retiring) (lost_same failed s.pool.hand i) (map_pool view_of s.pool) in
      then
      (ap (λ (z : PoolModel ℕ). answered (λ (n : ℕ). n) (λ (id n : ℕ). n) {A = Unit {0}} (λ a. done) (map_pool view_of s.pool) (park z failed now)) (sym e)
      ∙ same_answer _ _ _ (carried_by s.books) (λ a. refl) s.pool p1 (park_map view_of p1 failed now))
      (just_same {A = Unit {0}} (λ a. done) (park p1 failed now))
  mirror_between (note_call allocated) =
      then (same_answer _ _ _ (carried_by s.books) (λ a. refl) s.pool s.pool (note_map view_of s.pool allocated))
      (just_same {A = Unit {0}} (λ a. done) (note_allocated s.pool allocated))
  mirror_between (doomed_call buffer) =
      then (same_answer _ _ _ (carried_by s.books) views_same s.pool s.pool (doomed_map view_of s.pool buffer))
      (just_same (views_reply view_of (carried_by s.books)) (take_doomed s.pool buffer))
  mirror_between (drain_call buffer) =
      then (same_answer _ _ _ (carried_by s.books) views_same s.pool s.pool (drain_map view_of s.pool buffer))
      (just_same (views_reply view_of (carried_by s.books)) (drain_versions s.pool buffer))
  mirror_between (trim_call now) =
      then (same_answer _ _ _ (carried_by s.books) (λ a. refl) s.pool s.pool (trim_map view_of s.pool now)) (just_same {A = Unit {0}} (λ a. done) (trim s.pool now))
  mirror_between (forget_call id) =
      then (same_answer _ _ _ (carried_by s.books) (λ a. refl) s.pool s.pool (forget_map view_of s.pool id))
      (just_same {A = Unit {0}} (λ a. done) (forget_texture s.pool id))

  mirror : (c : Call) → Mirrors c
  unfolding step perform
  mirror (take_call id sh records seq) =
      then (same_answer _ _ _ (carried_by s.books) spare_same s.pool s.pool (take_map view_of s.pool id sh records seq))
      (take_pool id sh (take_spare s.pool id sh records seq))
  mirror (plan_call id sh held u buffer) =
      then (same_answer _ _ _ (carried_by s.books) (λ a. refl) s.pool s.pool (plan_map view_of s.pool id sh held u buffer))
      (plan_pool u (preserve_plan s.pool id sh held u buffer))
  mirror (retire_call id view seq) =
      then (same_answer _ _ _ (carried_by s.books) (λ a. refl) s.pool s.pool (retire_map view_of s.pool id (carried_by s.books id view) seq))
      (retire_pool seq (retire s.pool id (carried_by s.books id view) seq))
  mirror (between c) = mirror_between c

-- ---- along the list

throughout : (s : State) (p : PoolModel ℕ) (cs : List Call) → p ≡ map_pool view_of s.pool → InvOf s → Renames s cs → Throughout s p cs
unfolding Renames
throughout s p [] e i k = record { agrees = i.agrees; same = e }
throughout s p (c ∷ cs) e i k =
    let m : call p c ≡ (replied s c, map_pool view_of (step s c).pool) = ap (λ (z : PoolModel ℕ). call z c) e ∙ mirror s c in
    (record { agrees = i.agrees; same = e }, ap (λ (z : Reply × PoolModel ℕ). z.0) m, throughout (step s c) (call p c).1 cs (ap (λ (z : Reply × PoolModel ℕ). z.1) m) (keeps s c i k.0) k.1)

pub demand3 : Demand3
unfolding Demand3 start
demand3 places working cs k = throughout (start places working) (opened places working) cs refl (start_inv places working) k

-- so after any list the books of every id agree
agree_run : (s : State) (p : PoolModel ℕ) (cs : List Call) → Throughout s p cs → (id : ℕ) → Agrees ((run s cs).books id)
unfolding run
agree_run s p [] t id = t.agrees id
agree_run s p (c ∷ cs) t id = agree_run (step s c) (call p c).1 cs t.2 id

pub agree_after : (places : Places) (working : ℕ) (cs : List Call) → Renames (start places working) cs → (id : ℕ) → Agrees ((run (start places working) cs).books id)
unfolding Demand3
agree_after places working cs k id = agree_run (start places working) (opened places working) cs (demand3 places working cs k) id
