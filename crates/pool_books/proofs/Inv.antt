-- The invariant of demand 3, and the calls that only take versions away.
use Prim.Native.Nat.{ℕ, ◌-◌, ◌≤◌}
use mathlib.Core.Path.{◌≡◌, refl, sym, subst}
use mathlib.Core.Bool.{Bool, true, false, cond, not, true≢false}
use mathlib.Core.Option.{Option, none, some}
use mathlib.Core.List.{List, [], ◌∷◌, ◌++◌, map}
use lib.ListN.{drop}
use lib.Dec.{leb, eqb}
use Rattle.base_blocks.specs.Lists.{keep}
use Rattle.base_blocks.specs.All.{All, nil, cons}
use Rattle.base_blocks.proofs.Lists.{either}
use Rattle.base_blocks.proofs.All.{all_mono, all_map, all_left, all_right, all_both, all_drop, all_keep}
use Rattle.grid_shapes.specs.declared.shape.VersionShape.{VersionShape}
use Rattle.pool_rules.specs.declared.held.Held.{Held}
use Rattle.pool_rules.specs.declared.held.Held.TheVariants.{Known}
use Rattle.pool_rules.specs.Model.{WriteHistory, Spare, Retiring, VersionState, PoolModel, Out, refused, accepted, guard}
use Rattle.pool_rules.specs.Formed.{Given, Ascending}
use Rattle.pool_rules.specs.Updates.{with_spares, with_due, with_textures, with_retiring}
use Rattle.pool_rules.specs.PopRetired.{pop_retired, pop_front, is_held}
use Rattle.pool_rules.specs.NoteAllocated.{note_allocated, Aged, count_of, picked_in, relieved}
use Rattle.pool_rules.specs.TakeDoomed.{take_doomed}
use Rattle.pool_rules.specs.DrainVersions.{drain_versions}
use Rattle.pool_rules.specs.Trim.{trim, aged, aged_count, thinned, idle as idle_now, looked_at}
use Rattle.pool_rules.specs.ForgetTexture.{forget_texture}
use Rattle.pool_rules.proofs.Histories.{HistoryOk}
use Rattle.pool_rules.proofs.States.{ascending_map, ascending_keep}
use Rattle.pool_books.specs.Texels.{Texel, Inside}
use Rattle.pool_books.specs.VersionBook.{Numbers, Retired, Book, Books}
use Rattle.pool_books.specs.Lists.{Phase, idle, taken, planned, State, just_pool}
use Rattle.pool_books.specs.Demand3.{Agrees}
use Rattle.pool_books.proofs.Laws.{Exists, given_mono, exists_mono}
use Rattle.pool_books.proofs.Good.{Good}

-- ---- the invariant

abbrev pub handed : Option (Retiring Retired) → List (Retiring Retired)
handed none = []
handed (some v) = v ∷ []

-- the retired versions that wait: in the queue or in the hand
abbrev pub waiting : PoolModel Retired → List (Retiring Retired)
waiting p = p.retiring ++ handed p.hand

abbrev pub GoodSpare : VersionShape → WriteHistory → Book → Spare Retired → Type 0
GoodSpare s h b v = Good s h b v.held v.view.numbers

abbrev pub GoodWaiting : VersionShape → WriteHistory → Book → Retiring Retired → Type 0
GoodWaiting s h b v = Good s h b (Known v.held) v.view.numbers

-- a history's versions: the spares, and those that wait and were retired under the same tracking
pub record VersionsOk (b : Book) (id : ℕ) (s : VersionShape) (epoch : ℕ) (spared : List (Spare Retired)) (rest : List (Retiring Retired)) (h : WriteHistory) : Type 0 where
  pub ok : HistoryOk s h
  pub spares : All (GoodSpare s h b) spared
  pub waits : All (λ (v : Retiring Retired). v.id ≡ id → v.epoch ≡ epoch → GoodWaiting s h b v) rest

pub record BookOk (rest : List (Retiring Retired)) (id : ℕ) (s : VersionShape) (epoch born : ℕ) (ho : Option WriteHistory) (spares : List (Spare Retired)) (b : Book) : Type 0 where
  pub shape : b.shape ≡ s
  pub birth : born ≤ b.before
  pub history : Given (VersionsOk b id s epoch spares rest) ho

-- a tracked texture has a book, in its shape
abbrev pub StateOk : Option Book → ℕ → List (Retiring Retired) → VersionState Retired → Type 0
StateOk o n rest t = (t.epoch ≤ n) × Exists (BookOk rest t.id t.shape t.epoch t.birth t.history t.spares) o

-- a version that waits was retired under a tracking of the past, and was born no later than the version book says
abbrev pub WaitOk : ℕ → Retiring Retired → Type 0
WaitOk n v = (v.epoch ≤ n) × (v.birth ≤ v.view.before)

-- inside a rename
abbrev pub TakenOk : ℕ → Held → Numbers → List (VersionState Retired) → VersionShape → Book → Type 0
TakenOk id held new ts shape b =
    (b.shape ≡ shape) × All (λ (t : VersionState Retired). t.id ≡ id → Given (λ h. HistoryOk t.shape h × Good t.shape h b held new) t.history) ts

abbrev pub PlannedOk : (ℕ → ℕ → Bool) → Numbers → Book → Type 0
PlannedOk skip new b =
    (t : Texel) → Inside b.shape t → b.left t.slice t.level ≡ false → skip t.slice t.level ≡ false → new t ≡ some (b.plain t)

abbrev pub PhaseOk : Books → List (VersionState Retired) → Phase → Type 0
PhaseOk books ts idle = Unit {0}
PhaseOk books ts (taken id shape held new) = Exists (TakenOk id held new ts shape) (books id)
PhaseOk books ts (planned id skip new) = Exists (PlannedOk skip new) (books id)

pub record Inv (p : PoolModel Retired) (books : Books) (ph : Phase) : Type 0 where
  pub ids : Ascending 0 p.textures
  pub states : All (λ (t : VersionState Retired). StateOk (books t.id) p.trackings (waiting p) t) p.textures
  pub waits : All (WaitOk p.trackings) (waiting p)
  pub agrees : (id : ℕ) → Agrees (books id)
  pub phase : PhaseOk books p.textures ph

abbrev pub InvOf : State → Type 0
InvOf s = Inv s.pool s.books s.phase

-- ---- outcomes

-- what is true of an accepted call
pub data OutOk {W A : Type 0} (P : A → PoolModel W → Type 0) : Out W A → Type 0 where
  nay : {n : ℕ} → OutOk P (refused n)
  ok : {a : A} {p : PoolModel W} → P a p → OutOk P (accepted a p)

pub guarded : {W A : Type 0} {P : A → PoolModel W → Type 0} (b : Bool) (n : ℕ) {o : Out W A} → OutOk P o → OutOk P (guard b n o)
unfolding guard
guarded true n k = nay
guarded false n k = k

-- with the test's failure in hand
pub guarded_by : {W A : Type 0} {P : A → PoolModel W → Type 0} (b : Bool) (n : ℕ) {o : Out W A} → (b ≡ false → OutOk P o) → OutOk P (guard b n o)
unfolding guard
guarded_by true n k = nay
guarded_by false n k = k refl

abbrev pub Keeps : {A : Type 0} → Books → Out Retired A → Type 0
Keeps {A} books o = OutOk {A = A} (λ a q. Inv q books idle) o

pub just_pool_lem : {A : Type 0} (s : State) (o : Out Retired A) → s.phase ≡ idle → InvOf s → Keeps s.books o → InvOf (just_pool s o)
just_pool_lem s (refused n) ph i k = i
just_pool_lem s (accepted a p) ph i (ok k) = rw ph k

-- ---- fewer versions

-- every property of these is one of those
abbrev pub Fewer : {A : Type 0} → List A → List A → Type 1
Fewer {A} vs ws = (P : A → Type 0) → All P ws → All P vs

pub fewer_spares : (o : Option Book) (n : ℕ) (rest : List (Retiring Retired)) (t : VersionState Retired) (vs : List (Spare Retired)) → Fewer vs t.spares
    → StateOk o n rest t → StateOk o n rest (with_spares vs t)
fewer_spares o n rest t vs f (e, x) = (
  e,
  exists_mono _ _ o (λ b k. record {
    shape = k.shape;
    birth = k.birth;
    history = given_mono _ _ t.history (λ h g. record { ok = g.ok; spares = f _ g.spares; waits = g.waits }) k.history;
  }) x,
)

pub fewer_waiting : (o : Option Book) (n : ℕ) (rest rest' : List (Retiring Retired)) (t : VersionState Retired) → Fewer rest' rest
    → StateOk o n rest t → StateOk o n rest' t
fewer_waiting o n rest rest' t f (e, x) = (
  e,
  exists_mono _ _ o (λ b k. record {
    shape = k.shape;
    birth = k.birth;
    history = given_mono _ _ t.history (λ h g. record { ok = g.ok; spares = g.spares; waits = f _ g.waits }) k.history;
  }) x,
)

module _ (p : PoolModel Retired) (books : Books) (i : Inv p books idle) where
  -- calls that alter no texture, no queue and no hand
  pub same_parts : (q : PoolModel Retired) → q.textures ≡ p.textures → q.retiring ≡ p.retiring → q.hand ≡ p.hand → q.trackings ≡ p.trackings → Inv q books idle
  same_parts q a b c d = record { ids = rw a i.ids; states = rw (a, b, c, d) i.states; waits = rw (b, c, d) i.waits; agrees = i.agrees; phase = tt }

  -- calls that take spares away
  pub fewer : (f : VersionState Retired → VersionState Retired) (q : PoolModel Retired) → q.textures ≡ map f p.textures → waiting q ≡ waiting p
      → q.trackings ≡ p.trackings → ((t : VersionState Retired) → (f t).id ≡ t.id)
      → ((o : Option Book) (n : ℕ) (rest : List (Retiring Retired)) (t : VersionState Retired) → StateOk o n rest t → StateOk o n rest (f t)) → Inv q books idle
  fewer f q a b c e k = record {
    ids = rw a (ascending_map f e i.ids);
    states = rw (a, b, c)
        (all_map f
        (λ t x. subst (λ (j : ℕ). StateOk (books j) p.trackings (waiting p) (f t)) (sym (e t)) (k (books t.id) p.trackings (waiting p) t x)) i.states);
    waits = rw (b, c) i.waits;
    agrees = i.agrees;
    phase = tt;
  }

  -- calls that drop textures
  pub kept : (f : VersionState Retired → Bool) (q : PoolModel Retired) → q.textures ≡ keep f p.textures → waiting q ≡ waiting p → q.trackings ≡ p.trackings
      → Inv q books idle
  kept f q a b c = record {
    ids = rw a (ascending_keep f i.ids);
    states = rw (a, b, c) (all_keep f i.states);
    waits = rw (b, c) i.waits;
    agrees = i.agrees;
    phase = tt;
  }

-- fewer versions that wait
pub less : (p q : PoolModel Retired) (books : Books) → Inv p books idle → q.textures ≡ p.textures → Fewer (waiting q) (waiting p) → q.trackings ≡ p.trackings
    → Inv q books idle
less p q books i a f c = record {
  ids = rw a i.ids;
  states = rw (a, c) (all_mono (λ t x. fewer_waiting (books t.id) p.trackings (waiting p) (waiting q) t f x) i.states);
  waits = rw c (f _ i.waits);
  agrees = i.agrees;
  phase = tt;
}

-- ---- the calls

look_id : (n : ℕ) (t : VersionState Retired) → (looked_at n t).id ≡ t.id
look_id n t = either (λ (u : VersionState Retired). u.id ≡ t.id) (aged n t.due) (with_due (cond (aged n t.rename) n t.rename) t) t (λ e. refl) (λ e. refl)

look_state : (n : ℕ) (o : Option Book) (m : ℕ) (rest : List (Retiring Retired)) (t : VersionState Retired) → StateOk o m rest t → StateOk o m rest (looked_at n t)
look_state n o m rest t x = either (StateOk o m rest) (aged n t.due) (with_due (cond (aged n t.rename) n t.rename) t) t (λ e. x) (λ e. x)

module _ (p : PoolModel Retired) (books : Books) (i : Inv p books idle) where
  relieve_inv : (chosen : List Aged) → Inv (relieved chosen p) books idle
  relieve_inv chosen =
      fewer p books i (λ t. with_spares (drop (count_of t.id chosen) t.spares) t) (relieved chosen p) refl refl refl (λ t. refl)
      (λ o m rest t x. fewer_spares o m rest t (drop (count_of t.id chosen) t.spares) (λ P a. all_drop (count_of t.id chosen) a) x)

  pub note_inv : (n : ℕ) → Keeps books (note_allocated p n)
  unfolding note_allocated
  note_inv n = let chosen = picked_in (n - p.budget.line) p in ok (same_parts (relieved chosen p) books (relieve_inv chosen) _ refl refl refl refl)

  pub doomed_inv : (n : ℕ) → Keeps books (take_doomed p n)
  unfolding take_doomed
  doomed_inv n = guarded _ _ (ok (same_parts p books i _ refl refl refl refl))

  pub drain_inv : (n : ℕ) → Keeps books (drain_versions p n)
  unfolding drain_versions
  drain_inv n =
      let q = with_retiring [] p.hand p in
      let j : Inv q books idle = less p q books i refl (λ P a. all_right p.retiring a) refl in
      guarded _ _ (ok (fewer q books j (with_spares []) _ refl refl refl (λ t. refl) (λ o m rest t x. fewer_spares o m rest t [] (λ P a. nil) x)))

  pub trim_inv : (n : ℕ) → Keeps books (trim p n)
  unfolding trim
  trim_inv n =
      let p1 = with_textures (map (thinned n) p.textures) p in
      let i1 : Inv p1 books idle =
      fewer p books i (thinned n) p1 refl refl refl (λ t. refl) (λ o m rest t x. fewer_spares o m rest t _ (λ P a. all_drop (aged_count n t.spares) a) x) in
      let p2 = with_textures (keep (λ (t : VersionState Retired). not (idle_now n t)) (map (thinned n) p.textures)) p in
      let i2 : Inv p2 books idle = kept p1 books i1 (λ t. not (idle_now n t)) p2 refl refl refl in
      guarded _ _ (ok (fewer p2 books i2 (looked_at n) _ refl refl refl (λ t. look_id n t) (λ o m rest t x. look_state n o m rest t x)))

  pub forget_inv : (n : ℕ) → Keeps books (forget_texture p n)
  unfolding forget_texture
  forget_inv n = ok (kept p books i (λ t. not (eqb t.id n)) _ refl refl refl)

  pub pop_inv : (n : ℕ) → Keeps books (pop_retired p n)
  unfolding pop_retired
  pop_inv n = guarded _ _ (hand p.hand refl)
    where
      queue : p.hand ≡ none → (q : List (Retiring Retired)) → p.retiring ≡ q → Keeps books (pop_front p n q)
      queue e [] f = ok i
      queue e (v ∷ vs) f =
          either (OutOk (λ (a : Option (Retiring Retired)) (q : PoolModel Retired). Inv q books idle)) (leb v.seq n) (accepted (some v) (with_retiring vs (some v) p))
          (accepted none p) (λ k. ok (less p (with_retiring vs (some v) p) books i refl (λ P a. turn P (rw (f, e) at a)) refl)) (λ k. ok i)
        where
          turn : (P : Retiring Retired → Type 0) → All P ((v ∷ vs) ++ []) → All P (vs ++ (v ∷ []))
          turn P (cons a rest) = all_both (all_left vs [] rest) (cons a nil)

      hand : (h : Option (Retiring Retired)) → p.hand ≡ h → Keeps books (guard (is_held h) 9 (pop_front p n p.retiring))
      hand (some v) e = guarded_by true 9 (λ q. absurd (true≢false q))
      hand none e = guarded _ _ (queue e p.retiring refl)
