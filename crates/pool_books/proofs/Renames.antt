-- The invariant under a rename's take and plan.
use Prim.Native.Nat.{ℕ, suc, ◌≤◌}
use mathlib.Core.Path.{◌≡◌, refl, sym, ◌∙◌, ap, subst}
use mathlib.Core.Bool.{Bool, true, false, cond, not, false≢true}
use mathlib.Core.Option.{Option, none, some}
use mathlib.Core.List.{List}
use native.Mathlib.Omega.{arith}
use lib.Dec.{eqb}
use borrow.Author.Tests.{eqb-true, eqb-false}
use Rattle.base_blocks.specs.All.{All, nil}
use Rattle.base_blocks.proofs.Lists.{either}
use Rattle.base_blocks.proofs.All.{all_mono}
use Rattle.grid_shapes.specs.declared.shape.VersionShape.{VersionShape}
use Rattle.grid_shapes.specs.Shapes.{is_shape, same_shape}
use Rattle.grid_shapes.proofs.Shapes.{same_shape_lem, same_self}
use Rattle.pool_rules.specs.declared.held.Held.{Held}
use Rattle.pool_rules.specs.declared.held.Held.TheVariants.{Unknown}
use Rattle.pool_rules.specs.Model.{WriteHistory, Spare, Retiring, VersionState, PoolModel, Out, find, UploadFootprint}
use Rattle.pool_rules.specs.Formed.{Given, Ascending}
use Rattle.pool_rules.specs.Updates.{with_spares, with_rename, with_textures, with_parked, change}
use Rattle.pool_rules.specs.Histories.{new_history}
use Rattle.pool_rules.specs.TakeSpare.{new_state, take_new, take_renewed, take_tracked, take_found, take_spare, newest, others}
use Rattle.pool_rules.specs.PreservePlan.{plan_with, plan_found, preserve_plan}
use Rattle.pool_rules.proofs.Lists.{all_pairs}
use Rattle.pool_rules.proofs.States.{ascending_change, ascending_insert, all_insert, find_all, find_none, find_only}
use Rattle.pool_rules.proofs.Histories.{HistoryOk, new_ok}
use Rattle.pool_books.specs.Texels.{Texel, Inside}
use Rattle.pool_books.specs.VersionBook.{Numbers, Retired, Book, Books, put, new_book, start_book, held_by_spare, numbers_of, live_of, copied, skipped}
use Rattle.pool_books.specs.Lists.{idle, taken, planned}
use Rattle.pool_books.specs.Demand3.{Agrees}
use Rattle.pool_books.proofs.Laws.{given_mono, all_newest, all_others, all_changed, found_id}
use Rattle.pool_books.proofs.Good.{Good, rename_good, uncovered}
use Rattle.pool_books.proofs.Inv.{waiting, GoodSpare, StateOk, TakenOk, Inv, OutOk, ok, guarded, guarded_by, fewer_spares}
use Rattle.pool_books.proofs.Marks.{put_same, put_other}

passed_not : (b : Bool) → not b ≡ false → b ≡ true
passed_not true e = refl
passed_not false e = absurd (false≢true (sym e))

up : {a c : ℕ} → a ≤ c → a ≤ suc c
up h = omega arith

-- ---- the take

-- books of which one id's, at least, is in the shape: what an accepted take leaves
pub record Started (books books' : Books) (id : ℕ) (sh : VersionShape) : Type 0 where
  pub book : Book
  pub here : books' id ≡ some book
  pub shape : book.shape ≡ sh
  pub agree : Agrees (some book)
  pub others : (j : ℕ) → (j ≡ id → ⊥) → books' j ≡ books j

new_agrees : (sh : VersionShape) (n : ℕ) → Agrees (some (new_book sh n))
unfolding Agrees
new_agrees sh n = λ t i left. refl

started : (books : Books) (id : ℕ) (sh : VersionShape) → ((j : ℕ) → Agrees (books j)) → Started books (start_book id sh (books id) books) id sh
unfolding start_book
started books id sh ag = go (books id) refl
  where
    anew : (n : ℕ) → Started books (put id (new_book sh n) books) id sh
    anew n = record {
      book = new_book sh n;
      here = put_same id (new_book sh n) books id refl;
      shape = refl;
      agree = new_agrees sh n;
      others = λ j ne. put_other id (new_book sh n) books j ne;
    }

    go : (o : Option Book) → books id ≡ o → Started books (start_book id sh o books) id sh
    go none e = anew 0
    go (some b) e =
        either (λ (bs : Books). Started books bs id sh) (same_shape b.shape sh) books (put id (new_book sh b.before) books)
        (λ q. record { book = b; here = e; shape = same_shape_lem b.shape sh q; agree = subst (λ (o : Option Book). Agrees o) e (ag id); others = λ j ne. refl })
        (λ q. anew b.before)

abbrev pub Takes : ℕ → VersionShape → Books → Out Retired (Option (Spare Retired)) → Type 0
Takes id sh books o = OutOk (λ a q. Inv q (start_book id sh (books id) books) (taken id sh (held_by_spare a) (numbers_of a))) o

more_trackings : (books books' : Books) (n : ℕ) (rest : List (Retiring Retired)) (t : VersionState Retired) → books' t.id ≡ books t.id
    → StateOk (books t.id) n rest t → StateOk (books' t.id) (suc n) rest t
more_trackings books books' n rest t e x = subst (λ (o : Option Book). StateOk o (suc n) rest t) (sym e) (up x.0, x.1)

module _ (p : PoolModel Retired) (books : Books) (i : Inv p books idle) (id : ℕ) (sh : VersionShape) (shaped : is_shape sh ≡ true) (records : Bool) (seq : ℕ) where
  abbrev begun : VersionState Retired
  begun = new_state id sh records (suc p.trackings) seq

  -- a tracking just begun
  module _ (books' : Books) (st : Started books books' id sh) where
    begun_history : (P : WriteHistory → Type 0) → P (new_history sh) → Given P (cond records (some (new_history sh)) none)
    begun_history P k = either (Given P) records (some (new_history sh)) none (λ e. k) (λ e. tt)

    -- no version that waits was retired under it
    begun_ok : StateOk (books' id) (suc p.trackings) (waiting p) (new_state id sh records (suc p.trackings) seq)
    begun_ok = rw st.here (
      omega arith,
      record {
        shape = st.shape;
        birth = omega arith;
        history = begun_history _
            (record { ok = new_ok sh shaped; spares = nil; waits = all_mono (λ v f e1 e2. absurd (late v.epoch p.trackings f.0 e2)) i.waits });
      },
    )
      where
        late : (a n : ℕ) → a ≤ n → a ≡ suc n → ⊥
        late a n h e = omega arith

    -- the states are those that were there, but for the new one
    take_begun : (q : PoolModel Retired) → Ascending 0 q.textures → All (λ (t : VersionState Retired). StateOk (books' t.id) (suc p.trackings) (waiting p) t) q.textures
        → All (λ (t : VersionState Retired). t.id ≡ id → t ≡ new_state id sh records (suc p.trackings) seq) q.textures → waiting q ≡ waiting p
        → q.trackings ≡ suc p.trackings → Inv q books' (taken id sh Unknown (λ t. none))
    take_begun q ids states only ef et = record {
      ids = ids;
      states = rw (ef, et) states;
      waits = rw (ef, et) (all_mono (λ v f. (up f.0, f.1)) i.waits);
      agrees = λ j. every j (eqb j id) refl;
      phase = rw st.here (st.shape, all_mono (λ t o e. history t (o e)) only);
    }
      where
        every : (j : ℕ) (c : Bool) → eqb j id ≡ c → Agrees (books' j)
        every j true e = subst (λ (o : Option Book). Agrees o) (sym (ap books' (eqb-true _ _ e) ∙ st.here)) st.agree
        every j false e = subst (λ (o : Option Book). Agrees o) (sym (st.others j (eqb-false _ _ e))) (i.agrees j)

        history : (t : VersionState Retired) → t ≡ new_state id sh records (suc p.trackings) seq
            → Given (λ h. HistoryOk t.shape h × Good t.shape h st.book Unknown (λ t. none)) t.history
        history t e =
            subst (λ (t : VersionState Retired). Given (λ h. HistoryOk t.shape h × Good t.shape h st.book Unknown (λ t. none)) t.history) (sym e)
            (begun_history _ (new_ok sh shaped, tt))

  begins : Started books (start_book id sh (books id) books) id sh
  begins = started books id sh i.agrees

  new_inv : find id p.textures ≡ none → Takes id sh books (take_new p id sh records seq)
  new_inv e =
      guarded _ _
      (guarded _ _
      (guarded _ _
      (ok
      (take_begun (start_book id sh (books id) books) begins _ (ascending_insert begun (omega arith) away i.ids)
      (all_insert begun (begun_ok (start_book id sh (books id) books) begins)
      (all_mono (λ t x. more_trackings books (start_book id sh (books id) books) p.trackings (waiting p) t (begins.others t.id x.0) x.1) (all_pairs away i.states)))
      (all_insert begun (λ q. refl) (all_mono (λ t ne q. absurd (ne q)) away)) refl refl))))
    where
      away : All (λ (t : VersionState Retired). t.id ≡ id → ⊥) p.textures
      away = find_none id p.textures e

  renewed_inv : (t : VersionState Retired) → Takes id sh books (take_renewed p id sh records seq t)
  renewed_inv t =
      guarded _ _
      (guarded _ _
      (ok
      (take_begun (start_book id sh (books id) books) begins _ (ascending_change id (λ u. begun) (λ u q. sym q) i.ids)
      (all_changed id (λ u. begun) (λ u q x. begun_ok (start_book id sh (books id) books) begins)
      (λ u q x. more_trackings books (start_book id sh (books id) books) p.trackings (waiting p) u (begins.others u.id q) x) i.states)
      (all_changed id (λ u. begun) (λ u q x k. refl) (λ u q x k. absurd (q k)) i.states) refl refl)))

  -- the newest spare is good
  newest_good : (s : VersionShape) (h : WriteHistory) (b : Book) (vs : List (Spare Retired)) → All (GoodSpare s h b) vs → Good s h b (held_by_spare (newest vs)) (numbers_of (newest vs))
  newest_good s h b vs a = go (newest vs) (all_newest (GoodSpare s h b) a)
    where
      go : (o : Option (Spare Retired)) → Given (GoodSpare s h b) o → Good s h b (held_by_spare o) (numbers_of o)
      go none k = tt
      go (some v) k = k

  tracked_inv : (t : VersionState Retired) → find id p.textures ≡ some t → t.shape ≡ sh → Takes id sh books (take_tracked p id seq t)
  unfolding start_book
  tracked_inv t ef es = ok (go _ (books id) refl)
    where
      g : VersionState Retired → VersionState Retired
      g u = with_rename seq (with_spares (others u.spares) u)

      state : StateOk (books t.id) p.trackings (waiting p) t
      state = find_all (λ u. StateOk (books u.id) p.trackings (waiting p) u) id t p.textures i.states ef

      at_book : (u : VersionState Retired) (b : Book) → u.id ≡ id → books id ≡ some b → StateOk (books u.id) p.trackings (waiting p) u
          → StateOk (some b) p.trackings (waiting p) u
      at_book u b q e x = subst (λ (o : Option Book). StateOk o p.trackings (waiting p) u) (ap books q ∙ e) x

      go : (n : ℕ) (o : Option Book) → books id ≡ o
          → Inv (with_parked n (with_textures (change id g p.textures) p)) (start_book id sh o books) (taken id sh (held_by_spare (newest t.spares)) (numbers_of (newest t.spares)))
      go n none e = absurd (subst (λ (o : Option Book). StateOk o p.trackings (waiting p) t) (ap books (found_id id t p.textures ef) ∙ e) state).1
      go n (some b) e =
          let bsh : b.shape ≡ sh = (at_book t b (found_id id t p.textures ef) e state).1.shape ∙ es in
          let same : same_shape b.shape sh ≡ true = rw bsh (same_self sh) in
          rw same (record {
            ids = ascending_change id g (λ u q. refl) i.ids;
            states = all_changed id g (λ u q x. fewer_spares (books u.id) p.trackings (waiting p) u (others u.spares) (λ P a. all_others a) x) (λ u q x. x) i.states;
            waits = i.waits;
            agrees = i.agrees;
            phase = rw e (
              bsh,
              all_changed id g
                  (λ u q x k. given_mono _ _ u.history (λ h gd. (
                    gd.ok,
                    rw (ap (λ (w : VersionState Retired). w.spares) (sym (x.0 q)))
                        (newest_good u.shape h b u.spares gd.spares),
                  )) (at_book u b q e x.1).1.history)
                  (λ u q x k. absurd (q k)) (all_pairs (find_only id t p.textures i.ids ef) i.states),
            );
          })

pub take_inv : (p : PoolModel Retired) (books : Books) → Inv p books idle → (id : ℕ) (sh : VersionShape) (records : Bool) (seq : ℕ) → Takes id sh books (take_spare p id sh records seq)
unfolding take_spare
take_inv p books i id sh records seq = guarded_by _ _ (λ bad. guarded _ _ (go (passed_not (is_shape sh) bad) (find id p.textures) refl))
  where
    go : is_shape sh ≡ true → (o : Option (VersionState Retired)) → find id p.textures ≡ o → Takes id sh books (take_found p id sh records seq o)
    go shaped none e = new_inv p books i id sh shaped records seq e
    go shaped (some t) e =
        either (λ (o : Out Retired (Option (Spare Retired))). Takes id sh books o) (same_shape t.shape sh) (take_tracked p id seq t) (take_renewed p id sh records seq t)
        (λ q. tracked_inv p books i id sh shaped records seq t e (same_shape_lem t.shape sh q)) (λ q. renewed_inv p books i id sh shaped records seq t)

-- ---- the plan

pub agree_live : (b : Book) → Agrees (some b) → (t : Texel) → Inside b.shape t → b.left t.slice t.level ≡ false → b.live t ≡ some (b.plain t)
unfolding Agrees
agree_live b a t ins left = a t ins left

pub plan_inv : (p : PoolModel Retired) (books : Books) (id : ℕ) (sh : VersionShape) (held : Held) (new : Numbers) → Inv p books (taken id sh held new)
    → (u : UploadFootprint) (buffer : ℕ)
    → OutOk (λ cs q. Inv q books (planned id (skipped u cs) (copied cs (live_of (books id)) new))) (preserve_plan p id sh held u buffer)
unfolding preserve_plan
plan_inv p books id sh held new i u buffer = guarded _ _ (go (find id p.textures) refl (books id) refl)
  where
    with_book : (b : Book) → books id ≡ some b → (ho : Option WriteHistory) → Given (λ h. HistoryOk sh h × Good sh h b held new) ho → b.shape ≡ sh
        → OutOk (λ cs q. Inv q books (planned id (skipped u cs) (copied cs (live_of (books id)) new))) (plan_with p sh ho held u buffer)
    with_book b e ho g es = guarded _ _ (guarded _ _ (ok (record {
      ids = i.ids;
      states = i.states;
      waits = i.waits;
      agrees = i.agrees;
      phase = rw e
          (λ t ins left nc. rename_good sh b ho held u new g t (subst (λ (s : VersionShape). Inside s t) es ins) left
          (uncovered sh ho held u t.slice t.level nc) (agree_live b (subst (λ (o : Option Book). Agrees o) e (i.agrees id)) t ins left));
    })))

    go : (o : Option (VersionState Retired)) → find id p.textures ≡ o → (ob : Option Book) → books id ≡ ob
        → OutOk (λ cs q. Inv q books (planned id (skipped u cs) (copied cs (live_of (books id)) new))) (plan_found p sh held u buffer o)
    go o f none e = absurd (rw e at i.phase)
    go none f (some b) e = with_book b e none tt (rw e at i.phase).0
    go (some t) f (some b) e = guarded_by _ _ (λ other. with_book b e t.history (tracked (passed_not (same_shape t.shape sh) other)) is_taken.0)
      where
        is_taken : TakenOk id held new p.textures sh b
        is_taken = rw e at i.phase

        tracked : same_shape t.shape sh ≡ true → Given (λ h. HistoryOk sh h × Good sh h b held new) t.history
        tracked q =
            let k =
            find_all (λ (t : VersionState Retired). t.id ≡ id → Given (λ h. HistoryOk t.shape h × Good t.shape h b held new) t.history) id t p.textures
            is_taken.1 f in
            subst (λ (s : VersionShape). Given (λ h. HistoryOk s h × Good s h b held new) t.history) (same_shape_lem t.shape sh q) (k (found_id id t p.textures f))
