-- The invariant under a rename's retire: the new version becomes live.
use Prim.Native.Nat.{ℕ}
use mathlib.Core.Path.{◌≡◌, refl, sym, ◌∙◌, ap, subst}
use mathlib.Core.Bool.{Bool, true, false, ◌||◌, true≢false}
use mathlib.Core.Option.{Option, none, some}
use mathlib.Core.List.{[], ◌∷◌, ◌++◌}
use native.Mathlib.Omega.{arith}
use Rattle.base_blocks.specs.All.{All, nil, cons}
use Rattle.base_blocks.proofs.All.{all_mono, all_left, all_right, all_both}
use Rattle.grid_shapes.specs.declared.shape.VersionShape.{VersionShape}
use Rattle.pool_rules.specs.declared.held.Held.{Held}
use Rattle.pool_rules.specs.declared.held.Held.TheVariants.{Known, Unknown}
use Rattle.pool_rules.specs.Model.{WriteHistory, Retiring, VersionState, PoolModel, find, writes_of}
use Rattle.pool_rules.specs.Formed.{Given}
use Rattle.pool_rules.specs.Updates.{with_birth, with_textures, with_retiring, change}
use Rattle.pool_rules.specs.Retire.{retire, retired}
use Rattle.pool_rules.proofs.States.{find_all, find_none, find_only}
use Rattle.pool_books.specs.Texels.{Inside}
use Rattle.pool_books.specs.VersionBook.{Numbers, Retired, Book, Books, put, change_book, renamed, carried_by}
use Rattle.pool_books.specs.Lists.{idle, planned, rename_in}
use Rattle.pool_books.specs.Demand3.{Agrees}
use Rattle.pool_books.proofs.Laws.{given_mono, exists_mono, found_id}
use Rattle.pool_books.proofs.Good.{Good}
use Rattle.pool_books.proofs.Inv.{handed, waiting, GoodWaiting, VersionsOk, StateOk, WaitOk, Inv, OutOk, ok, guarded}
use Rattle.pool_books.proofs.Marks.{rebook, change_some}
use Rattle.pool_books.proofs.Renames.{agree_live}

or_false : (a c : Bool) → a || c ≡ false → (a ≡ false) × (c ≡ false)
or_false true c e = absurd (true≢false e)
or_false false c e = (refl, e)

module _ (p : PoolModel Retired) (books : Books) (id : ℕ) (u : ℕ → ℕ → Bool) (new : Numbers) (i : Inv p books (planned id u new)) (view seq : ℕ) (b : Book) (eb : books id ≡ some b) where
  agreed : Agrees (some b)
  agreed = subst (λ (o : Option Book). Agrees o) eb (i.agrees id)

  agrees_after : Agrees (some (renamed seq u new b))
  unfolding Agrees
  agrees_after = λ t ins left. let l = or_false (u t.slice t.level) (b.left t.slice t.level) left in (rw eb at i.phase) t ins l.1 l.0

  -- a rename only leaves more out
  weaken : (s : VersionShape) (h : WriteHistory) (held : Held) (nums : Numbers) → Good s h b held nums → Good s h (renamed seq u new b) held nums
  weaken s h Unknown nums g = tt
  weaken s h (Known m) nums g = (g.0, λ t ins left st. g.1 t ins (or_false (u t.slice t.level) (b.left t.slice t.level) left).1 st)

  abbrev replaced : Retired
  replaced = record { view = view; numbers = b.live; before = b.before }

  -- the version that was live is good: it holds the plain book's numbers
  was_live : (s : VersionShape) (h : WriteHistory) → b.shape ≡ s → Good s h (renamed seq u new b) (Known h.writes) b.live
  was_live s h es = (
    omega arith,
    λ t ins left st.
        agree_live b agreed t (subst (λ (s : VersionShape). Inside s t) (sym es) ins) (or_false (u t.slice t.level) (b.left t.slice t.level) left).1,
  )

  stopped : Inv p books idle
  stopped = record { ids = i.ids; states = i.states; waits = i.waits; agrees = i.agrees; phase = tt }

  module _ (o : Option (VersionState Retired)) (eo : find id p.textures ≡ o) where
    abbrev last : Retiring Retired
    last = retired id replaced seq o

    abbrev left : PoolModel Retired
    left = with_textures (change id (with_birth seq) p.textures) (with_retiring (p.retiring ++ (retired id replaced seq o ∷ [])) p.hand p)

    longer : (P : Retiring Retired → Type 0) → P last → All P (waiting p) → All P (waiting left)
    longer P k a = all_both (all_both (all_left p.retiring (handed p.hand) a) (cons k nil)) (all_right p.retiring a)

    others : last.id ≡ id → (t : VersionState Retired) → (t.id ≡ id → ⊥) → StateOk (books t.id) p.trackings (waiting p) t
        → StateOk (books t.id) p.trackings (waiting left) t
    others vid t ne (e, x) = (
      e,
      exists_mono _ _ (books t.id) (λ c k. record {
        shape = k.shape;
        birth = k.birth;
        history = given_mono _ _ t.history (λ h g. record {
          ok = g.ok;
          spares = g.spares;
          waits = longer (λ v. v.id ≡ t.id → v.epoch ≡ t.epoch → GoodWaiting t.shape h c v) (λ f. absurd (ne (sym f ∙ vid))) g.waits;
        }) k.history;
      }) x,
    )

    finish : (Q : VersionState Retired → Type 0) → All Q p.textures → last.id ≡ id → WaitOk p.trackings last
        → ((t : VersionState Retired) → t.id ≡ id → Q t → b.shape ≡ t.shape → (h : WriteHistory) → t.history ≡ some h → last.epoch ≡ t.epoch
        → GoodWaiting t.shape h (renamed seq u new b) last) → Inv left (put id (renamed seq u new b) books) idle
    finish Q qs vid vok vgood =
        rebook p books stopped id (renamed seq u new b) agrees_after b eb left idle (with_birth seq) Q qs refl (λ t e. refl) same (others vid)
        (longer (WaitOk p.trackings) vok i.waits) tt
      where
        same : (t : VersionState Retired) → t.id ≡ id → Q t → StateOk (some b) p.trackings (waiting p) t
            → StateOk (some (renamed seq u new b)) p.trackings (waiting left) (with_birth seq t)
        same t e k (l, x) = (l, record { shape = x.shape; birth = omega arith; history = go t.history refl x.history })
          where
            go : (ho : Option WriteHistory) → t.history ≡ ho → Given (VersionsOk b t.id t.shape t.epoch t.spares (waiting p)) ho
                → Given (VersionsOk (renamed seq u new b) t.id t.shape t.epoch t.spares (waiting left)) ho
            go none f g = tt
            go (some h) f g = record {
              ok = g.ok;
              spares = all_mono (λ v z. weaken t.shape h v.held v.view.numbers z) g.spares;
              waits = longer (λ v. v.id ≡ t.id → v.epoch ≡ t.epoch → GoodWaiting t.shape h (renamed seq u new b) v) (λ a c. vgood t e k x.shape h f c)
                  (all_mono (λ v z a c. weaken t.shape h (Known v.held) v.view.numbers (z a c)) g.waits);
            }

  retired_inv : (o : Option (VersionState Retired)) (eo : find id p.textures ≡ o) → Inv (left o eo) (put id (renamed seq u new b) books) idle
  retired_inv none eo = finish none eo (λ t. t.id ≡ id → ⊥) (find_none id p.textures eo) refl (omega arith, omega arith) (λ t e ne es h f c. absurd (ne e))
  retired_inv (some t0) eo =
      finish (some t0) eo (λ t. t.id ≡ id → t ≡ t0) (find_only id t0 p.textures i.ids eo) refl (
        state.0,
        (subst (λ (o : Option Book). StateOk o p.trackings (waiting p) t0)
            (ap books (found_id id t0 p.textures eo) ∙ eb) state).1.birth,
      )
      (λ t e only es h f c. rw (ap (λ (w : VersionState Retired). writes_of w.history) (sym (only e)) ∙ ap writes_of f) (was_live t.shape h es))
    where
      state : StateOk (books t0.id) p.trackings (waiting p) t0
      state = find_all (λ w. StateOk (books w.id) p.trackings (waiting p) w) id t0 p.textures i.states eo

pub retire_inv : (p : PoolModel Retired) (books : Books) (id : ℕ) (u : ℕ → ℕ → Bool) (new : Numbers) → Inv p books (planned id u new) → (view seq : ℕ)
    → OutOk (λ a q. Inv q (rename_in seq (planned id u new) books) idle) (retire p id (carried_by books id view) seq)
unfolding retire rename_in
retire_inv p books id u new i view seq = guarded _ _ (guarded _ _ (guarded _ _ (ok (go (books id) refl))))
  where
    go : (ob : Option Book) → books id ≡ ob
        → Inv (with_textures (change id (with_birth seq) p.textures) (with_retiring (p.retiring ++ (retired id (carried_by books id view) seq (find id p.textures) ∷ [])) p.hand p))
        (change_book (renamed seq u new) id books) idle
    go none e = absurd (rw e at i.phase)
    go (some b) e = rw (change_some (renamed seq u new) id books b e, e) (retired_inv p books id u new i view seq b e (find id p.textures) refl)
