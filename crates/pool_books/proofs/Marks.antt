-- The invariant under writes, regenerations and parking.
use Prim.Native.Nat.{ℕ, ◌≤◌, ◌<◌}
use mathlib.Core.Path.{◌≡◌, refl, sym, ◌∙◌, ap, subst}
use mathlib.Core.Bool.{Bool, true, false, cond, not, ◌&&◌}
use mathlib.Core.Option.{Option, none, some}
use mathlib.Core.List.{List, [], ◌∷◌, ◌++◌}
use native.Mathlib.Omega.{arith}
use lib.Dec.{leb, ltb, eqb}
use borrow.Author.Tests.{ltb-true, leb-true, eqb-true, eqb-false, eq-eqb, ne_eqb, le-leb}
use Rattle.base_blocks.specs.All.{All, nil, cons}
use Rattle.base_blocks.proofs.Lists.{either}
use Rattle.base_blocks.proofs.All.{all_head, all_mono, all_left, all_right, all_both}
use Rattle.grid_shapes.specs.declared.shape.VersionShape.{VersionShape}
use Rattle.grid_shapes.specs.Shapes.{slices_of}
use Rattle.grid_rects.specs.declared.rect.TexelRect.{TexelRect}
use Rattle.pool_rules.specs.declared.held.Held.TheVariants.{Known}
use Rattle.pool_rules.specs.Model.{WriteHistory, Spare, Retiring, VersionState, PoolModel, Out, find}
use Rattle.pool_rules.specs.Formed.{Given}
use Rattle.pool_rules.specs.Updates.{with_history, with_spares, with_textures, with_retiring, with_parked, change}
use Rattle.pool_rules.specs.Histories.{in_shape, stamp_write, written, regenerated}
use Rattle.pool_rules.specs.NoteWrite.{note_write, note_mip_regeneration}
use Rattle.pool_rules.specs.Park.{park, as_spare, park_found, park_hand}
use Rattle.pool_rules.proofs.Lists.{all_pairs}
use Rattle.pool_rules.proofs.States.{ascending_change, find_only}
use Rattle.pool_rules.proofs.Histories.{write_ok, regenerate_ok}
use Rattle.pool_rules.proofs.Parking.{park_cases}
use Rattle.pool_books.specs.Texels.{Texel, Inside, in_write, in_regeneration}
use Rattle.pool_books.specs.VersionBook.{Retired, Book, Books, put, change_book, writes_whole, book_write, book_regeneration, lost_version, lost_hand}
use Rattle.pool_books.specs.Lists.{Phase, idle}
use Rattle.pool_books.specs.Demand3.{Agrees}
use Rattle.pool_books.proofs.Laws.{and_left, and_right, and_true, clash, given_mono, exists_mono, all_const, all_changed}
use Rattle.pool_books.proofs.Good.{still_left, write_good, regenerate_good}
use Rattle.pool_books.proofs.Inv.{handed, waiting, GoodSpare, GoodWaiting, VersionsOk, StateOk, WaitOk, PhaseOk, Inv, OutOk, nay, ok, guarded, Keeps, less, fewer_waiting, same_parts}

-- ---- one id's book

pub put_same : (id : ℕ) (b : Book) (books : Books) (j : ℕ) → j ≡ id → put id b books j ≡ some b
unfolding put
put_same id b books j e = rw (eq-eqb j id e)

pub put_other : (id : ℕ) (b : Book) (books : Books) (j : ℕ) → (j ≡ id → ⊥) → put id b books j ≡ books j
unfolding put
put_other id b books j e = rw (ne_eqb j id e)

pub change_some : (f : Book → Book) (id : ℕ) (books : Books) (b : Book) → books id ≡ some b → change_book f id books ≡ put id (f b) books
unfolding change_book
change_some f id books b e = rw (e, change_book)

pub change_none : (f : Book → Book) (id : ℕ) (books : Books) → books id ≡ none → change_book f id books ≡ books
unfolding change_book
change_none f id books e = rw (e, change_book)

-- one id's book changes, with what belongs to that id
module _ (p : PoolModel Retired) (books : Books) (i : Inv p books idle) (id : ℕ) (b' : Book) (agree : Agrees (some b')) where
  pub rebook : (b : Book) → books id ≡ some b → (q : PoolModel Retired) (ph : Phase) (f : VersionState Retired → VersionState Retired) (Q : VersionState Retired → Type 0)
      → All Q p.textures → q.textures ≡ change id f p.textures → ((t : VersionState Retired) → t.id ≡ id → (f t).id ≡ t.id)
      → ((t : VersionState Retired) → t.id ≡ id → Q t → StateOk (some b) p.trackings (waiting p) t → StateOk (some b') q.trackings (waiting q) (f t))
      → ((t : VersionState Retired) → (t.id ≡ id → ⊥) → StateOk (books t.id) p.trackings (waiting p) t → StateOk (books t.id) q.trackings (waiting q) t)
      → All (WaitOk q.trackings) (waiting q) → PhaseOk (put id b' books) q.textures ph → Inv q (put id b' books) ph
  rebook b eb q ph f Q qs et eid same other waits pok = record {
    ids = rw et (ascending_change id f eid i.ids);
    states = rw et
        (all_changed id f
        (λ t e x. subst (λ (o : Option Book). StateOk o q.trackings (waiting q) (f t)) (sym (put_same id b' books (f t).id (eid t e ∙ e)))
        (same t e x.0 (subst (λ (o : Option Book). StateOk o p.trackings (waiting p) t) (ap books e ∙ eb) x.1)))
        (λ t e x. subst (λ (o : Option Book). StateOk o q.trackings (waiting q) t) (sym (put_other id b' books t.id e)) (other t e x.1))
        (all_pairs qs i.states));
    waits = waits;
    agrees = λ j. every j (eqb j id) refl;
    phase = pok;
  }
    where
      every : (j : ℕ) (c : Bool) → eqb j id ≡ c → Agrees (put id b' books j)
      every j true e = subst (λ (o : Option Book). Agrees o) (sym (put_same id b' books j (eqb-true _ _ e))) agree
      every j false e = subst (λ (o : Option Book). Agrees o) (sym (put_other id b' books j (eqb-false _ _ e))) (i.agrees j)

-- ---- writes and regenerations

write_agrees : (n slice level : ℕ) (r : TexelRect) (b : Book) → Agrees (some b) → Agrees (some (book_write n slice level r b))
unfolding book_write Agrees
write_agrees n slice level r b a = λ t i left. go t i left (in_write b.shape slice level r t) refl
  where
    go : (t : Texel) → Inside b.shape t → not (writes_whole b.shape slice level r t.slice t.level) && b.left t.slice t.level ≡ false
        → (c : Bool) → in_write b.shape slice level r t ≡ c
        → ◌≡◌ {A = Option ℕ} (cond (in_write b.shape slice level r t) (some n) (b.live t)) (some (cond (in_write b.shape slice level r t) n (b.plain t)))
    go t i left true e = rw e
    go t i left false e = rw e (a t i (still_left b slice level r t i e left))

regenerate_agrees : (n : ℕ) (b : Book) → Agrees (some b) → Agrees (some (book_regeneration n b))
unfolding book_regeneration Agrees
regenerate_agrees n b a = λ t i left. go t (in_regeneration t) refl (a t i left)
  where
    go : (t : Texel) (c : Bool) → in_regeneration t ≡ c → b.live t ≡ some (b.plain t)
        → ◌≡◌ {A = Option ℕ} (cond (in_regeneration t) (some n) (b.live t)) (some (cond (in_regeneration t) n (b.plain t)))
    go t true e h = rw e
    go t false e h = rw e h

-- the history after a write, and after a regeneration
written_ok : (n slice level : ℕ) (r : TexelRect) (b : Book) (s : VersionShape) → b.shape ≡ s → (id epoch : ℕ) (vs : List (Spare Retired)) (ws : List (Retiring Retired))
    (ho : Option WriteHistory) → Given (VersionsOk b id s epoch vs ws) ho → Given (VersionsOk (book_write n slice level r b) id s epoch vs ws) (written slice level r s ho)
written_ok n slice level r b s es id epoch vs ws none g = tt
written_ok n slice level r b s es id epoch vs ws (some h) g =
    either (Given (VersionsOk (book_write n slice level r b) id s epoch vs ws)) (in_shape s slice level) (some (stamp_write s slice level r h)) none
    (λ e. inside (ltb-true _ _ (and_left (ltb slice (slices_of s)) _ e)) (ltb-true _ _ (and_right (ltb slice (slices_of s)) _ e))) (λ e. tt)
  where
    inside : slice < slices_of s → level < s.levels → VersionsOk (book_write n slice level r b) id s epoch vs ws (stamp_write s slice level r h)
    inside a c = record {
      ok = write_ok s h g.ok slice level a c r;
      spares = all_mono (λ v k. write_good s h g.ok slice level a c r b es n v.held v.view.numbers k) g.spares;
      waits = all_mono (λ v k e f. write_good s h g.ok slice level a c r b es n (Known v.held) v.view.numbers (k e f)) g.waits;
    }

regenerated_ok : (n : ℕ) (b : Book) (s : VersionShape) (id epoch : ℕ) (vs : List (Spare Retired)) (ws : List (Retiring Retired)) (ho : Option WriteHistory)
    → Given (VersionsOk b id s epoch vs ws) ho → Given (VersionsOk (book_regeneration n b) id s epoch vs ws) (regenerated s ho)
regenerated_ok n b s id epoch vs ws none g = tt
regenerated_ok n b s id epoch vs ws (some h) g = record {
  ok = regenerate_ok s h g.ok;
  spares = all_mono (λ v k. regenerate_good s h g.ok b n v.held v.view.numbers k) g.spares;
  waits = all_mono (λ v k e f. regenerate_good s h g.ok b n (Known v.held) v.view.numbers (k e f)) g.waits;
}

abbrev pub Marks : (Book → Book) → ℕ → Books → Out Retired (Unit {0}) → Type 0
Marks f id books o = OutOk (λ a q. Inv q (change_book f id books) idle) o

-- no texture is tracked whose id has no book
bookless : (p : PoolModel Retired) (books : Books) → Inv p books idle → (id : ℕ) → books id ≡ none → (f : VersionState Retired → VersionState Retired)
    → ((t : VersionState Retired) → (f t).id ≡ t.id) → Inv (with_textures (change id f p.textures) p) books idle
bookless p books i id e f eid = record {
  ids = ascending_change id f (λ t q. eid t) i.ids;
  states = all_changed id f (λ t q x. absurd (gone t q x)) (λ t q x. x) i.states;
  waits = i.waits;
  agrees = i.agrees;
  phase = tt;
}
  where
    gone : (t : VersionState Retired) → t.id ≡ id → StateOk (books t.id) p.trackings (waiting p) t → ⊥
    gone t q x = (subst (λ (o : Option Book). StateOk o p.trackings (waiting p) t) (ap books q ∙ e) x).1

module _ (p : PoolModel Retired) (books : Books) (i : Inv p books idle) where
  agree_at : (id : ℕ) (b : Book) → books id ≡ some b → Agrees (some b)
  agree_at id b e = subst (λ (o : Option Book). Agrees o) e (i.agrees id)

  pub write_inv : (n id slice level : ℕ) (r : TexelRect) → Marks (book_write n slice level r) id books (note_write p id slice level r)
  unfolding note_write book_write
  write_inv n id slice level r = guarded _ _ (ok (go (books id) refl))
    where
      f : VersionState Retired → VersionState Retired
      f t = with_history (written slice level r t.shape t.history) t

      go : (o : Option Book) → books id ≡ o → Inv (with_textures (change id f p.textures) p) (change_book (book_write n slice level r) id books) idle
      go none e = rw (change_none (book_write n slice level r) id books e) (bookless p books i id e f (λ t. refl))
      go (some b) e =
          rw (change_some (book_write n slice level r) id books b e)
          (rebook p books i id (book_write n slice level r b) (write_agrees n slice level r b (agree_at id b e)) b e (with_textures (change id f p.textures) p) idle f
          (λ t. Unit {0}) (all_const _ (λ t. tt)) refl (λ t q. refl)
          (λ t q u x. (
            x.0,
            record {
              shape = x.1.shape;
              birth = x.1.birth;
              history = written_ok n slice level r b t.shape x.1.shape t.id t.epoch t.spares (waiting p) t.history x.1.history;
            },
          )) (λ t q x. x) i.waits tt)

  pub regenerate_inv : (n id : ℕ) → Marks (book_regeneration n) id books (note_mip_regeneration p id)
  unfolding note_mip_regeneration book_regeneration
  regenerate_inv n id = guarded _ _ (ok (go (books id) refl))
    where
      f : VersionState Retired → VersionState Retired
      f t = with_history (regenerated t.shape t.history) t

      go : (o : Option Book) → books id ≡ o → Inv (with_textures (change id f p.textures) p) (change_book (book_regeneration n) id books) idle
      go none e = rw (change_none (book_regeneration n) id books e) (bookless p books i id e f (λ t. refl))
      go (some b) e =
          rw (change_some (book_regeneration n) id books b e)
          (rebook p books i id (book_regeneration n b) (regenerate_agrees n b (agree_at id b e)) b e (with_textures (change id f p.textures) p) idle f
          (λ t. Unit {0}) (all_const _ (λ t. tt)) refl (λ t q. refl)
          (λ t q u x. (
            x.0,
            record {
              shape = x.1.shape;
              birth = x.1.birth;
              history = regenerated_ok n b t.shape t.id t.epoch t.spares (waiting p) t.history x.1.history;
            },
          )) (λ t q x. x) i.waits tt)

-- ---- parking

-- what the version book calls unknown, the pool does too: a version's birth is no later than its texture's retirement before its own
park_good : (s : VersionShape) (h : WriteHistory) (b : Book) (v : Retiring Retired) (failed now : ℕ) → v.birth ≤ v.view.before → GoodWaiting s h b v
    → GoodSpare s h b (as_spare failed now (lost_version failed v))
park_good s h b v failed now le g = go (not (eqb failed 0) && leb v.birth failed) refl (not (eqb failed 0) && leb v.view.before failed) refl
  where
    go : (c : Bool) → not (eqb failed 0) && leb v.birth failed ≡ c → (d : Bool) → not (eqb failed 0) && leb v.view.before failed ≡ d
        → GoodSpare s h b (as_spare failed now (lost_version failed v))
    go true e d f = rw e tt
    go false e false f = rw (e, f) g
    go false e true f =
        absurd (clash (not (eqb failed 0) && leb v.birth failed)
        (and_true (and_left (not (eqb failed 0)) _ f) (le-leb v.birth failed (omega (arith, leb-true v.view.before failed (and_right (not (eqb failed 0)) _ f))))) e)

module _ (p : PoolModel Retired) (books : Books) (i : Inv p books idle) (failed now : ℕ) where
  hand_empty : Inv (with_retiring p.retiring none p) books idle
  hand_empty = less p (with_retiring p.retiring none p) books i refl (λ P a. all_both (all_left p.retiring (handed p.hand) a) nil) refl

  module _ (v : Retiring Retired) (eh : p.hand ≡ some v) (t : VersionState Retired) (ef : find v.id p.textures ≡ some t) (ep : t.epoch ≡ v.epoch) where
    of_hand : (P : Retiring Retired → Type 0) → All P (waiting p) → P v
    of_hand P a = all_head (all_right p.retiring (rw eh at a))

    v_ok : WaitOk p.trackings v
    v_ok = of_hand (WaitOk p.trackings) i.waits

    park_here : (bytes : ℕ)
        → Inv (with_parked bytes (with_textures (change v.id (λ (u : VersionState Retired). with_spares (u.spares ++ (as_spare failed now (lost_version failed v) ∷ [])) u) p.textures)
        (with_retiring p.retiring none p))) books idle
    park_here bytes = record {
      ids = ascending_change v.id _ (λ u q. refl) i.ids;
      states = all_changed v.id _ same (λ u q x. gone u x.1) (all_pairs (find_only v.id t p.textures i.ids ef) i.states);
      waits = hand_empty.waits;
      agrees = i.agrees;
      phase = tt;
    }
      where
        gone : (u : VersionState Retired) → StateOk (books u.id) p.trackings (waiting p) u → StateOk (books u.id) p.trackings (p.retiring ++ []) u
        gone u x = fewer_waiting (books u.id) p.trackings (waiting p) (p.retiring ++ []) u (λ P a. all_both (all_left p.retiring (handed p.hand) a) nil) x

        same : (u : VersionState Retired) → u.id ≡ v.id → (u.id ≡ v.id → u ≡ t) × StateOk (books u.id) p.trackings (waiting p) u
            → StateOk (books u.id) p.trackings (p.retiring ++ []) (with_spares (u.spares ++ (as_spare failed now (lost_version failed v) ∷ [])) u)
        same u q (only, (e, x)) = (
          e,
          exists_mono _ _ (books u.id) (λ b k. record {
            shape = k.shape;
            birth = k.birth;
            history = given_mono _ _ u.history (λ h g. record {
              ok = g.ok;
              spares = all_both g.spares
                  (cons
                  (park_good u.shape h b v failed now v_ok.1
                  (of_hand (λ w. w.id ≡ u.id → w.epoch ≡ u.epoch → GoodWaiting u.shape h b w) g.waits (sym q)
                  (sym (ap (λ (w : VersionState Retired). w.epoch) (only q) ∙ ep))))
                  nil);
              waits = all_both (all_left p.retiring (handed p.hand) g.waits) nil;
            }) k.history;
          }) x,
        )

  pub park_inv : Keeps books (park (with_retiring p.retiring (lost_hand failed p.hand) p) failed now)
  unfolding park
  park_inv = guarded _ _ (go p.hand refl)
    where
      p0 : PoolModel Retired
      p0 = with_retiring p.retiring none p

      found : (v : Retiring Retired) → p.hand ≡ some v → (o : Option (VersionState Retired)) → find v.id p.textures ≡ o
          → Inv (park_found p0 failed now (lost_version failed v) o) books idle
      found v e o f =
          park_cases (λ (q : PoolModel Retired). Inv q books idle) p0 failed now (lost_version failed v) o
          (λ ds. same_parts p0 books hand_empty _ refl refl refl refl) (λ t g ep bytes. park_here v e t (f ∙ g) ep bytes)

      go : (h : Option (Retiring Retired)) → p.hand ≡ h → Keeps books (park_hand (with_retiring p.retiring (lost_hand failed h) p) failed now (lost_hand failed h))
      go none e = nay
      go (some v) e = ok (found v e (find v.id p.textures) refl)
