-- Every call only carries views: on a pool with other views it answers alike and leaves the pool with those views.
use Prim.Native.Nat.{ℕ, suc, ◌+◌, ◌*◌, ◌-◌}
use mathlib.Core.Path.{◌≡◌, refl, sym, ◌∙◌, ap}
use mathlib.Core.Bool.{Bool, true, false, cond, ◌&&◌, ◌||◌}
use mathlib.Core.Option
use mathlib.Core.Option.{Option, none, some}
use mathlib.Core.List.{List, [], ◌∷◌, ◌++◌, map}
use lib.ListN.{length, length-map}
use lib.Dec.{leb, ltb, eqb}
use Rattle.grid_shapes.specs.declared.shape.VersionShape.{VersionShape}
use Rattle.grid_shapes.specs.Shapes.{same_shape, bytes_of}
use Rattle.grid_rects.specs.declared.rect.TexelRect.{TexelRect}
use Rattle.grid_stamps.specs.StampConstants.{page_stamps}
use Rattle.pool_rules.specs.declared.held.Held.{Held}
use Rattle.pool_rules.specs.Model.{WriteHistory, Spare, Retiring, Doomed, VersionState, PoolModel, Out, refused, accepted, guard, find, hand_count, versions_used, doomed_bytes, PreserveCopy, UploadFootprint}
use Rattle.pool_rules.specs.HistorySizes.{history_size, stamps_used}
use Rattle.pool_rules.specs.Updates.{with_history, with_spares, with_birth, with_rename, with_textures, with_retiring, with_trackings, with_parked, with_doomed, change, insert, doom, as_doomed, doom_spares}
use Rattle.pool_rules.specs.Histories.{written, regenerated, spent}
use Rattle.pool_rules.specs.TakeSpare.{new_state, history_full, newest, others, taken_bytes, take_new, take_renewed, take_tracked, take_found, take_spare}
use Rattle.pool_rules.specs.PreservePlan.{plan_with, plan_found, preserve_plan}
use Rattle.pool_rules.specs.Retire.{last_seq, retired, retire}
use Rattle.pool_rules.specs.NoteWrite.{history_in, write_spent, note_write, note_mip_regeneration}
use Rattle.pool_rules.specs.PopRetired.{pop_front, is_held, pop_retired}
use Rattle.pool_rules.specs.Park.{as_spare, park_found, park_hand, park}
use Rattle.pool_books.specs.Carry.{map_spare, map_retiring, map_doomed, map_state, map_pool}
use Rattle.pool_books.proofs.Mapped.{map_cond, map_both, map_total, map_swap}

module _ {W X : Type 0} (f : W → X) where
  -- ---- states

  pub map_find : (id : ℕ) (ts : List (VersionState W)) → find id (map (map_state f) ts) ≡ Option.map (map_state f) (find id ts)
  unfolding find
  map_find id [] = refl
  map_find id (t ∷ ts) = map_cond (Option.map (map_state f)) (eqb t.id id) refl (map_find id ts)

  pub map_change : (id : ℕ) (g : VersionState X → VersionState X) (h : VersionState W → VersionState W) → ((t : VersionState W) → g (map_state f t) ≡ map_state f (h t))
      → (ts : List (VersionState W)) → change id g (map (map_state f) ts) ≡ map (map_state f) (change id h ts)
  unfolding change
  map_change id g h e ts =
      map_swap (map_state f) (λ (t : VersionState X). cond (eqb t.id id) (g t) t) (λ (t : VersionState W). cond (eqb t.id id) (h t) t) (map_state f)
      (λ t. map_cond (map_state f) (eqb t.id id) (e t) refl) ts

  map_insert : (t : VersionState W) (ts : List (VersionState W)) → insert (map_state f t) (map (map_state f) ts) ≡ map (map_state f) (insert t ts)
  unfolding insert
  map_insert t [] = refl
  map_insert t (u ∷ us) = map_cond (map (map_state f)) (ltb t.id u.id) refl (ap (λ l. map_state f u ∷ l) (map_insert t us))

  -- ---- outcomes

  -- an outcome and the same with other views
  pub data Carried {A B : Type 0} (g : A → B) : Out W A → Out X B → Type 0 where
    alike_no : {n : ℕ} → Carried g (refused n) (refused n)
    alike : {a : A} {p : PoolModel W} {b : B} {q : PoolModel X} → b ≡ g a → q ≡ map_pool f p → Carried g (accepted a p) (accepted b q)

  pub guard_eq : {A B : Type 0} {g : A → B} (b b' : Bool) (n : ℕ) {o : Out W A} {o' : Out X B} → b' ≡ b → Carried g o o' → Carried g (guard b n o) (guard b' n o')
  unfolding guard
  guard_eq true b' n e k = rw e alike_no
  guard_eq false b' n e k = rw e k

  cond_eq : {A B : Type 0} (g : A → B) (b : Bool) (x y : Out W A) (x' y' : Out X B) → Carried g x x' → Carried g y y' → Carried g (cond b x y) (cond b x' y')
  cond_eq g true x y x' y' k l = k
  cond_eq g false x y x' y' k l = l

  -- ---- the destroy queue

  pub bytes_map : (ds : List (Doomed W)) → doomed_bytes (map (map_doomed f) ds) ≡ doomed_bytes ds
  bytes_map ds = map_total (map_doomed f) (λ (d : Doomed X). d.bytes) (λ (d : Doomed W). d.bytes) (λ d. refl) ds

  pub doom_map : (ds : List (Doomed W)) (p : PoolModel W) → doom (map (map_doomed f) ds) (map_pool f p) ≡ map_pool f (doom ds p)
  doom_map ds p =
      λ i. with_doomed (sym (map_both (map_doomed f) p.doomed ds) i) (p.since + length-map ds (map_doomed f) i) (p.dooming + bytes_map ds i) (map_pool f p)

  pub spares_map : (ds : List (Doomed W)) (p : PoolModel W) → doom_spares (map (map_doomed f) ds) (map_pool f p) ≡ map_pool f (doom_spares ds p)
  spares_map ds p =
      (λ i. doom (map (map_doomed f) ds) (with_parked (p.parked - bytes_map ds i) (map_pool f p))) ∙ doom_map ds (with_parked (p.parked - doomed_bytes ds) p)

  pub as_doomed_lem : (bytes : ℕ) (ss : List (Spare W)) → as_doomed bytes (map (map_spare f) ss) ≡ map (map_doomed f) (as_doomed bytes ss)
  as_doomed_lem bytes ss =
      map_swap (map_spare f) (λ (s : Spare X). record { view = s.view; bytes = bytes }) (λ (s : Spare W). record { view = s.view; bytes = bytes }) (map_doomed f)
      (λ s. refl) ss

  -- ---- take_spare

  newest_map : (ss : List (Spare W)) → newest (map (map_spare f) ss) ≡ Option.map (map_spare f) (newest ss)
  newest_map [] = refl
  newest_map (x ∷ []) = refl
  newest_map (x ∷ y ∷ ys) = newest_map (y ∷ ys)

  others_map : (ss : List (Spare W)) → others (map (map_spare f) ss) ≡ map (map_spare f) (others ss)
  others_map [] = refl
  others_map (x ∷ []) = refl
  others_map (x ∷ y ∷ ys) = ap (λ (l : List (Spare X)). map_spare f x ∷ l) (others_map (y ∷ ys))

  taken_bytes_lem : (shape : VersionShape) (o : Option (Spare W)) → taken_bytes shape (Option.map (map_spare f) o) ≡ taken_bytes shape o
  taken_bytes_lem shape none = refl
  taken_bytes_lem shape (some s) = refl

  abbrev pub spare_of : Option (Spare W) → Option (Spare X)
  spare_of = Option.map (map_spare f)

  module _ (p : PoolModel W) where
    full_map : (sh : VersionShape) (records : Bool) (own : ℕ) → history_full (map_pool f p) sh records own ≡ history_full p sh records own
    full_map sh records own =
        λ i. records && ltb (page_stamps * p.places.pages + own) (map_total (map_state f) stamps_used stamps_used (λ t. refl) p.textures i + history_size sh)

    pub take_map : (id : ℕ) (sh : VersionShape) (records : Bool) (seq : ℕ) → Carried spare_of (take_spare p id sh records seq) (take_spare (map_pool f p) id sh records seq)
    unfolding take_spare
    take_map id sh records seq = guard_eq _ _ 2 refl (guard_eq _ _ 3 refl (rw (map_find id p.textures) (go (find id p.textures))))
      where
        new : Carried spare_of (take_new p id sh records seq) (take_new (map_pool f p) id sh records seq)
        new =
            guard_eq _ _ 5 (ap (leb p.places.textures) (length-map p.textures (map_state f)))
            (guard_eq _ _ 6 (full_map sh records 0)
            (guard_eq _ _ 12 refl
            (alike refl
            (λ i. with_trackings (suc p.trackings) (with_textures (map_insert (new_state id sh records (suc p.trackings) seq) p.textures i) (map_pool f p))))))

        same : (t : VersionState W) → Carried spare_of (take_tracked p id seq t) (take_tracked (map_pool f p) id seq (map_state f t))
        same t =
            alike (newest_map t.spares)
            (λ i. with_parked (p.parked - (ap (taken_bytes t.shape) (newest_map t.spares) ∙ taken_bytes_lem t.shape (newest t.spares)) i)
            (with_textures
            (map_change id (λ (u : VersionState X). with_rename seq (with_spares (others u.spares) u)) (λ (u : VersionState W). with_rename seq (with_spares (others u.spares) u))
            (λ u i. with_rename seq (with_spares (others_map u.spares i) (map_state f u))) p.textures i)
            (map_pool f p)))

        renewed : (t : VersionState W) → Carried spare_of (take_renewed p id sh records seq t) (take_renewed (map_pool f p) id sh records seq (map_state f t))
        renewed t =
            guard_eq _ _ 6 (full_map sh records (stamps_used t))
            (guard_eq _ _ 12 refl
            (alike refl
            (λ i. with_trackings (suc p.trackings)
            (with_textures
            (map_change id (λ (u : VersionState X). new_state id sh records (suc p.trackings) seq) (λ (u : VersionState W). new_state id sh records (suc p.trackings) seq) (λ u. refl)
            p.textures i)
            ((ap (λ ds. doom_spares ds (map_pool f p)) (as_doomed_lem (bytes_of t.shape) t.spares) ∙ spares_map (as_doomed (bytes_of t.shape) t.spares) p) i)))))

        go : (o : Option (VersionState W)) → Carried spare_of (take_found p id sh records seq o) (take_found (map_pool f p) id sh records seq (Option.map (map_state f) o))
        go none = new
        go (some t) = cond_eq spare_of (same_shape t.shape sh) _ _ _ _ (same t) (renewed t)

    -- ---- preserve_plan

    pub plan_map : (id : ℕ) (sh : VersionShape) (held : Held) (u : UploadFootprint) (buffer : ℕ)
        → Carried (λ (cs : List PreserveCopy). cs) (preserve_plan p id sh held u buffer) (preserve_plan (map_pool f p) id sh held u buffer)
    unfolding preserve_plan
    plan_map id sh held u buffer = guard_eq _ _ 2 refl (rw (map_find id p.textures) (go (find id p.textures)))
      where
        with_history_lem : (ho : Option WriteHistory) → Carried (λ (cs : List PreserveCopy). cs) (plan_with p sh ho held u buffer) (plan_with (map_pool f p) sh ho held u buffer)
        with_history_lem ho = guard_eq _ _ 11 refl (guard_eq _ _ 12 refl (alike refl refl))

        go : (o : Option (VersionState W))
            → Carried (λ (cs : List PreserveCopy). cs) (plan_found p sh held u buffer o) (plan_found (map_pool f p) sh held u buffer (Option.map (map_state f) o))
        go none = with_history_lem none
        go (some t) = guard_eq _ _ 4 refl (with_history_lem t.history)

    -- ---- retire

    hand_count_lem : (h : Option (Retiring W)) → hand_count (Option.map (map_retiring f) h) ≡ hand_count h
    hand_count_lem none = refl
    hand_count_lem (some v) = refl

    used_map : versions_used (map_pool f p) ≡ versions_used p
    used_map =
        λ i. length-map p.retiring (map_retiring f) i + hand_count_lem p.hand i
        + map_total (map_state f) (λ (t : VersionState X). length t.spares) (λ (t : VersionState W). length t.spares) (λ t. length-map t.spares (map_spare f)) p.textures i
        + length-map p.doomed (map_doomed f) i

    last_seq_lem : (vs : List (Retiring W)) → last_seq (map (map_retiring f) vs) ≡ last_seq vs
    last_seq_lem [] = refl
    last_seq_lem (v ∷ []) = refl
    last_seq_lem (v ∷ u ∷ us) = last_seq_lem (u ∷ us)

    retired_map : (id : ℕ) (view : W) (seq : ℕ) (o : Option (VersionState W)) → retired id (f view) seq (Option.map (map_state f) o) ≡ map_retiring f (retired id view seq o)
    retired_map id view seq none = refl
    retired_map id view seq (some t) = refl

    pub retire_map : (id : ℕ) (view : W) (seq : ℕ) → Carried (λ (a : Unit {0}). a) (retire p id view seq) (retire (map_pool f p) id (f view) seq)
    unfolding retire
    retire_map id view seq =
        guard_eq _ _ 3 refl
        (guard_eq _ _ 7 (ap (leb p.places.versions) used_map)
        (guard_eq _ _ 8 (ap (ltb seq) (last_seq_lem p.retiring))
        (alike refl
        (λ i. with_textures (map_change id (with_birth seq) (with_birth seq) (λ t. refl) p.textures i)
        (with_retiring (queue_eq i) (Option.map (map_retiring f) p.hand) (map_pool f p))))))
      where
        queue_eq : map (map_retiring f) p.retiring ++ (retired id (f view) seq (find id (map (map_state f) p.textures)) ∷ [])
            ≡ map (map_retiring f) (p.retiring ++ (retired id view seq (find id p.textures) ∷ []))
        queue_eq =
            rw (map_find id p.textures, retired_map id view seq (find id p.textures))
            (sym (map_both (map_retiring f) p.retiring (retired id view seq (find id p.textures) ∷ [])))

    -- ---- note_write, note_mip_regeneration

    spent_map : (slice level : ℕ) (o : Option (VersionState W)) → write_spent (Option.map (map_state f) o) slice level ≡ write_spent o slice level
    spent_map slice level none = refl
    spent_map slice level (some t) = refl

    history_map : (o : Option (VersionState W)) → history_in (Option.map (map_state f) o) ≡ history_in o
    history_map none = refl
    history_map (some t) = refl

    pub write_map : (id slice level : ℕ) (r : TexelRect) → Carried (λ (a : Unit {0}). a) (note_write p id slice level r) (note_write (map_pool f p) id slice level r)
    unfolding note_write
    write_map id slice level r =
        guard_eq _ _ 12 (ap (λ (o : Option (VersionState X)). write_spent o slice level) (map_find id p.textures) ∙ spent_map slice level (find id p.textures))
        (alike refl
        (λ i. with_textures
        (map_change id (λ (t : VersionState X). with_history (written slice level r t.shape t.history) t) (λ (t : VersionState W). with_history (written slice level r t.shape t.history) t)
        (λ t. refl) p.textures i)
        (map_pool f p)))

    pub regenerate_map : (id : ℕ) → Carried (λ (a : Unit {0}). a) (note_mip_regeneration p id) (note_mip_regeneration (map_pool f p) id)
    unfolding note_mip_regeneration
    regenerate_map id =
        guard_eq _ _ 12 (ap (λ (o : Option (VersionState X)). spent (history_in o)) (map_find id p.textures) ∙ ap spent (history_map (find id p.textures)))
        (alike refl
        (λ i. with_textures
        (map_change id (λ (t : VersionState X). with_history (regenerated t.shape t.history) t) (λ (t : VersionState W). with_history (regenerated t.shape t.history) t)
        (λ t. refl) p.textures i)
        (map_pool f p)))

    -- ---- pop_retired

    held_map : (h : Option (Retiring W)) → is_held (Option.map (map_retiring f) h) ≡ is_held h
    held_map none = refl
    held_map (some v) = refl

    pub pop_map : (settled : ℕ) → Carried (Option.map (map_retiring f)) (pop_retired p settled) (pop_retired (map_pool f p) settled)
    unfolding pop_retired
    pop_map settled = guard_eq _ _ 3 refl (guard_eq _ _ 9 (held_map p.hand) (go p.retiring))
      where
        go : (q : List (Retiring W)) → Carried (Option.map (map_retiring f)) (pop_front p settled q) (pop_front (map_pool f p) settled (map (map_retiring f) q))
        go [] = alike refl refl
        go (v ∷ vs) = cond_eq (Option.map (map_retiring f)) (leb v.seq settled) _ _ _ _ (alike refl refl) (alike refl refl)

    -- ---- park

    pub park_map : (failed now : ℕ) → Carried (λ (a : Unit {0}). a) (park p failed now) (park (map_pool f p) failed now)
    unfolding park
    park_map failed now = guard_eq _ _ 3 refl (hand p.hand)
      where
        p0 : PoolModel W
        p0 = with_retiring p.retiring none p

        found : (v : Retiring W) (o : Option (VersionState W))
            → park_found (map_pool f p0) failed now (map_retiring f v) (Option.map (map_state f) o) ≡ map_pool f (park_found p0 failed now v o)
        found v none = doom_map (record { view = v.view; bytes = v.bytes } ∷ []) p0
        found v (some t) =
            map_cond (map_pool f) (eqb t.epoch v.epoch)
            (map_cond (map_pool f) (p.pacing.pressed || ltb p.budget.cap (p.parked + bytes_of t.shape))
            (doom_map (record { view = v.view; bytes = bytes_of t.shape } ∷ []) p0)
            (λ i. with_parked (p.parked + bytes_of t.shape)
            (with_textures
            (map_change v.id (λ (u : VersionState X). with_spares (u.spares ++ (as_spare failed now (map_retiring f v) ∷ [])) u)
            (λ (u : VersionState W). with_spares (u.spares ++ (as_spare failed now v ∷ [])) u)
            (λ u i. with_spares (sym (map_both (map_spare f) u.spares (as_spare failed now v ∷ [])) i) (map_state f u)) p.textures i)
            (map_pool f p0))))
            (doom_map (record { view = v.view; bytes = v.bytes } ∷ []) p0)

        hand : (h : Option (Retiring W)) → Carried (λ (a : Unit {0}). a) (park_hand p failed now h) (park_hand (map_pool f p) failed now (Option.map (map_retiring f) h))
        hand none = alike_no
        hand (some v) = alike refl (ap (park_found (map_pool f p0) failed now (map_retiring f v)) (map_find v.id p.textures) ∙ found v (find v.id p.textures))
