-- take_spare for a texture tracked with the same shape: what the rule leaves, slice by slice. Assumes nothing.
use mathlib.Core.Path.{◌≡◌, refl, sym, ap, ap₂, ◌∙◌}
use mathlib.Core.Bool.{Bool, true, false, cond}
use mathlib.Core.Option.{Option, none, some}
use mathlib.Core.List.{List, [], ◌∷◌, map}
use Prim.Native.Nat.{ℕ, suc, ◌+◌, ◌*◌, ◌-◌, ◌<◌}
use native.Mathlib.Omega.{arith}
use borrow.Author.Tests.{eqb-true, eqb-false, eq-eqb, ne_eqb}
use lib.Dec.{eqb}
use lib.ListN.{length, take, get_or, set}
use lib.Seq.{sets}
use Rattle.base_blocks.specs.Lists.{total, removed}
use Rattle.base_blocks.specs.Blocks.{moved}
use Rattle.base_blocks.proofs.Lists.{either}
use Rattle.base_blocks.proofs.Listed.{get_or_listed}
use Rattle.base_tables.specs.Records.{record_at}
use Rattle.grid_shapes.specs.declared.shape.VersionShape.{VersionShape}
use Rattle.grid_shapes.specs.Shapes.{same_shape, bytes_of}
use Rattle.pool_rules.specs.Model.{Spare, VersionState, PoolModel, find}
use Rattle.pool_rules.specs.HistorySizes.{newest_used, stamps_used}
use Rattle.pool_rules.specs.Updates.{with_spares, with_rename, with_textures, with_parked, change}
use Rattle.pool_rules.specs.TakeSpare.{newest, others, taken_bytes, take_spare}
use Rattle.pool_rules.proofs.States.{length_change, total_change, total_unchanged}
use Rattle.pool_records.specs.declared.texture.TextureRecord.{TextureRecord}
use Rattle.pool_records.specs.declared.spare.SpareRecord.{SpareRecord}
use Rattle.pool_records.specs.Texture.{write_texture, texture_in, spares_to}
use Rattle.pool_memory.specs.declared.pool.Pool.{Pool as Counts}
use Rattle.pool_memory.specs.Lent.{Lent, lent}
use Rattle.pool_memory.specs.Reading.{spare_read, state_read, model_of}
use Rattle.pool_memory.specs.Writing.{texture_record, every_spare, pool_after, spares_after, lent_after}
use Rattle.pool_memory.specs.declared.answer.TakenVersion.{TakenVersion}
use Rattle.pool_memory.specs.Calls.{Told, answer, taken_of, take_spare_on}
use Rattle.pool_memory.proofs.Fits.{Fits}
use Rattle.pool_memory.proofs.FromPool.{pool_fits}
use Rattle.pool_memory.proofs.Runs.{spares_of, spare_count, first_spare, first_grid, first_stamp, state_of, tracked_model, kept_model, grids_model, stamps_used_model}
use Rattle.pool_memory.proofs.Kept.{kept_history}
use Rattle.pool_memory.proofs.Same.{doomed_model}
use Rattle.pool_memory.proofs.Stays.{put_together, book_stays, ids_ascend, spares_stay, newest_stay, stamps_stay, retiring_stay, doomed_stay}
use Rattle.pool_memory.proofs.Places.{changed}
use Rattle.pool_memory.proofs.Changes.{spares_before, spares_at, every_taken, every_kept, spares_removed, newest_at_lem, others_taken}
use Rattle.pool_memory.proofs.Starts.{placed_record, textures_set}
use Rattle.pool_memory.proofs.Asked.{asked_accepted}
use Rattle.pool_memory.proofs.Tracked.{record_read, spares_to_lem, bytes_at, record_at_lem, shape_at, count_at}
use Rattle.pool_tracking.specs.Cases.{Accepted, record_of, TrackedAt}
use Rattle.pool_take_spare.specs.TakeNewest.{renamed_record, NewestFits, one_taken, renamed_at, newest_at, spare_at, none_taken, spare_taken, newest_taken}
use Rattle.pool_tracking.proofs.Refusals.{take_tracked_lem}
use Rattle.pool_tracking.proofs.Counts.{counted, counts_after}
use Rattle.pool_tracking.proofs.Tracked.{spares_within, kept_fits, is_there, found_there, here}
use Rattle.pool_records.specs.RecordConstants.{spare_stride, texture_stride}
use Rattle.pool_records.specs.Recorded.{RecordedFits}

-- ---- lists

empty {ℓ} : {A : Type ℓ} (xs : List A) → length xs ≡ 0 → xs ≡ []
empty [] e = refl
empty (x ∷ xs) e = absurd (let y : ⊥ = omega arith in y)

-- what a change leaves alone
pub map_unchanged : {A : Type 0} (f : VersionState ℕ → A) (id : ℕ) (g : VersionState ℕ → VersionState ℕ) → ((t : VersionState ℕ) → f (g t) ≡ f t)
    → (ts : List (VersionState ℕ)) → map f (change id g ts) ≡ map f ts
unfolding change
map_unchanged f id g e [] = refl
map_unchanged {A = A} f id g e (t ∷ ts) =
    ap₂ (λ (x : A) (xs : List A). x ∷ xs) (either (λ (u : VersionState ℕ). f u ≡ f t) (eqb t.id id) (g t) t (λ q. e t) (λ q. refl)) (map_unchanged f id g e ts)

-- the state after the rename
abbrev renamed_state : ℕ → VersionState ℕ → VersionState ℕ
renamed_state seq u = with_rename seq (with_spares (others u.spares) u)

-- its record
fewer : (ss : List (Spare ℕ)) → length (others ss) ≡ length ss - 1
fewer [] = refl
fewer (s ∷ []) = refl
fewer (s ∷ t ∷ ts) = ap suc (fewer (t ∷ ts)) ∙ (let e : suc (suc (length ts) - 1) ≡ suc (suc (length ts)) - 1 = omega arith in e)

renamed_record_lem : (grid stamp seq : ℕ) (u : VersionState ℕ)
    → texture_record grid stamp (renamed_state seq u) ≡ renamed_record seq (length u.spares - 1) (texture_record grid stamp u)
renamed_record_lem grid stamp seq u = ap (λ (n : ℕ). renamed_record seq n (texture_record grid stamp u)) (fewer u.spares)

-- the history of a record renamed fits as before
pub renamed_fits : (x t u : TextureRecord) (seq left : ℕ) → RecordedFits u.history → x ≡ renamed_record seq left t → t ≡ u → RecordedFits x.history
renamed_fits x t u seq left fits e q = rw (sym (ap (λ (r : TextureRecord). r.history) e ∙ ap (λ (r : TextureRecord). r.history) q)) at fits

-- what is answered, the counts, the textures and the spares
abbrev Left : Type 0
Left = Told (Option TakenVersion) × (Counts × (List ℕ × List ℕ))

-- ---- as the code has it

module _ (pool : Counts) (textures spares : List ℕ) (i seq : ℕ) (t x : TextureRecord) (textures' : List ℕ) (is-record : t ≡ texture_in textures i) where
  renamed_as : (left : ℕ) → left ≡ t.spares - 1 → x ≡ renamed_record seq left t → textures' ≡ sets textures (texture_stride * i) (write_texture x) → textures' ≡ renamed_at textures i seq
  renamed_as left n r w =
      w ∙ ap (λ (y : TextureRecord). sets textures (texture_stride * i) (write_texture y))
      (r ∙ ap (λ (m : ℕ). renamed_record seq m t) n ∙ ap (λ (y : TextureRecord). renamed_record seq (y.spares - 1) y) is-record)

  pub none_left : t.spares ≡ 0 → x ≡ renamed_record seq 0 t → textures' ≡ sets textures (texture_stride * i) (write_texture x)
      → (answer none, (pool, (textures', spares))) ≡ newest_taken pool textures spares i seq
  unfolding newest_taken
  none_left e r w =
      ap (λ (s : List ℕ). (answer none, (pool, (s, spares)))) (renamed_as 0 (omega (arith, e)) r w)
      ∙ sym (ap (λ (b : Bool). cond b (none_taken pool textures spares i seq) (spare_taken pool textures spares i seq)) (eq-eqb (texture_in textures i).spares 0 (sym (ap spares_of is-record) ∙ e)))

  pub spare_left : (first k : ℕ) (s : SpareRecord) (spares' : List ℕ) → (t.spares ≡ 0 → ⊥) → first ≡ spares_to textures i → k ≡ first + (t.spares - 1)
      → s ≡ spare_at spares k → x ≡ renamed_record seq (t.spares - 1) t → textures' ≡ sets textures (texture_stride * i) (write_texture x)
      → spares' ≡ moved spares (spare_stride * k) (spare_stride * k + spare_stride * 1) (spare_stride * (pool.kept - (k + 1)))
      → (answer (some (record { view = s.view; held = s.held })), (one_taken pool t.bytes, (textures', spares'))) ≡ newest_taken pool textures spares i seq
  unfolding newest_taken
  spare_left first k s spares' other e1 e2 e3 r w e4 =
      let at : k ≡ newest_at textures i = e2 ∙ ap₂ (λ (a b : ℕ). a + (b - 1)) e1 (ap spares_of is-record) in
      let out = renamed_as (t.spares - 1) refl r w in
      let here = e3 ∙ ap (spare_at spares) at in
      let rest = e4 ∙ ap (λ (j : ℕ). moved spares (spare_stride * j) (spare_stride * j + spare_stride * 1) (spare_stride * (pool.kept - (j + 1)))) at in
      (λ j. (answer (some (record { view = (here j).view; held = (here j).held })), (one_taken pool (is-record j).bytes, (out j, rest j))))
      ∙ sym (ap (λ (b : Bool). cond b (none_taken pool textures spares i seq) (spare_taken pool textures spares i seq)) (ne_eqb (texture_in textures i).spares 0 (λ e. other (ap spares_of is-record ∙ e))))

-- what it asks, of a tracked texture of a pool
pub newest_fits : (l : Lent) (i id : ℕ) (shape : VersionShape) (records : Bool) (seq : ℕ) → Accepted l i id shape records seq → TrackedAt l i id
    → NewestFits l.pool l.textures l.spares i
newest_fits l i id shape records seq ok h =
    let k = here l i id shape records seq ok h in
    record {
      place = k.textures;
      history = k.history;
      within = omega (arith, k.first, k.within);
      most = k.kept;
      room = k.spares;
      one = λ q. omega (arith, k.bytes, k.one q);
    }

-- ---- the rule

module _ (l : Lent) (i id : ℕ) (shape : VersionShape) (records : Bool) (seq : ℕ) (ok : Accepted l i id shape records seq) (h : TrackedAt l i id)
    (same : same_shape (record_of l i).shape shape ≡ true) where
  abbrev f : Fits l
  f = pool_fits l ok.0

  abbrev u : VersionState ℕ
  u = state_of l i

  abbrev t : TextureRecord
  t = record_of l i

  abbrev count : ℕ
  count = (record_of l i).spares

  there : find id (model_of l).textures ≡ some u
  there = found_there l f i h.0 id ok.1.0 h.1

  abbrev after_take_lem : PoolModel ℕ
  after_take_lem =
      with_parked ((model_of l).parked - taken_bytes u.shape (newest u.spares))
      (with_textures (change id (renamed_state seq) (model_of l).textures) (model_of l))

  ruled : take_spare_on l id shape records seq ≡ (answer (taken_of (newest u.spares)), lent_after after_take_lem l)
  unfolding take_spare_on
  ruled =
      asked_accepted taken_of l (λ (p : PoolModel ℕ). take_spare p id shape records seq) ok.0 (newest u.spares) after_take_lem
      (take_tracked_lem (model_of l) id shape records seq ok.1.1 u there (ap (λ (s : VersionShape). same_shape s shape) (shape_at l i h.0) ∙ same))

  changed_there : change id (renamed_state seq) (model_of l).textures ≡ set (model_of l).textures i (renamed_state seq u)
  changed_there =
      changed l id (ids_ascend l f) (is_there l f i h.0 id ok.1.0 h.1) (renamed_state seq)
      ∙ ap (λ (k : ℕ). set (model_of l).textures k (renamed_state seq (state_of l k))) (sym ok.1.0)

  -- how many spares the texture has
  spares_counted : length u.spares ≡ count
  spares_counted = count_at l i h.0

  record_left : placed_record l i (renamed_state seq u) ≡ renamed_record seq (count - 1) t
  record_left =
      renamed_record_lem (first_grid l i) (first_stamp l i) seq u
      ∙ ap₂ (λ (n : ℕ) (r : TextureRecord). renamed_record seq (n - 1) r) spares_counted
      (record_at_lem l i h.0 f)

  -- the memory with the record renamed, whatever the counts and the spares are
  abbrev left_with : Counts → List ℕ → Lent
  left_with c spares = lent c l.book (renamed_at l.textures i seq) l.retiring l.doomed spares l.newest l.stamps

  left_as : (c : Counts) (spares : List ℕ) → c ≡ pool_after after_take_lem l → spares ≡ spares_after after_take_lem l → left_with c spares ≡ lent_after after_take_lem l
  left_as c spares e1 e2 =
      let kept = map_unchanged kept_history id (renamed_state seq) (λ (v : VersionState ℕ). refl) (model_of l).textures in
      put_together after_take_lem l c l.book (renamed_at l.textures i seq) l.retiring l.doomed spares l.newest l.stamps
      e1 (book_stays l f after_take_lem refl)
      (ap (λ (r : TextureRecord). sets l.textures (texture_stride * i) (write_texture r)) (sym record_left) ∙ textures_set l after_take_lem f i (renamed_state seq u) h.0 changed_there refl refl)
      (retiring_stay l f after_take_lem refl refl) (doomed_stay l f after_take_lem refl) e2 (newest_stay l f after_take_lem kept) (stamps_stay l f after_take_lem kept)

  kept_left : total spare_count (change id (renamed_state seq) (model_of l).textures) + (count - (count - 1)) ≡ l.pool.kept
  kept_left =
      omega (arith, total_change spare_count id (renamed_state seq) u (model_of l).textures f.formed.ids there, kept_model l, f.kept, fewer u.spares, spares_counted)

  tracked_left : l.pool.tracked ≡ length (change id (renamed_state seq) (model_of l).textures)
  tracked_left = sym (length_change id (renamed_state seq) (model_of l).textures ∙ tracked_model l)

  grids_left : l.pool.grids ≡ total newest_used (change id (renamed_state seq) (model_of l).textures)
  grids_left = sym (total_unchanged newest_used id (renamed_state seq) (λ (v : VersionState ℕ). refl) (model_of l).textures ∙ grids_model l ∙ f.claimed)

  stamps_left : l.pool.stamps ≡ total stamps_used (change id (renamed_state seq) (model_of l).textures)
  stamps_left =
      sym (total_unchanged stamps_used id (renamed_state seq) (λ (v : VersionState ℕ). refl) (model_of l).textures ∙ stamps_used_model l ∙ f.stamps_claimed)

  counts_left : (kept parked : ℕ) → kept + (count - (count - 1)) ≡ l.pool.kept → parked ≡ after_take_lem.parked
      → counted l.pool l.pool.tracked kept l.pool.grids l.pool.stamps l.pool.doomed l.pool.since l.pool.trackings parked l.pool.dooming ≡ pool_after after_take_lem l
  unfolding model_of
  counts_left kept parked e1 e2 =
      ap (λ (n : ℕ). counted l.pool l.pool.tracked kept l.pool.grids l.pool.stamps l.pool.doomed l.pool.since l.pool.trackings n l.pool.dooming) e2
      ∙ counts_after l f after_take_lem refl refl refl refl l.pool.tracked kept l.pool.grids l.pool.stamps l.pool.doomed tracked_left (omega (arith, kept_left, e1)) grids_left stamps_left
      (sym (doomed_model l)) (omega arith)

  -- the parked bytes, less those of what is taken
  parked_left : (o : Option (Spare ℕ)) → newest u.spares ≡ o → (bytes : ℕ) → bytes ≡ taken_bytes u.shape o → l.pool.parked - bytes ≡ after_take_lem.parked
  unfolding model_of
  parked_left o e bytes q = ap (λ (n : ℕ). l.pool.parked - n) (q ∙ ap (taken_bytes u.shape) (sym e))

  -- ---- no spare

  no_spare : count ≡ 0 → (answer none, left_with l.pool l.spares) ≡ take_spare_on l id shape records seq
  no_spare e =
      let none_there : u.spares ≡ [] = empty u.spares (spares_counted ∙ e) in
      ap₂ (λ (a : Told (Option TakenVersion)) (m : Lent). (a, m)) (ap (λ (ss : List (Spare ℕ)). answer (taken_of (newest ss))) (sym none_there))
      (left_as l.pool l.spares
      (counts_left l.pool.kept l.pool.parked (omega arith)
      ((let q : l.pool.parked ≡ l.pool.parked - 0 = omega arith in q) ∙ parked_left none (ap newest none_there) 0 refl))
      (spares_stay l f after_take_lem (ap every_spare changed_there ∙ every_kept l i h.0 (renamed_state seq u) (ap others none_there ∙ sym none_there))))
      ∙ sym ruled

  -- ---- the newest of them

  module _ (some-spare : 0 < count) (k : ℕ) (at : k ≡ first_spare l i + (count - 1)) where
    last_spare : newest u.spares ≡ some (spare_read l k)
    unfolding state_of state_read
    last_spare =
        newest_at_lem u.spares (spare_read l 0) (omega (arith, spares_counted))
        ∙ ap some
        (ap (λ (n : ℕ). get_or u.spares (n - 1) (spare_read l 0)) spares_counted
        ∙ get_or_listed (spare_read l) (first_spare l i) (spares_at l i) (count - 1) (spare_read l 0) (omega (arith, ap spares_of (record_read l i h.0)))
        ∙ ap (spare_read l) (sym at))

    all_but_last : every_spare (change id (renamed_state seq) (model_of l).textures) ≡ removed k 1 (spares_before l)
    all_but_last =
        ap every_spare changed_there
        ∙ every_taken l i h.0 (renamed_state seq u) (count - 1) (omega (arith, ap spares_of (record_read l i h.0)))
        (others_taken u.spares ∙ ap (λ (n : ℕ). take (n - 1) u.spares) spares_counted)
        ∙ ap₂ (λ (a b : ℕ). removed a b (spares_before l)) (sym at) (let q : spares_at l i - (count - 1) ≡ 1 = omega (arith, ap spares_of (record_read l i h.0)) in q)

    spare_taken_lem : (
      answer (some (record { view = (spare_at l.spares k).view; held = (spare_at l.spares k).held })),
      left_with (one_taken l.pool t.bytes) (moved l.spares (spare_stride * k) (spare_stride * k + spare_stride * 1) (spare_stride * (l.pool.kept - (k + 1)))),
    )
        ≡ take_spare_on l id shape records seq
    unfolding record_at spare_read
    spare_taken_lem =
        ap₂ (λ (a : Told (Option TakenVersion)) (m : Lent). (a, m)) (ap (λ (o : Option (Spare ℕ)). answer (taken_of o)) (sym last_spare))
        (left_as _ _
        (counts_left (l.pool.kept - 1) (l.pool.parked - t.bytes) (omega (arith, spares_within l f i h.0))
        (parked_left (some (spare_read l k)) last_spare t.bytes (bytes_at l i h.0 f ∙ ap bytes_of (sym (shape_at l i h.0)))))
        (spares_removed l after_take_lem f.kept (kept_fits l f i h.0) k 1 (omega (arith, spares_within l f i h.0)) all_but_last))
        ∙ sym ruled

  -- ---- both

  -- the memory with what changes of it
  abbrev around : Left → Told (Option TakenVersion) × Lent
  around q = (q.0, lent q.1.0 l.book q.1.1.0 l.retiring l.doomed q.1.1.1 l.newest l.stamps)

  either_way : (b : Bool) → eqb count 0 ≡ b
      → around (cond b (none_taken l.pool l.textures l.spares i seq) (spare_taken l.pool l.textures l.spares i seq)) ≡ take_spare_on l id shape records seq
  either_way true e = no_spare (eqb-true count 0 e)
  either_way false e = spare_taken_lem (omega (arith, eqb-false count 0 e)) (newest_at l.textures i) (omega (arith, spares_to_lem l i h.0))

  pub left_taken : (a : Told (Option TakenVersion)) (c : Counts) (textures spares : List ℕ)
      → (a, (c, (textures, spares))) ≡ newest_taken l.pool l.textures l.spares i seq
      → (a, lent c l.book textures l.retiring l.doomed spares l.newest l.stamps) ≡ take_spare_on l id shape records seq
  unfolding newest_taken
  left_taken a c textures spares e = ap around e ∙ either_way (eqb count 0) refl
