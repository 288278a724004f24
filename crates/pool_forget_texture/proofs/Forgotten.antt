-- `forget_texture` on a pool: what it leaves of a tracked texture, slice by slice, and nothing changed where none is tracked. Assumes nothing.
use mathlib.Core.Path.{◌≡◌, refl, sym, ap, ap₂, ◌∙◌}
use mathlib.Core.Bool.{true, false}
use mathlib.Core.List.{List, [], map, append-nil}
use Prim.Native.Nat.{ℕ, ◌+◌, ◌-◌, ◌*◌, ◌/◌, ◌≤◌, ◌<◌, ◌^◌}
use native.Mathlib.Nat.{add-zero, sub-zero}
use native.Mathlib.Omega.{arith}
use lib.ListN.{length, get_or, length-append}
use Rattle.base_blocks.specs.Lists.{total, removed, ascending}
use Rattle.base_blocks.specs.Blocks.{moved}
use Rattle.base_blocks.proofs.Lists.{total_get}
use Rattle.base_tables.specs.Rings.{laid}
use Rattle.grid_shapes.specs.Shapes.{bytes_of}
use Rattle.pool_rules.specs.Model.{Spare, Doomed, VersionState, PoolModel, accepted, spare_bytes, doomed_bytes}
use Rattle.pool_rules.specs.HistorySizes.{newest_used, stamps_used}
use Rattle.pool_rules.specs.Updates.{with_textures, as_doomed, doom_spares}
use Rattle.pool_rules.specs.ForgetTexture.{forget_texture}
use Rattle.pool_rules.proofs.Moves.{as_doomed_bytes, as_doomed_length}
use Rattle.pool_records.specs.Doomed.{write_doomed}
use Rattle.pool_records.specs.Starts.{less_by, StartsMove, grid_end, stamp_end}
use Rattle.pool_records.specs.Texture.{read_texture, texture_in, record_grids, record_stamps, spares_to}
use Rattle.pool_records.specs.Find.{id_of, has_id}
use Rattle.pool_memory.specs.declared.pool.Pool.{Pool as Counts}
use Rattle.pool_memory.specs.Lent.{Lent, lent, version_places}
use Rattle.pool_memory.specs.Reading.{tracked_records, model_of}
use Rattle.pool_memory.specs.Writing.{doomed_record, pool_after, pacing_after, doomed_after, textures_after, spares_after, newest_after, stamps_after, lent_after}
use Rattle.pool_memory.specs.IsPool.{is_pool}
use Rattle.pool_memory.specs.Calls.{answer, forget_texture_on}
use Rattle.pool_memory.proofs.Fits.{Fits}
use Rattle.pool_memory.proofs.FromPool.{pool_fits}
use Rattle.pool_memory.proofs.Asked.{asked_accepted}
use Rattle.pool_memory.proofs.Runs.{first_spare, first_grid, first_stamp, state_of, tracked_model, grids_model, stamps_used_model, model_at}
use Rattle.pool_memory.proofs.Rings.{hand_model, head_stays, first_stays, doomed_pushed}
use Rattle.pool_memory.proofs.Same.{book_same, queued_model, doomed_model}
use Rattle.pool_memory.proofs.Places.{IsTracked, place, taken_out, given as given', not_taken_out, not_given}
use Rattle.pool_memory.proofs.Stays.{put_together, ids_ascend, textures_fit_lem, doomed_fit_lem, nothing_changed, retiring_stay, doomed_bound}
use Rattle.pool_memory.proofs.Counts.{tracked_removed, kept_removed, used_removed}
use Rattle.pool_memory.proofs.Changes.{spares_at, every_removed, spares_removed}
use Rattle.pool_memory.proofs.HistoryRuns.{grid_count_at, stamp_count_at, grids_in, stamps_in_lem, newest_removed, stamps_removed}
use Rattle.pool_memory.proofs.Starts.{textures_removed, removed_moves}
use Rattle.pool_memory.proofs.Tracked.{record_read, spares_to_lem, grid_at_lem, stamp_at_lem, grids_at_lem, stamps_at, bytes_at, shape_at, count_at}
use Rattle.pool_take_doomed.specs.Given.{given_records}
use Rattle.pool_take_doomed.proofs.Pushed.{given_spares}
use Rattle.pool_access.proofs.Ids.{found, not_found}
use Rattle.pool_forget_texture.specs.declared.owned.Owned.{Owned}
use Rattle.pool_forget_texture.specs.Owned.{owned_at, without, without_record}
use Rattle.pool_forget_texture.proofs.TextureRuns.{spares_in, spares_within, bytes_within, grids_end, stamps_end}
use Rattle.grid_shapes.specs.ShapeConstants.{most_shape_bytes}
use Rattle.pool_records.specs.RecordConstants.{doomed_stride, retiring_stride, spare_stride, texture_stride}
use Rattle.pool_rules.specs.RuleConstants.{most_places}

-- the pool without texture i, whose spares wait to be destroyed
abbrev given : Lent → ℕ → List (Doomed ℕ)
given l i = as_doomed (bytes_of (state_of l i).shape) (state_of l i).spares

abbrev forgotten : Lent → ℕ → PoolModel ℕ
forgotten l i = doom_spares (given l i) (with_textures (removed i 1 (model_of l).textures) (model_of l))

-- as the code counts them
abbrev places : Lent → ℕ
places l = length l.retiring / retiring_stride

module _ (l : Lent) (f : Fits l) (i : ℕ) (h : i < l.pool.tracked) where
  abbrev T : List ℕ
  T = l.textures

  abbrev out : List (Doomed ℕ)
  out = given l i

  abbrev left : PoolModel ℕ
  left = forgotten l i

  -- ---- what the calls of its parts ask for

  pub owned_fits : (texture_stride * l.pool.tracked ≤ length T) × (i < l.pool.tracked) × (spares_to T l.pool.tracked ≡ l.pool.kept)
      × (l.pool.kept ≤ most_places) × ((texture_in T i).grid ≤ grid_end T l.pool.tracked l.pool.grids i)
      × ((texture_in T i).stamp ≤ stamp_end T l.pool.tracked l.pool.stamps i)
  owned_fits = (
    textures_fit_lem l f,
    h,
    f.kept,
    omega (arith, f.versions, f.most),
    omega (arith, grid_at_lem l i h f, grids_end l i h f),
    omega (arith, stamp_at_lem l i h f, stamps_end l i h f),
  )

  module _ (own : Owned) (e : own ≡ owned_at l.pool T i) where
    first_is : own.first ≡ spares_to T i
    unfolding owned_at
    first_is = ap (λ (o : Owned). o.first) e

    spares_is : own.spares ≡ (texture_in T i).spares
    unfolding owned_at
    spares_is = ap (λ (o : Owned). o.spares) e

    grid_is : own.grid ≡ first_grid l i
    unfolding owned_at
    grid_is = ap (λ (o : Owned). o.grid) e ∙ grid_at_lem l i h f

    grids_is : own.grids ≡ grid_count_at l i
    unfolding owned_at
    grids_is = omega (arith, ap (λ (o : Owned). o.grids) e, grid_at_lem l i h f, grids_end l i h f)

    stamp_is : own.stamp ≡ first_stamp l i
    unfolding owned_at
    stamp_is = ap (λ (o : Owned). o.stamp) e ∙ stamp_at_lem l i h f

    stamps_is : own.stamps ≡ stamp_count_at l i
    unfolding owned_at
    stamps_is = omega (arith, ap (λ (o : Owned). o.stamps) e, stamp_at_lem l i h f, stamps_end l i h f)

    bytes_is : own.bytes * own.spares ≡ bytes_of (texture_in T i).shape * (texture_in T i).spares
    unfolding owned_at
    bytes_is = ap (λ (o : Owned). o.bytes * o.spares) e ∙ ap (λ (b : ℕ). b * (texture_in T i).spares) (bytes_at l i h f)

    pub own_spares : own.first + own.spares ≤ l.pool.kept
    own_spares = omega (arith, first_is, spares_is, spares_within l i h f)

    pub own_grids : own.grid + own.grids ≤ l.pool.grids
    own_grids = omega (arith, grid_is, grids_is, grids_in l f i h)

    pub own_stamps_lem : own.stamp + own.stamps ≤ l.pool.stamps
    own_stamps_lem = omega (arith, stamp_is, stamps_is, stamps_in_lem l f i h)

    -- as many as the texture's state has
    grids_used_lem : own.grids ≡ newest_used (state_of l i)
    grids_used_lem = grids_is ∙ ap record_grids (record_read l i h) ∙ sym (grids_at_lem l i h)

    stamps_used_lem : own.stamps ≡ stamps_used (state_of l i)
    stamps_used_lem = stamps_is ∙ ap record_stamps (record_read l i h) ∙ sym (stamps_at l i h)

    pub record_fits : (texture_stride * l.pool.tracked ≤ length T) × (i < l.pool.tracked)
        × StartsMove (less_by own.grids) (less_by own.stamps) i (l.pool.tracked - 1)
        (moved T (texture_stride * i) (texture_stride * i + texture_stride * 1) (texture_stride * (l.pool.tracked - (i + 1))))
    record_fits = (textures_fit_lem l f, h, removed_moves l left f (less_by own.grids) (less_by own.stamps) (omega arith) (omega arith) i h grids_used_lem stamps_used_lem)

    pub push_fits : (doomed_stride * places l ≤ length l.doomed) × (l.pool.first < places l) × (l.pool.doomed + own.spares ≤ places l)
        × (spare_stride * (own.first + own.spares) ≤ length l.spares)
    unfolding version_places
    push_fits = (omega (arith, f.doomed), f.first, omega (arith, own_spares, f.versions), omega (arith, own_spares, f.versions, f.spares))

    spare_bytes_lem : own.bytes * own.spares ≤ l.pool.parked
    unfolding model_of
    spare_bytes_lem =
        let same : spare_bytes (state_of l i) ≡ own.bytes * own.spares =
        ap₂ (λ (b n : ℕ). b * n) (ap bytes_of (shape_at l i h)) (count_at l i h) ∙ sym bytes_is in
        let least = total_get spare_bytes (model_of l).textures i (state_of l 0) (omega (arith, tracked_model l)) in
        omega (arith, same, ap spare_bytes (model_at l i (state_of l 0) h), least, f.formed.parked)

    pub counts_fit_lem : (1 ≤ l.pool.tracked) × (own.spares ≤ l.pool.kept) × (own.grids ≤ l.pool.grids) × (own.stamps ≤ l.pool.stamps)
        × (l.pool.doomed + own.spares ≤ most_places)
        × (l.pool.since ≤ most_places) × (own.bytes * own.spares ≤ l.pool.parked) × (l.pool.dooming + own.bytes * own.spares < 2 ^ 64)
    unfolding model_of
    counts_fit_lem =
        let dooming : l.pool.dooming ≤ most_shape_bytes * length (model_of l).doomed =
        omega (arith, f.formed.dooming, doomed_bound f.formed.doomed) in (
          omega arith,
          omega (arith, own_spares),
          omega (arith, own_grids),
          omega (arith, own_stamps_lem),
          omega (arith, own_spares, f.versions, f.most),
          omega (arith, f.formed.since, doomed_model l, doomed_fit_lem l f, f.most),
          spare_bytes_lem,
          omega (arith, dooming, doomed_model l, doomed_fit_lem l f, f.most, bytes_is, bytes_within l i h f),
        )

  -- ---- what is left

  out_count : length out ≡ (texture_in T i).spares
  out_count = as_doomed_length (bytes_of (state_of l i).shape) (state_of l i).spares ∙ count_at l i h

  out_each : bytes_of (state_of l i).shape ≡ (texture_in T i).bytes
  out_each = ap bytes_of (shape_at l i h) ∙ sym (bytes_at l i h f)

  out_bytes : doomed_bytes out ≡ (texture_in T i).bytes * (texture_in T i).spares
  out_bytes =
      as_doomed_bytes (bytes_of (state_of l i).shape) (state_of l i).spares
      ∙ ap₂ (λ (b n : ℕ). b * n) out_each (count_at l i h)

  out_records : map doomed_record out ≡ given_records l.spares (texture_in T i).bytes (spares_to T i) (texture_in T i).spares
  out_records =
      ap₂ (λ (b : ℕ) (ss : List (Spare ℕ)). map doomed_record (as_doomed b ss)) out_each (spares_in l i h)
      ∙ sym (given_spares l (texture_in T i).bytes (spares_to T i) (texture_in T i).spares)

  own_spares_are : spares_at l i ≡ (texture_in T i).spares
  own_spares_are = ap (λ t. t.spares) (record_read l i h)

  spares_there : first_spare l i + spares_at l i ≤ l.pool.kept
  spares_there = omega (arith, spares_to_lem l i h, own_spares_are, spares_within l i h f)

  -- what the histories of the others use
  less : (used : VersionState ℕ → ℕ) (count n : ℕ) → total used (model_of l).textures ≡ count → n ≡ used (state_of l i)
      → count - n ≡ total used left.textures
  less used count n e u = omega (arith, used_removed l left used count e i h refl, u)

  counts_left : (own : Owned) → own ≡ owned_at l.pool T i → without l.pool own ≡ pool_after left l
  unfolding without owned_at pool_after model_of
  counts_left own e = λ j. record {
    tracked = sym (tracked_removed l left i 1 (omega arith) refl) j;
    kept = sym (kept_removed l left f.kept (first_spare l i) (spares_at l i) spares_there (every_removed l i h)
        ∙ ap (λ (n : ℕ). l.pool.kept - n) (own_spares_are ∙ sym (spares_is own e))) j;
    grids = less newest_used l.pool.grids own.grids (grids_model l ∙ f.claimed) (grids_used_lem own e) j;
    stamps = less stamps_used l.pool.stamps own.stamps (stamps_used_model l ∙ f.stamps_claimed) (stamps_used_lem own e) j;
    head = sym (head_stays l left f.head (omega (arith, hand_model l f.hand))) j;
    popped = sym (hand_model l f.hand) j;
    queued = sym (queued_model l) j;
    first = sym (first_stays l left f.first (omega (arith, doomed_model l, length-append (model_of l).doomed out))) j;
    doomed = sym (length-append (model_of l).doomed out ∙ ap₂ (λ (m n : ℕ). m + n) (doomed_model l) (out_count ∙ sym (spares_is own e))) j;
    since = sym (ap (λ (n : ℕ). l.pool.since + n) (out_count ∙ sym (spares_is own e))) j;
    trackings = l.pool.trackings;
    parked = sym (ap (λ (n : ℕ). l.pool.parked - n) (out_bytes ∙ sym (ap (λ (o : Owned). o.bytes * o.spares) e))) j;
    dooming = sym (ap (λ (n : ℕ). l.pool.dooming + n) (out_bytes ∙ sym (ap (λ (o : Owned). o.bytes * o.spares) e))) j;
    cap = l.pool.cap;
    line = l.pool.line;
  }

  doomed_left : laid doomed_stride write_doomed (version_places l) l.pool.first l.pool.doomed
      (given_records l.spares (texture_in T i).bytes (spares_to T i) (texture_in T i).spares) l.doomed ≡ doomed_after left l
  doomed_left =
      ap (λ rs. laid doomed_stride write_doomed (version_places l) l.pool.first l.pool.doomed rs l.doomed) (sym out_records)
      ∙ doomed_pushed l left f.first (omega (arith, f.doomed)) (doomed_fit_lem l f) out refl

  spares_left : moved l.spares (spare_stride * spares_to T i) (spare_stride * spares_to T i + spare_stride * (texture_in T i).spares)
      (spare_stride * (l.pool.kept - (spares_to T i + (texture_in T i).spares)))
      ≡ spares_after left l
  spares_left =
      sym (ap₂ (λ (k n : ℕ). moved l.spares (spare_stride * k) (spare_stride * k + spare_stride * n) (spare_stride * (l.pool.kept - (k + n)))) (spares_to_lem l i h) own_spares_are)
      ∙ spares_removed l left f.kept (omega (arith, f.spares, f.versions)) (first_spare l i) (spares_at l i)
      spares_there (every_removed l i h)

  newest_left : moved l.newest (first_grid l i) (first_grid l i + grid_count_at l i) (l.pool.grids - (first_grid l i + grid_count_at l i)) ≡ newest_after left l
  newest_left = newest_removed l f left i h refl

  stamps_left : moved l.stamps (first_stamp l i) (first_stamp l i + stamp_count_at l i) (l.pool.stamps - (first_stamp l i + stamp_count_at l i))
      ≡ stamps_after left l
  stamps_left = stamps_removed l f left i h refl

  textures_left : (own : Owned) → own ≡ owned_at l.pool T i → without_record T l.pool.tracked i own ≡ textures_after left l
  unfolding without_record
  textures_left own e =
      textures_removed l left f (less_by own.grids) (less_by own.stamps) i h refl (grids_used_lem own e) refl (stamps_used_lem own e) refl

  book_left : l.book ≡ pacing_after left
  unfolding pacing_after
  book_left = sym (book_same l f.mark)

  pub left_behind : (own : Owned) → own ≡ owned_at l.pool T i → (c : Counts) (textures doomed spares newest stamps : List ℕ)
      → c ≡ without l.pool own
      → textures ≡ without_record T l.pool.tracked i own
      → doomed ≡ laid doomed_stride write_doomed (places l) l.pool.first l.pool.doomed (given_records l.spares own.bytes own.first own.spares)
      l.doomed
      → spares ≡ moved l.spares (spare_stride * own.first) (spare_stride * own.first + spare_stride * own.spares) (spare_stride * (l.pool.kept - (own.first + own.spares)))
      → newest ≡ moved l.newest own.grid (own.grid + own.grids) (l.pool.grids - (own.grid + own.grids))
      → stamps ≡ moved l.stamps own.stamp (own.stamp + own.stamps) (l.pool.stamps - (own.stamp + own.stamps))
      → lent c l.book textures l.retiring doomed spares newest stamps ≡ lent_after left l
  unfolding owned_at version_places
  left_behind own e c textures doomed spares newest stamps e1 e2 e3 e4 e5 e6 =
      put_together left l c l.book textures l.retiring doomed spares newest stamps
      (e1 ∙ counts_left own e)
      book_left
      (e2 ∙ textures_left own e)
      (retiring_stay l f left refl refl)
      (e3 ∙ ap (λ (o : Owned). laid doomed_stride write_doomed (version_places l) l.pool.first l.pool.doomed
      (given_records l.spares o.bytes o.first o.spares) l.doomed) e
      ∙ doomed_left)
      (e4 ∙ ap (λ (o : Owned). moved l.spares (spare_stride * o.first) (spare_stride * o.first + spare_stride * o.spares) (spare_stride * (l.pool.kept - (o.first + o.spares)))) e
      ∙ spares_left)
      (e5 ∙ ap₂ (λ (k n : ℕ). moved l.newest k (k + n) (l.pool.grids - (k + n))) (grid_is own e) (grids_is own e) ∙ newest_left)
      (e6 ∙ ap₂ (λ (k n : ℕ). moved l.stamps k (k + n) (l.pool.stamps - (k + n))) (stamp_is own e) (stamps_is own e) ∙ stamps_left)

-- ---- the call

module _ (l : Lent) (pool : is_pool l ≡ true) (id : ℕ) where
  abbrev f : Fits l
  f = pool_fits l pool

  abbrev up : ascending id_of (tracked_records l) ≡ true
  up = ids_ascend l f

  rule_tracked : IsTracked l id up → forget_texture (model_of l) id ≡ accepted tt (forgotten l (place l id up))
  unfolding forget_texture
  rule_tracked t =
      ap₂ (λ (ds : List (Doomed ℕ)) (ts : List (VersionState ℕ)). accepted tt (doom_spares ds (with_textures ts (model_of l))))
      (given' l id up t (λ (s : VersionState ℕ). as_doomed (bytes_of s.shape) s.spares)) (taken_out l id up t)

  none_doomed : doom_spares [] (with_textures (model_of l).textures (model_of l)) ≡ model_of l
  unfolding total
  none_doomed = λ j. record {
    textures = (model_of l).textures;
    retiring = (model_of l).retiring;
    hand = (model_of l).hand;
    doomed = append-nil (model_of l).doomed j;
    since = add-zero (model_of l).since j;
    trackings = (model_of l).trackings;
    parked = sub-zero (model_of l).parked j;
    dooming = add-zero (model_of l).dooming j;
    places = (model_of l).places;
    budget = (model_of l).budget;
    pacing = (model_of l).pacing;
  }

  rule_untracked : (IsTracked l id up → ⊥) → forget_texture (model_of l) id ≡ accepted tt (model_of l)
  unfolding forget_texture
  rule_untracked t =
      ap₂ (λ (ds : List (Doomed ℕ)) (ts : List (VersionState ℕ)). accepted tt (doom_spares ds (with_textures ts (model_of l))))
      (not_given l id up t (λ (s : VersionState ℕ). as_doomed (bytes_of s.shape) s.spares)) (not_taken_out l id up t)
      ∙ ap (accepted tt) none_doomed

  -- i is where the search ended
  module _ (i : ℕ) (at : i ≡ place l id up) where
    pub there : has_id l.textures l.pool.tracked i id ≡ true → i < l.pool.tracked
    there q = (found l.textures l.pool.tracked i id q).0

    is_there : has_id l.textures l.pool.tracked i id ≡ true → IsTracked l id up
    is_there q =
        let w = found l.textures l.pool.tracked i id q in
        (omega (arith, at, w.0), ap (λ (k : ℕ). (get_or (tracked_records l) k (read_texture [])).id) (sym at) ∙ ap id_of (record_read l i w.0) ∙ w.1)

    is_nowhere : has_id l.textures l.pool.tracked i id ≡ false → IsTracked l id up → ⊥
    is_nowhere q (h, e) = not_found l.textures l.pool.tracked i id up at q (place l id up) h (ap id_of (sym (record_read l (place l id up) h)) ∙ e)

    pub forget_tracked : has_id l.textures l.pool.tracked i id ≡ true → (r : Lent) → r ≡ lent_after (forgotten l i) l
        → (answer tt, r) ≡ forget_texture_on l id
    unfolding forget_texture_on
    forget_tracked q r e =
        ap (λ (s : Lent). (answer tt, s)) (e ∙ ap (λ (k : ℕ). lent_after (forgotten l k) l) at)
        ∙ sym (asked_accepted (λ a. a) l (λ (p : PoolModel ℕ). forget_texture p id) pool tt (forgotten l (place l id up)) (rule_tracked (is_there q)))

    pub forget_untracked : has_id l.textures l.pool.tracked i id ≡ false → (answer tt, l) ≡ forget_texture_on l id
    unfolding forget_texture_on
    forget_untracked q =
        sym (asked_accepted (λ a. a) l (λ (p : PoolModel ℕ). forget_texture p id) pool tt (model_of l) (rule_untracked (is_nowhere q))
        ∙ ap (λ (s : Lent). (answer tt, s)) (nothing_changed l f))
