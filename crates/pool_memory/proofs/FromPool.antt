-- Lent memory that passes the test has every one of the facts. Assumes nothing.
use mathlib.Core.Path.{◌≡◌, refl, sym, ap, ap₂, ◌∙◌, subst}
use mathlib.Core.Bool.{true}
use mathlib.Core.Option.{Option, none, some}
use mathlib.Core.List.{List, [], ◌∷◌}
use Prim.Native.Nat.{ℕ, ◌+◌, ◌*◌, ◌/◌, ◌%◌, ◌≤◌, ◌<◌, min}
use native.Mathlib.Nat.{zero-add, mul_comm}
use native.Mathlib.Omega.{arith}
use borrow.Author.Tests.{ltb-true, leb-true, eqb-true}
use lib.Dec.{leb, eqb}
use lib.ListN.{length, take, drop, get_or, length-drop}
use lib.Seq.{length-take-le}
use Rattle.base_blocks.specs.Lists.{listed, all, total}
use Rattle.base_blocks.specs.All.{All, nil, cons}
use Rattle.base_blocks.specs.Blocks.{largest}
use Rattle.base_blocks.proofs.Lists.{passed, and_both, all_get}
use Rattle.base_blocks.proofs.Listed.{length_listed, get_or_listed}
use Rattle.base_unequal.specs.Unequal.{starts_fit}
use Rattle.grid_shapes.specs.declared.shape.VersionShape.{VersionShape}
use Rattle.grid_shapes.specs.Shapes.{slices_of}
use Rattle.grid_stamps.specs.declared.grid.Tiling.{Tiling}
use Rattle.grid_stamps.specs.Grids.{tiling_of, stamp_count, StampGrid, grid_in}
use Rattle.grid_stamps.proofs.RowByRow.{tile_place}
use Rattle.pool_rules.specs.declared.held.Held.{Held}
use Rattle.pool_rules.specs.declared.held.Held.TheVariants.{Known, Unknown}
use Rattle.pool_rules.specs.Model.{WriteHistory, Spare, Retiring, Doomed, Places, grid_count, versions_used, limit}
use Rattle.pool_rules.specs.Histories.{grid_at, grid_place}
use Rattle.pool_rules.specs.HistorySizes.{grid_size, grid_start, history_size}
use Rattle.pool_rules.specs.Open.{are_places}
use Rattle.pool_rules.specs.Formed.{Given, HeldFormed, GridFormed, HistoryFormed, SpareFormed, RetiringFormed, DoomedFormed, StateFormed, Formed}
use Rattle.pool_rules.proofs.GridPlaces.{place_level}
use Rattle.pool_rules.proofs.HistorySizes.{grid_end_lem}
use Rattle.pool_records.specs.Recorded.{Recorded}
use Rattle.std.specs.Prelude.{Some, None}
use Rattle.pool_records.specs.declared.texture.TextureRecord.{TextureRecord}
use Rattle.pool_memory.specs.Lent.{Lent, version_places}
use Rattle.pool_memory.specs.Reading.{tracked_records, grid_read, history_read, spare_read, state_read, states_read, retiring_read, doomed_read, model_of}
use Rattle.pool_memory.specs.IsPool.{sizes_fit, counts_fit, runs_fit, starts_hold, tilings_fit, bytes_fit, mark_fits, is_grid, is_history, is_held_count, is_spare, is_state, is_retiring, is_hand, is_doomed, is_arrival, is_formed, is_pool}
use Rattle.pool_memory.proofs.FitsTests.{all_holds, ascending_holds}
use Rattle.pool_memory.proofs.Fits.{Fits}
use Rattle.pool_memory.proofs.Runs.{first_stamp_in, kept_states, tracked_model, stamp_starts, stamps_used_model}
use Rattle.pool_memory.proofs.Rings.{hand_model}
use Rattle.grid_stamps.specs.StampConstants.{page_stamps}
use Rattle.pool_records.specs.RecordConstants.{doomed_stride, retiring_stride, spare_stride, texture_stride}
use Rattle.pool_rules.specs.RuleConstants.{grid_stride, most_grids, most_places}
use Rattle.pool_records.specs.Texture.{record_grids, recorded_stamps, record_stamps}

-- ---- 01's conditions of each part

grid_formed : (g : Tiling) (writes newest : ℕ) (stamps : List ℕ) → stamp_count g ≤ length stamps → is_grid writes (grid_in g newest stamps) ≡ true
    → GridFormed g writes (grid_in g newest stamps)
unfolding is_grid grid_in
grid_formed g writes newest stamps h e =
    let q = and_both (eqb (largest (take (stamp_count g) stamps)) newest) (leb newest writes) e in
    record {
      size = length-take-le (stamp_count g) stamps h;
      newest = eqb-true _ _ q.0;
      below = leb-true _ _ q.1;
    }

module _ (l : Lent) (s : VersionShape) (grid stamp : ℕ) where
  -- the history that is read there
  abbrev read_history : ℕ → WriteHistory
  read_history writes = record { writes = writes; grids = listed (grid_read l s grid stamp) 0 (grid_count s) }

  -- the grid of a subresource is that of its place
  pub grid_place_lem : (writes slice level : ℕ) → slice < slices_of s → level < s.levels
      → (grid_place s slice level < grid_count s)
      × (grid_at s (read_history writes) slice level ≡ grid_read l s grid stamp (grid_place s slice level))
  unfolding grid_at grid_count
  grid_place_lem writes slice level p q =
      let h : grid_place s slice level < slices_of s * s.levels =
      omega (arith, tile_place s.levels (slices_of s) level slice q p, mul_comm s.levels (slices_of s)) in
      let k = grid_place s slice level in
      (h, get_or_listed (grid_read l s grid stamp) 0 (slices_of s * s.levels) k _ h ∙ ap (grid_read l s grid stamp) (zero-add k))

  length_grids : length (listed (grid_read l s grid stamp) 0 (grid_count s)) ≡ slices_of s * s.levels
  unfolding grid_count
  length_grids = length_listed (grid_read l s grid stamp) 0 (slices_of s * s.levels)

  module _ (room : stamp + history_size s ≤ length l.stamps) where
    read_formed : (n k : ℕ) → k < grid_count s → is_grid n (grid_read l s grid stamp k) ≡ true
        → GridFormed (tiling_of s (k % s.levels)) n (grid_read l s grid stamp k)
    unfolding grid_read grid_size
    read_formed n k h e =
        grid_formed (tiling_of s (k % s.levels)) n (get_or l.newest (grid + grid_stride * k) 0) (drop (stamp + grid_start s k) l.stamps)
        (omega (arith, grid_end_lem s k h, length-drop (stamp + grid_start s k) l.stamps)) e

    history_formed : (h : Recorded) → is_history (history_read l s grid stamp h) ≡ true → Given (HistoryFormed s) (history_read l s grid stamp h)
    unfolding is_history
    history_formed None e = tt
    history_formed (Some n) e =
        let q = and_both (leb n limit) (all (is_grid n) (listed (grid_read l s grid stamp) 0 (grid_count s))) e in
        record { writes = leb-true _ _ q.0; size = length_grids; grids = λ slice level a b. go slice level a b q.1 }
      where
        go : (slice level : ℕ) → slice < slices_of s → level < s.levels → all (is_grid n) (listed (grid_read l s grid stamp) 0 (grid_count s)) ≡ true
            → GridFormed (tiling_of s level) n (grid_at s (read_history n) slice level)
        go slice level a b e =
            let k = grid_place s slice level in
            let w = grid_place_lem n slice level a b in
            let d : StampGrid = record { newest = 0; stamps = [] } in
            let f : get_or (read_history n).grids k d ≡ grid_read l s grid stamp k =
            get_or_listed (grid_read l s grid stamp) 0 (grid_count s) k d w.0 ∙ ap (grid_read l s grid stamp) (zero-add k) in
            let g = all_get (is_grid n) (read_history n).grids k d e (omega (arith, w.0, length_listed (grid_read l s grid stamp) 0 (grid_count s))) in
            subst (λ (m : ℕ). GridFormed (tiling_of s m) n (grid_at s (read_history n) slice level)) (place_level slice level s.levels b)
            (subst (λ (x : StampGrid). GridFormed (tiling_of s (k % s.levels)) n x) (sym w.1)
            (read_formed n k w.0 (ap (is_grid n) (sym f) ∙ g)))

spare_formed : (s : Spare ℕ) → is_spare s ≡ true → SpareFormed s
unfolding is_spare
spare_formed s e =
    let q = and_both (is_held_count s.held) (leb s.parked limit) e in record { held = go s.held q.0; parked = leb-true _ _ q.1 }
  where
    go : (h : Held) → is_held_count h ≡ true → HeldFormed h
    go (Known n) e = leb-true _ _ e
    go Unknown e = tt

retiring_formed : (v : Retiring ℕ) → is_retiring v ≡ true → RetiringFormed v
unfolding is_retiring
retiring_formed v e = record {
  seq = leb-true _ _ (passed _ e 0);
  epoch = leb-true _ _ (passed _ e 1);
  birth = leb-true _ _ (passed _ e 2);
  held = leb-true _ _ (passed _ e 3);
  bytes = leb-true _ _ (passed _ e 4);
}

hand_formed : (o : Option (Retiring ℕ)) → is_hand o ≡ true → Given RetiringFormed o
hand_formed none e = tt
hand_formed (some v) e = retiring_formed v e

doomed_formed : (d : Doomed ℕ) → is_doomed d ≡ true → DoomedFormed d
unfolding is_doomed
doomed_formed d e = record { bytes = leb-true _ _ e }

arrival_formed : (n : ℕ) → is_arrival n ≡ true → n ≤ most_places
unfolding is_arrival
arrival_formed n e = leb-true _ _ e

module _ (l : Lent) where
  state_formed : (first : ℕ) (t : TextureRecord) → t.stamp + record_stamps t ≤ length l.stamps → is_state (state_read l first t) ≡ true
      → StateFormed (state_read l first t)
  unfolding is_state state_read
  state_formed first t room e = record {
    shape = passed _ e 0;
    epoch = leb-true _ _ (passed _ e 1);
    birth = leb-true _ _ (passed _ e 2);
    rename = leb-true _ _ (passed _ e 3);
    due = leb-true _ _ (passed _ e 4);
    history = go t.history room (passed _ e 5);
    spares = all_holds is_spare spare_formed (listed (spare_read l) first t.spares) (passed _ e 6);
  }
    where
      go : (h : Recorded) → t.stamp + recorded_stamps h t.shape ≤ length l.stamps
          → is_history (history_read l t.shape t.grid t.stamp h) ≡ true
          → Given (HistoryFormed t.shape) (history_read l t.shape t.grid t.stamp h)
      go None room f = tt
      go (Some n) room f = history_formed l t.shape t.grid t.stamp room (Some n) f

  -- each texture's stamps stand where its record says, so all of them end within the slice
  states_formed : (first n : ℕ) (ts : List TextureRecord) → starts_fit record_stamps first_stamp_in n ts ≡ true
      → n + total record_stamps ts ≤ length l.stamps → all is_state (states_read l first ts) ≡ true
      → All StateFormed (states_read l first ts)
  unfolding states_read total all starts_fit
  states_formed first n [] b room e = nil
  states_formed first n (t ∷ ts) b room e =
      let q = and_both (is_state (state_read l first t)) (all is_state (states_read l (first + t.spares) ts)) e in
      let u = and_both (eqb t.stamp n) (starts_fit record_stamps first_stamp_in (n + record_stamps t) ts) b in
      let at : t.stamp ≡ n = eqb-true t.stamp n u.0 in
      cons (state_formed first t (omega (arith, at)) q.0) (states_formed (first + t.spares) (n + record_stamps t) ts u.1 (omega arith) q.1)

-- the counts of what is read
module _ (l : Lent) where
  pub versions_read : l.pool.popped ≤ 1 → versions_used (model_of l)
      ≡ l.pool.queued + l.pool.popped + total (λ (t : TextureRecord). t.spares) (tracked_records l) + l.pool.doomed
  unfolding model_of
  versions_read h =
      ap₂ (λ (a b : ℕ). a + b)
      (ap₂ (λ (a b : ℕ). a + b)
      (ap₂ (λ (a b : ℕ). a + b) (length_listed (retiring_read l) l.pool.popped l.pool.queued) (hand_model l h))
      (kept_states l 0 (tracked_records l)))
      (length_listed (doomed_read l) 0 l.pool.doomed)

  pub version_places_lem : (model_of l).places.versions ≡ version_places l
  unfolding model_of
  version_places_lem = refl

  pub page_places : (model_of l).places.pages ≡ length l.stamps / page_stamps
  unfolding model_of
  page_places = refl

-- the places that may be lent
pub record Enough (n : Places) : Type 0 where
  pub texture : 1 ≤ n.textures
  pub textures : n.textures ≤ most_places
  pub version : 1 ≤ n.versions
  pub versions : n.versions ≤ most_places
  pub pages : n.pages ≤ most_places

pub enough : (n : Places) → are_places n ≡ true → Enough n
unfolding are_places
enough n e = record {
  texture = leb-true _ _ (passed _ e 0);
  textures = leb-true _ _ (passed _ e 1);
  version = leb-true _ _ (passed _ e 2);
  versions = leb-true _ _ (passed _ e 3);
  pages = leb-true _ _ (passed _ e 4);
}

-- ---- the slices' lengths

module _ (l : Lent) (e : sizes_fit l ≡ true) where
  pub are_places_lem : are_places (model_of l).places ≡ true
  unfolding sizes_fit
  are_places_lem = passed _ e 0

  pub whole_textures : texture_stride * (model_of l).places.textures ≡ length l.textures
  unfolding sizes_fit
  whole_textures = sym (eqb-true _ _ (passed _ e 1))

  pub whole_retiring : retiring_stride * version_places l ≡ length l.retiring
  unfolding sizes_fit
  whole_retiring = sym (eqb-true _ _ (passed _ e 2))

  pub whole_doomed : doomed_stride * version_places l ≡ length l.doomed
  unfolding sizes_fit
  whole_doomed = sym (eqb-true _ _ (passed _ e 3))

  pub whole_spares : spare_stride * version_places l ≡ length l.spares
  unfolding sizes_fit
  whole_spares = sym (eqb-true _ _ (passed _ e 4))

  pub whole_stamps : page_stamps * (model_of l).places.pages ≡ length l.stamps
  unfolding sizes_fit
  whole_stamps = sym (eqb-true _ _ (passed _ e 5))

  pub whole_newest : length l.newest ≡ grid_stride * min (most_grids * (model_of l).places.textures) (length l.stamps)
  unfolding sizes_fit
  whole_newest = eqb-true _ _ (passed _ e 6)

  pub some_version : 1 ≤ version_places l
  some_version = omega (arith, (enough (model_of l).places are_places_lem).version, version_places_lem l)

  pub most_versions_lem : version_places l ≤ most_places
  most_versions_lem = omega (arith, (enough (model_of l).places are_places_lem).versions, version_places_lem l)

  pub most_pages_lem : (model_of l).places.pages ≤ most_places
  most_pages_lem = (enough (model_of l).places are_places_lem).pages

-- ---- the whole

module _ (l : Lent) (e : is_pool l ≡ true) where
  sized : sizes_fit l ≡ true
  unfolding is_pool
  sized = passed _ e 0

  counted : counts_fit l ≡ true
  unfolding is_pool
  counted = passed _ e 1

  claiming : runs_fit l ≡ true
  unfolding is_pool
  claiming = passed _ e 2

  starts_hold_lem : starts_hold l ≡ true
  unfolding is_pool
  starts_hold_lem = passed _ e 3

  tilings_fit_lem : tilings_fit l ≡ true
  unfolding is_pool
  tilings_fit_lem = passed _ e 4

  bytes_hold_lem : bytes_fit l ≡ true
  unfolding is_pool
  bytes_hold_lem = passed _ e 5

  forming : is_formed (model_of l) ≡ true
  unfolding is_pool
  forming = passed _ e 7

  marked : l.book.pressed ≤ 1
  unfolding is_pool mark_fits
  marked = leb-true _ _ (passed _ e 6)

  grids_claimed : total record_grids (tracked_records l) ≡ l.pool.grids
  unfolding runs_fit
  grids_claimed = eqb-true _ _ (passed _ claiming 1)

  stamps_claimed : total record_stamps (tracked_records l) ≡ l.pool.stamps
  unfolding runs_fit
  stamps_claimed = eqb-true _ _ (passed _ claiming 2)

  spares_claimed : total (λ (t : TextureRecord). t.spares) (tracked_records l) ≡ l.pool.kept
  unfolding runs_fit
  spares_claimed = eqb-true _ _ (passed _ claiming 0)

  grids_counted : l.pool.grids ≤ length l.newest
  unfolding counts_fit
  grids_counted = leb-true _ _ (passed _ counted 5)

  stamps_counted : l.pool.stamps ≤ length l.stamps
  unfolding counts_fit
  stamps_counted = leb-true _ _ (passed _ counted 6)

  hand_counted : l.pool.popped ≤ 1
  unfolding counts_fit
  hand_counted = leb-true _ _ (passed _ counted 3)

  versions_counted : l.pool.queued + l.pool.popped + l.pool.kept + l.pool.doomed ≤ version_places l
  unfolding counts_fit
  versions_counted = leb-true _ _ (passed _ counted 4)

  tracked_counted : l.pool.tracked ≤ (model_of l).places.textures
  unfolding counts_fit
  tracked_counted = leb-true _ _ (passed _ counted 0)

  textures_formed : All StateFormed (model_of l).textures
  unfolding is_formed model_of
  textures_formed =
      states_formed l 0 0 (tracked_records l) (stamp_starts l starts_hold_lem) (omega (arith, stamps_claimed, stamps_counted)) (passed _ forming 1)

  model_formed : Formed (model_of l)
  unfolding is_formed
  model_formed = record {
    ids = ascending_holds (model_of l).textures (passed _ forming 0);
    textures = textures_formed;
    retiring = all_holds is_retiring retiring_formed (model_of l).retiring (passed _ forming 2);
    hand = hand_formed (model_of l).hand (passed _ forming 3);
    doomed = all_holds is_doomed doomed_formed (model_of l).doomed (passed _ forming 4);
    trackings = leb-true _ _ (passed _ forming 5);
    places = omega (arith, tracked_model l, tracked_counted);
    versions = omega (arith, versions_read l hand_counted, versions_counted, spares_claimed, version_places_lem l);
    stamps = omega (arith, stamps_used_model l, stamps_claimed, stamps_counted, whole_stamps l sized);
    parked = eqb-true _ _ (passed _ forming 6);
    dooming = eqb-true _ _ (passed _ forming 7);
    cap = leb-true _ _ (passed _ forming 8);
    slot = ltb-true _ _ (passed _ forming 9);
    eight = eqb-true _ _ (passed _ forming 10);
    arrivals = all_holds is_arrival arrival_formed (model_of l).pacing.arrivals (passed _ forming 11);
    since = leb-true _ _ (passed _ forming 12);
    most = (enough (model_of l).places (are_places_lem l sized)).versions;
  }

  pub pool_fits : Fits l
  unfolding counts_fit
  pool_fits = record {
    places = are_places_lem l sized;
    textures = whole_textures l sized;
    retiring = whole_retiring l sized;
    doomed = whole_doomed l sized;
    spares = whole_spares l sized;
    stamps = whole_stamps l sized;
    newest = whole_newest l sized;
    least = some_version l sized;
    most = most_versions_lem l sized;
    most_pages_lem = most_pages_lem l sized;
    tracked = tracked_counted;
    head = ltb-true _ _ (passed _ counted 1);
    first = ltb-true _ _ (passed _ counted 2);
    hand = hand_counted;
    versions = versions_counted;
    grids = grids_counted;
    stamps_counted = stamps_counted;
    kept = spares_claimed;
    claimed = grids_claimed;
    stamps_claimed = stamps_claimed;
    starts = starts_hold_lem;
    tilings = tilings_fit_lem;
    bytes = bytes_hold_lem;
    mark = marked;
    formed = model_formed;
  }
