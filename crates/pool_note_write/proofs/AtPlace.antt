-- The texture where the search for an id ended, in a pool: what its record says of its history, and where its grids are. Assumes nothing.
use mathlib.Core.Path.{◌≡◌, refl, sym, ap, ap₂, ◌∙◌, subst}
use mathlib.Core.Bool.{Bool, true, false, cond, ◌&&◌, true≢false}
use mathlib.Core.Option.{some}
use mathlib.Core.List.{List, []}
use Prim.Native.Nat.{ℕ, ◌+◌, ◌*◌, ◌≤◌, ◌<◌}
use native.Mathlib.Omega.{arith}
use native.Mathlib.Nat.{mul_comm}
use borrow.Author.Tests.{lt-ltb, ltb-true, eq-eqb}
use lib.Dec.{ltb}
use lib.ListN.{length, get_or}
use lib.Seq.{get_or-drop}
use Rattle.base_blocks.specs.Lists.{listed}
use Rattle.base_blocks.proofs.Lists.{and_both}
use Rattle.base_tables.specs.Records.{record_at}
use Rattle.grid_shapes.specs.declared.shape.VersionShape.{VersionShape}
use Rattle.grid_shapes.specs.Shapes.{is_shape, slices_of}
use Rattle.grid_stamps.specs.Grids.{tiling_of, stamp_count}
use Rattle.grid_stamps.proofs.RowByRow.{tile_place}
use Rattle.pool_rules.specs.Model.{WriteHistory, grid_count}
use Rattle.pool_rules.specs.Histories.{in_shape, grid_place}
use Rattle.pool_rules.specs.HistorySizes.{grid_start, history_size}
use Rattle.pool_rules.proofs.HistorySizes.{grid_end_lem, grid_size_lem, grids_most}
use Rattle.pool_rules.specs.RuleConstants.{grid_stride, most_grids}
use Rattle.pool_records.specs.Recorded.{Recorded}
use Rattle.std.specs.Prelude.{Some, None}
use Rattle.pool_records.specs.declared.texture.TextureRecord.{TextureRecord}
use Rattle.pool_records.specs.Texture.{read_texture, texture_in, recorded_grids, record_grids, recorded_stamps, record_stamps}
use Rattle.pool_records.specs.Find.{id_of, has_id}
use Rattle.pool_records.specs.Tilings.{tiling_in, EdgesAt, TilingsAt}
use Rattle.pool_rules.proofs.GridPlaces.{place_level}
use Rattle.pool_records.proofs.Tilings.{start_held, edges_held}
use Rattle.pool_access.proofs.Ids.{found}
use Rattle.pool_memory.specs.Lent.{Lent}
use Rattle.pool_memory.specs.Reading.{tracked_records, grid_read, history_read, state_read}
use Rattle.pool_memory.specs.IsPool.{tilings_read, tilings_hold}
use Rattle.pool_memory.proofs.Fits.{Fits}
use Rattle.pool_memory.proofs.Runs.{first_grid, first_stamp, state_of, tiling_there, tilings_held_at, grid_held_at, stamp_held_at}
use Rattle.pool_memory.proofs.Tracked.{record_read, grid_at_lem, stamp_at_lem, shape_passes}
use Rattle.pool_memory.proofs.Places.{place, IsTracked}
use Rattle.pool_memory.proofs.Stays.{ids_ascend, textures_fit_lem}
use Rattle.pool_memory.proofs.HistoryRuns.{grid_count_at, stamp_count_at, grids_in, stamps_in_lem}
use Rattle.pool_records.specs.RecordConstants.{texture_stride}
use Rattle.pool_note_write.specs.History.{recorded_at, HistoryAt}

-- ---- two numbers of record i

module _ (s : List ℕ) (i : ℕ) where
  pub grid_number : get_or s (texture_stride * i + 20) 0 ≡ (texture_in s i).grid
  unfolding record_at read_texture
  grid_number = sym (get_or-drop (texture_stride * i) s 20 0)

  pub stamp_number : get_or s (texture_stride * i + 21) 0 ≡ (texture_in s i).stamp
  unfolding record_at read_texture
  stamp_number = sym (get_or-drop (texture_stride * i) s 21 0)

-- ---- a subresource of a shape: its grid is one of a history's, and its stamps are among these

module _ (s : VersionShape) (slice level : ℕ) (e : in_shape s slice level ≡ true) where
  pub within : (slice < slices_of s) × (level < s.levels)
  within = let q = and_both (ltb slice (slices_of s)) (ltb level s.levels) e in (ltb-true slice (slices_of s) q.0, ltb-true level s.levels q.1)

  pub place_inside : grid_place s slice level < grid_count s
  unfolding grid_count
  place_inside = omega (arith, tile_place s.levels (slices_of s) level slice within.1 within.0, mul_comm s.levels (slices_of s))

  pub stamps_inside : grid_start s (grid_place s slice level) + stamp_count (tiling_of s level) ≤ history_size s
  stamps_inside = omega (arith, grid_end_lem s (grid_place s slice level) place_inside, grid_size_lem s slice level within.1)

-- the same by a record that was read
module _ (textures newest stamps : List ℕ) (i : ℕ) (h : HistoryAt textures newest stamps i) (t : TextureRecord) (read : t ≡ texture_in textures i) where
  pub shape_read : is_shape t.shape ≡ true
  shape_read = ap (λ (x : TextureRecord). is_shape x.shape) read ∙ h.shape

  pub stamps_read : t.stamp + history_size t.shape ≤ length stamps
  stamps_read = subst (λ (x : TextureRecord). x.stamp + history_size x.shape ≤ length stamps) (sym read) h.stamps_in_lem

  pub grids_read : t.grid + grid_stride * grid_count t.shape ≤ length newest
  grids_read = subst (λ (x : TextureRecord). x.grid + grid_stride * grid_count x.shape ≤ length newest) (sym read) h.grids_in

  pub tilings_read_lem : TilingsAt newest t.grid t.shape
  tilings_read_lem = subst (λ (x : TextureRecord). TilingsAt newest x.grid x.shape) (sym read) h.tilings

  module _ (slice level : ℕ) (e : in_shape (texture_in textures i).shape slice level ≡ true) where
    pub inside_read : in_shape t.shape slice level ≡ true
    inside_read = ap (λ (x : TextureRecord). in_shape x.shape slice level) read ∙ e

    pub place_few : slice * t.shape.levels + level < most_grids
    place_few = omega (arith, place_inside t.shape slice level inside_read, grids_most t.shape shape_read)

    pub place_read : t.grid + grid_stride * (slice * t.shape.levels + level) + 1 < length newest
    place_read = omega (arith, grids_read, place_inside t.shape slice level inside_read)

    -- beside its newest stamp: where its stamps begin, and its level's edges
    pub start_beside : (tiling_in newest (t.grid + grid_stride * (slice * t.shape.levels + level))).start
        ≡ grid_start t.shape (slice * t.shape.levels + level)
    start_beside =
        let k = place_inside t.shape slice level inside_read in
        start_held t.shape shape_read newest (t.grid + grid_stride * (slice * t.shape.levels + level)) (slice * t.shape.levels + level) k
        (tilings_read_lem (slice * t.shape.levels + level) k)

    pub edges_beside : EdgesAt newest (t.grid + grid_stride * (slice * t.shape.levels + level)) t.shape level
    edges_beside =
        let k = place_inside t.shape slice level inside_read in
        edges_held t.shape shape_read newest (t.grid + grid_stride * (slice * t.shape.levels + level)) (slice * t.shape.levels + level) k
        (tilings_read_lem (slice * t.shape.levels + level) k) level (place_level slice level t.shape.levels (within t.shape slice level inside_read).1)

    pub start_read : t.stamp + grid_start t.shape (slice * t.shape.levels + level) + stamp_count (tiling_of t.shape level) ≤ length stamps
    start_read = omega (arith, stamps_read, stamps_inside t.shape slice level inside_read)

-- ---- the record at a place

module _ (l : Lent) (f : Fits l) (i : ℕ) (h : i < l.pool.tracked) where
  pub history_read_lem : (r : Recorded) → (texture_in l.textures i).history ≡ r
      → (state_of l i).history ≡ history_read l (state_of l i).shape (first_grid l i) (first_stamp l i) r
  unfolding state_of state_read
  history_read_lem r e =
      let t = get_or (tracked_records l) i (read_texture []) in
      ap (history_read l t.shape t.grid t.stamp) (ap (λ (x : TextureRecord). x.history) (record_read l i h) ∙ e)
      ∙ ap₂ (λ (g n : ℕ). history_read l t.shape g n r) (grid_held_at l f.starts i h) (stamp_held_at l f.starts i h)

  -- the grids and the stamps of a history that is recorded
  module _ (n : ℕ) (e : (texture_in l.textures i).history ≡ Some n) where
    pub grids_recorded : (texture_in l.textures i).grid + grid_stride * grid_count (texture_in l.textures i).shape ≤ l.pool.grids
    grids_recorded =
        let c : grid_count_at l i ≡ grid_stride * grid_count (texture_in l.textures i).shape =
        ap record_grids (record_read l i h) ∙ ap (λ (r : Recorded). recorded_grids r (texture_in l.textures i).shape) e in
        omega (arith, c, grid_at_lem l i h f, grids_in l f i h)

    pub stamps_recorded : (texture_in l.textures i).stamp + history_size (texture_in l.textures i).shape ≤ l.pool.stamps
    stamps_recorded =
        let c : stamp_count_at l i ≡ history_size (texture_in l.textures i).shape =
        ap record_stamps (record_read l i h) ∙ ap (λ (r : Recorded). recorded_stamps r (texture_in l.textures i).shape) e in
        omega (arith, c, stamp_at_lem l i h f, stamps_in_lem l f i h)

    -- its tilings
    pub tilings_recorded : TilingsAt l.newest (texture_in l.textures i).grid (texture_in l.textures i).shape
    unfolding tilings_hold
    tilings_recorded =
        let t = texture_in l.textures i in
        tiling_there l t.shape t.grid
        (ap (tilings_read l t.shape t.grid) (sym e)
        ∙ ap (tilings_hold l) (sym (record_read l i h))
        ∙ tilings_held_at l f.tilings i h)

-- ---- a texture of a pool

module _ (l : Lent) (f : Fits l) (id : ℕ) where
  abbrev pub at : ℕ
  at = place l id (ids_ascend l f)

  abbrev pub Tracked : Type 0
  Tracked = IsTracked l id (ids_ascend l f)

  -- what is known where the record at the place says this of its history
  pub data Unrecorded : Type 0 where
    untracked : (Tracked → ⊥) → Unrecorded
    unrecorded : Tracked → (texture_in l.textures at).history ≡ None → Unrecorded

  pub record Recording (n : ℕ) : Type 0 where
    pub tracked : Tracked
    pub history : (texture_in l.textures at).history ≡ Some n

  abbrev pub Says : Recorded → Type 0
  Says None = Unrecorded
  Says (Some n) = Recording n

  here : Bool
  here = has_id l.textures l.pool.tracked at id

  is_tracked : here ≡ true → Tracked
  unfolding here
  is_tracked e =
      let q = found l.textures l.pool.tracked at id e in
      (q.0, ap id_of (record_read l at q.0) ∙ q.1)

  not_here : here ≡ false → Tracked → ⊥
  unfolding here
  not_here e (h, q) =
      let z : here ≡ true = ap₂ (λ (a b : Bool). a && b) (lt-ltb at l.pool.tracked h) (eq-eqb (id_of (texture_in l.textures at)) id (ap id_of (sym (record_read l at h)) ∙ q)) in
      true≢false (sym z ∙ e)

  pub record_says : Says (recorded_at l.textures l.pool.tracked at id)
  unfolding recorded_at here
  record_says = go here refl (texture_in l.textures at).history refl
    where
      go : (b : Bool) → here ≡ b → (r : Recorded) → (texture_in l.textures at).history ≡ r → Says (cond b r None)
      go false e r q = untracked (not_here e)
      go true e None q = unrecorded (is_tracked e) q
      go true e (Some n) q = record { tracked = is_tracked e; history = q }

  -- ---- a texture with a history

  module _ (n : ℕ) (r : Recording n) where
    abbrev pub history_is : WriteHistory
    history_is = record {
      writes = n;
      grids = listed (grid_read l (state_of l at).shape (first_grid l at) (first_stamp l at)) 0 (grid_count (state_of l at).shape);
    }

    pub has_history_lem : (state_of l at).history ≡ some history_is
    has_history_lem = history_read_lem l f at r.tracked.0 (Some n) r.history

    pub shape_formed : is_shape (texture_in l.textures at).shape ≡ true
    shape_formed = shape_passes l at r.tracked.0 f

    pub history_there : HistoryAt l.textures l.newest l.stamps at
    history_there = record {
      there = omega (arith, textures_fit_lem l f, r.tracked.0);
      shape = shape_formed;
      grids_in = omega (arith, grids_recorded l f at r.tracked.0 n r.history, f.grids);
      tilings = tilings_recorded l f at r.tracked.0 n r.history;
      stamps_in_lem = omega (arith, stamps_recorded l f at r.tracked.0 n r.history, f.stamps_counted);
    }

  -- ---- the same at the place that the code found

  module _ (i : ℕ) (q : i ≡ at) where
    pub told : (r x : Recorded) → r ≡ recorded_at l.textures l.pool.tracked i id → r ≡ x → Says x
    told r x e t = subst Says (ap (λ (k : ℕ). recorded_at l.textures l.pool.tracked k id) (sym q) ∙ sym e ∙ t) record_says

    module _ (n : ℕ) (r : Recording n) where
      pub tracked_here : i < l.pool.tracked
      tracked_here = subst (λ (k : ℕ). k < l.pool.tracked) (sym q) r.tracked.0

      pub history_here : HistoryAt l.textures l.newest l.stamps i
      history_here = subst (HistoryAt l.textures l.newest l.stamps) (sym q) (history_there n r)
