-- The grids of a texture's history, where they stand, and `newest` and the stamps after one of them was stamped. Assumes nothing.
use mathlib.Core.Path.{◌≡◌, refl, sym, ap, ap₂, ◌∙◌}
use mathlib.Core.Bool.{cond}
use mathlib.Core.Option.{Option, some}
use mathlib.Core.List.{List, [], ◌++◌, flat_map, append_assoc}
use Prim.Native.Nat.{ℕ, zero, suc, ◌+◌, ◌*◌, ◌≤◌, ◌<◌}
use native.Mathlib.Nat.{zero-add, mul_comm, mul-add-mod_self_right, mod-eq_of_lt}
use native.Mathlib.Omega.{arith}
use lib.ListN.{length, take, drop, get_or, set, length-set, length-append, length-drop}
use lib.Seq.{sets, sets-eq, length-take-le}
use Rattle.base_blocks.specs.Lists.{total}
use Rattle.base_blocks.proofs.Listed.{length_listed, get_or_listed}
use Rattle.grid_shapes.specs.declared.shape.VersionShape.{VersionShape}
use Rattle.grid_shapes.specs.Shapes.{slices_of}
use Rattle.grid_stamps.specs.Grids.{StampGrid, grid_in, tiling_of}
use Rattle.grid_stamps.proofs.RowByRow.{tile_place}
use Rattle.pool_rules.specs.Model.{WriteHistory, VersionState, PoolModel, has_history, grid_count}
use Rattle.pool_rules.specs.Histories.{grid_at, grid_place}
use Rattle.pool_rules.specs.RuleConstants.{grid_stride}
use Rattle.pool_rules.specs.HistorySizes.{grid_size, grid_start, history_size, newest_used, stamps_used}
use Rattle.pool_rules.proofs.HistorySizes.{grid_first, grid_next, grid_end_lem}
use Rattle.pool_records.specs.Recorded.{Recorded}
use Rattle.std.specs.Prelude.{Some, None}
use Rattle.pool_records.specs.Texture.{read_texture, recorded_grids, recorded_stamps}
use Rattle.pool_memory.specs.Lent.{Lent}
use Rattle.pool_memory.specs.Reading.{tracked_records, grid_read, history_read, state_read, model_of}
use Rattle.pool_memory.specs.Writing.{grids_of, newest_from, newest_of, newest_after, stamps_of, stamps_after}
use Rattle.pool_memory.proofs.Fits.{Fits}
use Rattle.pool_memory.proofs.NewestNumbers.{length_newest_from, newest_set}
use Rattle.pool_memory.proofs.Parts.{up_to, flat_set, total_next}
use Rattle.pool_memory.proofs.Rewritten.{sets_self, set_sets, sets_part}
use Rattle.pool_memory.proofs.Runs.{first_spare, first_grid, first_stamp, state_of, grids_state, stamps_used_state, grid_held_at, stamp_held_at}
use Rattle.pool_memory.proofs.Packings.{newest_packing, stamps_packing, one_packed}
use Rattle.pool_memory.proofs.HistoryRuns.{grid_count_at, stamp_count_at, grids_in, stamps_in_lem, newest_rewritten, stamps_rewritten}

-- what stands for a grid past the last
abbrev pub no_grid : StampGrid
no_grid = record { newest = 0; stamps = [] }

-- ---- the grids of texture i

module _ (l : Lent) (i : ℕ) where
  abbrev pub grids_at : List StampGrid
  grids_at = grids_of (state_of l i).history

  pub used_at : newest_used (state_of l i) ≡ grid_count_at l i
  unfolding state_of
  used_at = grids_state l (first_spare l i) (get_or (tracked_records l) i (read_texture []))

  pub stamps_used_at : stamps_used (state_of l i) ≡ stamp_count_at l i
  unfolding state_of
  stamps_used_at = stamps_used_state l (first_spare l i) (get_or (tracked_records l) i (read_texture []))

  length_read : (s : VersionShape) (grid stamp : ℕ) (h : Recorded) → grid_stride * length (grids_of (history_read l s grid stamp h)) ≡ recorded_grids h s
  length_read s grid stamp None = refl
  length_read s grid stamp (Some n) = ap (λ (m : ℕ). grid_stride * m) (length_listed (grid_read l s grid stamp) 0 (grid_count s))

  pub length_grids : grid_stride * length grids_at ≡ grid_count_at l i
  unfolding state_of state_read
  length_grids =
      let t = get_or (tracked_records l) i (read_texture []) in
      length_read t.shape t.grid t.stamp t.history

  grid_in_lem : (s : VersionShape) (grid stamp : ℕ) (h : Recorded) (k : ℕ) (d : StampGrid) → grid_stride * k < recorded_grids h s
      → get_or (grids_of (history_read l s grid stamp h)) k d ≡ grid_read l s grid stamp k
  grid_in_lem s grid stamp None k d q = absurd (let y : ⊥ = omega arith in y)
  grid_in_lem s grid stamp (Some n) k d q =
      get_or_listed (grid_read l s grid stamp) 0 (grid_count s) k d (omega arith) ∙ ap (grid_read l s grid stamp) (zero-add k)

  module _ (f : Fits l) (h : i < l.pool.tracked) where
    -- grid k is the one that stands there
    pub grid_of : (k : ℕ) (d : StampGrid) → grid_stride * k < grid_count_at l i
        → get_or grids_at k d ≡ grid_read l (state_of l i).shape (first_grid l i) (first_stamp l i) k
    unfolding state_of state_read
    grid_of k d q =
        let t = get_or (tracked_records l) i (read_texture []) in
        grid_in_lem t.shape t.grid t.stamp t.history k d q
        ∙ ap₂ (λ (g n : ℕ). grid_read l t.shape g n k) (grid_held_at l f.starts i h) (stamp_held_at l f.starts i h)

    module _ (w : WriteHistory) (e : (state_of l i).history ≡ some w) where
      pub all_grids : grid_count_at l i ≡ grid_stride * grid_count (state_of l i).shape
      all_grids = sym used_at ∙ ap (λ (o : Option WriteHistory). cond (has_history o) (grid_stride * grid_count (state_of l i).shape) 0) e

      pub all_stamps : stamp_count_at l i ≡ history_size (state_of l i).shape
      all_stamps = sym stamps_used_at ∙ ap (λ (o : Option WriteHistory). cond (has_history o) (history_size (state_of l i).shape) 0) e

      module _ (slice level : ℕ) (p : slice < slices_of (state_of l i).shape) (q : level < (state_of l i).shape.levels) where
        pub place_grid : grid_stride * grid_place (state_of l i).shape slice level < grid_count_at l i
        unfolding grid_count
        place_grid =
            omega (
              arith,
              all_grids,
              tile_place (state_of l i).shape.levels (slices_of (state_of l i).shape) level slice q p,
              mul_comm
                  (state_of l i).shape.levels (slices_of (state_of l i).shape),
            )

        pub grid_held : grid_at (state_of l i).shape w slice level
            ≡ grid_in (tiling_of (state_of l i).shape level) (get_or l.newest (first_grid l i + grid_stride * grid_place (state_of l i).shape slice level) 0)
            (drop (first_stamp l i + grid_start (state_of l i).shape (grid_place (state_of l i).shape slice level)) l.stamps)
        unfolding grid_at grid_read
        grid_held =
            let s = (state_of l i).shape in
            let k = grid_place s slice level in
            sym (ap (λ (o : Option WriteHistory). get_or (grids_of o) k no_grid) e)
            ∙ grid_of k no_grid place_grid
            ∙ ap (λ (m : ℕ). grid_in (tiling_of s m) (get_or l.newest (first_grid l i + grid_stride * k) 0) (drop (first_stamp l i + grid_start s k) l.stamps))
            (mul-add-mod_self_right slice s.levels level ∙ mod-eq_of_lt q)

-- ---- grid k of texture i stamped

module _ (l : Lent) (f : Fits l) (p : PoolModel ℕ) (i : ℕ) (h : i < l.pool.tracked) (t : VersionState ℕ) (e : p.textures ≡ set (model_of l).textures i t)
    (shaped : t.shape ≡ (state_of l i).shape) (k : ℕ) (g : StampGrid) (q : grid_stride * k < grid_count_at l i)
    (n : grids_of t.history ≡ set (grids_at l i) k g) where
  pub newest_stamped : set l.newest (first_grid l i + grid_stride * k) g.newest ≡ newest_after p l
  unfolding first_grid
  newest_stamped =
      let a = first_grid l i in
      let m = grid_count_at l i in
      let run = take m (drop a l.newest) in
      let inside : a + m ≤ length l.newest = omega (arith, grids_in l f i h, f.grids) in
      let lr : length run ≡ m = length-take-le m (drop a l.newest) (omega (arith, length-drop a l.newest)) in
      let old : newest_of (state_of l i) ≡ run = one_packed (newest_packing l f) i h in
      let new : newest_of t ≡ set run (grid_stride * k) g.newest =
      ap₂ (λ (s : VersionShape) (gs : List StampGrid). newest_from s 0 gs) shaped n ∙ newest_set (state_of l i).shape 0 (grids_at l i) k g
      ∙ ap (λ (xs : List ℕ). set xs (grid_stride * k) g.newest) old in
      ap (λ (s : List ℕ). set s (a + grid_stride * k) g.newest) (sym (sets_self l.newest a m inside))
      ∙ set_sets l.newest a run (omega arith) (grid_stride * k) g.newest (omega arith)
      ∙ ap (sets l.newest a) (sym new)
      ∙ newest_rewritten l f p i h t e
      (length_newest_from t.shape 0 (grids_of t.history)
      ∙ ap (λ (m : ℕ). grid_stride * m) (ap length n ∙ length-set (grids_at l i) k g) ∙ length_grids l i)

  -- its history is recorded, for it has a grid
  counts_read : (s : VersionShape) (o : Recorded) (j : ℕ) → j < recorded_grids o s → (recorded_grids o s ≡ grid_stride * grid_count s) × (recorded_stamps o s ≡ history_size s)
  counts_read s None j r = absurd (let y : ⊥ = omega arith in y)
  counts_read s (Some m) j r = (refl, refl)

  counts : (grid_count_at l i ≡ grid_stride * grid_count (state_of l i).shape) × (stamp_count_at l i ≡ history_size (state_of l i).shape)
  unfolding state_of state_read
  counts = let r = get_or (tracked_records l) i (read_texture []) in counts_read r.shape r.history (grid_stride * k) q

  -- each of its grids has the stamps of its place
  length_grid : (j : ℕ) → grid_stride * j < grid_count_at l i → length (get_or (grids_at l i) j no_grid).stamps ≡ grid_size (state_of l i).shape j
  unfolding grid_read grid_in grid_size
  length_grid j r =
      let s = (state_of l i).shape in
      let at = first_stamp l i + grid_start s j in
      ap (λ (x : StampGrid). length x.stamps) (grid_of l i f h j no_grid r)
      ∙ length-take-le (grid_size s j) (drop at l.stamps)
      (omega (arith, length-drop at l.stamps, grid_end_lem s j (omega (arith, r, counts.0)), counts.1, stamps_in_lem l f i h, f.stamps_counted))

  -- and begins where those before it end
  start_of : (j : ℕ) → grid_stride * j ≤ grid_count_at l i → up_to (λ (x : StampGrid). x.stamps) j (grids_at l i) ≡ grid_start (state_of l i).shape j
  unfolding total
  start_of zero r = sym (grid_first (state_of l i).shape)
  start_of (suc j) r =
      let s = (state_of l i).shape in
      let a = total_next (λ (x : StampGrid). length x.stamps) (grids_at l i) j no_grid (omega (arith, r, length_grids l i)) in
      omega (arith, a, start_of j (omega arith), length_grid j (omega arith), grid_next s j (omega (arith, r, counts.0)))

  pub stamps_stamped : length g.stamps ≡ grid_size (state_of l i).shape k
      → sets l.stamps (first_stamp l i + grid_start (state_of l i).shape k) g.stamps ≡ stamps_after p l
  unfolding first_stamp
  stamps_stamped size =
      let s = (state_of l i).shape in
      let a = first_stamp l i in
      let m = grid_start s k in
      let w = grid_size s k in
      let all = stamp_count_at l i in
      let run = take all (drop a l.stamps) in
      let inside : a + all ≤ length l.stamps = omega (arith, stamps_in_lem l f i h, f.stamps_counted) in
      let lr : length run ≡ all = length-take-le all (drop a l.stamps) (omega (arith, length-drop a l.stamps)) in
      let ends : m + w ≤ all = omega (arith, grid_end_lem s k (omega (arith, q, counts.0)), counts.1) in
      let old : stamps_of (state_of l i) ≡ run = one_packed (stamps_packing l f) i h in
      let new : stamps_of t ≡ take m run ++ (g.stamps ++ drop (m + w) run) =
      ap (flat_map (λ (x : StampGrid). x.stamps)) n
      ∙ flat_set (λ (x : StampGrid). x.stamps) k (grids_at l i) g no_grid (omega (arith, q, length_grids l i))
      ∙ ap₂ (λ (u v : ℕ). take u (stamps_of (state_of l i)) ++ (g.stamps ++ drop (u + v) (stamps_of (state_of l i))))
      (start_of k (omega arith)) (length_grid k q)
      ∙ ap (λ (xs : List ℕ). take m xs ++ (g.stamps ++ drop (m + w) xs)) old in
      let long : length (stamps_of t) ≡ all =
      ap length new ∙ length-append (take m run) (g.stamps ++ drop (m + w) run)
      ∙ ap (λ (u : ℕ). length (take m run) + u) (length-append g.stamps (drop (m + w) run))
      ∙ (let z : length (take m run) + (length g.stamps + length (drop (m + w) run)) ≡ all =
      omega (arith, length-take-le m run (omega arith), length-drop (m + w) run, size) in z) in
      sets-eq g.stamps l.stamps (a + m) (omega (arith, size))
      ∙ append_assoc (take (a + m) l.stamps) g.stamps (drop (a + m + length g.stamps) l.stamps)
      ∙ ap (λ (u : ℕ). take (a + m) l.stamps ++ (g.stamps ++ drop (a + m + u) l.stamps)) size
      ∙ ap (λ (xs : List ℕ). take (a + m) xs ++ (g.stamps ++ drop (a + m + w) xs)) (sym (sets_self l.stamps a all inside))
      ∙ sets_part l.stamps a run (omega arith) g.stamps m w size (omega arith)
      ∙ ap (sets l.stamps a) (sym new)
      ∙ stamps_rewritten l f p i h t e long
