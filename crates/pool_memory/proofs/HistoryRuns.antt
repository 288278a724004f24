-- `newest` and the stamps after a texture's history is renewed, dropped, put in or taken out: what stands behind it moves. Assumes nothing.
use mathlib.Core.Path.{◌≡◌, ap}
use mathlib.Core.Option.{Option, none}
use mathlib.Core.List.{[], ◌∷◌, flat_map}
use Prim.Native.Nat.{ℕ, suc, ◌+◌, ◌-◌, ◌≤◌, ◌<◌}
use lib.ListN.{length, get_or, set}
use lib.Seq.{sets}
use Rattle.base_blocks.specs.Lists.{removed, inserted}
use Rattle.base_blocks.specs.Blocks.{moved}
use Rattle.grid_stamps.specs.Grids.{StampGrid}
use Rattle.pool_rules.specs.Model.{WriteHistory, VersionState, PoolModel}
use Rattle.pool_records.specs.Texture.{read_texture, record_grids, record_stamps}
use Rattle.pool_memory.specs.Lent.{Lent}
use Rattle.pool_memory.specs.Reading.{tracked_records, model_of}
use Rattle.pool_memory.specs.Writing.{grids_of, newest_from, newest_of, newest_after, stamps_of, stamps_after}
use Rattle.pool_memory.proofs.Fits.{Fits}
use Rattle.pool_memory.proofs.Runs.{first_grid, first_stamp}
use Rattle.pool_memory.proofs.Packings.{newest_packing, stamps_packing, from_next, from_bound, from_last, from_order, size_in, inserted_packed, renewed_packed, rewritten_packed, dropped_packed, removed_packed}

-- how many grids and stamps texture i has
abbrev pub grid_count_at : Lent → ℕ → ℕ
grid_count_at l i = record_grids (get_or (tracked_records l) i (read_texture []))

abbrev pub stamp_count_at : Lent → ℕ → ℕ
stamp_count_at l i = record_stamps (get_or (tracked_records l) i (read_texture []))

module _ (l : Lent) (f : Fits l) where
  -- ---- where they stand

  pub grid_next : (i : ℕ) → i < l.pool.tracked → first_grid l (suc i) ≡ first_grid l i + grid_count_at l i
  unfolding first_grid
  grid_next i h = from_next (newest_packing l f) i h

  pub stamp_next : (i : ℕ) → i < l.pool.tracked → first_stamp l (suc i) ≡ first_stamp l i + stamp_count_at l i
  unfolding first_stamp
  stamp_next i h = from_next (stamps_packing l f) i h

  pub grid_bound : (i : ℕ) → first_grid l i ≤ l.pool.grids
  unfolding first_grid
  grid_bound i = from_bound (newest_packing l f) i

  pub stamp_bound : (i : ℕ) → first_stamp l i ≤ l.pool.stamps
  unfolding first_stamp
  stamp_bound i = from_bound (stamps_packing l f) i

  -- past the last texture there are none
  pub grid_last : first_grid l l.pool.tracked ≡ l.pool.grids
  unfolding first_grid
  grid_last = from_last (newest_packing l f)

  pub stamp_last : first_stamp l l.pool.tracked ≡ l.pool.stamps
  unfolding first_stamp
  stamp_last = from_last (stamps_packing l f)

  pub grid_order : (i j : ℕ) → i ≤ j → first_grid l i ≤ first_grid l j
  unfolding first_grid
  grid_order i j h = from_order (newest_packing l f) i j h

  pub stamp_order : (i j : ℕ) → i ≤ j → first_stamp l i ≤ first_stamp l j
  unfolding first_stamp
  stamp_order i j h = from_order (stamps_packing l f) i j h

  -- those of texture i lie within all of them
  pub grids_in : (i : ℕ) → i < l.pool.tracked → first_grid l i + grid_count_at l i ≤ l.pool.grids
  unfolding first_grid
  grids_in i h = size_in (newest_packing l f) i h

  pub stamps_in_lem : (i : ℕ) → i < l.pool.tracked → first_stamp l i + stamp_count_at l i ≤ l.pool.stamps
  unfolding first_stamp
  stamps_in_lem i h = size_in (stamps_packing l f) i h

  -- ---- texture i changed: its history, and so how many grids and stamps it has

  module _ (p : PoolModel ℕ) (i : ℕ) (h : i < l.pool.tracked) (t : VersionState ℕ) (e : p.textures ≡ set (model_of l).textures i t) where
    pub newest_renewed : first_grid l i + length (newest_of t) + (l.pool.grids - (first_grid l i + grid_count_at l i)) ≤ length l.newest
        → sets (moved l.newest (first_grid l i + length (newest_of t)) (first_grid l i + grid_count_at l i) (l.pool.grids - (first_grid l i + grid_count_at l i)))
        (first_grid l i) (newest_of t)
        ≡ newest_after p l
    unfolding newest_after first_grid
    newest_renewed fits = renewed_packed (newest_packing l f) p i h t e fits

    pub stamps_renewed : first_stamp l i + length (stamps_of t) + (l.pool.stamps - (first_stamp l i + stamp_count_at l i)) ≤ length l.stamps
        → sets (moved l.stamps (first_stamp l i + length (stamps_of t)) (first_stamp l i + stamp_count_at l i) (l.pool.stamps - (first_stamp l i + stamp_count_at l i)))
        (first_stamp l i) (stamps_of t)
        ≡ stamps_after p l
    unfolding stamps_after first_stamp
    stamps_renewed fits = renewed_packed (stamps_packing l f) p i h t e fits

    -- as many as before: nothing moves
    pub newest_rewritten : length (newest_of t) ≡ grid_count_at l i → sets l.newest (first_grid l i) (newest_of t) ≡ newest_after p l
    unfolding newest_after first_grid
    newest_rewritten n = rewritten_packed (newest_packing l f) p i h t e n

    pub stamps_rewritten : length (stamps_of t) ≡ stamp_count_at l i → sets l.stamps (first_stamp l i) (stamps_of t) ≡ stamps_after p l
    unfolding stamps_after first_stamp
    stamps_rewritten n = rewritten_packed (stamps_packing l f) p i h t e n

    -- its history dropped
    pub newest_dropped_lem : t.history ≡ none
        → moved l.newest (first_grid l i) (first_grid l i + grid_count_at l i) (l.pool.grids - (first_grid l i + grid_count_at l i)) ≡ newest_after p l
    unfolding newest_after newest_from first_grid
    newest_dropped_lem n =
        dropped_packed (newest_packing l f) p i h t e (ap (λ (o : Option WriteHistory). newest_from t.shape 0 (grids_of o)) n)

    pub stamps_dropped_lem : t.history ≡ none
        → moved l.stamps (first_stamp l i) (first_stamp l i + stamp_count_at l i) (l.pool.stamps - (first_stamp l i + stamp_count_at l i)) ≡ stamps_after p l
    unfolding stamps_after first_stamp flat_map
    stamps_dropped_lem n =
        dropped_packed (stamps_packing l f) p i h t e (ap (λ (o : Option WriteHistory). flat_map (λ (g : StampGrid). g.stamps) (grids_of o)) n)

  -- ---- texture i taken out

  module _ (p : PoolModel ℕ) (i : ℕ) (h : i < l.pool.tracked) (e : p.textures ≡ removed i 1 (model_of l).textures) where
    pub newest_removed : moved l.newest (first_grid l i) (first_grid l i + grid_count_at l i) (l.pool.grids - (first_grid l i + grid_count_at l i))
        ≡ newest_after p l
    unfolding newest_after first_grid
    newest_removed = removed_packed (newest_packing l f) p i h e

    pub stamps_removed : moved l.stamps (first_stamp l i) (first_stamp l i + stamp_count_at l i) (l.pool.stamps - (first_stamp l i + stamp_count_at l i))
        ≡ stamps_after p l
    unfolding stamps_after first_stamp
    stamps_removed = removed_packed (stamps_packing l f) p i h e

  -- ---- a texture put in before texture i

  module _ (p : PoolModel ℕ) (i : ℕ) (t : VersionState ℕ) (e : p.textures ≡ inserted i (t ∷ []) (model_of l).textures) where
    pub newest_inserted : l.pool.grids + length (newest_of t) ≤ length l.newest
        → sets (moved l.newest (first_grid l i + length (newest_of t)) (first_grid l i) (l.pool.grids - first_grid l i)) (first_grid l i) (newest_of t)
        ≡ newest_after p l
    unfolding newest_after first_grid
    newest_inserted fits = inserted_packed (newest_packing l f) p i t e fits

    pub stamps_inserted : l.pool.stamps + length (stamps_of t) ≤ length l.stamps
        → sets (moved l.stamps (first_stamp l i + length (stamps_of t)) (first_stamp l i) (l.pool.stamps - first_stamp l i)) (first_stamp l i) (stamps_of t)
        ≡ stamps_after p l
    unfolding stamps_after first_stamp
    stamps_inserted fits = inserted_packed (stamps_packing l f) p i t e fits
