-- A pass over all textures, step by step: p is the pool with the textures packed so far, q the one with one more. Assumes nothing.
use mathlib.Core.Path.{◌≡◌, sym, ap, ap₂, ◌∙◌}
use mathlib.Core.List.{List, [], ◌∷◌, ◌++◌, map, flat_map, map-append, append-nil}
use Prim.Native.Nat.{ℕ, ◌+◌, ◌*◌, ◌≤◌, ◌<◌}
use native.Mathlib.Nat.{zero-add}
use native.Mathlib.Omega.{arith}
use lib.ListN.{length, take, drop, length-map}
use lib.Seq.{sets}
use Rattle.base_blocks.specs.Lists.{over, total}
use Rattle.base_blocks.specs.Blocks.{moved}
use Rattle.base_blocks.proofs.Lists.{over_nothing}
use Rattle.base_tables.specs.Records.{record_at, table, flat}
use Rattle.grid_stamps.specs.Grids.{StampGrid}
use Rattle.pool_rules.specs.Model.{Spare, VersionState, PoolModel}
use Rattle.pool_rules.specs.HistorySizes.{newest_used, stamps_used}
use Rattle.pool_records.specs.declared.texture.TextureRecord.{TextureRecord}
use Rattle.pool_records.specs.declared.spare.SpareRecord.{SpareRecord}
use Rattle.pool_records.specs.Texture.{write_texture, texture_in}
use Rattle.pool_records.specs.Spare.{read_spare, write_spare}
use Rattle.pool_records.specs.Codecs.{texture_codec, spare_codec}
use Rattle.pool_memory.specs.Lent.{Lent}
use Rattle.pool_memory.specs.Reading.{tracked_records}
use Rattle.pool_memory.specs.Writing.{texture_record, texture_records, spare_record, every_spare, grids_of, newest_from, newest_of, stamps_of, textures_after, spares_after, newest_after, stamps_after}
use Rattle.pool_memory.proofs.Fits.{Fits}
use Rattle.pool_memory.proofs.Parts.{flat_append, map_take, map_drop}
use Rattle.pool_memory.proofs.Packed.{packed_read, packed_put, packed_moved}
use Rattle.pool_memory.proofs.Runs.{spares_of, first_grid, first_stamp, state_of}
use Rattle.pool_memory.proofs.Kept.{KeptHistory, kept_history}
use Rattle.pool_memory.proofs.Packings.{newest_packing, stamps_packing, step_packed}
use Rattle.pool_memory.proofs.ReadStates.{length_recorded}
use Rattle.pool_memory.proofs.Starts.{records_append}
use Rattle.pool_memory.proofs.Changes.{spares_before, table_spares}
use Rattle.pool_memory.proofs.HistoryRuns.{grid_count_at, stamp_count_at}
use Rattle.pool_records.specs.RecordConstants.{spare_stride, texture_stride}

-- one more behind them
pub records_more : (grid stamp : ℕ) (ts : List (VersionState ℕ)) (t : VersionState ℕ)
    → texture_records grid stamp (ts ++ (t ∷ []))
    ≡ texture_records grid stamp ts ++ (texture_record (grid + total newest_used ts) (stamp + total stamps_used ts) t ∷ [])
unfolding texture_records
records_more grid stamp ts t = records_append grid stamp ts (t ∷ [])

-- ---- at the start nothing is packed

module _ (l : Lent) (p : PoolModel ℕ) (e : p.textures ≡ []) where
  pub textures_start : textures_after p l ≡ l.textures
  unfolding textures_after texture_records flat
  textures_start = ap (λ (ts : List (VersionState ℕ)). over (flat write_texture (texture_records 0 0 ts)) l.textures) e ∙ over_nothing l.textures

  pub spares_start : spares_after p l ≡ l.spares
  unfolding spares_after flat flat_map
  spares_start =
      ap (λ (ts : List (VersionState ℕ)). over (flat write_spare (map spare_record (every_spare ts))) l.spares) e ∙ over_nothing l.spares

  pub newest_start : newest_after p l ≡ l.newest
  unfolding newest_after flat_map
  newest_start = ap (λ (ts : List (VersionState ℕ)). over (flat_map newest_of ts) l.newest) e ∙ over_nothing l.newest

  pub stamps_start : stamps_after p l ≡ l.stamps
  unfolding stamps_after flat_map
  stamps_start = ap (λ (ts : List (VersionState ℕ)). over (flat_map stamps_of ts) l.stamps) e ∙ over_nothing l.stamps

-- ---- what is not packed yet stands as it was

module _ (l : Lent) (p : PoolModel ℕ) where
  pub texture_unread : (j : ℕ) → length p.textures ≤ j → texture_in (textures_after p l) j ≡ texture_in l.textures j
  unfolding textures_after
  texture_unread j h =
      packed_read texture_codec l.textures (texture_records 0 0 p.textures) j (omega (arith, length_recorded 0 0 p.textures))

  pub spare_unread : (j : ℕ) → length (every_spare p.textures) ≤ j → record_at spare_stride read_spare (spares_after p l) j ≡ record_at spare_stride read_spare l.spares j
  unfolding spares_after
  spare_unread j h =
      packed_read spare_codec l.spares (map spare_record (every_spare p.textures)) j
      (omega (arith, length-map (every_spare p.textures) spare_record))

-- ---- one texture more

module _ (l : Lent) (p q : PoolModel ℕ) (t : VersionState ℕ) (e : q.textures ≡ p.textures ++ (t ∷ [])) where
  -- its record holds as many grids and stamps before it as those packed so far have
  pub texture_packed : texture_stride * length p.textures + texture_stride ≤ length l.textures
      → sets (textures_after p l) (texture_stride * length p.textures)
      (write_texture (texture_record (total newest_used p.textures) (total stamps_used p.textures) t))
      ≡ textures_after q l
  unfolding textures_after
  texture_packed room =
      let n = length_recorded 0 0 p.textures in
      let r = texture_record (total newest_used p.textures) (total stamps_used p.textures) t in
      ap (λ (k : ℕ). sets (over (flat write_texture (texture_records 0 0 p.textures)) l.textures) (texture_stride * k) (write_texture r)) (sym n)
      ∙ packed_put texture_codec l.textures (texture_records 0 0 p.textures) r (omega arith)
      ∙ ap (λ (xs : List TextureRecord). over (flat write_texture xs) l.textures)
      (sym (ap (texture_records 0 0) e ∙ records_more 0 0 p.textures t
      ∙ ap₂ (λ (g m : ℕ). texture_records 0 0 p.textures ++ (texture_record g m t ∷ []))
      (zero-add (total newest_used p.textures)) (zero-add (total stamps_used p.textures))))

  more_spares : every_spare q.textures ≡ every_spare p.textures ++ t.spares
  unfolding flat_map
  more_spares =
      ap every_spare e ∙ flat_append (λ (u : VersionState ℕ). u.spares) p.textures (t ∷ [])
      ∙ ap (λ (xs : List (Spare ℕ)). every_spare p.textures ++ xs) (append-nil t.spares)

  -- its m spares from place r on
  pub spares_packed : (kept : total spares_of (tracked_records l) ≡ l.pool.kept) → spare_stride * l.pool.kept ≤ length l.spares → (r m : ℕ)
      → t.spares ≡ take m (drop r (spares_before l)) → length (every_spare p.textures) ≤ r → r + m ≤ l.pool.kept
      → moved (spares_after p l) (spare_stride * length (every_spare p.textures)) (spare_stride * r) (spare_stride * m) ≡ spares_after q l
  unfolding spares_after
  spares_packed kept fits r m f h k =
      let xs = every_spare p.textures in
      let n = length-map xs spare_record in
      let run : map spare_record t.spares ≡ take m (drop r (table spare_stride read_spare l.pool.kept l.spares)) =
      ap (map spare_record) f ∙ map_take spare_record m (drop r (spares_before l))
      ∙ ap (take m) (map_drop spare_record r (spares_before l) ∙ ap (drop r) (table_spares l p kept fits)) in
      ap (λ (i : ℕ). moved (over (flat write_spare (map spare_record xs)) l.spares) (spare_stride * i) (spare_stride * r) (spare_stride * m)) (sym n)
      ∙ packed_moved spare_codec l.spares (map spare_record xs) l.pool.kept r m (omega arith) k fits
      ∙ ap (λ (ys : List SpareRecord). over (flat write_spare ys) l.spares)
      (sym (ap (map spare_record) more_spares ∙ map-append spare_record xs t.spares ∙ ap (λ (ys : List SpareRecord). map spare_record xs ++ ys) run))

  -- texture i, with its id, shape and history, where `grids` grids and `stamps` stamps are packed so far
  module _ (f : Fits l) (i : ℕ) (h : i < l.pool.tracked) (same : kept_history t ≡ kept_history (state_of l i)) where
    pub newest_packed : (grids : ℕ) → grids ≤ first_grid l i → length (flat_map newest_of p.textures) ≡ grids
        → (moved (newest_after p l) grids (first_grid l i) (grid_count_at l i) ≡ newest_after q l)
        × (length (flat_map newest_of q.textures) ≡ grids + grid_count_at l i)
    unfolding newest_after first_grid
    newest_packed grids before n =
        step_packed (newest_packing l f) p q t e i h
        (ap (λ (x : KeptHistory). newest_from x.shape 0 (grids_of x.history)) same) grids before n

    pub stamps_packed : (stamps : ℕ) → stamps ≤ first_stamp l i → length (flat_map stamps_of p.textures) ≡ stamps
        → (moved (stamps_after p l) stamps (first_stamp l i) (stamp_count_at l i) ≡ stamps_after q l)
        × (length (flat_map stamps_of q.textures) ≡ stamps + stamp_count_at l i)
    unfolding stamps_after first_stamp
    stamps_packed stamps before n =
        step_packed (stamps_packing l f) p q t e i h
        (ap (λ (x : KeptHistory). flat_map (λ (g : StampGrid). g.stamps) (grids_of x.history)) same) stamps before n
