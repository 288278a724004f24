-- `records_writes` and `dirty_tile` on a pool, case by case. Assumes nothing.
use mathlib.Core.Path.{◌≡◌, refl, sym, ap, ap₂, ◌∙◌, subst}
use mathlib.Core.Bool.{Bool, true, false, cond}
use mathlib.Core.Option.{Option, none, some}
use mathlib.Core.List.{List}
use Prim.Native.Nat.{ℕ, ◌+◌}
use lib.ListN.{take, drop}
use Rattle.grid_shapes.specs.declared.shape.VersionShape.{VersionShape}
use Rattle.grid_stamps.specs.declared.grid.Tile.{Tile}
use Rattle.grid_stamps.specs.declared.grid.Tiling.{Tiling}
use Rattle.grid_stamps.specs.Grids.{StampGrid, grid_in, tiling_of, stamp_count, IsDirtyTile}
use Rattle.pool_rules.specs.Model.{WriteHistory, VersionState, has_history, find}
use Rattle.pool_rules.specs.Histories.{in_shape, grid_at, grid_place}
use Rattle.pool_rules.specs.HistorySizes.{grid_start}
use Rattle.pool_rules.specs.NoteWrite.{history_in, records_writes, DirtyTileIn, DirtyTileFound, IsDirtyTileOf}
use Rattle.std.specs.Prelude.{Option as Answer, Some, None, is_some}
use Rattle.pool_records.specs.Recorded.{Recorded}
use Rattle.pool_records.specs.declared.texture.TextureRecord.{TextureRecord}
use Rattle.pool_records.specs.Texture.{texture_in}
use Rattle.pool_memory.specs.Lent.{Lent}
use Rattle.pool_memory.specs.Reading.{model_of}
use Rattle.pool_memory.proofs.Fits.{Fits}
use Rattle.pool_memory.proofs.Runs.{state_of}
use Rattle.pool_memory.proofs.Places.{found, not_found}
use Rattle.pool_memory.proofs.Stays.{ids_ascend}
use Rattle.pool_memory.proofs.Written.{grid_held}
use Rattle.pool_memory.proofs.Tracked.{shape_at, stamp_at_lem}
use Rattle.pool_note_write.specs.History.{stamps_place, stamps_on}
use Rattle.pool_note_write.proofs.AtPlace.{within, history_read_lem, at, Unrecorded, untracked, unrecorded, Recording, Says, history_is, has_history_lem}

module _ (l : Lent) (f : Fits l) (id : ℕ) where
  abbrev i : ℕ
  i = at l f id

  -- ---- the history of the texture found

  none_found : Unrecorded l f id → history_in (find id (model_of l).textures) ≡ none
  none_found (untracked ne) = ap history_in (not_found l id (ids_ascend l f) ne)
  none_found (unrecorded tr q) = ap history_in (found l id (ids_ascend l f) tr) ∙ history_read_lem l f i tr.0 None q

  pub records_none : Unrecorded l f id → false ≡ records_writes (model_of l) id
  unfolding records_writes
  records_none u = sym (ap has_history (none_found u))

  pub records_some : (n : ℕ) → Recording l f id n → true ≡ records_writes (model_of l) id
  unfolding records_writes
  records_some n rec = sym (ap has_history (ap history_in (found l id (ids_ascend l f) rec.tracked) ∙ has_history_lem l f id n rec))

  pub records_said : (r : Recorded) → Says l f id r → is_some r ≡ records_writes (model_of l) id
  records_said (Some n) s = records_some n s
  records_said None s = records_none s

  -- ---- the dirty tile

  module _ (slice level held : ℕ) where
    pub dirty_none : Unrecorded l f id → IsDirtyTileOf (model_of l) id slice level held None
    unfolding IsDirtyTileOf
    dirty_none (untracked ne) = subst (λ (o : Option (VersionState ℕ)). DirtyTileFound o slice level held None) (sym (not_found l id (ids_ascend l f) ne)) refl
    dirty_none (unrecorded tr q) =
        subst (λ (o : Option (VersionState ℕ)). DirtyTileFound o slice level held None) (sym (found l id (ids_ascend l f) tr))
        (subst (λ (o : Option WriteHistory). DirtyTileIn (state_of l i).shape o slice level held None) (sym (history_read_lem l f i tr.0 None q)) refl)

    module _ (n : ℕ) (rec : Recording l f id n) where
      abbrev old : WriteHistory
      old = history_is l f id n rec

      abbrev shape : VersionShape
      shape = (state_of l i).shape

      of_history : (r : Answer Tile) → DirtyTileIn shape (some old) slice level held r → IsDirtyTileOf (model_of l) id slice level held r
      unfolding IsDirtyTileOf
      of_history r d =
          subst (λ (o : Option (VersionState ℕ)). DirtyTileFound o slice level held r) (sym (found l id (ids_ascend l f) rec.tracked))
          (subst (λ (o : Option WriteHistory). DirtyTileIn shape o slice level held r) (sym (has_history_lem l f id n rec)) d)

      -- by the record that the code found
      module _ (k : ℕ) (q : k ≡ i) (t : TextureRecord) (read : t ≡ texture_in l.textures k) where
        same_shape_lem : shape ≡ t.shape
        same_shape_lem = shape_at l i rec.tracked.0 ∙ sym (ap (λ (x : TextureRecord). x.shape) (read ∙ ap (texture_in l.textures) q))

        in_state : (b : Bool) → in_shape t.shape slice level ≡ b → in_shape shape slice level ≡ b
        in_state b g = ap (λ (s : VersionShape). in_shape s slice level) same_shape_lem ∙ g

        pub dirty_outside : in_shape t.shape slice level ≡ false → IsDirtyTileOf (model_of l) id slice level held None
        dirty_outside g =
            let none_there : Answer Tile = None in
            of_history none_there
            (subst (λ (b : Bool). cond b (IsDirtyTile (tiling_of shape level) held (grid_at shape old slice level).stamps none_there) (none_there ≡ none_there)) (sym (in_state false g)) refl)

        -- the subresource's stamps are its grid's
        stamps_held_lem : in_shape shape slice level ≡ true → stamps_on l.textures i slice level l.stamps ≡ (grid_at shape old slice level).stamps
        unfolding stamps_on stamps_place grid_in
        stamps_held_lem here =
            let w = within shape slice level here in
            ap₂ (λ (s : VersionShape) (m : ℕ). take (stamp_count (tiling_of s level)) (drop (m + grid_start s (grid_place s slice level)) l.stamps))
            (sym (shape_at l i rec.tracked.0)) (stamp_at_lem l i rec.tracked.0 f)
            ∙ sym (ap (λ (x : StampGrid). x.stamps) (grid_held l i f rec.tracked.0 old (has_history_lem l f id n rec) slice level w.0 w.1))

        pub dirty_inside : in_shape t.shape slice level ≡ true → (r : Answer Tile)
            → IsDirtyTile (tiling_of (texture_in l.textures k).shape level) held (stamps_on l.textures k slice level l.stamps) r
            → IsDirtyTileOf (model_of l) id slice level held r
        dirty_inside g r d =
            let here = in_state true g in
            let d' : IsDirtyTile (tiling_of (texture_in l.textures i).shape level) held (stamps_on l.textures i slice level l.stamps) r =
            subst (λ (m : ℕ). IsDirtyTile (tiling_of (texture_in l.textures m).shape level) held (stamps_on l.textures m slice level l.stamps) r) q d in
            of_history r
            (subst (λ (b : Bool). cond b (IsDirtyTile (tiling_of shape level) held (grid_at shape old slice level).stamps r) (r ≡ None)) (sym here)
            (subst (λ (x : List ℕ). IsDirtyTile (tiling_of shape level) held x r) (stamps_held_lem here)
            (subst (λ (s : VersionShape). IsDirtyTile (tiling_of s level) held (stamps_on l.textures i slice level l.stamps) r) (sym (shape_at l i rec.tracked.0)) d')))

-- the part lent on to the scan is the subresource's grid
pub dirty_part : (textures stamps : List ℕ) (i slice level held : ℕ) (t : TextureRecord) → t ≡ texture_in textures i → (a m : ℕ)
    → a ≡ t.stamp + grid_start t.shape (grid_place t.shape slice level) → m ≡ stamp_count (tiling_of t.shape level) → (g : Tiling)
    → g ≡ tiling_of t.shape level → (r : Answer Tile) → IsDirtyTile g held (take m (drop a stamps)) r
    → IsDirtyTile (tiling_of (texture_in textures i).shape level) held (stamps_on textures i slice level stamps) r
unfolding stamps_on stamps_place
dirty_part textures stamps i slice level held t read a m e k g c r d =
    subst (λ (x : TextureRecord). IsDirtyTile (tiling_of x.shape level) held
    (take (stamp_count (tiling_of x.shape level)) (drop (x.stamp + grid_start x.shape (grid_place x.shape slice level)) stamps)) r) read
    (subst (λ (x : Tiling). IsDirtyTile x held (take (stamp_count (tiling_of t.shape level)) (drop (t.stamp + grid_start t.shape (grid_place t.shape slice level)) stamps)) r) c
    (subst (λ (j : ℕ). IsDirtyTile g held (take (stamp_count (tiling_of t.shape level)) (drop j stamps)) r) e
    (subst (λ (j : ℕ). IsDirtyTile g held (take j (drop a stamps)) r) k d)))
