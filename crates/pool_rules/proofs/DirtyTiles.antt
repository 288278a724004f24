-- What the dirty-tile query may answer: a tile that is there and stamped above held, or none where there is no such tile. Assumes nothing.
use Prim.Native.Nat.{ℕ, ◌<◌, ◌≤◌}
use mathlib.Core.Path.{◌≡◌, refl, sym, ap, ◌∙◌}
use mathlib.Core.Bool.{Bool, true, false, cond}
use mathlib.Core.Option.{Option, none, some, some-injective, some-ne-none}
use native.Mathlib.Omega.{arith}
use lib.Dec.{ltb}
use borrow.Author.Tests.{ltb-true, ltb-false, lt-ltb}
use Rattle.base_blocks.proofs.Lists.{and_both}
use Rattle.grid_shapes.specs.Shapes.{slices_of}
use Rattle.std.specs.Prelude.{Option as Answer, None}
use Rattle.grid_stamps.specs.declared.grid.Tile.{Tile}
use Rattle.grid_stamps.specs.Grids.{tiling_of, some_tile, IsDirtyTile}
use Rattle.pool_rules.specs.Model.{WriteHistory, VersionState, PoolModel, find}
use Rattle.pool_rules.specs.Histories.{in_shape, grid_at}
use Rattle.pool_rules.specs.NoteWrite.{DirtyTileIn, DirtyTileFound, IsDirtyTileOf}
use Rattle.pool_rules.specs.DirtyTiles.{TileAbove, DirtyTilesPinned}

no_tile_is_none : {column row : ℕ} → some_tile column row ≡ None → ⊥
no_tile_is_none e = cc

not_above : (a b : ℕ) → (a < b → ⊥) → b ≤ a
not_above a b never = by (ltb a b) refl
  where
    by : (c : Bool) → ltb a b ≡ c → b ≤ a
    by true e = absurd (never (ltb-true a b e))
    by false e = ltb-false a b e

module _ {W : Type 0} (p : PoolModel W) (id slice level held : ℕ) where
  -- ---- a tile is answered just where it is one

  module _ (column row : ℕ) where
    module _ (t : VersionState W) (e : find id p.textures ≡ some t) where
      by_shape : (h : WriteHistory) → t.history ≡ some h → (b : Bool) → in_shape t.shape slice level ≡ b
          → cond b (IsDirtyTile (tiling_of t.shape level) held (grid_at t.shape h slice level).stamps (some_tile column row)) (some_tile column row ≡ None)
          → TileAbove p id slice level held column row
      unfolding IsDirtyTile
      by_shape h k true s q =
          let both = and_both (ltb slice (slices_of t.shape)) (ltb level t.shape.levels) s in
          record {
            texture = t;
            history = h;
            tracked = e;
            recorded = k;
            in_slices = ltb-true _ _ both.0;
            in_levels = ltb-true _ _ both.1;
            in_columns_lem = q.inside.0;
            in_rows = q.inside.1;
            above = q.above;
          }
      by_shape h k false s q = absurd (no_tile_is_none q)

      by_history : (o : Option WriteHistory) → t.history ≡ o → DirtyTileIn t.shape o slice level held (some_tile column row)
          → TileAbove p id slice level held column row
      by_history none k q = absurd (no_tile_is_none q)
      by_history (some h) k q = by_shape h k (in_shape t.shape slice level) refl q

    by_texture : (o : Option (VersionState W)) → find id p.textures ≡ o → DirtyTileFound o slice level held (some_tile column row)
        → TileAbove p id slice level held column row
    by_texture none e q = absurd (no_tile_is_none q)
    by_texture (some t) e q = by_history t e t.history refl q

    pub tile_answered : IsDirtyTileOf p id slice level held (some_tile column row) → TileAbove p id slice level held column row
    unfolding IsDirtyTileOf
    tile_answered q = by_texture (find id p.textures) refl q

  -- ---- the condition of an answer, of a texture, history and subresource that are there

  module _ (t : VersionState W) (h : WriteHistory) (e : find id p.textures ≡ some t) (k : t.history ≡ some h)
      (s : in_shape t.shape slice level ≡ true) (r : Answer Tile) where
    abbrev Condition : Type 0
    Condition = IsDirtyTile (tiling_of t.shape level) held (grid_at t.shape h slice level).stamps r

    there : Condition → IsDirtyTileOf p id slice level held r
    unfolding IsDirtyTileOf
    there q = rw (e, k, s) q

    from_there : IsDirtyTileOf p id slice level held r → Condition
    unfolding IsDirtyTileOf
    from_there q = rw (e, k, s) at q

  inside : (t : VersionState W) → slice < slices_of t.shape → level < t.shape.levels → in_shape t.shape slice level ≡ true
  inside t a b = rw (lt-ltb slice (slices_of t.shape) a, lt-ltb level t.shape.levels b) refl

  pub tile_answerable : (column row : ℕ) → TileAbove p id slice level held column row → IsDirtyTileOf p id slice level held (some_tile column row)
  unfolding IsDirtyTile
  tile_answerable column row a =
      there a.texture a.history a.tracked a.recorded (inside a.texture a.in_slices a.in_levels) (some_tile column row)
      (record { inside = (a.in_columns_lem, a.in_rows); above = a.above })

  pub tile_clean : IsDirtyTileOf p id slice level held None → (column row : ℕ) → TileAbove p id slice level held column row → ⊥
  unfolding IsDirtyTile
  tile_clean q column row a =
      let below = from_there a.texture a.history a.tracked a.recorded (inside a.texture a.in_slices a.in_levels) None q
      column row a.in_columns_lem a.in_rows in
      omega (arith, below, a.above)

  -- ---- none, where there is no such tile

  module _ (never : (column row : ℕ) → TileAbove p id slice level held column row → ⊥) where
    none_by_shape : (t : VersionState W) → find id p.textures ≡ some t → (h : WriteHistory) → t.history ≡ some h
        → (b : Bool) → in_shape t.shape slice level ≡ b
        → cond b (IsDirtyTile (tiling_of t.shape level) held (grid_at t.shape h slice level).stamps None) (◌≡◌ {A = Answer Tile} None None)
    unfolding IsDirtyTile
    none_by_shape t e h k true s = λ column row a b. not_above held _ (λ above. never column row (by_shape column row t e h k true s (record { inside = (a, b); above = above })))
    none_by_shape t e h k false s = refl

    none_by_history : (t : VersionState W) → find id p.textures ≡ some t → (o : Option WriteHistory) → t.history ≡ o
        → DirtyTileIn t.shape o slice level held None
    none_by_history t e none k = refl
    none_by_history t e (some h) k = none_by_shape t e h k (in_shape t.shape slice level) refl

    none_by_texture : (o : Option (VersionState W)) → find id p.textures ≡ o → DirtyTileFound o slice level held None
    none_by_texture none e = refl
    none_by_texture (some t) e = none_by_history t e t.history refl

    pub tile_none : IsDirtyTileOf p id slice level held None
    unfolding IsDirtyTileOf
    tile_none = none_by_texture (find id p.textures) refl

  -- ---- where something is absent no tile is one

  untracked_none : find id p.textures ≡ none → (column row : ℕ) → TileAbove p id slice level held column row → ⊥
  untracked_none e column row a = some-ne-none _ (sym a.tracked ∙ e)

  module _ (t : VersionState W) (e : find id p.textures ≡ some t) (column row : ℕ) (a : TileAbove p id slice level held column row) where
    found : a.texture ≡ t
    found = some-injective _ _ (sym a.tracked ∙ e)

    unrecorded_none : t.history ≡ none → ⊥
    unrecorded_none k = some-ne-none _ (sym a.recorded ∙ ap (λ (u : VersionState W). u.history) found ∙ k)

    past_slices_none : slices_of t.shape ≤ slice → ⊥
    past_slices_none k = omega (arith, k, a.in_slices, ap (λ (u : VersionState W). slices_of u.shape) found)

    past_levels_none : t.shape.levels ≤ level → ⊥
    past_levels_none k = omega (arith, k, a.in_levels, ap (λ (u : VersionState W). u.shape.levels) found)

-- the condition is what 01 says
pub dirty_tiles_pinned : {W : Type 0} → DirtyTilesPinned W
dirty_tiles_pinned p id slice level held = record {
  answered = tile_answered p id slice level held;
  answerable = tile_answerable p id slice level held;
  clean = tile_clean p id slice level held;
  none_above = tile_none p id slice level held;
  untracked = λ e. tile_none p id slice level held (untracked_none p id slice level held e);
  untracked_only = λ e column row q. untracked_none p id slice level held e column row (tile_answered p id slice level held column row q);
  unrecorded = λ t e k. tile_none p id slice level held (λ column row a. unrecorded_none p id slice level held t e column row a k);
  unrecorded_only = λ t e k column row q. unrecorded_none p id slice level held t e column row (tile_answered p id slice level held column row q) k;
  past_slices = λ t e k. tile_none p id slice level held (λ column row a. past_slices_none p id slice level held t e column row a k);
  past_slices_only = λ t e k column row q. past_slices_none p id slice level held t e column row (tile_answered p id slice level held column row q) k;
  past_levels = λ t e k. tile_none p id slice level held (λ column row a. past_levels_none p id slice level held t e column row a k);
  past_levels_only = λ t e k column row q. past_levels_none p id slice level held t e column row (tile_answered p id slice level held column row q) k;
}
