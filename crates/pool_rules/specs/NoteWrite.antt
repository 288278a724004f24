-- Rule: note_write, note_mip_regeneration, records_writes, and the dirty-tile query.
use Rattle.std.specs.Prelude.{ℕ, ◌≡◌, Bool, false, cond, ◌&&◌, Option as Answer, None}
use Rattle.std.proofs.Math.Option.{Option, none, some}
use Rattle.grid_shapes.specs.declared.shape.VersionShape.{VersionShape}
use Rattle.grid_rects.specs.declared.rect.TexelRect.{TexelRect}
use Rattle.grid_stamps.specs.declared.grid.Tile.{Tile}
use Rattle.grid_stamps.specs.Grids.{tiling_of, IsDirtyTile}
use Rattle.pool_rules.specs.Model.{WriteHistory, VersionState, PoolModel, Out, accepted, guard, find, has_history}
use Rattle.pool_rules.specs.Updates.{with_history, with_textures, change}
use Rattle.pool_rules.specs.Histories.{in_shape, grid_at, written, regenerated, spent}

-- the dirty-tile query: some tile stamped above held, none if there is none; and none where texture, history or subresource is absent
abbrev pub DirtyTileIn : VersionShape → Option WriteHistory → ℕ → ℕ → ℕ → Answer Tile → Type 0
DirtyTileIn s none slice level held r = r ≡ None
DirtyTileIn s (some h) slice level held r =
    cond (in_shape s slice level) (IsDirtyTile (tiling_of s level) held (grid_at s h slice level).stamps r) (r ≡ None)

module _ {W : Type 0} where
  abbrev pub history_in : Option (VersionState W) → Option WriteHistory
  history_in none = none
  history_in (some t) = t.history

  -- a write inside the shape whose count is to pass 2^48
  abbrev pub write_spent : Option (VersionState W) → ℕ → ℕ → Bool
  write_spent none slice level = false
  write_spent (some t) slice level = in_shape t.shape slice level && spent t.history

  -- nothing for an untracked texture, or one without a history
  unfoldable pub note_write : PoolModel W → ℕ → ℕ → ℕ → TexelRect → Out W (Unit {0})
  note_write p id slice level r =
      guard (write_spent (find id p.textures) slice level) 12
      (accepted tt (with_textures (change id (λ (t : VersionState W). with_history (written slice level r t.shape t.history) t) p.textures) p))

  unfoldable pub note_mip_regeneration : PoolModel W → ℕ → Out W (Unit {0})
  note_mip_regeneration p id =
      guard (spent (history_in (find id p.textures))) 12
      (accepted tt (with_textures (change id (λ (t : VersionState W). with_history (regenerated t.shape t.history) t) p.textures) p))

  -- whether the texture keeps a history
  unfoldable pub records_writes : PoolModel W → ℕ → Bool
  records_writes p id = has_history (history_in (find id p.textures))

  abbrev pub DirtyTileFound : Option (VersionState W) → ℕ → ℕ → ℕ → Answer Tile → Type 0
  DirtyTileFound none slice level held r = r ≡ None
  DirtyTileFound (some t) slice level held r = DirtyTileIn t.shape t.history slice level held r

  unfoldable pub IsDirtyTileOf : PoolModel W → ℕ → ℕ → ℕ → ℕ → Answer Tile → Type 0
  IsDirtyTileOf p id slice level held r = DirtyTileFound (find id p.textures) slice level held r
