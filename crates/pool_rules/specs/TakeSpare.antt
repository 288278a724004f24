-- Rule: take_spare: start a rename, handing back the texture's newest spare if it has one.
use Rattle.std.specs.Prelude.{ℕ, suc, ◌+◌, ◌*◌, ◌-◌, Bool, cond, ◌&&◌, not, List, [], ◌∷◌, leb, ltb, length}
use Rattle.std.proofs.Math.Option.{Option, none, some}
use Rattle.base_blocks.specs.Lists.{total}
use Rattle.grid_shapes.specs.declared.shape.VersionShape.{VersionShape}
use Rattle.grid_shapes.specs.Shapes.{is_shape, same_shape, bytes_of}
use Rattle.pool_rules.specs.Model.{Spare, VersionState, PoolModel, Out, accepted, guard, find, limit}
use Rattle.pool_rules.specs.Updates.{with_spares, with_rename, with_textures, with_trackings, with_parked, change, insert, as_doomed, doom_spares}
use Rattle.pool_rules.specs.Histories.{new_history}
use Rattle.pool_rules.specs.HistorySizes.{history_size, stamps_used}
use Rattle.grid_stamps.specs.StampConstants.{page_stamps}

module _ {W : Type 0} where
  -- a tracking just begun: due starts at the creating submission
  abbrev pub new_state : ℕ → VersionShape → Bool → ℕ → ℕ → VersionState W
  new_state id shape records epoch seq = record {
    id = id;
    shape = shape;
    epoch = epoch;
    history = cond records (some (new_history shape)) none;
    birth = 0;
    rename = seq;
    due = seq;
    spares = [];
  }

  -- a new history needs more stamps than are free, the `own` of the same id counted as free
  abbrev pub history_full : PoolModel W → VersionShape → Bool → ℕ → Bool
  history_full p shape records own = records && ltb (page_stamps * p.places.pages + own) (total stamps_used p.textures + history_size shape)

  -- an untracked id
  abbrev pub take_new : PoolModel W → ℕ → VersionShape → Bool → ℕ → Out W (Option (Spare W))
  take_new p id shape records seq =
      guard (leb p.places.textures (length p.textures)) 5
      (guard (history_full p shape records 0) 6
      (guard (leb limit p.trackings) 12
      (accepted none (with_trackings (suc p.trackings) (with_textures (insert (new_state id shape records (suc p.trackings) seq) p.textures) p)))))

  -- another shape: the spares are queued for destruction and the tracking is renewed
  abbrev pub take_renewed : PoolModel W → ℕ → VersionShape → Bool → ℕ → VersionState W → Out W (Option (Spare W))
  take_renewed p id shape records seq t =
      guard (history_full p shape records (stamps_used t)) 6
      (guard (leb limit p.trackings) 12
      (accepted none
      (with_trackings (suc p.trackings)
      (with_textures (change id (λ (u : VersionState W). new_state id shape records (suc p.trackings) seq) p.textures)
      (doom_spares (as_doomed (bytes_of t.shape) t.spares) p)))))

  -- the newest spare, which was parked last, and the others
  abbrev pub newest : List (Spare W) → Option (Spare W)
  newest [] = none
  newest (s ∷ []) = some s
  newest (s ∷ u ∷ us) = newest (u ∷ us)

  abbrev pub others : List (Spare W) → List (Spare W)
  others [] = []
  others (s ∷ []) = []
  others (s ∷ u ∷ us) = s ∷ others (u ∷ us)

  abbrev pub taken_bytes : VersionShape → Option (Spare W) → ℕ
  taken_bytes shape none = 0
  taken_bytes shape (some s) = bytes_of shape

  -- the same shape
  abbrev pub take_tracked : PoolModel W → ℕ → ℕ → VersionState W → Out W (Option (Spare W))
  take_tracked p id seq t =
      accepted (newest t.spares)
      (with_parked (p.parked - taken_bytes t.shape (newest t.spares))
      (with_textures (change id (λ (u : VersionState W). with_rename seq (with_spares (others u.spares) u)) p.textures) p))

  abbrev pub take_found : PoolModel W → ℕ → VersionShape → Bool → ℕ → Option (VersionState W) → Out W (Option (Spare W))
  take_found p id shape records seq none = take_new p id shape records seq
  take_found p id shape records seq (some t) = cond (same_shape t.shape shape) (take_tracked p id seq t) (take_renewed p id shape records seq t)

  unfoldable pub take_spare : PoolModel W → ℕ → VersionShape → Bool → ℕ → Out W (Option (Spare W))
  take_spare p id shape records seq =
      guard (not (is_shape shape)) 2 (guard (ltb limit seq) 3 (take_found p id shape records seq (find id p.textures)))
