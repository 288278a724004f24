-- Rule: retire: queue the version that a rename just replaced.
use Rattle.std.specs.Prelude.{ℕ, List, [], ◌∷◌, ◌++◌, leb, ltb}
use Rattle.std.proofs.Math.Option.{Option, none, some}
use Rattle.grid_shapes.specs.Shapes.{bytes_of}
use Rattle.pool_rules.specs.Model.{Retiring, VersionState, PoolModel, Out, accepted, guard, find, limit, writes_of, versions_used}
use Rattle.pool_rules.specs.Updates.{with_birth, with_textures, with_retiring, change}

module _ {W : Type 0} where
  -- the submission of the last still queued, 0 if none is
  abbrev pub last_seq : List (Retiring W) → ℕ
  last_seq [] = 0
  last_seq (v ∷ []) = v.seq
  last_seq (v ∷ u ∷ us) = last_seq (u ∷ us)

  -- the version holds every write counted so far; of an untracked texture the tracking and all else are 0
  abbrev pub retired : ℕ → W → ℕ → Option (VersionState W) → Retiring W
  retired id view seq none = record { id = id; view = view; seq = seq; epoch = 0; birth = 0; held = 0; bytes = 0 }
  retired id view seq (some t) = record {
    id = id;
    view = view;
    seq = seq;
    epoch = t.epoch;
    birth = t.birth;
    held = writes_of t.history;
    bytes = bytes_of t.shape;
  }

  unfoldable pub retire : PoolModel W → ℕ → W → ℕ → Out W (Unit {0})
  retire p id view seq =
      guard (ltb limit seq) 3
      (guard (leb p.places.versions (versions_used p)) 7
      (guard (ltb seq (last_seq p.retiring)) 8
      (accepted tt
      (with_textures (change id (with_birth seq) p.textures)
      (with_retiring (p.retiring ++ (retired id view seq (find id p.textures) ∷ [])) p.hand p)))))
