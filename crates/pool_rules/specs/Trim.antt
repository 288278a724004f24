-- Rule: trim: queue for destruction every spare idle past the bound, and forget idle textures.
use Rattle.std.specs.Prelude.{ℕ, suc, ◌+◌, Bool, true, false, cond, ◌&&◌, not, ltb, take, drop}
use mathlib.Core.List.{List, [], ◌∷◌, map, flat_map}
use Rattle.base_blocks.specs.Lists.{keep}
use Rattle.grid_shapes.specs.Shapes.{bytes_of}
use Rattle.pool_rules.specs.Model.{Spare, VersionState, PoolModel, Out, accepted, guard, limit}
use Rattle.pool_rules.specs.Updates.{with_spares, with_due, with_textures, as_doomed, doom_spares}
use Rattle.pool_rules.specs.RuleConstants.{spare_max_idle_submits, state_max_idle_submits}

-- a submission more than 120 before now
abbrev pub aged : ℕ → ℕ → Bool
aged now seq = ltb (seq + state_max_idle_submits) now

module _ {W : Type 0} where
  -- spares from the oldest on while parking + 8 < now
  unfoldable pub aged_count : ℕ → List (Spare W) → ℕ
  aged_count now [] = 0
  aged_count now (s ∷ ss) = cond (ltb (s.parked + spare_max_idle_submits) now) (suc (aged_count now ss)) 0

  abbrev pub thinned : ℕ → VersionState W → VersionState W
  thinned now t = with_spares (drop (aged_count now t.spares) t.spares) t

  abbrev pub is_empty : List (Spare W) → Bool
  is_empty [] = true
  is_empty (s ∷ ss) = false

  -- a state is looked at when its due number aged; with no spares and an aged last rename it is dropped
  abbrev pub idle : ℕ → VersionState W → Bool
  idle now t = aged now t.due && (aged now t.rename && is_empty t.spares)

  -- otherwise due becomes now if the rename aged, else the rename's submission
  abbrev pub looked_at : ℕ → VersionState W → VersionState W
  looked_at now t = cond (aged now t.due) (with_due (cond (aged now t.rename) now t.rename) t) t

  unfoldable pub trim : PoolModel W → ℕ → Out W (Unit {0})
  trim p now =
      guard (ltb limit now) 3
      (accepted tt
      (doom_spares (flat_map (λ (t : VersionState W). as_doomed (bytes_of t.shape) (take (aged_count now t.spares) t.spares)) p.textures)
      (with_textures (map (looked_at now) (keep (λ (t : VersionState W). not (idle now t)) (map (thinned now) p.textures))) p)))
