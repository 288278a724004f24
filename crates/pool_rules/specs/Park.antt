-- Rule: park: the version in the hand becomes its texture's newest spare, or is queued for destruction.
use Rattle.std.specs.Prelude.{ℕ, ◌+◌, Bool, cond, ◌&&◌, ◌||◌, not, [], ◌∷◌, ◌++◌, leb, ltb, eqb}
use Rattle.std.proofs.Math.Option.{Option, none, some}
use Rattle.grid_shapes.specs.Shapes.{bytes_of}
use Rattle.pool_rules.specs.declared.held.Held.TheVariants.{Known, Unknown}
use Rattle.pool_rules.specs.Model.{Spare, Retiring, VersionState, PoolModel, Out, refused, accepted, guard, find, limit}
use Rattle.pool_rules.specs.Updates.{with_spares, with_textures, with_retiring, with_parked, change, doom}

module _ {W : Type 0} where
  -- the held writes are unknown if a submission that it was live through failed
  abbrev pub aborted : ℕ → Retiring W → Bool
  aborted failed v = not (eqb failed 0) && leb v.birth failed

  abbrev pub as_spare : ℕ → ℕ → Retiring W → Spare W
  as_spare failed now v = record { view = v.view; held = cond (aborted failed v) Unknown (Known v.held); parked = now }

  -- destroyed if tracking is gone or renewed, then with the bytes noted at retiring
  abbrev pub park_lost : PoolModel W → Retiring W → PoolModel W
  park_lost p v = doom (record { view = v.view; bytes = v.bytes } ∷ []) p

  -- destroyed if pressed, or if parked bytes plus its texture's pass the cap, with its texture's bytes; else the newest spare
  abbrev pub park_tracked : PoolModel W → ℕ → ℕ → Retiring W → VersionState W → PoolModel W
  park_tracked p failed now v t =
      cond (p.pacing.pressed || ltb p.budget.cap (p.parked + bytes_of t.shape))
      (doom (record { view = v.view; bytes = bytes_of t.shape } ∷ []) p)
      (with_parked (p.parked + bytes_of t.shape)
      (with_textures (change v.id (λ (u : VersionState W). with_spares (u.spares ++ (as_spare failed now v ∷ [])) u) p.textures) p))

  abbrev pub park_found : PoolModel W → ℕ → ℕ → Retiring W → Option (VersionState W) → PoolModel W
  park_found p failed now v none = park_lost p v
  park_found p failed now v (some t) = cond (eqb t.epoch v.epoch) (park_tracked p failed now v t) (park_lost p v)

  abbrev pub park_hand : PoolModel W → ℕ → ℕ → Option (Retiring W) → Out W (Unit {0})
  park_hand p failed now none = refused 10
  park_hand p failed now (some v) = accepted tt (park_found (with_retiring p.retiring none p) failed now v (find v.id p.textures))

  unfoldable pub park : PoolModel W → ℕ → ℕ → Out W (Unit {0})
  park p failed now = guard (ltb limit failed || ltb limit now) 3 (park_hand p failed now p.hand)
