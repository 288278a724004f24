-- Rule: drain_versions: hand out the queue, then the destroy queue, then the spares; the hand stays as it is.
use Rattle.std.specs.Prelude.{ℕ, ltb, length, replicate}
use mathlib.Core.List.{List, [], ◌++◌, map, flat_map}
use Rattle.pool_rules.specs.Model.{Spare, Retiring, Doomed, VersionState, PoolModel, Out, accepted, guard}
use Rattle.pool_rules.specs.Updates.{with_spares, with_textures, with_retiring, with_parked, with_doomed, with_pacing}
use Rattle.pool_rules.specs.RuleConstants.{destroy_spread_drains}

module _ {W : Type 0} where
  abbrev pub every_view : PoolModel W → List W
  every_view p =
      map (λ (v : Retiring W). v.view) p.retiring
      ++ (map (λ (d : Doomed W). d.view) p.doomed ++ flat_map (λ (t : VersionState W). map (λ (s : Spare W). s.view) t.spares) p.textures)

  -- arrivals and the count since are cleared; slot, mark and excess stay
  unfoldable pub drain_versions : PoolModel W → ℕ → Out W (List W)
  drain_versions p buffer =
      guard (ltb buffer (length (every_view p))) 11
      (accepted (every_view p)
      (with_pacing (record { arrivals = replicate destroy_spread_drains 0; slot = p.pacing.slot; pressed = p.pacing.pressed; excess = p.pacing.excess })
      (with_parked 0 (with_doomed [] 0 0 (with_retiring [] p.hand (with_textures (map (with_spares []) p.textures) p))))))
