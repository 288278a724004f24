-- Rule: forget_texture: stop tracking a released texture, queueing its spares for destruction.
use Rattle.std.specs.Prelude.{ℕ, cond, not, eqb}
use mathlib.Core.List.{[], flat_map}
use Rattle.base_blocks.specs.Lists.{keep}
use Rattle.grid_shapes.specs.Shapes.{bytes_of}
use Rattle.pool_rules.specs.Model.{VersionState, PoolModel, Out, accepted}
use Rattle.pool_rules.specs.Updates.{with_textures, as_doomed, doom_spares}

module _ {W : Type 0} where
  unfoldable pub forget_texture : PoolModel W → ℕ → Out W (Unit {0})
  forget_texture p id =
      accepted tt
      (doom_spares (flat_map (λ (t : VersionState W). cond (eqb t.id id) (as_doomed (bytes_of t.shape) t.spares) []) p.textures)
      (with_textures (keep (λ (t : VersionState W). not (eqb t.id id)) p.textures) p))
