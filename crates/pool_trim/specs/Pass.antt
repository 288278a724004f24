-- Helper: A trim's pass over the textures: where it stands, and the pool that it leaves of the first of them.
use Rattle.std.specs.Prelude.{ℕ, ◌+◌, ◌-◌, ◌*◌, cond, take}
use mathlib.Core.List.{List, [], ◌∷◌, flat_map}
use Rattle.grid_shapes.specs.Shapes.{bytes_of}
use Rattle.pool_rules.specs.Model.{Doomed, VersionState, PoolModel}
use Rattle.pool_rules.specs.Updates.{with_textures, as_doomed, doom_spares}
use Rattle.pool_rules.specs.Trim.{aged_count, thinned, idle, looked_at}
use Rattle.pool_memory.specs.declared.pool.Pool.{Pool as Counts}
use Rattle.pool_memory.specs.Lent.{Lent}
use Rattle.pool_memory.specs.Reading.{model_of}
use Rattle.pool_trim.specs.declared.look_at.Look.{Look}
use Rattle.pool_trim.specs.declared.pass.Pass.{Pass}

-- ---- the counts

unfoldable pub no_pass : Pass
no_pass = record { first = 0; tracked = 0; kept = 0; grids = 0; stamps = 0; count = 0; freed = 0 }

unfoldable pub pass_on : Pass → Look → Pass
pass_on pass look = record {
  first = pass.first + look.own;
  tracked = pass.tracked + look.staying;
  kept = pass.kept + (look.own - look.aged);
  grids = pass.grids + look.grids;
  stamps = pass.stamps + look.stamps;
  count = pass.count + look.aged;
  freed = pass.freed + look.bytes * look.aged;
}

unfoldable pub counts_trimmed : Counts → Pass → Counts
counts_trimmed c pass = record c {
  tracked = pass.tracked;
  kept = pass.kept;
  grids = pass.grids;
  stamps = pass.stamps;
  doomed = c.doomed + pass.count;
  since = c.since + pass.count;
  parked = c.parked - pass.freed;
  dooming = c.dooming + pass.freed;
}

-- ---- the pool

-- what is left of one texture, if anything, and what it gives up
unfoldable pub trimmed_one : ℕ → VersionState ℕ → List (VersionState ℕ)
trimmed_one now t = cond (idle now (thinned now t)) [] (looked_at now (thinned now t) ∷ [])

unfoldable pub given_one : ℕ → VersionState ℕ → List (Doomed ℕ)
given_one now t = as_doomed (bytes_of t.shape) (take (aged_count now t.spares) t.spares)

-- the pool with the first i textures trimmed and the others left out
unfoldable pub trimmed : Lent → ℕ → ℕ → PoolModel ℕ
trimmed l now i =
    doom_spares (flat_map (given_one now) (take i (model_of l).textures))
    (with_textures (flat_map (trimmed_one now) (take i (model_of l).textures)) (model_of l))
