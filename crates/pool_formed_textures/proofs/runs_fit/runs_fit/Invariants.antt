-- `runs_fit` meets its contract. What is left of the claim goes down. Assumes nothing.
use mathlib.Core.Path.{◌≡◌}
use lib.Dec.{eqb}
use Rattle.base_blocks.specs.Lists.{total}
use Rattle.base_blocks.proofs.Listed.{left}
use Rattle.pool_records.specs.Texture.{texture_in, record_spares, textures_in}
use Rattle.pool_formed_textures.proofs.runs_fit.runs_fit.Given as goal

abbrev pub invariant-loop-i : goal.invariant-loop-i
invariant-loop-i l = eqb l.spares (total record_spares (left (texture_in l.textures) l.n l.i)) ≡ eqb l.kept (total record_spares (textures_in l.n l.textures))
