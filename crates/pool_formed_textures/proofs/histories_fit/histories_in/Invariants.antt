-- `histories_in` meets its contract. Assumes nothing.
use mathlib.Core.Path.{◌≡◌}
use Prim.Native.Nat.{◌≤◌}
use Rattle.base_blocks.proofs.Listed.{left}
use Rattle.pool_records.specs.Texture.{texture_in, textures_in}
use Rattle.pool_formed_textures.specs.Textures.{histories_fit}
use Rattle.pool_formed_textures.proofs.histories_fit.histories_in.Given as goal

abbrev pub invariant-loop-i : goal.invariant-loop-i
invariant-loop-i l =
    (l.grid ≤ l.grids) × (l.stamp ≤ l.used)
    × (histories_fit l.newest l.stamps l.grids l.used l.grid l.stamp (left (texture_in l.textures) l.n l.i) ≡ histories_fit l.newest l.stamps l.grids l.used 0 0 (textures_in l.n l.textures))
