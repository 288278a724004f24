-- `find_texture` meets its contract. The place stays between the two ends, which close in on it; among those left, as many are below the id as
-- stand before the place. Assumes nothing.
use mathlib.Core.Path.{◌≡◌}
use Prim.Native.Nat.{◌-◌, ◌≤◌, min}
use Rattle.pool_records.specs.Find.{below}
use Rattle.pool_records.specs.Texture.{textures_in}
use Rattle.pool_records.proofs.find.find_texture.Given as goal

abbrev pub invariant-loop-hi : goal.invariant-loop-hi
invariant-loop-hi l = (l.lo ≤ below l.id (textures_in l.n l.s)) × (below l.id (textures_in l.n l.s) ≤ l.hi) × (l.hi ≤ l.n)

abbrev pub decreases-loop-hi : goal.decreases-loop-hi
decreases-loop-hi l = l.hi - l.lo

abbrev pub invariant-loop-i : goal.invariant-loop-i
invariant-loop-i l = l.place ≡ min l.i (below l.id (textures_in l.n l.s))
