-- `clear_spares` meets its contract: one record after the other. Assumes nothing.
use mathlib.Core.Path.{◌≡◌}
use Rattle.pool_take_doomed.specs.DrainVersions.{cleared}
use Rattle.pool_take_doomed.proofs.calls.drain_versions.clear_spares.Given as goal

abbrev pub invariant-loop-i : goal.invariant-loop-i
invariant-loop-i l = l.textures ≡ cleared l.i l.initial.textures
