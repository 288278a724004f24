-- `clear_spares` meets its contract: one record after the other. Assumes nothing.
use mathlib.Core.Path.{ap, ◌∙◌}
use Prim.Native.Nat.{◌+◌, ◌*◌}
use native.Mathlib.Omega.{arith}
use lib.ListN.{set}
use Rattle.pool_take_doomed.proofs.Cleared.{cleared_none, cleared_more}
use Rattle.pool_records.specs.RecordConstants.{texture_spares_at, texture_stride}
use Rattle.pool_take_doomed.proofs.calls.drain_versions.clear_spares.Goals as goal

pub loop-i-init : goal.loop-i-init
loop-i-init c = cleared_none c.args.textures.now

pub loop-i-preserved : goal.loop-i-preserved
loop-i-preserved c =
    let i = c.loop-i.i in
    ap (λ t. set t (texture_stride * i + texture_spares_at) 0) c.loop-i.invariant
    ∙ cleared_more c.args.textures.now i (omega (arith, c.requires))
