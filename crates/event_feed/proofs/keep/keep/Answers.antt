-- `keep` meets its contract: the first bytes of the line stand at the front. Assumes nothing.
use Prim.Native.Nat.{◌-◌}
use native.Mathlib.Omega.{arith}
use Rattle.event_feed.proofs.Moves.{line_kept}
use Rattle.event_feed.proofs.keep.keep.Goals as goal

pub returns : goal.returns
returns c =
    let a = c.args in
    let k = c.min-kept in
    (k.ensures, line_kept a.from (a.end - a.from) _ a.buf.now _ k.ensures (omega arith) c.copy_within.ensures.after)
