-- `move_block` meets its contract: down or up by the difference. Assumes nothing.
use mathlib.Core.Path.{◌≡◌, sym, ap, ◌∙◌}
use Prim.Native.Nat.{ℕ}
use native.Mathlib.Omega.{arith}
use Rattle.base_blocks.specs.Blocks.{moved}
use Rattle.pool_memory.proofs.Rewritten.{moved_self}
use Rattle.pool_tracking.proofs.blocks.move_block.Goals as goal

pub returns-else-from-to : goal.returns-else-from-to
returns-else-from-to c =
    let a = c.args in
    let e : a.from ≡ a.to = omega (arith, c.if-from-to.false, c.if-to-from.false) in
    sym (moved_self a.s.now a.from a.n) ∙ ap (λ (m : ℕ). moved a.s.now m a.from a.n) e
