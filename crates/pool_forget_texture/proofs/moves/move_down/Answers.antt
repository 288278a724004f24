-- `move_down` meets its contract: what stands there already stays, and otherwise it is moved. Assumes nothing.
use mathlib.Core.Path.{sym, ap, ◌∙◌}
use Prim.Native.Nat.{ℕ}
use Rattle.base_blocks.specs.Blocks.{moved}
use Rattle.pool_memory.proofs.Rewritten.{moved_self}
use Rattle.pool_forget_texture.proofs.moves.move_down.Goals as goal

pub returns-then-to-from : goal.returns-then-to-from
returns-then-to-from c =
    let a = c.args in
    sym (moved_self a.s.now a.to a.n) ∙ ap (λ (k : ℕ). moved a.s.now a.to k a.n) c.if-to-from.true
