-- `due_after` meets its contract, case by case. Assumes nothing.
use native.Mathlib.Omega.{arith}
use Rattle.pool_trim.proofs.Ages.{due_young, due_renamed, due_now}
use Rattle.pool_trim.proofs.look_at.due_after.Goals as goal

pub returns-then-due-bound : goal.returns-then-due-bound
returns-then-due-bound c =
    let a = c.args in
    due_young a.textures.now a.i a.current c.saturating_sub-bound.result c.saturating_sub-bound.ensures c.if-due-bound.true

pub returns-then-rename-bound : goal.returns-then-rename-bound
returns-then-rename-bound c =
    let a = c.args in
    due_renamed a.textures.now a.i a.current c.saturating_sub-bound.result c.saturating_sub-bound.ensures (omega (arith, c.if-due-bound.false)) c.if-rename-bound.true

pub returns : goal.returns
returns c =
    let a = c.args in
    due_now a.textures.now a.i a.current c.saturating_sub-bound.result c.saturating_sub-bound.ensures (omega (arith, c.if-due-bound.false)) (omega (arith, c.if-rename-bound.false))
