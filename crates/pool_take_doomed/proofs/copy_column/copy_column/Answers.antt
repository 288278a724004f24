-- `copy_column` meets its contract: one number of each record after the other. Assumes nothing.
use mathlib.Core.Path.{ap₂, ◌∙◌}
use Prim.Native.Nat.{◌+◌, ◌*◌}
use lib.ListN.{get_or, set}
use Rattle.pool_take_doomed.proofs.Columns.{column_none, column_more}
use Rattle.pool_take_doomed.proofs.copy_column.copy_column.Goals as goal

pub loop-j-init : goal.loop-j-init
loop-j-init c =
    let a = c.args in
    column_none a.w a.k a.cap a.head a.s.now a.i a.out.now a.at

pub loop-j-preserved : goal.loop-j-preserved
loop-j-preserved c =
    let a = c.args in
    ap₂ (λ o p. set o (a.at + c.loop-j.j) (get_or a.s.now (a.w * p + a.k) 0)) c.loop-j.invariant c.place-p.ensures.1
    ∙ column_more a.w a.k a.cap a.head a.s.now a.i a.out.now a.at c.loop-j.j
