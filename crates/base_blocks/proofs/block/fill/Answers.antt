-- `fill` meets its contract: a copy of a run of one number. Assumes nothing.
use Rattle.std.proofs.Common.{◌+◌, ◌∙◌, set, replicate, ap, arith, length-set, rules}
use lib.Seq.{paste-zero}
use Rattle.std.proofs.lemmas.List.Edits.{fill_from_more}
use Rattle.base_blocks.proofs.Blocks.{filled}
use Rattle.base_blocks.proofs.block.fill.Goals as goal

pub loop-j-init : goal.loop-j-init
loop-j-init c = (search rules, paste-zero c.args.s.now c.args.at (replicate 0 c.args.x))

pub loop-j-preserved : goal.loop-j-preserved
loop-j-preserved c =
    let a = c.args in
    (simp length-set (search rules), ap (λ l. set l (a.at + c.loop-j.j) a.x) c.loop-j.invariant.1 ∙ fill_from_more a.s.now a.at c.loop-j.j a.x (omega arith))

pub returns : goal.returns
returns c =
    let a = c.args in
    filled a.s.now a.at a.n a.x c.requires _ c.loop-j.j (omega arith) c.loop-j.invariant.1
