-- `put_blanks` meets its contract: a copy of a run of one byte. Assumes nothing.
use Rattle.std.proofs.Common.{◌+◌, ◌∙◌, set, replicate, ap, arith, length-set, rules}
use Rattle.base_digits.specs.Characters.{blank}
use lib.Seq.{paste-zero}
use Rattle.std.proofs.lemmas.List.Edits.{fill_from_more}
use Rattle.base_blocks.proofs.Blocks.{filled}
use Rattle.base_digits.proofs.column.put_blanks.Goals as goal

pub loop-i-init : goal.loop-i-init
loop-i-init c = (search rules, paste-zero c.args.out.now c.args.at (replicate 0 blank))

pub loop-i-preserved : goal.loop-i-preserved
loop-i-preserved c =
    let a = c.args in
    (simp length-set (search rules), ap (λ l. set l (a.at + c.loop-i.i) blank) c.loop-i.invariant.1 ∙ fill_from_more a.out.now a.at c.loop-i.i blank (omega arith))

pub returns : goal.returns
returns c =
    let a = c.args in
    filled a.out.now a.at a.count blank c.requires _ c.loop-i.i (omega arith) c.loop-i.invariant.1
