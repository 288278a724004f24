-- `contains` meets its contract: what is left has b where the whole has it, four a turn. Assumes nothing.
use Rattle.std.proofs.Common.{sym, refl, ap, ◌∙◌, arith, rules}
use Rattle.std.proofs.lemmas.List.{take_rest}
use Rattle.base_blocks.specs.Blocks.{member}
use Rattle.base_blocks.proofs.Scans.{from, member_four_more, member_four_stop, member_any}
use Rattle.base_blocks.proofs.scan.contains.Goals as goal

pub loop-i-init : goal.loop-i-init
loop-i-init c = (search rules, refl)

pub returns-then-four_contain : goal.returns-then-four_contain
unfolding from
returns-then-four_contain c =
    let l = c.loop-i in
    sym (member_four_stop c.args.b l.i c.args.s.now (sym c.four_contain.ensures ∙ c.if-four_contain.true)) ∙ l.invariant.1

pub loop-i-preserved : goal.loop-i-preserved
unfolding from
loop-i-preserved c =
    let l = c.loop-i in
    (omega arith, sym (member_four_more c.args.b l.i c.args.s.now (sym c.four_contain.ensures ∙ c.if-four_contain.false)) ∙ l.invariant.1)

pub returns : goal.returns
returns c =
    c.contains.ensures.value ∙ member_any c.args.b _ ∙ ap (member c.args.b) (take_rest c.args.s.now c.loop-i.i) ∙ c.loop-i.invariant.1
