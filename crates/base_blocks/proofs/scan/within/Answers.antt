-- `within` meets its contract: what is left is within b where the whole is: after blocks of 64, four a turn, then one a turn. Assumes nothing.
use Rattle.std.proofs.Common.{sym, ◌∙◌, arith, rules, le-leb}
use borrow.Author.Tests.{lt-leb}
use Rattle.base_blocks.specs.Blocks.{at_most}
use Rattle.base_blocks.proofs.Scans.{from, all_more, all_stop, all_done, all_block_more}
use Rattle.base_blocks.proofs.scan.within.Goals as goal

pub loop-i-init : goal.loop-i-init
unfolding from
loop-i-init c = (search rules, c.blocks_within-i.ensures.1)

pub loop-i-preserved : goal.loop-i-preserved
loop-i-preserved c =
    let l = c.loop-i in
    (omega arith, sym (all_block_more (at_most _) _ _ 4 (sym c.four_within.ensures ∙ c.if-four_within.true)) ∙ l.invariant.1)

pub loop-j-init : goal.loop-j-init
loop-j-init c = c.loop-i.invariant.1

pub returns-then-s-j : goal.returns-then-s-j
unfolding at_most
returns-then-s-j c = sym (all_stop (at_most _) _ _ c.loop-j-test.true (lt-leb _ _ c.if-s-j.true)) ∙ c.loop-j.invariant

pub loop-j-preserved : goal.loop-j-preserved
unfolding at_most
loop-j-preserved c = sym (all_more (at_most _) _ _ c.loop-j-test.true (le-leb _ _ c.if-s-j.false)) ∙ c.loop-j.invariant

pub returns : goal.returns
returns c = sym (all_done (at_most _) _ _ (omega arith)) ∙ c.loop-j.invariant
