-- `blocks_within` meets its contract: what is left is within b where the whole is. Assumes nothing.
use Rattle.std.proofs.Common.{sym, refl, ◌∙◌, arith, rules, lt-ltb}
use Rattle.base_blocks.specs.Blocks.{at_most}
use Rattle.base_blocks.proofs.Scans.{from, all_block_more}
use Rattle.base_blocks.proofs.scan.blocks_within.Goals as goal

pub loop-i-init : goal.loop-i-init
loop-i-init c = (search rules, refl)

pub loop-i-preserved : goal.loop-i-preserved
unfolding from
loop-i-preserved c =
    let l = c.loop-i in
    (omega arith, sym (all_block_more (at_most _) l.i c.args.s.now 64 (sym c.some_past.ensures ∙ lt-ltb _ _ c.if-some_past-lt-TOP.true)) ∙ l.invariant.1)
