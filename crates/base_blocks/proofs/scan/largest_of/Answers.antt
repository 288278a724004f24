-- `largest_of` meets its contract. The larger of m and the largest of what is left is the answer. Assumes nothing.
use Rattle.std.proofs.Common.{◌≡◌, ◌+◌, max, get_or, sym, ap, ◌∙◌}
use native.Mathlib.Nat.{zero-max}
use Rattle.base_blocks.specs.Blocks.{largest}
use Rattle.base_blocks.proofs.Scans.{from, from_all, largest_more, largest_done}
use Rattle.base_blocks.proofs.scan.largest_of.Goals as goal

pub loop-x-init : goal.loop-x-init
loop-x-init c = zero-max _ ∙ ap largest (from_all _)

pub loop-x-preserved : goal.loop-x-preserved
loop-x-preserved c =
    let s = c.args.s.now in
    let met : c.max-m.result ≡ max c.loop-x.m (get_or s c.loop-x.x-index 0) = c.max-m.ensures in
    ap (λ m. max m (largest (from (c.loop-x.x-index + 1) s))) met ∙ sym (largest_more c.loop-x.m c.loop-x.x-index s c.loop-x-test.true) ∙ c.loop-x.invariant

pub returns : goal.returns
returns c = sym (largest_done _ _ _ c.loop-x-test.false) ∙ c.loop-x.invariant
