-- `some_past` meets its contract: of the first k, one passes or none does. Assumes nothing.
use Rattle.std.proofs.Common.{◌≡◌, ℕ, take, drop, refl, ap, ◌∙◌, arith, rules}
use Rattle.base_blocks.specs.Lists.{all}
use Rattle.base_blocks.specs.Blocks.{at_most}
use Rattle.base_blocks.proofs.PastBits.{past_more}
use Rattle.base_blocks.proofs.scan.some_past.Goals as goal

pub loop-k-init : goal.loop-k-init
unfolding all
loop-k-init c = (search rules, refl)

pub loop-k-preserved : goal.loop-k-preserved
loop-k-preserved c =
    let l = c.loop-k in (
      search rules,
      past_more c.args.s.now c.args.from l.k c.args.b l.bits _ (omega (arith, c.requires.0, c.loop-k-test.true)) l.invariant.1 c.past-bits.ensures,
    )

pub returns : goal.returns
returns c =
    let l = c.loop-k in
    let end : l.k ≡ c.args.n = omega (arith, l.invariant.0, c.loop-k-test.false) in
    l.invariant.1 ∙ ap (λ (k : ℕ). all (at_most c.args.b) (take k (drop c.args.from c.args.s.now))) end
