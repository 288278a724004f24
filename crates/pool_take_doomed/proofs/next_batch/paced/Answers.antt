-- `paced` meets its contract. Assumes nothing.
use mathlib.Core.Path.{ap, ◌∙◌}
use Prim.Native.Nat.{◌+◌, ◌/◌, min, max}
use Rattle.base_blocks.specs.Lists.{ceil_div}
use Rattle.pool_take_doomed.specs.NextBatch.{paced_of}
use Rattle.pool_rules.specs.RuleConstants.{min_destroys_per_drain}
use Rattle.pool_take_doomed.proofs.next_batch.paced.Goals as goal

pub returns : goal.returns
unfolding paced_of ceil_div
returns c =
    let n = c.args.n in
    c.min.ensures
    ∙ ap (λ m. min m n) c.max.ensures
    ∙ ap (λ s. min (max min_destroys_per_drain ((s + 7) / 8 + (n + 7) / 8)) n) c.arrivals_sum-sum.ensures
