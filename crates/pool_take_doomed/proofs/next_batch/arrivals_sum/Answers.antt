-- `arrivals_sum` meets its contract. Assumes nothing.
use mathlib.Core.Path.{◌≡◌, sym, ◌∙◌}
use native.Mathlib.Omega.{arith}
use Prim.Native.Nat.{◌<◌, ◌^◌}
use Rattle.std.specs.Prelude.{sum}
use borrow.Author.Rules.{rules}
use Rattle.pool_take_doomed.proofs.Batches.{total_sum}
use Rattle.pool_take_doomed.proofs.next_batch.arrivals_sum.Goals as goal

pub sum-requires-clause-fits : goal.sum-requires-clause-fits
sum-requires-clause-fits c =
    let small : sum c.args.a < 2 ^ 64 = omega (arith, c.requires, total_sum c.args.a) in
    search rules

pub returns : goal.returns
returns c =
    let added : c.sum.result ≡ sum c.args.a = search rules in
    added ∙ sym (total_sum c.args.a)
