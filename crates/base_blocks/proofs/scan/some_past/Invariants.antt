-- `some_past` meets its contract: of the first k, one passes or none does. Assumes nothing.
use Rattle.std.proofs.Common.{◌≡◌, ◌^◌, ◌≤◌, ltb, take, drop}
use Rattle.base_blocks.specs.Lists.{all}
use Rattle.base_blocks.specs.Blocks.{at_most}
use Rattle.base_blocks.proofs.scan.some_past.Given as goal

abbrev pub invariant-loop-k : goal.invariant-loop-k
invariant-loop-k l = (l.k ≤ l.n) × (ltb l.bits (2 ^ 63) ≡ all (at_most l.b) (take l.k (drop l.from l.s)))
