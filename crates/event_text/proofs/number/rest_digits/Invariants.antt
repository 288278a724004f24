-- `rest_digits` meets its contract: what is read from i on, as digits after those of the value, is what is read from `from` on. Assumes nothing.
use mathlib.Core.Path.{◌≡◌}
use Prim.Native.Nat.{◌^◌, ◌-◌, ◌≤◌, ◌<◌}
use lib.ListN.{drop}
use Rattle.base_blocks.proofs.Scans.{from}
use Rattle.event_text.specs.Numbers.{read_on, leading_digits}
use Rattle.event_text.proofs.number.rest_digits.Given as goal

abbrev pub invariant-loop-i : goal.invariant-loop-i
invariant-loop-i l =
    (l.at ≤ l.i) × (l.i ≤ l.stop) × (l.value < 10 ^ (l.i - l.at)) × (read_on l.value l.at l.i (leading_digits (from l.i l.text)) ≡ read_on l.start l.at l.from (leading_digits (drop l.from l.text)))
