-- `read_fields` meets its contract: what is read from `end` on, after the fields read so far, is what is read from `at` on. Assumes nothing.
use mathlib.Core.Path.{◌≡◌}
use mathlib.Core.Bool.{false}
use Prim.Native.Nat.{◌-◌, ◌≤◌}
use lib.ListN.{drop, replicate}
use Rattle.event_lines.specs.Reading.{scan}
use Rattle.event_lines.proofs.Reading.{line_end_from}
use Rattle.event_lines.proofs.fields.read_fields.Given as goal

abbrev pub invariant-loop-values : goal.invariant-loop-values
invariant-loop-values l = (l.count ≤ 9) × (scan l.count l.values l.dash (drop l.end l.text) ≡ scan 0 (replicate 9 0) false (drop l.at l.text)) × (line_end_from l.end l.text ≡ line_end_from l.at l.text)

abbrev pub decreases-loop-values : goal.decreases-loop-values
decreases-loop-values l = 9 - l.count
