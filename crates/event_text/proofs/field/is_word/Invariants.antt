-- `is_word` meets its contract: from i on the two are the same where they are the same as a whole. Assumes nothing.
use mathlib.Core.Path.{◌≡◌}
use Prim.Native.Nat.{◌≤◌}
use lib.ListN.{length}
use Rattle.base_blocks.proofs.Scans.{from}
use Rattle.event_text.specs.Fields.{same}
use Rattle.event_text.proofs.field.is_word.Given as goal

abbrev pub invariant-loop-i : goal.invariant-loop-i
invariant-loop-i l = (l.i ≤ length l.word) × (length l.field ≡ length l.word) × (same (from l.i l.field) (from l.i l.word) ≡ same l.field l.word)
