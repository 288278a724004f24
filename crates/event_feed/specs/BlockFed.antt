-- Rule: What becomes of a block that is fed after a line that is not whole yet, whatever its lines do.
use Rattle.std.specs.Prelude.{ℕ, ◌≤◌, ◌<◌, ◌≡◌, List, ◌++◌, length, take, drop}
use Rattle.event_runs.specs.Lines.{whole_lines}
use Rattle.event_runs.specs.Texts.{last_line}
use Rattle.event_feed.specs.FeedConstants.{kept_bytes}

-- The first `used` bytes of the block were fed, which are all of it where nothing is left. The lines that are now whole were run, and of what stands after the
-- last line feed the first bytes are kept.
pub record BlockFed (line block : List ℕ) (lines : List (List ℕ)) (kept left : List ℕ) : Type 0 where
  pub used : ℕ
  pub fits : used ≤ length block
  pub progress : 0 < length block → 0 < used
  pub rest : left ≡ drop used block
  pub run : lines ≡ whole_lines (line ++ take used block)
  pub keeps : kept ≡ take kept_bytes (last_line (line ++ take used block))
