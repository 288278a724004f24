-- Rule: What can be said of a run of standard input's lines. No contract says which bytes a read brought, so the input is some list of bytes. But where it
-- ended, all its lines were run, the sums are those of their plans, and as many bytes of output as theirs has were given to be written. However a run
-- stops, this holds of some list of lines, and it leaves a pool once one was opened.
use Rattle.std.specs.Prelude.{ℕ, ◌+◌, ◌^◌, ◌≤◌, ◌<◌, ◌≡◌, List, [], length}
use Rattle.std.proofs.lemmas.List.Edits.{sets}
use Rattle.event_sessions.specs.Sessions.{SessionState, HoldsPool}
use Rattle.event_runs.specs.Lines.{whole_lines}
use Rattle.event_runs.specs.Texts.{all_lines, after_lines}
use Rattle.event_feed.specs.declared.feed_state.FeedState.{FeedState}
use Rattle.event_feed.specs.FeedConstants.{kept_bytes}
use Rattle.event_feed.specs.BlockFed.{BlockFed}
use Rattle.event_feed.specs.Places.{held_line, waits, fed_at, Placed}
use Rattle.event_stream.specs.Streams.{why_ended}
use Rattle.event_cost.specs.declared.sums.Sums.{Sums}
use Rattle.event_cost.specs.declared.cost_turn.CostedTurn.{CostedTurn}
use Rattle.event_cost.specs.Costs.{clipped_sums, most_cost_row}
use Rattle.event_cost.specs.Lines.{costs_of, cost_rows}

-- ---- a turn

-- what it asks for: the bytes that came stand after those that waited, up to `end`
pub record TurnReady (f : FeedState) (end : ℕ) (s : SessionState) (buf out : List ℕ) : Type 0 where
  pub placed : Placed f (length buf)
  pub after : f.end ≤ end
  pub within : end ≤ length buf
  -- the buffer has room for the bytes that are kept, and one more
  pub large : kept_bytes < length buf
  -- the line that is held is not whole
  pub plain : whole_lines (held_line f buf) ≡ []
  -- once opened, the stores form a pool
  pub pool : HoldsPool s
  -- there are numbers for as many lines as the buffer has bytes
  pub counted : f.number + length buf < 2 ^ 64
  -- the output's buffer has room for any line's output
  pub room : most_cost_row ≤ length out

-- what it leaves: the state t after the lines that it ran from state s on
pub record TurnCosted (copies views : ℕ) (f : FeedState) (end : ℕ) (s t : SessionState) (r : CostedTurn) (buf left out exit : List ℕ) : Type 0 where
  pub lines : List (List ℕ)
  pub feeds : BlockFed (held_line f buf) (fed_at f end buf) lines (held_line r.at left) (waits r.at left)
  pub state : t ≡ after_lines copies views s lines
  pub number : r.at.number ≡ f.number + length lines
  pub costs : r.sums ≡ clipped_sums (costs_of copies views s lines)
  pub length_is : r.at.filled ≡ length (cost_rows copies views f.number s lines)
  pub put : exit ≡ sets out 0 (cost_rows copies views f.number s lines)
  pub fits : r.at.filled ≤ length out
  pub pool : HoldsPool t
  pub placed : Placed r.at (length buf)

-- ---- a run from state s to state t

-- these lines were run: what they cost, and how many bytes of output they have
pub record LinesSummed (copies views : ℕ) (s t : SessionState) (sums : Sums) (count written : ℕ) (lines : List (List ℕ)) : Type 0 where
  pub state : t ≡ after_lines copies views s lines
  pub counted : count ≡ length lines
  pub costs : sums ≡ clipped_sums (costs_of copies views s lines)
  pub output : written ≡ length (cost_rows copies views 0 s lines)

pub record CostRun (copies views : ℕ) (s t : SessionState) (sums : Sums) (why read count written : ℕ) : Type 0 where
  -- some lines were run
  pub lines : List (List ℕ)
  pub run : LinesSummed copies views s t sums count written lines
  -- once opened, the stores form a pool
  pub pool : HoldsPool t
  -- what was read; where it ended, the same holds of all its lines
  pub input : List ℕ
  pub ended : why ≡ why_ended → (length input ≡ read) × LinesSummed copies views s t sums count written (all_lines input)
