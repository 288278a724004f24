-- Rule: Where what is carried stands in the buffer that blocks are read into, and what a turn of feeding them asks for and answers.
use Rattle.std.specs.Prelude.{ℕ, ◌+◌, ◌-◌, ◌^◌, ◌≤◌, ◌<◌, ◌≡◌, List, [], length, take, drop}
use Rattle.std.proofs.lemmas.List.Edits.{sets}
use Rattle.event_sessions.specs.declared.stores.Stores.{Stores}
use Rattle.event_sessions.specs.Sessions.{SessionState, HoldsPool}
use Rattle.event_sessions.specs.LentStores.{state_in}
use Rattle.event_runs.specs.Lines.{whole_lines, longest_answer}
use Rattle.event_feed.specs.declared.feed_state.FeedState.{FeedState}
use Rattle.event_feed.specs.FeedConstants.{kept_bytes}
use Rattle.event_feed.specs.Feed.{Carried, turn_bytes, fed, fed_output}

-- the `size` bytes of the buffer from `from` on
abbrev pub part : ℕ → ℕ → List ℕ → List ℕ
part from size buf = take size (drop from buf)

-- ---- what is carried

-- the bytes that are kept of the line that is not whole yet
abbrev pub held_line : FeedState → List ℕ → List ℕ
held_line f buf = part f.from f.held buf

abbrev pub carried_of : FeedState → SessionState → List ℕ → Carried
carried_of f s buf = record { state = s; number = f.number; line = held_line f buf }

-- as a contract names it: with what stands in the lent stores and in the buffer
abbrev pub carried_in : FeedState → Stores → List ℕ → Carried
carried_in f stores buf = carried_of f (state_in f.session stores) buf

-- ---- what is to be fed

-- how many bytes came and wait to be fed
abbrev pub waiting : FeedState → ℕ
waiting f = f.end - (f.from + f.held)

-- these bytes
abbrev pub waits : FeedState → List ℕ → List ℕ
waits f buf = part (f.from + f.held) (waiting f) buf

-- what a turn feeds when the bytes that came end at `end`
abbrev pub fed_at : FeedState → ℕ → List ℕ → List ℕ
fed_at f end buf = turn_bytes (held_line f buf) (part (f.from + f.held) (end - (f.from + f.held)) buf)

-- ---- a turn

-- the places are the buffer's, and where nothing waits there is room to read more
pub record Placed (f : FeedState) (size : ℕ) : Type 0 where
  pub inside : f.from + f.held ≤ f.end
  pub within : f.end ≤ size
  pub space : waiting f ≡ 0 → f.end ≤ kept_bytes

-- what a turn asks for
pub record Ready (copies views : ℕ) (f : FeedState) (end : ℕ) (s : SessionState) (buf out : List ℕ) : Type 0 where
  -- the bytes that came stand after those that waited
  pub placed : Placed f (length buf)
  pub after : f.end ≤ end
  pub within : end ≤ length buf
  -- the buffer has room for the bytes that are kept, and one more
  pub large : kept_bytes < length buf
  -- the line that is held is not whole
  pub plain : whole_lines (held_line f buf) ≡ []
  -- once opened, the stores form a pool
  pub pool : HoldsPool s
  -- there are numbers for as many lines as the buffer has bytes
  pub counted : f.number + length buf < 2 ^ 64
  -- the output's buffer has room for any line's output
  pub room : longest_answer copies views ≤ length out

-- A block was fed as far as the output's buffer had room: its first `used` bytes, which are all of it where nothing is left. A part of a block is a
-- block too, so feeding what is left gives the rest of the output (laws `fed_append`, `fed_output_append`).
pub record Turn (copies views : ℕ) (c after : Carried) (block left : List ℕ) (filled : ℕ) (out exit : List ℕ) : Type 0 where
  pub used : ℕ
  pub fits : used ≤ length block
  pub progress : 0 < length block → 0 < used
  pub rest : left ≡ drop used block
  pub carried : after ≡ fed copies views c (take used block)
  pub length_is : filled ≡ length (fed_output copies views c (take used block))
  pub put : exit ≡ sets out 0 (fed_output copies views c (take used block))
  pub ends : filled ≤ length out
