-- Rule: What the lines of a list of events cost, run one after the other as the event program runs them, and their output.
use Rattle.std.specs.Prelude.{ℕ, ◌+◌, ◌≤◌, ◌≡◌, List, [], ◌∷◌, ◌++◌, length, take, drop}
use Rattle.std.proofs.lemmas.List.Edits.{sets}
use Rattle.event_lines.specs.declared.event.Event.{Event}
use Rattle.event_lines.specs.Grammar.{event_of}
use Rattle.event_sessions.specs.Sessions.{SessionState, state_of, line_step, HoldsPool}
use Rattle.event_sessions.specs.declared.stores.Stores.{Stores}
use Rattle.event_runs.specs.Lines.{whole_lines, line_state}
use Rattle.event_runs.specs.Texts.{last_line, after_lines}
use Rattle.event_cost.specs.declared.sums.Sums.{Sums}
use Rattle.event_cost.specs.declared.cost_lines.CostedLines.{CostedLines}
use Rattle.event_cost.specs.Costs.{plan_cost, plus, no_sums, clipped_sums, cost_row, most_cost_row}

-- answer buffers of `copies` and `views` numbers, as in `line_step`
module _ (copies views : ℕ) where
  -- ---- an event: a plan's copies are of the latest take line's shape, by which the plan goes

  unfoldable pub event_cost : SessionState → Event → Sums
  event_cost s e = plan_cost s.shape (line_step copies views s e).0

  unfoldable pub event_row : ℕ → SessionState → Event → List ℕ
  event_row n s e = cost_row n s.shape e (line_step copies views s e).0

  -- Line n, which is this event, was run: `after` is the state after it, its cost was added to the sums, and its output stands after the filled bytes
  -- of the buffer, up to `end`.
  pub record EventCosted (n : ℕ) (before after : SessionState) (event : Event) (sums added : Sums) (filled end : ℕ) (out exit : List ℕ) : Type 0 where
    pub state : after ≡ (line_step copies views before event).1
    pub costs : added ≡ clipped_sums (plus sums (event_cost before event))
    pub length_is : end ≡ filled + length (event_row n before event)
    pub put : exit ≡ sets out filled (event_row n before event)
    pub fits : end ≤ filled + most_cost_row

  -- ---- lines one after the other

  -- what they cost, exactly
  unfoldable pub costs_of : SessionState → List (List ℕ) → Sums
  costs_of s [] = no_sums
  costs_of s (line ∷ lines) = plus (event_cost s (event_of line)) (costs_of (line_state copies views s line) lines)

  -- their output, n lines having been run before
  unfoldable pub cost_rows : ℕ → SessionState → List (List ℕ) → List ℕ
  cost_rows n s [] = []
  cost_rows n s (line ∷ lines) = event_row (n + 1) s (event_of line) ++ cost_rows (n + 1) (line_state copies views s line) lines

-- ---- the lines of a block of input

pub record CostProgress : Type 0 where
  pub state : SessionState
  pub sums : Sums
  -- lines run so far
  pub number : ℕ
  -- bytes of the input before the next line
  pub from : ℕ
  -- bytes of output in the buffer
  pub filled : ℕ
  -- the buffer
  pub out : List ℕ

abbrev pub cost_progress : CostedLines → List ℕ → List ℕ → List ℕ → List ℕ → List ℕ → List ℕ → List ℕ → CostProgress
cost_progress r textures retiring doomed spares newest stamps out = record {
  state = state_of r.session textures retiring doomed spares newest stamps;
  sums = r.sums;
  number = r.number;
  from = r.from;
  filled = r.filled;
  out = out;
}

-- the same, with what stands in the lent stores
abbrev pub cost_progress_in : CostedLines → Stores → List ℕ → CostProgress
cost_progress_in r s out = cost_progress r s.textures.now s.retiring.now s.doomed.now s.spares.now s.newest.now s.stamps.now out

-- Lines were run from state s on, n lines having been run before: the first whole lines of the input, and all of them unless the output's buffer has
-- no room for another line's output.
pub record LinesRun (copies views : ℕ) (input : List ℕ) (n : ℕ) (s : SessionState) (out : List ℕ) (p : CostProgress) : Type 0 where
  pub lines : List (List ℕ)
  -- they are the first `from` bytes of the input, the last with its line feed
  pub front : lines ≡ whole_lines (take p.from input)
  pub whole : last_line (take p.from input) ≡ []
  pub inside : p.from ≤ length input
  pub least : length lines ≤ p.from
  pub state : p.state ≡ after_lines copies views s lines
  pub number : p.number ≡ n + length lines
  pub costs : p.sums ≡ clipped_sums (costs_of copies views s lines)
  pub length_is : p.filled ≡ length (cost_rows copies views n s lines)
  pub put : p.out ≡ sets out 0 (cost_rows copies views n s lines)
  pub fits : p.filled ≤ length out
  -- once opened, the stores form a pool
  pub pool : HoldsPool p.state

pub record LinesCosted (copies views : ℕ) (input : List ℕ) (n : ℕ) (s : SessionState) (out : List ℕ) (p : CostProgress) : Type 0 where
  pub run : LinesRun copies views input n s out p
  pub all : p.filled + most_cost_row ≤ length out → whole_lines (drop p.from input) ≡ []
