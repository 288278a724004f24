-- Rule: The lines of an input, run one after the other (01, "Upload rectangle, event program": "reads one event a line .., lines [parted] by a line feed").
use Rattle.std.specs.Prelude.{ℕ, ◌+◌, ◌/◌, ◌≤◌, max, ◌≡◌, Bool, cond, List, [], ◌∷◌, ◌++◌, eqb, leb, length}
use Rattle.std.proofs.lemmas.List.Edits.{sets}
use Rattle.event_lines.specs.declared.event.Event.{Event}
use Rattle.event_lines.specs.Grammar.{event_of}
use Rattle.event_answers.specs.Printed.{printed, most_bytes}
use Rattle.event_sessions.specs.Sessions.{SessionState, state_of, line_step}
use Rattle.event_sessions.specs.declared.stores.Stores.{Stores}
use Rattle.event_runs.specs.declared.run.Run.{Run}
use Rattle.pool_memory.specs.MemoryConstants.{copy_stride}
use Rattle.base_digits.specs.Characters.{line_feed}

-- ---- lines

-- the byte b in front of the first line, if there is one
unfoldable pub in_first_line : ℕ → List (List ℕ) → List (List ℕ)
in_first_line b [] = []
in_first_line b (line ∷ lines) = (b ∷ line) ∷ lines

-- the lines of an input that a line feed ends; what stands after the last line feed is left out
unfoldable pub whole_lines : List ℕ → List (List ℕ)
whole_lines [] = []
whole_lines (b ∷ bs) = cond (eqb b line_feed) ([] ∷ whole_lines bs) (in_first_line b (whole_lines bs))

-- ---- what lines do; the answer buffers have `copies` and `views` numbers, as in `line_step`

module _ (copies views : ℕ) where
  -- the output of line n: 01's "line number, outcome and, if accepted, answer fields"
  unfoldable pub line_output : ℕ → SessionState → List ℕ → List ℕ
  line_output n s line = printed n (line_step copies views s (event_of line)).0

  -- the state after a line
  unfoldable pub line_state : SessionState → List ℕ → SessionState
  line_state s line = (line_step copies views s (event_of line)).1

  -- the output of lines one after the other, n lines having been run before
  unfoldable pub output : ℕ → SessionState → List (List ℕ) → List ℕ
  output n s [] = []
  output n s (line ∷ lines) = line_output (n + 1) s line ++ output (n + 1) (line_state s line) lines

  -- Line n, which is this event, was run: `after` is the state after it, and its output stands after the filled bytes of the buffer, up to `end`.
  pub record EventRan (n : ℕ) (before after : SessionState) (event : Event) (filled end : ℕ) (out exit : List ℕ) : Type 0 where
    pub state : after ≡ (line_step copies views before event).1
    pub length_is : end ≡ filled + length (printed n (line_step copies views before event).0)
    pub put : exit ≡ sets out filled (printed n (line_step copies views before event).0)
    pub fits : end ≤ length out

  -- no line's output has more bytes than this
  abbrev pub longest_answer : ℕ
  longest_answer = most_bytes (max (copies / copy_stride) views)

-- ---- lines run as long as the output's buffer has room for the longest answer

pub record Progress : Type 0 where
  pub state : SessionState
  -- lines run so far
  pub number : ℕ
  -- bytes of the input before the next line
  pub from : ℕ
  -- bytes of output in the buffer
  pub filled : ℕ
  -- the buffer
  pub out : List ℕ

abbrev pub progress_of : Run → List ℕ → List ℕ → List ℕ → List ℕ → List ℕ → List ℕ → List ℕ → Progress
progress_of r textures retiring doomed spares newest stamps out = record {
  state = state_of r.session textures retiring doomed spares newest stamps;
  number = r.number;
  from = r.from;
  filled = r.filled;
  out = out;
}

-- the same, with what stands in the lent stores
abbrev pub progress_in : Run → Stores → List ℕ → Progress
progress_in r s out = progress_of r s.textures.now s.retiring.now s.doomed.now s.spares.now s.newest.now s.stamps.now out

-- before the first line of an input, n lines having been run before it
abbrev pub progress_start : SessionState → ℕ → List ℕ → Progress
progress_start s n out = record { state = s; number = n; from = 0; filled = 0; out = out }

module _ (copies views : ℕ) where
  -- the buffer has room for any line's output
  unfoldable pub has_room : Progress → Bool
  has_room p = leb (p.filled + longest_answer copies views) (length p.out)

  -- the next line run: its output stands after what was in the buffer
  unfoldable pub ran : Progress → List ℕ → Progress
  ran p line =
      let text = line_output copies views (p.number + 1) p.state line in
      record {
        state = line_state copies views p.state line;
        number = p.number + 1;
        from = p.from + (length line + 1);
        filled = p.filled + length text;
        out = sets p.out p.filled text;
      }

  -- lines run until one finds no room
  unfoldable pub ran_all : Progress → List (List ℕ) → Progress
  ran_all p [] = p
  ran_all p (line ∷ lines) = cond (has_room p) (ran_all (ran p line) lines) p
