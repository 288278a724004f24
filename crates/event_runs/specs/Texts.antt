-- Rule: All the lines of an input, and their output (01, "Upload rectangle, event program": "lines [parted] by a line feed (the last may lack it)").
use Rattle.std.specs.Prelude.{ℕ, cond, List, [], ◌∷◌, ◌++◌, eqb}
use Rattle.event_sessions.specs.Sessions.{SessionState}
use Rattle.event_runs.specs.Lines.{whole_lines, line_state, output}
use Rattle.base_digits.specs.Characters.{line_feed}

-- the byte b in front of the last line, if no whole line stands between them
unfoldable pub in_last_line : ℕ → List (List ℕ) → List ℕ → List ℕ
in_last_line b [] last = b ∷ last
in_last_line b (line ∷ lines) last = last

-- what stands after the last line feed of an input
unfoldable pub last_line : List ℕ → List ℕ
last_line [] = []
last_line (b ∷ bs) = cond (eqb b line_feed) (last_line bs) (in_last_line b (whole_lines bs) (last_line bs))

-- it is a line too, the one that lacks its line feed, if it has a byte
unfoldable pub if_any : List ℕ → List (List ℕ)
if_any [] = []
if_any (b ∷ bs) = (b ∷ bs) ∷ []

-- the lines of an input, the last one with its line feed or without
unfoldable pub all_lines : List ℕ → List (List ℕ)
all_lines input = whole_lines input ++ if_any (last_line input)

-- answer buffers of `copies` and `views` numbers, as in `line_step`
module _ (copies views : ℕ) where
  -- the state after lines run one after the other
  unfoldable pub after_lines : SessionState → List (List ℕ) → SessionState
  after_lines s [] = s
  after_lines s (line ∷ lines) = after_lines (line_state copies views s line) lines

  -- the output of an input: its lines are numbered from 1
  unfoldable pub text_output : SessionState → List ℕ → List ℕ
  text_output s input = output copies views 0 s (all_lines input)
