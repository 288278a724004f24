-- Rule: An input that comes in blocks, a block being a part of it as it is read: what is carried from one block to the next, what a block's output is,
-- and that no cutting of an input into blocks shows. 01 has "one event a line on standard input", and says nothing of how it is read.
use Rattle.std.specs.Prelude.{ℕ, ◌+◌, ◌≡◌, List, [], ◌∷◌, ◌++◌, length, take}
use Rattle.event_sessions.specs.Sessions.{SessionState}
use Rattle.event_runs.specs.Lines.{whole_lines, output}
use Rattle.event_runs.specs.Texts.{last_line, all_lines, after_lines, text_output}
use Rattle.event_feed.specs.FeedConstants.{kept_bytes}
use Rattle.base_digits.specs.Characters.{line_feed}

-- what is carried from one block to the next
pub record Carried : Type 0 where
  pub state : SessionState
  -- lines run so far
  pub number : ℕ
  -- of the line that is not whole yet, the first `kept_bytes` bytes
  pub line : List ℕ

-- before the first block
abbrev pub first : SessionState → Carried
first s = record { state = s; number = 0; line = [] }

-- blocks one after the other
unfoldable pub joined_blocks : List (List ℕ) → List ℕ
joined_blocks [] = []
joined_blocks (block ∷ blocks) = block ++ joined_blocks blocks

-- what is fed where the input has ended: the line feed that its last line lacks (01: "the last may lack it"), if it has a last line
unfoldable pub ending : List ℕ → List ℕ
ending [] = []
ending (b ∷ bs) = line_feed ∷ []

-- what a turn feeds after the line that is not whole: the bytes that came or, where none came and the input has thus ended, its ending
unfoldable pub turn_bytes : List ℕ → List ℕ → List ℕ
turn_bytes line [] = ending line
turn_bytes line (b ∷ bs) = b ∷ bs

-- answer buffers of `copies` and `views` numbers, as in `line_step`
module _ (copies views : ℕ) where
  -- a block fed: the lines that are now whole are run, and of what stands after the last line feed the first bytes are kept
  unfoldable pub fed : Carried → List ℕ → Carried
  fed c block =
      let lines = whole_lines (c.line ++ block) in
      record {
        state = after_lines copies views c.state lines;
        number = c.number + length lines;
        line = take kept_bytes (last_line (c.line ++ block));
      }

  -- and its output
  unfoldable pub fed_output : Carried → List ℕ → List ℕ
  fed_output c block = output copies views c.number c.state (whole_lines (c.line ++ block))

  -- the input has ended: a line without a line feed is run as if it had one
  unfoldable pub finished : Carried → Carried
  finished c = fed c (ending c.line)

  -- and its output
  unfoldable pub finish_output : Carried → List ℕ
  finish_output c = fed_output c (ending c.line)

  -- blocks fed one after the other
  unfoldable pub fed_all : Carried → List (List ℕ) → Carried
  fed_all c [] = c
  fed_all c (block ∷ blocks) = fed_all (fed c block) blocks

  -- and their outputs, one after the other
  unfoldable pub outputs : Carried → List (List ℕ) → List ℕ
  outputs c [] = []
  outputs c (block ∷ blocks) = fed_output c block ++ outputs (fed c block) blocks

  -- For every cutting of an input into blocks, the outputs of the blocks and of the end, one after the other, are the output of the whole input; and
  -- so are the state and the number of lines.
  pub record EveryCutting : Type 0 where
    pub output_is : (s : SessionState) (blocks : List (List ℕ))
        → outputs (first s) blocks ++ finish_output (fed_all (first s) blocks) ≡ text_output copies views s (joined_blocks blocks)
    pub state_is : (s : SessionState) (blocks : List (List ℕ))
        → (finished (fed_all (first s) blocks)).state ≡ after_lines copies views s (all_lines (joined_blocks blocks))
    pub number_is : (s : SessionState) (blocks : List (List ℕ))
        → (finished (fed_all (first s) blocks)).number ≡ length (all_lines (joined_blocks blocks))
