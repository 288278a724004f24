-- Rule: The bytes of a text in quotation marks, so that the witnesses can be read.
use Rattle.std.specs.Prelude.{ℕ, ◌≡◌, List, [], ◌∷◌}
use Prim.Native.Char.{code}
use Prim.Native.String.{String, [] as end, ◌∷◌ as ◌then◌}
use Rattle.base_digits.specs.Characters.{line_feed}
use Rattle.event_text.specs.Fields.{comma, dash}
use Rattle.event_lines.specs.Words.{open_word, take_word, plan_word, retire_word, write_word, regen_word, pop_word}
use Rattle.event_lines.specs.Words.{park_word, note_word, doomed_word, drain_word, trim_word, forget_word}
use Rattle.event_answers.specs.Printed.{question}

-- a character below 128 is one byte, its code, and the texts here have no other
unfoldable pub bytes : String → List ℕ
bytes end = []
bytes (c then s) = code c ∷ bytes s

-- the numbers by which lines are read and printed spell 01's words and signs
pub record Spelling : Type 0 where
  pub open_is : open_word ≡ bytes "open"
  pub take_is : take_word ≡ bytes "take"
  pub plan_is : plan_word ≡ bytes "plan"
  pub retire_is : retire_word ≡ bytes "retire"
  pub write_is : write_word ≡ bytes "write"
  pub regen_is : regen_word ≡ bytes "regen"
  pub pop_is : pop_word ≡ bytes "pop"
  pub park_is : park_word ≡ bytes "park"
  pub note_is : note_word ≡ bytes "note"
  pub doomed_is : doomed_word ≡ bytes "doomed"
  pub drain_is : drain_word ≡ bytes "drain"
  pub trim_is : trim_word ≡ bytes "trim"
  pub forget_is : forget_word ≡ bytes "forget"
  pub signs_are : comma ∷ line_feed ∷ [] ≡ bytes ",\n"
  pub question_is : question ≡ bytes "?"
  pub dash_is : dash ≡ bytes "-"
