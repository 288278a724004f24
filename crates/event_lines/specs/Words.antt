-- Rule: The words that a line starts with, as bytes.
use Rattle.std.specs.Prelude.{ℕ, ◌/◌, ◌%◌, ◌≡◌, cond, List, [], ◌∷◌, length}
use Rattle.event_text.specs.Fields.{first_field, first_line, same}
use Rattle.event_lines.specs.declared.event.Word.{Word}

abbrev pub open_word : List ℕ
open_word = 111 ∷ 112 ∷ 101 ∷ 110 ∷ []

abbrev pub take_word : List ℕ
take_word = 116 ∷ 97 ∷ 107 ∷ 101 ∷ []

abbrev pub plan_word : List ℕ
plan_word = 112 ∷ 108 ∷ 97 ∷ 110 ∷ []

abbrev pub retire_word : List ℕ
retire_word = 114 ∷ 101 ∷ 116 ∷ 105 ∷ 114 ∷ 101 ∷ []

abbrev pub write_word : List ℕ
write_word = 119 ∷ 114 ∷ 105 ∷ 116 ∷ 101 ∷ []

abbrev pub regen_word : List ℕ
regen_word = 114 ∷ 101 ∷ 103 ∷ 101 ∷ 110 ∷ []

abbrev pub pop_word : List ℕ
pop_word = 112 ∷ 111 ∷ 112 ∷ []

abbrev pub park_word : List ℕ
park_word = 112 ∷ 97 ∷ 114 ∷ 107 ∷ []

abbrev pub note_word : List ℕ
note_word = 110 ∷ 111 ∷ 116 ∷ 101 ∷ []

abbrev pub doomed_word : List ℕ
doomed_word = 100 ∷ 111 ∷ 111 ∷ 109 ∷ 101 ∷ 100 ∷ []

abbrev pub drain_word : List ℕ
drain_word = 100 ∷ 114 ∷ 97 ∷ 105 ∷ 110 ∷ []

abbrev pub trim_word : List ℕ
trim_word = 116 ∷ 114 ∷ 105 ∷ 109 ∷ []

abbrev pub forget_word : List ℕ
forget_word = 102 ∷ 111 ∷ 114 ∷ 103 ∷ 101 ∷ 116 ∷ []

-- the word that a field is: those of the calls that a program makes most come first, and any other field is `Other`
unfoldable pub later_word : List ℕ → Word
later_word s =
    cond (same s note_word) Word.Note
    (cond (same s doomed_word) Word.Doomed
    (cond (same s drain_word) Word.Drain
    (cond (same s trim_word) Word.Trim
    (cond (same s forget_word) Word.Forget
    (cond (same s open_word) Word.Open
    Word.Other)))))

unfoldable pub word_of : List ℕ → Word
word_of s =
    cond (same s take_word) Word.Take
    (cond (same s plan_word) Word.Plan
    (cond (same s retire_word) Word.Retire
    (cond (same s write_word) Word.Write
    (cond (same s pop_word) Word.Pop
    (cond (same s park_word) Word.Park
    (cond (same s regen_word) Word.Regen
    (later_word s)))))))

-- four bytes that are one number, the first as the lowest, and what is after them
unfoldable pub four_of : ℕ → List ℕ → List ℕ
four_of n rest = n % 256 ∷ n / 256 % 256 ∷ n / 256 / 256 % 256 ∷ n / 256 / 256 / 256 ∷ rest

-- the first line of a text starts with the word w, which ends at `end`
abbrev pub Starts : List ℕ → ℕ → Word → Type 0
Starts text end w = (end ≡ length (first_field (first_line text))) × (w ≡ word_of (first_field (first_line text)))
