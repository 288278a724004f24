-- Rule: What a public function answers, in 01's numbers (01, "Outcomes"): 0 is acceptance, any other number a refusal.
use Rattle.std.specs.Prelude.{ℕ, Bool, cond, List, [], ◌∷◌, Result, Ok, Err}
use Rattle.grid_shapes.specs.declared.refusal.Refusal.{Refusal}
use Rattle.grid_shapes.specs.declared.refusal.Refusal.TheVariants.{NoPool, BadShape, BadSubmission, OtherShape, TexturesFull, HistoryFull, VersionsFull, OutOfOrder, HandFull, HandEmpty, ShortAnswer, CounterSpent}

-- the number, and the answer's fields where it is 0
pub record Outcome : Type 0 where
  pub number : ℕ
  pub fields : List ℕ

abbrev pub accepted : List ℕ → Outcome
accepted fields = record { number = 0; fields = fields }

abbrev pub refused : ℕ → Outcome
refused number = record { number = number; fields = [] }

-- the number of a refusal
abbrev pub number_of : Refusal → ℕ
number_of NoPool = 1
number_of BadShape = 2
number_of BadSubmission = 3
number_of OtherShape = 4
number_of TexturesFull = 5
number_of HistoryFull = 6
number_of VersionsFull = 7
number_of OutOfOrder = 8
number_of HandFull = 9
number_of HandEmpty = 10
number_of ShortAnswer = 11
number_of CounterSpent = 12

-- the number of an answer: 0 for acceptance
abbrev pub outcome_number : {A : Type 0} → Result A Refusal → ℕ
outcome_number (Ok _) = 0
outcome_number (Err e) = number_of e

-- 01's number and fields for each case of an answer; a flag is 0 or 1
unfoldable pub of_bytes : Result ℕ Refusal → Outcome
of_bytes (Ok n) = accepted (n ∷ [])
of_bytes (Err e) = refused (number_of e)

unfoldable pub of_records : Result Bool Refusal → Outcome
of_records (Ok b) = accepted (cond b 1 0 ∷ [])
of_records (Err e) = refused (number_of e)
