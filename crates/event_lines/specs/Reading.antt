-- Helper: What the functions that read a line's fields answer: the fields as numbers first, then what each word asks of them.
use Rattle.std.specs.Prelude.{ℕ, suc, ◌-◌, ◌^◌, Bool, true, false, cond, Option, Some, None, ◌&&◌, ◌||◌, List, [], ◌∷◌, eqb, ltb, leb, length, set, replicate}
use Rattle.base_blocks.specs.Lists.{tests}
use Rattle.event_text.specs.Fields.{fields_of, first_line, same, dash}
use Rattle.base_digits.specs.Digits.{decimal}
use Rattle.event_text.specs.Numbers.{is_number}
use Rattle.pool_rules.specs.declared.held.Held.TheVariants.{Known, Unknown}
use Rattle.event_lines.specs.declared.event.Word.{Word}
use Rattle.event_lines.specs.declared.event.Event.{Event}
use Rattle.event_lines.specs.declared.fields.Fields.{Fields}
use Rattle.event_lines.specs.Grammar.{made}

-- ---- the fields as numbers

-- how many there are, their numbers (0 for "-"), and whether "-" is one of them
pub record Scanned : Type 0 where
  pub formed : Bool
  pub count : ℕ
  pub values : List ℕ
  pub dash : Bool

-- fields that no word has
abbrev pub unread_fields : Scanned
unread_fields = record { formed = false; count = 0; values = replicate 9 0; dash = false }

abbrev pub scanned_of : Option Fields → Scanned
scanned_of (Some r) = record { formed = true; count = r.count; values = r.values; dash = r.dash }
scanned_of None = unread_fields

-- field i of the nine that a word can have is a number; field 1 can be "-"
unfoldable pub may_be : ℕ → List ℕ → Bool
may_be i f = ltb i 9 && (is_number f || (eqb i 1 && same f dash))

-- the fields put into vs from index i on; d: "-" was among those before
unfoldable pub scan_fields : ℕ → List ℕ → Bool → List (List ℕ) → Scanned
scan_fields i vs d [] = record { formed = true; count = i; values = vs; dash = d }
scan_fields i vs d (f ∷ fs) = cond (may_be i f) (scan_fields (suc i) (set vs i (decimal f)) (d || same f dash) fs) unread_fields

-- the same of what stands after a field: nothing more of the line, a comma and more fields, or what ends no field
unfoldable pub scan : ℕ → List ℕ → Bool → List ℕ → Scanned
scan i vs d [] = record { formed = true; count = i; values = vs; dash = d }
scan i vs d (b ∷ bs) =
    cond (eqb b 10) (record { formed = true; count = i; values = vs; dash = d })
    (cond (eqb b 44) (scan_fields i vs d (fields_of (first_line bs))) unread_fields)

-- ---- what a word asks of them

abbrev pub most : ℕ
most = 2 ^ 64 - 1

abbrev pub most_small : ℕ
most_small = 2 ^ 32 - 1

-- the largest number of each field; 0 stands for held writes
unfoldable pub limits_of : Word → List ℕ
limits_of Word.Open = most ∷ []
limits_of Word.Take = most ∷ most ∷ most_small ∷ most_small ∷ most_small ∷ most_small ∷ most ∷ 1 ∷ most ∷ []
limits_of Word.Plan = most ∷ 0 ∷ most_small ∷ most_small ∷ 1 ∷ []
limits_of Word.Retire = most ∷ most ∷ most ∷ []
limits_of Word.Write = most ∷ most_small ∷ most_small ∷ most_small ∷ most_small ∷ most_small ∷ most_small ∷ []
limits_of Word.Regen = most ∷ []
limits_of Word.Pop = most ∷ []
limits_of Word.Park = most ∷ most ∷ []
limits_of Word.Note = most ∷ []
limits_of Word.Doomed = []
limits_of Word.Drain = []
limits_of Word.Trim = most ∷ []
limits_of Word.Forget = most ∷ []
limits_of Word.Other = []

-- the tests of the numbers n k, n (k + 1), ..: none where any number will do
unfoldable pub limit_tests : List ℕ → (ℕ → ℕ) → ℕ → List Bool
limit_tests [] n k = []
limit_tests (l ∷ ls) n k = cond (eqb l 0 || eqb l most) (limit_tests ls n (suc k)) (leb (n k) l ∷ limit_tests ls n (suc k))

-- `count` numbers n 0, n 1, .. are what the word asks for
unfoldable pub fits : Word → ℕ → (ℕ → ℕ) → Bool
fits w count n = tests (eqb count (length (limits_of w)) ∷ limit_tests (limits_of w) n 0)

unfoldable pub numbers_made : Word → ℕ → (ℕ → ℕ) → Event
numbers_made w count n = cond (fits w count n) (made w n (Known (n 1))) Event.Unread

-- only a plan has a field that can be "-"
unfoldable pub dash_made : Word → ℕ → (ℕ → ℕ) → Event
dash_made Word.Open count n = Event.Unread
dash_made Word.Take count n = Event.Unread
dash_made Word.Plan count n = cond (fits Word.Plan count n) (made Word.Plan n Unknown) Event.Unread
dash_made Word.Retire count n = Event.Unread
dash_made Word.Write count n = Event.Unread
dash_made Word.Regen count n = Event.Unread
dash_made Word.Pop count n = Event.Unread
dash_made Word.Park count n = Event.Unread
dash_made Word.Note count n = Event.Unread
dash_made Word.Doomed count n = Event.Unread
dash_made Word.Drain count n = Event.Unread
dash_made Word.Trim count n = Event.Unread
dash_made Word.Forget count n = Event.Unread
dash_made Word.Other count n = Event.Unread
