-- Rule: The lines of the event program (01, "Upload rectangle, event program"): a word, and after it fields of the kinds that the word asks for.
use Rattle.std.specs.Prelude.{ℕ, ◌^◌, Bool, true, false, cond, ◌&&◌, ◌||◌, List, [], ◌∷◌, ltb, eqb, get_or}
use Rattle.event_text.specs.Fields.{fields_of, same, dash}
use Rattle.base_digits.specs.Digits.{decimal}
use Rattle.event_text.specs.Numbers.{is_number}
use Rattle.grid_rects.specs.declared.rect.TexelRect.{TexelRect}
use Rattle.grid_shapes.specs.declared.shape.VersionShape.{VersionShape}
use Rattle.pool_rules.specs.declared.held.Held.{Held}
use Rattle.pool_rules.specs.declared.held.Held.TheVariants.{Known, Unknown}
use Rattle.event_lines.specs.declared.event.Word.{Word}
use Rattle.event_lines.specs.declared.event.Event.{Event}
use Rattle.event_lines.specs.Words.{word_of}

-- ---- the kinds of fields

pub data Kind : Type 0 where
  -- a number below a bound
  below : ℕ → Kind
  -- held writes: a number, or "-"
  held : Kind

abbrev pub number : Kind
number = below (2 ^ 64)

-- where the Rust has u32
abbrev pub small : Kind
small = below (2 ^ 32)

abbrev pub flag : Kind
flag = below 2

unfoldable pub is_kind : Kind → List ℕ → Bool
is_kind (below bound) f = is_number f && ltb (decimal f) bound
is_kind held f = is_number f || same f dash

-- as many fields as kinds, and each of its kind
unfoldable pub are_kinds : List Kind → List (List ℕ) → Bool
are_kinds [] [] = true
are_kinds [] (f ∷ fs) = false
are_kinds (k ∷ ks) [] = false
are_kinds (k ∷ ks) (f ∷ fs) = is_kind k f && are_kinds ks fs

-- ---- the fields of a word, and its event

unfoldable pub kinds_of : Word → List Kind
kinds_of Word.Open = number ∷ []
kinds_of Word.Take = number ∷ number ∷ small ∷ small ∷ small ∷ small ∷ number ∷ flag ∷ number ∷ []
kinds_of Word.Plan = number ∷ held ∷ small ∷ small ∷ flag ∷ []
kinds_of Word.Retire = number ∷ number ∷ number ∷ []
kinds_of Word.Write = number ∷ small ∷ small ∷ small ∷ small ∷ small ∷ small ∷ []
kinds_of Word.Regen = number ∷ []
kinds_of Word.Pop = number ∷ []
kinds_of Word.Park = number ∷ number ∷ []
kinds_of Word.Note = number ∷ []
kinds_of Word.Doomed = []
kinds_of Word.Drain = []
kinds_of Word.Trim = number ∷ []
kinds_of Word.Forget = number ∷ []
kinds_of Word.Other = []

-- the shape fields of a take line, which stand after its id; the rest is 0
unfoldable pub shape_of : (ℕ → ℕ) → VersionShape
shape_of n = record {
  format = n 1;
  width = n 2;
  height = n 3;
  depth = n 4;
  levels = n 5;
  kind = n 6;
  storage = 0;
  usage = 0;
  red = 0;
  green = 0;
  blue = 0;
  alpha = 0;
}

-- the rectangle of a write line: left, top, width and height
unfoldable pub rect_of : (ℕ → ℕ) → TexelRect
rect_of n = record { x = n 3; y = n 4; width = n 5; height = n 6 }

-- the events whose fields are the numbers n 0, n 1, ..; of a plan the second field is its held writes
unfoldable pub take_event : (ℕ → ℕ) → Event
take_event n = Event.Take (n 0) (shape_of n) (eqb (n 7) 1) (n 8)

unfoldable pub plan_event : (ℕ → ℕ) → Held → Event
plan_event n h = Event.Plan (n 0) h (n 2) (n 3) (eqb (n 4) 1)

unfoldable pub retire_event : (ℕ → ℕ) → Event
retire_event n = Event.Retire (n 0) (n 1) (n 2)

unfoldable pub write_event : (ℕ → ℕ) → Event
write_event n = Event.Write (n 0) (n 1) (n 2) (rect_of n)

-- the event of each word
unfoldable pub made : Word → (ℕ → ℕ) → Held → Event
made Word.Open n h = Event.Open (n 0)
made Word.Take n h = take_event n
made Word.Plan n h = plan_event n h
made Word.Retire n h = retire_event n
made Word.Write n h = write_event n
made Word.Regen n h = Event.Regen (n 0)
made Word.Pop n h = Event.Pop (n 0)
made Word.Park n h = Event.Park (n 0) (n 1)
made Word.Note n h = Event.Note (n 0)
made Word.Doomed n h = Event.Doomed
made Word.Drain n h = Event.Drain
made Word.Trim n h = Event.Trim (n 0)
made Word.Forget n h = Event.Forget (n 0)
made Word.Other n h = Event.Unread

-- ---- a line

-- a field as held writes
unfoldable pub held_by : Bool → ℕ → Held
held_by true n = Unknown
held_by false n = Known n

-- the number that field k is
unfoldable pub num : List (List ℕ) → ℕ → ℕ
num fields k = decimal (get_or fields k [])

unfoldable pub event_by : Word → List (List ℕ) → Event
event_by word fields = cond (are_kinds (kinds_of word) fields) (made word (num fields) (held_by (same (get_or fields 1 []) dash) (num fields 1))) Event.Unread

unfoldable pub event : List (List ℕ) → Event
event [] = Event.Unread
event (word ∷ fields) = event_by (word_of word) fields

unfoldable pub event_of : List ℕ → Event
event_of line = event (fields_of line)
