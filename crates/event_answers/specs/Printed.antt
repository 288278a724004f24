-- Rule: The output of the event program (01, "Upload rectangle, event program"): line number, outcome and, if accepted, answer fields; "-" is none,
-- unknown or whole. Views and copies stand on lines of their own, each after the line number.
use Rattle.std.specs.Prelude.{ℕ, ◌+◌, ◌*◌, length}
use Rattle.std.proofs.Math.Option.{Option, none, some}
use mathlib.Core.List.{List, [], ◌∷◌, ◌++◌, flat_map}
use Rattle.grid_rects.specs.declared.rect.Region.{Region}
use Rattle.grid_rects.specs.declared.rect.Region.TheVariants.{Whole, Part}
use Rattle.pool_rules.specs.declared.held.Held.{Held}
use Rattle.pool_rules.specs.declared.held.Held.TheVariants.{Known, Unknown}
use Rattle.pool_rules.specs.Model.{PreserveCopy}
use Rattle.pool_books.specs.Demand3.{Reply, refusal, done, spare_taken, copies_planned, version_popped, views_handed}
use Rattle.base_digits.specs.Characters.{line_feed}
use Rattle.event_text.specs.Fields.{comma, dash}
use Rattle.base_digits.specs.Digits.{digits_of}

-- "?" and "0"
abbrev pub question : List ℕ
question = 63 ∷ []

abbrev pub accepted_text : List ℕ
accepted_text = 48 ∷ []

-- a line of output: the number of the event's line, each field behind a comma, a line feed
unfoldable pub row : ℕ → List (List ℕ) → List ℕ
row n fields = digits_of n ++ (flat_map (λ (f : List ℕ). comma ∷ f) fields ++ (line_feed ∷ []))

unfoldable pub optional : Option ℕ → List ℕ
optional none = dash
optional (some n) = digits_of n

unfoldable pub held_field : Held → List ℕ
held_field (Known n) = digits_of n
held_field Unknown = dash

-- left, top, width, height
unfoldable pub region_fields : Region → List (List ℕ)
region_fields Whole = dash ∷ dash ∷ dash ∷ dash ∷ []
region_fields (Part r) = digits_of r.x ∷ digits_of r.y ∷ digits_of r.width ∷ digits_of r.height ∷ []

unfoldable pub copy_row : ℕ → PreserveCopy → List ℕ
copy_row n c = row n (digits_of c.slice ∷ digits_of c.level ∷ region_fields c.region)

unfoldable pub view_row : ℕ → ℕ → List ℕ
view_row n view = row n (digits_of view ∷ [])

-- an accepted call's line: outcome 0 and its fields
abbrev pub accepted_row : ℕ → List (List ℕ) → List ℕ
accepted_row n fields = row n (accepted_text ∷ fields)

unfoldable pub reply_rows : ℕ → Reply → List ℕ
reply_rows n (refusal k) = row n (digits_of k ∷ [])
reply_rows n done = accepted_row n []
reply_rows n (spare_taken view held) = accepted_row n (optional view ∷ held_field held ∷ [])
reply_rows n (version_popped none) = accepted_row n (dash ∷ dash ∷ [])
reply_rows n (version_popped (some (id, view))) = accepted_row n (digits_of id ∷ digits_of view ∷ [])
reply_rows n (views_handed views) = accepted_row n (digits_of (length views) ∷ []) ++ flat_map (view_row n) views
reply_rows n (copies_planned copies) = accepted_row n (digits_of (length copies) ∷ []) ++ flat_map (copy_row n) copies

-- the output of line n: "?" where no call was made
unfoldable pub printed : ℕ → Option Reply → List ℕ
printed n none = row n (question ∷ [])
printed n (some r) = reply_rows n r

-- no line of output has more bytes than seven numbers of 20 digits and a comma or line feed behind each
abbrev pub most_row : ℕ
most_row = 147

-- nor has an answer of so many entries more than
abbrev pub most_bytes : ℕ → ℕ
most_bytes entries = most_row * (entries + 1)
