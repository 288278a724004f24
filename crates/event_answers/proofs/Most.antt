-- No answer has more bytes than `most_bytes` of its entries. Assumes nothing.
use mathlib.Core.Path.{subst}
use mathlib.Core.List.{List, [], ◌∷◌, ◌++◌, flat_map}
use Prim.Native.Nat.{ℕ, zero, suc, ◌+◌, ◌*◌, ◌≤◌}
use native.Mathlib.Omega.{arith}
use lib.ListN.{length, take, length-append}
use Rattle.base_tables.specs.Records.{table}
use Rattle.base_tables.proofs.Records.{length_table}
use Rattle.grid_rects.specs.declared.rect.Region.{Region}
use Rattle.grid_rects.specs.declared.rect.Region.TheVariants.{Whole, Part}
use Rattle.pool_rules.specs.declared.held.Held.{Held}
use Rattle.pool_rules.specs.declared.held.Held.TheVariants.{Known, Unknown}
use Rattle.pool_rules.specs.Model.{PreserveCopy}
use Rattle.pool_books.specs.LentLists.{read_copy}
use Rattle.base_digits.specs.Digits.{digits_of}
use Rattle.base_digits.proofs.Printing.{digits_room}
use Rattle.event_answers.specs.declared.answer.Answer.{Answer}
use Rattle.event_answers.specs.declared.answer.Answer.TheVariants.{Question, Refused, Done, Spare, NoSpare, Version, NothingSettled, Views, Copies}
use Rattle.event_answers.specs.Answers.{reply_told, entries}
use Rattle.event_answers.specs.Printed.{question, accepted_text, row, accepted_row, optional, held_field, region_fields, copy_row, view_row, reply_rows, printed, most_bytes}
use Rattle.event_answers.specs.Ended.{fields_ended}
use Rattle.event_answers.proofs.Puts.{row_ended}
use Rattle.pool_memory.specs.MemoryConstants.{copy_stride}
use Rattle.event_text.specs.Fields.{dash}

-- ---- a line

-- so many fields, none longer than a number
unfoldable Few : ℕ → List (List ℕ) → Type 0
Few k [] = Unit {0}
Few zero (f ∷ fs) = ⊥
Few (suc k) (f ∷ fs) = (length f ≤ 20) × Few k fs

few_most : (k : ℕ) (fs : List (List ℕ)) → Few k fs → length (fields_ended fs) ≤ 1 + 21 * k
unfolding Few fields_ended
few_most k [] h = omega arith
few_most zero (f ∷ fs) h = absurd h
few_most (suc k) (f ∷ fs) h = let g = few_most k fs h.1 in omega (arith, h.0, length-append f (fields_ended fs))

row_most : (n k : ℕ) (fs : List (List ℕ)) → Few k fs → length (row n fs) ≤ 21 + 21 * k
row_most n k fs h =
    let g = few_most k fs h in
    subst (λ (l : List ℕ). length l ≤ 21 + 21 * k) (row_ended n fs) (omega (arith, digits_room n, length-append (digits_of n) (fields_ended fs)))

-- ---- the rows of a list

rows_most : {A : Type 0} (rows : A → List ℕ) → ((x : A) → length (rows x) ≤ 147) → (xs : List A) → length (flat_map rows xs) ≤ 147 * length xs
unfolding flat_map
rows_most rows h [] = omega arith
rows_most rows h (x ∷ xs) = let g = rows_most rows h xs in omega (arith, h x, length-append (rows x) (flat_map rows xs))

length_take_most : (n : ℕ) (xs : List ℕ) → length (take n xs) ≤ n
length_take_most zero xs = omega arith
length_take_most (suc n) [] = omega arith
length_take_most (suc n) (x ∷ xs) = let g = length_take_most n xs in omega arith

view_most : (n view : ℕ) → length (view_row n view) ≤ 147
unfolding view_row Few
view_most n view = let g = row_most n 1 (digits_of view ∷ []) (digits_room view, tt) in omega arith

region_few : (r : Region) → Few 4 (region_fields r)
unfolding region_fields Few
region_few Whole = (omega arith, (omega arith, (omega arith, (omega arith, tt))))
region_few (Part r) = (digits_room r.x, (digits_room r.y, (digits_room r.width, (digits_room r.height, tt))))

copy_most : (n : ℕ) (c : PreserveCopy) → length (copy_row n c) ≤ 147
unfolding copy_row Few
copy_most n c =
    let g = row_most n 6 (digits_of c.slice ∷ digits_of c.level ∷ region_fields c.region) (digits_room c.slice, (digits_room c.level, region_few c.region)) in
    omega arith

-- ---- an answer

held_most : (h : Held) → length (held_field h) ≤ 20
unfolding held_field
held_most (Known n) = digits_room n
held_most Unknown = omega arith

-- an accepted call's line of two fields at most, and of a count with rows behind it
pair_most : (n : ℕ) (fs : List (List ℕ)) → Few 2 fs → length (accepted_row n fs) ≤ 147
unfolding Few
pair_most n fs h = let g = row_most n 3 (accepted_text ∷ fs) (omega arith, h) in omega arith

list_most : {A : Type 0} (n k : ℕ) (rows : A → List ℕ) → ((x : A) → length (rows x) ≤ 147) → (xs : List A) → length xs ≤ k
    → length (accepted_row n (digits_of (length xs) ∷ []) ++ flat_map rows xs) ≤ 147 * (k + 1)
unfolding Few
list_most n k rows h xs q =
    let c = pair_most n (digits_of (length xs) ∷ []) (digits_room (length xs), tt) in
    let g = rows_most rows h xs in
    omega (arith, q, length-append (accepted_row n (digits_of (length xs) ∷ [])) (flat_map rows xs))

pub printed_most : (a : Answer) (copies views : List ℕ) (n : ℕ) → length (printed n (reply_told a copies views)) ≤ most_bytes (entries a)
unfolding printed reply_told reply_rows entries optional held_field Few
printed_most Question copies views n = let g = row_most n 1 (question ∷ []) (omega arith, tt) in omega arith
printed_most (Refused k) copies views n = let g = row_most n 1 (digits_of k ∷ []) (digits_room k, tt) in omega arith
printed_most Done copies views n = pair_most n [] tt
printed_most (Spare view held) copies views n = pair_most n (digits_of view ∷ held_field held ∷ []) (digits_room view, (held_most held, tt))
printed_most NoSpare copies views n = pair_most n (dash ∷ dash ∷ []) (omega arith, (omega arith, tt))
printed_most (Version id view) copies views n = pair_most n (digits_of id ∷ digits_of view ∷ []) (digits_room id, (digits_room view, tt))
printed_most NothingSettled copies views n = pair_most n (dash ∷ dash ∷ []) (omega arith, (omega arith, tt))
printed_most (Views k) copies views n = list_most n k (view_row n) (view_most n) (take k views) (length_take_most k views)
printed_most (Copies k) copies views n = list_most n k (copy_row n) (copy_most n) (table copy_stride read_copy k copies) (omega (arith, length_table copy_stride read_copy k copies))
