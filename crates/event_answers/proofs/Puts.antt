-- Laws of the lines of an answer put piece by piece. Assumes nothing.
use mathlib.Core.Path.{◌≡◌, refl, sym, ap, ◌∙◌}
use mathlib.Core.List.{List, [], ◌∷◌, ◌++◌, append_assoc, flat_map}
use Prim.Native.Nat.{ℕ, ◌≤◌}
use lib.ListN.{length, take, get_or}
use Rattle.base_blocks.proofs.Listed.{left, left_all, take_listed, listed_get_d}
use Rattle.base_digits.specs.Characters.{line_feed}
use Rattle.base_digits.specs.Digits.{digits_of}
use Rattle.base_digits.specs.Put.{Put}
use Rattle.base_digits.proofs.Puts.{put_as, put_then}
use Rattle.event_text.specs.Fields.{comma}
use Rattle.event_answers.specs.Printed.{accepted_text, row, accepted_row}
use Rattle.event_answers.specs.Ended.{fields_ended}

-- ---- a line

pub fields_ended_lem : (fs : List (List ℕ)) → fields_ended fs ≡ flat_map (λ (f : List ℕ). comma ∷ f) fs ++ (line_feed ∷ [])
unfolding fields_ended flat_map
fields_ended_lem [] = refl
fields_ended_lem (f ∷ fs) =
    ap (λ (l : List ℕ). comma ∷ (f ++ l)) (fields_ended_lem fs)
    ∙ sym (append_assoc (comma ∷ f) (flat_map (λ (g : List ℕ). comma ∷ g) fs) (line_feed ∷ []))

pub row_ended : (n : ℕ) (fs : List (List ℕ)) → digits_of n ++ fields_ended fs ≡ row n fs
unfolding row
row_ended n fs = ap (λ (l : List ℕ). digits_of n ++ l) (fields_ended_lem fs)

pub put_row : {a b c : List ℕ} {i j k : ℕ} (n : ℕ) (fs : List (List ℕ)) → Put a i (digits_of n) j b → Put b j (fields_ended fs) k c → Put a i (row n fs) k c
put_row n fs p q = put_as (row_ended n fs) (put_then p q)

-- a field in front of others
pub put_field : {a b c : List ℕ} {i j k : ℕ} (f : List ℕ) (fs : List (List ℕ)) → Put a i (comma ∷ f) j b → Put b j (fields_ended fs) k c → Put a i (fields_ended (f ∷ fs)) k c
unfolding fields_ended
put_field f fs p q = put_then p q

-- behind the outcome of an accepted call
pub put_accepted : {a b c : List ℕ} {i j k : ℕ} (n : ℕ) (fs : List (List ℕ)) → Put a i (digits_of n ++ (comma ∷ accepted_text)) j b → Put b j (fields_ended fs) k c
    → Put a i (accepted_row n fs) k c
unfolding fields_ended
put_accepted n fs p q =
    put_as (append_assoc (digits_of n) (comma ∷ accepted_text) (fields_ended fs) ∙ row_ended n (accepted_text ∷ fs)) (put_then p q)

-- the first n of a list
pub left_take : (s : List ℕ) (n : ℕ) → n ≤ length s → left (λ (k : ℕ). get_or s k 0) n 0 ≡ take n s
left_take s n h =
    left_all (λ (k : ℕ). get_or s k 0) n ∙ sym (take_listed (λ (k : ℕ). get_or s k 0) n 0 (length s) h) ∙ ap (take n) (listed_get_d 0 s)
