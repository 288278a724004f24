-- Each answer's lines, as they are put. Assumes nothing.
use mathlib.Core.Path.{◌≡◌, sym, ap, subst}
use mathlib.Core.List.{List, [], ◌∷◌, ◌++◌, flat_map}
use Prim.Native.Nat.{ℕ, ◌+◌, ◌*◌, ◌-◌, ◌≤◌}
use native.Mathlib.Omega.{arith}
use borrow.Author.Tests.{eq-eqb, ne_eqb}
use lib.ListN.{length, take, drop, get_or, length-drop}
use lib.Seq.{sets, take_all, length-take-le}
use Rattle.base_tables.specs.Records.{table, record_at}
use Rattle.base_tables.proofs.Records.{length_table}
use Rattle.pool_rules.specs.declared.held.Held.{Held}
use Rattle.pool_books.specs.LentLists.{read_copy}
use Rattle.base_digits.specs.Digits.{digits_of}
use Rattle.event_answers.specs.declared.answer.Answer.{Answer}
use Rattle.event_answers.specs.declared.answer.Answer.TheVariants.{Question, Refused, Done, Spare, NoSpare, Version, NothingSettled, Views, Copies}
use Rattle.event_answers.specs.Answers.{reply_told, entries, InBuffers}
use Rattle.event_answers.specs.Printed.{question, accepted_text, row, accepted_row, optional, held_field, region_fields, copy_row, view_row, reply_rows, printed}
use Rattle.base_digits.specs.Put.{Put}
use Rattle.event_answers.specs.Ended.{fields_ended}
use Rattle.base_digits.proofs.Puts.{put_as, put_then}
use Rattle.event_answers.proofs.Puts.{row_ended, put_row, put_field, put_accepted}
use Rattle.pool_memory.specs.MemoryConstants.{copy_stride}
use Rattle.event_text.specs.Fields.{dash}

-- ---- the line of a copy

module _ (s : List ℕ) where
  whole : get_or s 2 0 ≡ 1 → 44 ∷ 45 ∷ 44 ∷ 45 ∷ 44 ∷ 45 ∷ 44 ∷ 45 ∷ 10 ∷ [] ≡ fields_ended (region_fields (read_copy s).region)
  unfolding read_copy region_fields fields_ended
  whole e = rw (eq-eqb (get_or s 2 0) 1 e)

  part : (get_or s 2 0 ≡ 1 → ⊥)
      → digits_of (get_or s 3 0) ∷ digits_of (get_or s 4 0) ∷ digits_of (get_or s 5 0) ∷ digits_of (get_or s 6 0) ∷ [] ≡ region_fields (read_copy s).region
  unfolding read_copy region_fields
  part e = rw (ne_eqb (get_or s 2 0) 1 e)

  module _ {a b c d : List ℕ} {i j k l : ℕ} (n : ℕ)
      (first : Put a i (digits_of n) j b) (slice : Put b j (44 ∷ digits_of (get_or s 0 0)) k c) (level : Put c k (44 ∷ digits_of (get_or s 1 0)) l d) where
    copied : {e : List ℕ} {m : ℕ} → Put d l (fields_ended (region_fields (read_copy s).region)) m e → Put a i (copy_row n (read_copy s)) m e
    unfolding copy_row read_copy
    copied r = put_row n _ first (put_field _ _ slice (put_field _ _ level r))

    pub whole_copy : {e : List ℕ} {m : ℕ} → get_or s 2 0 ≡ 1 → Put d l (44 ∷ 45 ∷ 44 ∷ 45 ∷ 44 ∷ 45 ∷ 44 ∷ 45 ∷ 10 ∷ []) m e → Put a i (copy_row n (read_copy s)) m e
    whole_copy t r = copied (put_as (whole t) r)

    pub part_copy : {e : List ℕ} {m : ℕ} → (get_or s 2 0 ≡ 1 → ⊥)
        → Put d l (fields_ended (digits_of (get_or s 3 0) ∷ digits_of (get_or s 4 0) ∷ digits_of (get_or s 5 0) ∷ digits_of (get_or s 6 0) ∷ [])) m e
        → Put a i (copy_row n (read_copy s)) m e
    part_copy t r = copied (put_as (ap fields_ended (part t)) r)

-- the numbers from a copy's first on
pub copy_from : (s : List ℕ) (i : ℕ) → read_copy (take (length s - copy_stride * i) (drop (copy_stride * i) s)) ≡ record_at copy_stride read_copy s i
unfolding record_at
copy_from s i = ap read_copy (take_all (length s - copy_stride * i) (drop (copy_stride * i) s) (omega (arith, length-drop (copy_stride * i) s)))

-- ---- an answer

abbrev pub Shown : List ℕ → ℕ → ℕ → Answer → List ℕ → List ℕ → ℕ → List ℕ → Type 0
Shown a i n k copies views j b = Put a i (printed n (reply_told k copies views)) j b

-- as the contract says it
pub shown : {a b : List ℕ} {i j : ℕ} (n : ℕ) (copies views : List ℕ) {answer k : Answer} → answer ≡ k → Shown a i n k copies views j b
    → (j ≡ i + length (printed n (reply_told answer copies views))) × (b ≡ sets a i (printed n (reply_told answer copies views)))
shown {a} {b} {i} {j} n copies views e p =
    let q = put_as (ap (λ (x : Answer). printed n (reply_told x copies views)) (sym e)) p in
    (q.ends, q.makes)

dashes : (n : ℕ) → digits_of n ++ (44 ∷ 48 ∷ 44 ∷ 45 ∷ 44 ∷ 45 ∷ 10 ∷ []) ≡ accepted_row n (dash ∷ dash ∷ [])
unfolding fields_ended
dashes n = row_ended n (accepted_text ∷ dash ∷ dash ∷ [])

module _ {a b : List ℕ} {i j : ℕ} (n : ℕ) (copies views : List ℕ) where
  pub show_question : Put a i (digits_of n ++ (44 ∷ 63 ∷ 10 ∷ [])) j b → Shown a i n Question copies views j b
  unfolding printed reply_told fields_ended
  show_question p = put_as (row_ended n (question ∷ [])) p

  pub show_refused : (k : ℕ) → Put a i (row n (digits_of k ∷ [])) j b → Shown a i n (Refused k) copies views j b
  unfolding printed reply_told reply_rows
  show_refused k p = p

  pub show_done : Put a i (digits_of n ++ (44 ∷ 48 ∷ 10 ∷ [])) j b → Shown a i n Done copies views j b
  unfolding printed reply_told reply_rows fields_ended
  show_done p = put_as (row_ended n (accepted_text ∷ [])) p

  pub show_spare : (view : ℕ) (held : Held) → Put a i (accepted_row n (digits_of view ∷ held_field held ∷ [])) j b → Shown a i n (Spare view held) copies views j b
  unfolding printed reply_told reply_rows optional
  show_spare view held p = p

  pub show_no_spare : Put a i (digits_of n ++ (44 ∷ 48 ∷ 44 ∷ 45 ∷ 44 ∷ 45 ∷ 10 ∷ [])) j b → Shown a i n NoSpare copies views j b
  unfolding printed reply_told reply_rows optional held_field
  show_no_spare p = put_as (dashes n) p

  pub show_version : (id view : ℕ) → Put a i (accepted_row n (digits_of id ∷ digits_of view ∷ [])) j b → Shown a i n (Version id view) copies views j b
  unfolding printed reply_told reply_rows
  show_version id view p = p

  pub show_nothing : Put a i (digits_of n ++ (44 ∷ 48 ∷ 44 ∷ 45 ∷ 44 ∷ 45 ∷ 10 ∷ [])) j b → Shown a i n NothingSettled copies views j b
  unfolding printed reply_told reply_rows
  show_nothing p = put_as (dashes n) p

  module _ {c : List ℕ} {k : ℕ} (m : ℕ) (count : Put a i (accepted_row n (digits_of m ∷ [])) k c) where
    pub show_views : m ≤ length views → Put c k (flat_map (view_row n) (take m views)) j b → Shown a i n (Views m) copies views j b
    unfolding printed reply_told reply_rows
    show_views h p =
        put_as (ap (λ (x : ℕ). accepted_row n (digits_of x ∷ []) ++ flat_map (view_row n) (take m views)) (sym (length-take-le m views h))) (put_then count p)

    pub show_copies : Put c k (flat_map (copy_row n) (table copy_stride read_copy m copies)) j b → Shown a i n (Copies m) copies views j b
    unfolding printed reply_told reply_rows
    show_copies p =
        put_as (ap (λ (x : ℕ). accepted_row n (digits_of x ∷ []) ++ flat_map (copy_row n) (table copy_stride read_copy m copies)) (sym (length_table copy_stride read_copy m copies))) (put_then count p)

-- a spare of unknown writes
pub show_unknown : {a b c d : List ℕ} {i j k l : ℕ} (n view : ℕ) → Put a i (digits_of n ++ (44 ∷ 48 ∷ [])) j b → Put b j (44 ∷ digits_of view) k c
    → Put c k (44 ∷ 45 ∷ 10 ∷ []) l d → Put a i (accepted_row n (digits_of view ∷ dash ∷ [])) l d
unfolding fields_ended
show_unknown n view p q r = put_accepted n (digits_of view ∷ dash ∷ []) p (put_field (digits_of view) (dash ∷ []) q r)

-- the entries of views and copies
module _ {answer : Answer} (m : ℕ) (copies views : List ℕ) where
  pub views_fit : answer ≡ Views m → InBuffers answer copies views → (entries answer ≡ m) × (m ≤ length views)
  unfolding entries InBuffers
  views_fit e h = (ap entries e, subst (λ (x : Answer). InBuffers x copies views) e h)

  pub copies_fit : answer ≡ Copies m → InBuffers answer copies views → (entries answer ≡ m) × (copy_stride * m ≤ length copies)
  unfolding entries InBuffers
  copies_fit e h = (ap entries e, subst (λ (x : Answer). InBuffers x copies views) e h)
