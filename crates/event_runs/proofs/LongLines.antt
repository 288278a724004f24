-- A line longer than any well-formed one is none. Assumes nothing.
use mathlib.Core.Path.{◌≡◌, refl, sym, ap, ◌∙◌}
use mathlib.Core.Bool.{Bool, true, false, cond, ◌||◌}
use mathlib.Core.List.{List, [], ◌∷◌, ◌++◌}
use Prim.Native.Nat.{ℕ, suc, ◌+◌, ◌*◌, ◌≤◌, ◌<◌}
use native.Mathlib.Decide.{dec_lt}
use native.Mathlib.Omega.{arith}
use borrow.Author.Tests.{leb-true}
use lib.Dec.{eqb, ltb}
use lib.ListN.{length, take, get_or, length-append}
use lib.Seq.{take_all, length-take-le}
use Rattle.base_blocks.proofs.Lists.{and_both, passed}
use Rattle.event_text.specs.Fields.{comma, in_first, fields_of, same, dash}
use Rattle.base_digits.specs.Digits.{decimal}
use Rattle.event_text.specs.Numbers.{is_number}
use Rattle.event_text.proofs.Fields.{same_length, same_true}
use Rattle.event_lines.specs.declared.event.Word.{Word}
use Rattle.event_lines.specs.declared.event.Event.{Event}
use Rattle.event_lines.specs.Words.{word_of, later_word, open_word, take_word, plan_word, retire_word, write_word, regen_word, pop_word, park_word, note_word, doomed_word, drain_word, trim_word, forget_word}
use Rattle.event_lines.specs.Grammar.{Kind, below, held, is_kind, are_kinds, kinds_of, made, held_by, num, event_by, event, event_of}

-- ---- the bytes of fields, each with the comma after it

unfoldable bytes : List (List ℕ) → ℕ
bytes [] = 0
bytes (f ∷ fs) = length f + 1 + bytes fs

-- a line is its fields, with a comma between two
fields_bytes : (line : List ℕ) → bytes (fields_of line) ≡ length line + 1
unfolding fields_of in_first bytes
fields_bytes [] = refl
fields_bytes (b ∷ bs) = go (eqb b comma) (fields_bytes bs)
  where
    first : (fs : List (List ℕ)) → bytes fs ≡ length bs + 1 → bytes (in_first b fs) ≡ suc (length bs) + 1
    first [] e = omega arith
    first (f ∷ fs) e = omega arith

    go : (t : Bool) → bytes (fields_of bs) ≡ length bs + 1 → bytes (cond t ([] ∷ fields_of bs) (in_first b (fields_of bs))) ≡ suc (length bs) + 1
    go true e = omega arith
    go false e = first (fields_of bs) e

-- ---- a field of any kind has at most 20 bytes

number_short : (f : List ℕ) → is_number f ≡ true → length f ≤ 20
unfolding is_number
number_short f e = leb-true (length f) 20 (passed _ e 2)

kind_short : (k : Kind) (f : List ℕ) → is_kind k f ≡ true → length f ≤ 20
unfolding is_kind
kind_short (below bound) f e = number_short f (and_both (is_number f) (ltb (decimal f) bound) e).0
kind_short held f e = go (is_number f) refl e
  where
    go : (t : Bool) → is_number f ≡ t → t || same f dash ≡ true → length f ≤ 20
    go true q r = number_short f q
    go false q r = let e = ap length (same_true f dash r) in omega arith

kinds_short : (ks : List Kind) (fs : List (List ℕ)) → are_kinds ks fs ≡ true → bytes fs ≤ 21 * length ks
unfolding are_kinds bytes
kinds_short [] [] e = omega arith
kinds_short [] (f ∷ fs) e = absurd (let z : ◌≡◌ {A = ℕ} 0 1 = cc in let y : ⊥ = omega arith in y)
kinds_short (k ∷ ks) [] e = omega arith
kinds_short (k ∷ ks) (f ∷ fs) e =
    let q = and_both (is_kind k f) (are_kinds ks fs) e in
    let a = kind_short k f q.0 in
    let b = kinds_short ks fs q.1 in
    omega arith

nine : (w : Word) → length (kinds_of w) ≤ 9
unfolding kinds_of
nine Word.Open = omega arith
nine Word.Take = omega arith
nine Word.Plan = omega arith
nine Word.Retire = omega arith
nine Word.Write = omega arith
nine Word.Regen = omega arith
nine Word.Pop = omega arith
nine Word.Park = omega arith
nine Word.Note = omega arith
nine Word.Doomed = omega arith
nine Word.Drain = omega arith
nine Word.Trim = omega arith
nine Word.Forget = omega arith
nine Word.Other = omega arith

-- ---- a word has at most 6

module _ (s : List ℕ) (h : 6 < length s) where
  other : (w : List ℕ) → length w ≤ 6 → same s w ≡ false
  other w k = same_length s w (λ e. let y : ⊥ = omega arith in y)

  later_other : later_word s ≡ Word.Other
  unfolding later_word
  later_other =
      rw (
        other note_word (omega arith),
        other doomed_word (omega arith),
        other drain_word (omega arith),
        other trim_word (omega arith),
        other forget_word (omega arith),
        other open_word (omega arith),
      )

  long_word : word_of s ≡ Word.Other
  unfolding word_of
  long_word =
      rw (
        other take_word (omega arith),
        other plan_word (omega arith),
        other retire_word (omega arith),
        other write_word (omega arith),
        other pop_word (omega arith),
        other park_word (omega arith),
        other regen_word (omega arith),
      ) later_other

-- ---- a line

-- whatever stands after it, another word is no event
other_unread : (fs : List (List ℕ)) → event_by Word.Other fs ≡ Event.Unread
unfolding event_by made
other_unread fs = go (are_kinds (kinds_of Word.Other) fs)
  where
    go : (t : Bool) → cond t (made Word.Other (num fs) (held_by (same (get_or fs 1 []) dash) (num fs 1))) Event.Unread ≡ Event.Unread
    go true = refl
    go false = refl

-- more bytes than nine fields have
fields_unread : (w : Word) (fs : List (List ℕ)) → 189 < bytes fs → event_by w fs ≡ Event.Unread
unfolding event_by
fields_unread w fs h = go (are_kinds (kinds_of w) fs) refl
  where
    go : (t : Bool) → are_kinds (kinds_of w) fs ≡ t → cond t (made w (num fs) (held_by (same (get_or fs 1 []) dash) (num fs 1))) Event.Unread ≡ Event.Unread
    go true e = absurd (let a = kinds_short (kinds_of w) fs e in let b = nine w in let y : ⊥ = omega arith in y)
    go false e = refl

event_unread : (fs : List (List ℕ)) → 196 < bytes fs → event fs ≡ Event.Unread
unfolding event bytes
event_unread [] h = refl
event_unread (w ∷ fs) h = go (dec_lt 6 (length w))
  where
    go : Dec (6 < length w) → event_by (word_of w) fs ≡ Event.Unread
    go (yes p) = ap (λ (x : Word). event_by x fs) (long_word w p) ∙ other_unread fs
    go (no p) = fields_unread (word_of w) fs (omega arith)

-- a word of 6 bytes, and 9 fields of 20 with a comma before each, are the most
pub long_unread : (line : List ℕ) → 195 < length line → event_of line ≡ Event.Unread
unfolding event_of
long_unread line h = event_unread (fields_of line) (omega (arith, fields_bytes line))

-- so a line may be cut after its first 196 bytes: whatever comes after, its event is the same
pub cut_unread : (k : ℕ) → 195 < k → (line rest : List ℕ) → event_of (take k line ++ rest) ≡ event_of (line ++ rest)
cut_unread k h line rest = go (dec_lt k (length line))
  where
    go : Dec (k < length line) → event_of (take k line ++ rest) ≡ event_of (line ++ rest)
    go (no p) = ap (λ (l : List ℕ). event_of (l ++ rest)) (take_all k line (omega arith))
    go (yes p) =
        let e = length-take-le k line (omega arith) in
        long_unread (take k line ++ rest) (omega (arith, length-append (take k line) rest)) ∙ sym (long_unread (line ++ rest) (omega (arith, length-append line rest)))
