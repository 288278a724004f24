-- Laws of what was read against the grammar. Assumes nothing.
use mathlib.Core.Path.{◌≡◌, refl, sym, ap, ap₂, ◌∙◌}
use mathlib.Core.Bool.{Bool, true, false, cond, ◌&&◌, ◌||◌, or-true, or-false}
use mathlib.Core.List.{List, [], ◌∷◌, ◌++◌}
use Prim.Native.Nat.{ℕ, zero, suc, ◌+◌, ◌≤◌, ◌<◌}
use native.Mathlib.Nat.{zero-add, add-zero}
use native.Mathlib.Decide.{dec_lt}
use native.Mathlib.Omega.{arith}
use borrow.Author.Tests.{ne_eqb, ltb-true}
use lib.Dec.{eqb, ltb}
use lib.ListN.{length, get_or, drop, set, replicate, get_or-eq_default}
use lib.Seq.{sets, sets-eq}
use Rattle.base_blocks.specs.Lists.{over, all, tests, after}
use Rattle.base_blocks.proofs.Lists.{and_both, get_or_over_in, get_or_over_past, not_passed}
use Rattle.event_text.specs.Fields.{same, fields_after, first_field, first_line, dash}
use Rattle.base_digits.specs.Digits.{decimal, value}
use Rattle.event_text.specs.Numbers.{is_number}
use Rattle.event_text.specs.Searches.{index_of}
use Rattle.event_text.proofs.Fields.{fields_first, same_true, same_self}
use Rattle.event_text.proofs.Leading.{no_way, until}
use Rattle.event_text.proofs.FirstLines.{stops, line_until, until_found, until_length}
use Rattle.event_lines.specs.declared.event.Word.{Word}
use Rattle.event_lines.specs.declared.event.Event.{Event}
use Rattle.event_lines.specs.Words.{Starts}
use Rattle.event_lines.specs.Grammar.{Kind, below, held, is_kind, are_kinds, kinds_of, held_by, num, event_by, event, event_of}
use Rattle.event_lines.specs.Reading.{Scanned, unread_fields, may_be, scan_fields, scan, limits_of, limit_tests, fits, numbers_made, dash_made}
use Rattle.event_lines.proofs.Reading.{number_no_dash, scan_behind}
use Rattle.event_lines.proofs.Limits.{word_numbers}

-- ---- what `scan_fields` leaves

unfoldable pub numbers : List (List ℕ) → List ℕ
numbers [] = []
numbers (f ∷ fs) = decimal f ∷ numbers fs

unfoldable pub any_dash : Bool → List (List ℕ) → Bool
any_dash d [] = d
any_dash d (f ∷ fs) = any_dash (d || same f dash) fs

-- every field may be where it stands
unfoldable pub are_fields : ℕ → List (List ℕ) → Bool
are_fields i [] = true
are_fields i (f ∷ fs) = may_be i f && are_fields (suc i) fs

scan_unread : (i : ℕ) (vs : List ℕ) (d : Bool) (fs : List (List ℕ)) → are_fields i fs ≡ false → scan_fields i vs d fs ≡ unread_fields
unfolding scan_fields are_fields
scan_unread i vs d [] e = no_way e
scan_unread i vs d (f ∷ fs) e = go (may_be i f) (scan_unread (suc i) (set vs i (decimal f)) (d || same f dash) fs) e
  where
    go : (t : Bool) → (are_fields (suc i) fs ≡ false → scan_fields (suc i) (set vs i (decimal f)) (d || same f dash) fs ≡ unread_fields) → t && are_fields (suc i) fs ≡ false
        → cond t (scan_fields (suc i) (set vs i (decimal f)) (d || same f dash) fs) unread_fields ≡ unread_fields
    go true r q = r q
    go false r q = refl

scan_read : (i : ℕ) (vs : List ℕ) (d : Bool) (fs : List (List ℕ)) → are_fields i fs ≡ true
    → scan_fields i vs d fs ≡ record { formed = true; count = i + length fs; values = sets vs i (numbers fs); dash = any_dash d fs }
unfolding scan_fields are_fields numbers any_dash
scan_read i vs d [] e = ap (λ (k : ℕ). record { formed = true; count = k; values = vs; dash = d }) (sym (add-zero i))
scan_read i vs d (f ∷ fs) e =
    let q = and_both (may_be i f) (are_fields (suc i) fs) e in
    let k : suc i + length fs ≡ i + suc (length fs) = omega arith in
    ap (λ (t : Bool). cond t (scan_fields (suc i) (set vs i (decimal f)) (d || same f dash) fs) unread_fields) q.0
    ∙ scan_read (suc i) (set vs i (decimal f)) (d || same f dash) fs q.1
    ∙ ap (λ (k : ℕ). record { formed = true; count = k; values = sets (set vs i (decimal f)) (suc i) (numbers fs); dash = any_dash (d || same f dash) fs }) k

-- ---- the numbers

length_numbers : (fs : List (List ℕ)) → length (numbers fs) ≡ length fs
unfolding numbers
length_numbers [] = refl
length_numbers (f ∷ fs) = ap suc (length_numbers fs)

get_or_numbers : (fs : List (List ℕ)) (k : ℕ) → get_or (numbers fs) k 0 ≡ num fs k
unfolding numbers num decimal value
get_or_numbers [] k = refl
get_or_numbers (f ∷ fs) zero = refl
get_or_numbers (f ∷ fs) (suc k) = get_or_numbers fs k

get_or_zeros : (n k : ℕ) → ◌≡◌ {A = ℕ} (get_or (replicate n 0) k 0) 0
get_or_zeros zero k = refl
get_or_zeros (suc n) zero = refl
get_or_zeros (suc n) (suc k) = get_or_zeros n k

number_at : (fs : List (List ℕ)) → length fs ≤ 9 → (k : ℕ) → get_or (sets (replicate 9 0) 0 (numbers fs)) k 0 ≡ num fs k
unfolding over
number_at fs h k =
    ap (λ (l : List ℕ). get_or l k 0) laid
    ∙ go (dec_lt k (length (numbers fs)))
  where
    laid : sets (replicate 9 0) 0 (numbers fs) ≡ over (numbers fs) (replicate 9 0)
    laid =
        sets-eq (numbers fs) (replicate 9 0) 0 (omega (arith, length_numbers fs))
        ∙ ap (λ (n : ℕ). numbers fs ++ drop n (replicate 9 0)) (zero-add (length (numbers fs)))

    go : Dec (k < length (numbers fs)) → get_or (over (numbers fs) (replicate 9 0)) k 0 ≡ num fs k
    go (yes p) = get_or_over_in (numbers fs) (replicate 9 0) k 0 p ∙ get_or_numbers fs k
    go (no p) =
        get_or_over_past (numbers fs) (replicate 9 0) k 0 (omega arith) ∙ get_or_zeros 9 k
        ∙ sym (sym (get_or_numbers fs k) ∙ get_or-eq_default (numbers fs) 0 (omega arith))

-- there are at most nine
may_bound : (i : ℕ) (f : List ℕ) → may_be i f ≡ true → (i < 9) × (is_number f || (eqb i 1 && same f dash) ≡ true)
unfolding may_be
may_bound i f e = let q = and_both (ltb i 9) (is_number f || (eqb i 1 && same f dash)) e in (ltb-true i 9 q.0, q.1)

fields_nine : (i : ℕ) (fs : List (List ℕ)) → i ≤ 9 → are_fields i fs ≡ true → i + length fs ≤ 9
unfolding are_fields
fields_nine i [] h e = omega arith
fields_nine i (f ∷ fs) h e =
    let q = and_both (may_be i f) (are_fields (suc i) fs) e in
    let m = (may_bound i f q.0).0 in
    let r = fields_nine (suc i) fs (omega arith) q.1 in
    omega arith

-- ---- "-" among them

-- where it cannot be
may_plain : (i : ℕ) (f : List ℕ) → (i ≡ 1 → ⊥) → may_be i f ≡ true → is_number f ≡ true
may_plain i f n e = go (is_number f) (may_bound i f e).1
  where
    go : (t : Bool) → t || (eqb i 1 && same f dash) ≡ true → t ≡ true
    go true q = refl
    go false q = no_way (sym q ∙ ap (λ (u : Bool). u && same f dash) (ne_eqb i 1 n))

plain : (i : ℕ) (fs : List (List ℕ)) → 2 ≤ i → are_fields i fs ≡ true → all is_number fs ≡ true
unfolding are_fields all
plain i [] h e = refl
plain i (f ∷ fs) h e =
    let q = and_both (may_be i f) (are_fields (suc i) fs) e in
    ap₂ (λ (s t : Bool). s && t) (may_plain i f (λ z. let y : ⊥ = omega arith in y) q.0) (plain (suc i) fs (omega arith) q.1)

none_dash : (d : Bool) (fs : List (List ℕ)) → all is_number fs ≡ true → any_dash d fs ≡ d
unfolding any_dash all
none_dash d [] e = refl
none_dash d (f ∷ fs) e =
    let q = and_both (is_number f) (all is_number fs) e in
    ap (λ (t : Bool). any_dash (d || t) fs) (number_no_dash f q.0) ∙ ap (λ (t : Bool). any_dash t fs) (or-false d) ∙ none_dash d fs q.1

-- all are numbers, or the second is "-" and the others are
by_view : (P : List (List ℕ) → Type 0) → ((fs : List (List ℕ)) → all is_number fs ≡ true → P fs)
    → ((f g : List ℕ) (fs : List (List ℕ)) → is_number f ≡ true → is_number g ≡ false → g ≡ dash → all is_number fs ≡ true → P (f ∷ g ∷ fs))
    → (fs : List (List ℕ)) → are_fields 0 fs ≡ true → P fs
unfolding are_fields all
by_view P p r [] e = p [] refl
by_view P p r (f ∷ []) e =
    let q = and_both (may_be 0 f) true e in
    p (f ∷ []) (ap (λ (t : Bool). t && true) (may_plain 0 f (λ z. let y : ⊥ = omega arith in y) q.0))
by_view P p r (f ∷ g ∷ fs) e =
    let q = and_both (may_be 0 f) (may_be 1 g && are_fields 2 fs) e in
    let m = and_both (may_be 1 g) (are_fields 2 fs) q.1 in
    let a = may_plain 0 f (λ z. let y : ⊥ = omega arith in y) q.0 in
    go (is_number g) refl a (may_bound 1 g m.0).1 (plain 2 fs (omega arith) m.1)
  where
    go : (t : Bool) → is_number g ≡ t → is_number f ≡ true → t || (true && same g dash) ≡ true → all is_number fs ≡ true → P (f ∷ g ∷ fs)
    go true n a m c = p (f ∷ g ∷ fs) (λ i. a i && (n i && c i))
    go false n a m c = r f g fs a n (same_true g dash m) c

-- ---- fields of the kinds that a word asks for may be where they stand

unfoldable ok_kind : ℕ → Kind → Bool
ok_kind i (below bound) = ltb i 9
ok_kind i held = ltb i 9 && eqb i 1

unfoldable ok_kinds : ℕ → List Kind → Bool
ok_kinds i [] = true
ok_kinds i (k ∷ ks) = ok_kind i k && ok_kinds (suc i) ks

word_ok : (w : Word) → ok_kinds 0 (kinds_of w) ≡ true
unfolding ok_kinds ok_kind kinds_of
word_ok Word.Open = refl
word_ok Word.Take = refl
word_ok Word.Plan = refl
word_ok Word.Retire = refl
word_ok Word.Write = refl
word_ok Word.Regen = refl
word_ok Word.Pop = refl
word_ok Word.Park = refl
word_ok Word.Note = refl
word_ok Word.Doomed = refl
word_ok Word.Drain = refl
word_ok Word.Trim = refl
word_ok Word.Forget = refl
word_ok Word.Other = refl

kind_may : (i : ℕ) (k : Kind) (f : List ℕ) → ok_kind i k ≡ true → is_kind k f ≡ true → may_be i f ≡ true
unfolding ok_kind is_kind may_be
kind_may i (below bound) f o e = rw (o, (and_both (is_number f) (ltb (decimal f) bound) e).0)
kind_may i held f o e = let q = and_both (ltb i 9) (eqb i 1) o in rw (q.0, q.1) e

kinds_fields : (i : ℕ) (ks : List Kind) (fs : List (List ℕ)) → ok_kinds i ks ≡ true → are_kinds ks fs ≡ true → are_fields i fs ≡ true
unfolding ok_kinds are_kinds are_fields
kinds_fields i [] [] o e = refl
kinds_fields i [] (f ∷ fs) o e = no_way (sym e)
kinds_fields i (k ∷ ks) [] o e = no_way (sym e)
kinds_fields i (k ∷ ks) (f ∷ fs) o e =
    let p = and_both (ok_kind i k) (ok_kinds (suc i) ks) o in
    let q = and_both (is_kind k f) (are_kinds ks fs) e in
    ap₂ (λ (s t : Bool). s && t) (kind_may i k f p.0 q.0) (kinds_fields (suc i) ks fs p.1 q.1)

-- ---- "-" is the second field

and_false : (a : Bool) → a && false ≡ false
and_false true = refl
and_false false = refl

all_twice : (f : List ℕ) (fs : List (List ℕ)) → is_number f ≡ true → all is_number fs ≡ true → all is_number (f ∷ f ∷ fs) ≡ true
unfolding all
all_twice f fs a c = λ i. a i && (a i && c i)

plan_doubled : (f g : List ℕ) (fs : List (List ℕ)) → is_number f ≡ true → same g dash ≡ true
    → are_kinds (kinds_of Word.Plan) (f ∷ g ∷ fs) ≡ are_kinds (kinds_of Word.Plan) (f ∷ f ∷ fs)
unfolding kinds_of are_kinds is_kind
plan_doubled f g fs a b = rw (a, b, or-true (is_number g))

plan_unlooked : (f g : List ℕ) (fs : List (List ℕ))
    → fits Word.Plan (length (f ∷ f ∷ fs)) (num (f ∷ f ∷ fs)) ≡ fits Word.Plan (length (f ∷ g ∷ fs)) (num (f ∷ g ∷ fs))
unfolding fits limits_of limit_tests num tests after
plan_unlooked f g fs = refl

plan_made : (f g : List ℕ) (fs : List (List ℕ)) → same g dash ≡ true
    → are_kinds (kinds_of Word.Plan) (f ∷ g ∷ fs) ≡ fits Word.Plan (length (f ∷ g ∷ fs)) (num (f ∷ g ∷ fs))
    → event_by Word.Plan (f ∷ g ∷ fs) ≡ dash_made Word.Plan (length (f ∷ g ∷ fs)) (num (f ∷ g ∷ fs))
unfolding event_by dash_made held_by
plan_made f g fs b e = rw (e, b)

not_kinds : (w : Word) (fs : List (List ℕ)) → are_kinds (kinds_of w) fs ≡ false → event_by w fs ≡ Event.Unread
unfolding event_by
not_kinds w fs e = rw e

module _ (f g : List ℕ) (fs : List (List ℕ)) (a : is_number f ≡ true) (b : is_number g ≡ false) (e : g ≡ dash) (c : all is_number fs ≡ true) where
  second : same g dash ≡ true
  second = ap (λ (s : List ℕ). same s dash) e ∙ same_self dash

  -- a number must stand there, or nothing
  nothing : are_kinds [] (f ∷ g ∷ fs) ≡ false
  unfolding are_kinds
  nothing = refl

  short : (k : Kind) → are_kinds (k ∷ []) (f ∷ g ∷ fs) ≡ false
  unfolding are_kinds
  short k = and_false (is_kind k f)

  other : (k : Kind) (bound : ℕ) (ks : List Kind) → are_kinds (k ∷ below bound ∷ ks) (f ∷ g ∷ fs) ≡ false
  unfolding are_kinds is_kind
  other k bound ks = rw b (and_false (is_kind k f))

  plan : are_kinds (kinds_of Word.Plan) (f ∷ g ∷ fs) ≡ fits Word.Plan (length (f ∷ g ∷ fs)) (num (f ∷ g ∷ fs))
  plan = doubled ∙ word_numbers Word.Plan (f ∷ f ∷ fs) twice ∙ unlooked
    where
      twice : all is_number (f ∷ f ∷ fs) ≡ true
      twice = all_twice f fs a c

      doubled : are_kinds (kinds_of Word.Plan) (f ∷ g ∷ fs) ≡ are_kinds (kinds_of Word.Plan) (f ∷ f ∷ fs)
      doubled = plan_doubled f g fs a second

      unlooked : fits Word.Plan (length (f ∷ f ∷ fs)) (num (f ∷ f ∷ fs)) ≡ fits Word.Plan (length (f ∷ g ∷ fs)) (num (f ∷ g ∷ fs))
      unlooked = plan_unlooked f g fs

  unread : (w : Word) → are_kinds (kinds_of w) (f ∷ g ∷ fs) ≡ false → event_by w (f ∷ g ∷ fs) ≡ Event.Unread
  unread w q = not_kinds w (f ∷ g ∷ fs) q

  pub dash_made_lem : (w : Word) → event_by w (f ∷ g ∷ fs) ≡ dash_made w (length (f ∷ g ∷ fs)) (num (f ∷ g ∷ fs))
  unfolding dash_made kinds_of
  dash_made_lem Word.Open = unread Word.Open (short _)
  dash_made_lem Word.Take = unread Word.Take (other _ _ _)
  dash_made_lem Word.Plan = plan_made f g fs second plan
  dash_made_lem Word.Retire = unread Word.Retire (other _ _ _)
  dash_made_lem Word.Write = unread Word.Write (other _ _ _)
  dash_made_lem Word.Regen = unread Word.Regen (short _)
  dash_made_lem Word.Pop = unread Word.Pop (short _)
  dash_made_lem Word.Park = unread Word.Park (other _ _ _)
  dash_made_lem Word.Note = unread Word.Note (short _)
  dash_made_lem Word.Doomed = unread Word.Doomed nothing
  dash_made_lem Word.Drain = unread Word.Drain nothing
  dash_made_lem Word.Trim = unread Word.Trim (short _)
  dash_made_lem Word.Forget = unread Word.Forget (short _)
  dash_made_lem Word.Other = unread Word.Other nothing

  pub dash_any : any_dash false (f ∷ g ∷ fs) ≡ true
  unfolding any_dash
  dash_any = rw (number_no_dash f a, second) (none_dash true fs c)

-- ---- the event

no_second : (fs : List (List ℕ)) → all is_number fs ≡ true → same (get_or fs 1 []) dash ≡ false
unfolding all same
no_second [] e = refl
no_second (f ∷ []) e = refl
no_second (f ∷ g ∷ fs) e = number_no_dash g (and_both (is_number g) (all is_number fs) (and_both (is_number f) (is_number g && all is_number fs) e).1).0

abbrev Made : Word → List (List ℕ) → Type 0
Made w fs = event_by w fs ≡ cond (any_dash false fs) (dash_made w (length fs) (num fs)) (numbers_made w (length fs) (num fs))

plain_made : (w : Word) (fs : List (List ℕ)) → all is_number fs ≡ true → Made w fs
unfolding event_by numbers_made held_by
plain_made w fs p = rw (none_dash false fs p, word_numbers w fs p, no_second fs p)

view_made : (w : Word) (fs : List (List ℕ)) → are_fields 0 fs ≡ true → Made w fs
view_made w fs h = by_view (Made w) (plain_made w) (λ f g gs a b e c. dashed f g gs a b e c) fs h
  where
    dashed : (f g : List ℕ) (gs : List (List ℕ)) → is_number f ≡ true → is_number g ≡ false → g ≡ dash → all is_number gs ≡ true → Made w (f ∷ g ∷ gs)
    dashed f g gs a b e c = rw (dash_any f g gs a b e c) (dash_made_lem f g gs a b e c w)

-- what was read as the event of a word
unfoldable pub checked : Word → Scanned → Event
checked w r = cond r.formed (cond r.dash (dash_made w r.count (λ k. get_or r.values k 0)) (numbers_made w r.count (λ k. get_or r.values k 0))) Event.Unread

checked_event : (w : Word) (fs : List (List ℕ)) → checked w (scan_fields 0 (replicate 9 0) false fs) ≡ event_by w fs
unfolding checked
checked_event w fs = go (are_fields 0 fs) refl
  where
    go : (t : Bool) → are_fields 0 fs ≡ t → checked w (scan_fields 0 (replicate 9 0) false fs) ≡ event_by w fs
    go true e =
        let h = fields_nine 0 fs (omega arith) e in
        let p : (k : ℕ) → get_or (sets (replicate 9 0) 0 (numbers fs)) k 0 ≡ num fs k = λ k. number_at fs (omega arith) k in
        ap (checked w) (scan_read 0 (replicate 9 0) false fs e)
        ∙ ap₂ (λ (n : ℕ → ℕ) (m : ℕ). cond (any_dash false fs) (dash_made w m n) (numbers_made w m n)) (λ i k. p k i) (zero-add (length fs))
        ∙ sym (view_made w fs e)
    go false e =
        ap (checked w) (scan_unread 0 (replicate 9 0) false fs e)
        ∙ sym (not_kinds w fs (not_passed (are_kinds (kinds_of w) fs) (λ q. no_way (sym (kinds_fields 0 (kinds_of w) fs (word_ok w) q) ∙ e))))

-- ---- the first line of a text

module _ (text : List ℕ) (end : ℕ) (w : Word) (s : Starts text end w) where
  ends : end ≡ length (until stops text)
  ends = s.0 ∙ ap length (line_until text)

  pub first_event : (r : Scanned) → r ≡ scan 0 (replicate 9 0) false (drop end text) → checked w r ≡ event_of (first_line text)
  unfolding event_of event
  first_event r e =
      ap (checked w)
      (e ∙ ap (λ (k : ℕ). scan 0 (replicate 9 0) false (drop k text)) ends ∙ scan_behind 0 (replicate 9 0) false text
      ∙ ap (λ (f : List ℕ). scan_fields 0 (replicate 9 0) false (fields_after (drop (length f) (first_line text)))) (sym (line_until text)))
      ∙ checked_event w (fields_after (drop (length (first_field (first_line text))) (first_line text)))
      ∙ ap (λ (v : Word). event_by v (fields_after (drop (length (first_field (first_line text))) (first_line text)))) s.1
      ∙ sym (ap event (fields_first (first_line text)))

  pub first_end : (k : ℕ) → k ≡ end + index_of 10 (drop end text) → k ≡ index_of 10 text
  first_end k e = e ∙ ap (λ (j : ℕ). j + index_of 10 (drop j text)) ends ∙ sym (until_found text)

  pub start_room : end ≤ length text
  start_room = let h = until_length stops text in omega (arith, ends, h)
