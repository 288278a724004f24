-- Laws of the fields of a line read one after the other from the bytes of a text. Assumes nothing.
use mathlib.Core.Path.{◌≡◌, refl, sym, ap, ap₂, ◌∙◌}
use mathlib.Core.Bool.{Bool, true, false, cond, not, ◌&&◌, ◌||◌, or-true, or-false}
use mathlib.Core.List.{List, [], ◌∷◌}
use Prim.Native.Nat.{ℕ, suc, ◌+◌, ◌≤◌, ◌<◌}
use native.Mathlib.Numerals.{add-one}
use native.Mathlib.Nat.{add-zero}
use native.Mathlib.Decide.{dec_lt}
use native.Mathlib.Omega.{arith}
use borrow.Author.Tests.{eq-eqb, ne_eqb, eqb-true, lt-ltb, le-ltb}
use lib.Dec.{eqb, ltb}
use lib.ListN.{length, drop, get_or, set, get_or-eq_default}
use lib.Seq.{drop-cons, drop-drop, get_or-drop}
use Rattle.base_blocks.specs.Lists.{all, tests, after}
use Rattle.base_blocks.proofs.Lists.{not_passed, default_free}
use Rattle.event_text.specs.Fields.{first_line, fields_after, same, fields_of, dash}
use Rattle.base_digits.specs.Digits.{is_digit, value, decimal}
use Rattle.event_text.specs.Numbers.{is_number, leading_digits}
use Rattle.event_text.specs.Searches.{index_of}
use Rattle.event_text.proofs.Fields.{fields_first, same_true}
use Rattle.event_text.proofs.Leading.{no_way, until, next, lead_whole, lead_parted, no_digit, AreDigits}
use Rattle.event_text.proofs.FirstLines.{stops, stops_apart, line_until, digits_found}
use Rattle.event_lines.specs.Reading.{Scanned, unread_fields, may_be, scan_fields, scan}

-- ---- one field

dash_none : is_number dash ≡ false
unfolding is_number tests after all is_digit
dash_none = refl

-- a number is not "-"
pub number_no_dash : (f : List ℕ) → is_number f ≡ true → same f dash ≡ false
number_no_dash f h = not_passed (same f dash) (λ e. let q : true ≡ false = sym h ∙ ap is_number (same_true f dash e) ∙ dash_none in no_way q)

may_number : (i : ℕ) (f : List ℕ) → i < 9 → is_number f ≡ true → may_be i f ≡ true
unfolding may_be
may_number i f h e = rw (lt-ltb i 9 h, e)

and_false : (t : Bool) → t && false ≡ false
and_false true = refl
and_false false = refl

may_none : (i : ℕ) (f : List ℕ) → is_number f ≡ false → eqb i 1 && same f dash ≡ false → may_be i f ≡ false
unfolding may_be
may_none i f e q = rw (e, q) (and_false (ltb i 9))

none_empty : is_number [] ≡ false
unfolding is_number tests after all
none_empty = refl

dash_no_digit : is_digit 45 ≡ false
unfolding is_digit
dash_no_digit = refl

-- ---- what stands after a field

-- all of the line
abbrev pub formed : ℕ → List ℕ → Bool → Scanned
formed i vs d = record { formed = true; count = i; values = vs; dash = d }

pub scan_behind : (i : ℕ) (vs : List ℕ) (d : Bool) (s : List ℕ)
    → scan i vs d (drop (length (until stops s)) s) ≡ scan_fields i vs d (fields_after (drop (length (until stops s)) (first_line s)))
unfolding until scan scan_fields first_line fields_after
scan_behind i vs d [] = refl
scan_behind i vs d (b ∷ bs) = go (eqb b 44) (eqb b 10) refl refl (scan_behind i vs d bs)
  where
    go : (t u : Bool) → eqb b 44 ≡ t → eqb b 10 ≡ u
        → scan i vs d (drop (length (until stops bs)) bs) ≡ scan_fields i vs d (fields_after (drop (length (until stops bs)) (first_line bs)))
        → scan i vs d (drop (length (cond (t || u) [] (b ∷ until stops bs))) (b ∷ bs))
        ≡ scan_fields i vs d (fields_after (drop (length (cond (t || u) [] (b ∷ until stops bs))) (cond u [] (b ∷ first_line bs))))
    go true true p q r = absurd (let x = eqb-true b 44 p in let y = eqb-true b 10 q in let z : ⊥ = omega arith in z)
    go true false p q r = rw (q, p)
    go false true p q r = rw q
    go false false p q r = r

-- another field
scan_comma : (i : ℕ) (vs : List ℕ) (d : Bool) (s : List ℕ) → scan i vs d (44 ∷ s)
    ≡ cond (may_be i (until stops s)) (scan (suc i) (set vs i (decimal (until stops s))) (d || same (until stops s) dash) (drop (length (until stops s)) s)) unread_fields
unfolding scan scan_fields
scan_comma i vs d s =
    ap (scan_fields i vs d) (fields_first (first_line s))
    ∙ ap (λ (f : List ℕ). scan_fields i vs d (f ∷ fields_after (drop (length f) (first_line s)))) (line_until s)
    ∙ ap (λ (r : Scanned). cond (may_be i (until stops s)) r unread_fields)
    (sym (scan_behind (suc i) (set vs i (decimal (until stops s))) (d || same (until stops s) dash) s))

-- no end of a field
pub scan_other : (i : ℕ) (vs : List ℕ) (d : Bool) (u : List ℕ) → stops (get_or u 0 44) ≡ false → scan i vs d u ≡ unread_fields
unfolding scan
scan_other i vs d [] e = no_way e
scan_other i vs d (b ∷ bs) e = go (eqb b 44) (eqb b 10) e
  where
    go : (t u : Bool) → t || u ≡ false → cond u (formed i vs d) (cond t (scan_fields i vs d (fields_of (first_line bs))) unread_fields) ≡ unread_fields
    go true u e = no_way e
    go false true e = no_way e
    go false false e = refl

-- the line's end
scan_ended : (i : ℕ) (vs : List ℕ) (d : Bool) (u : List ℕ) → eqb (get_or u 0 10) 10 ≡ true → scan i vs d u ≡ formed i vs d
unfolding scan
scan_ended i vs d [] e = refl
scan_ended i vs d (b ∷ bs) e = rw e

-- ---- the field after a comma

-- it starts with a digit
digit_no_dash : (s : List ℕ) → is_number (leading_digits s) ≡ true → same (until stops s) dash ≡ false
unfolding until leading_digits same
digit_no_dash [] e = refl
digit_no_dash (b ∷ bs) e = go (is_digit b) (eqb b 44 || eqb b 10) (eqb b 45) refl refl e
  where
    go : (t u v : Bool) → is_digit b ≡ t → eqb b 45 ≡ v → is_number (cond t (b ∷ leading_digits bs) []) ≡ true
        → same (cond u [] (b ∷ until stops bs)) dash ≡ false
    go false u v p q r = no_way (sym r ∙ none_empty)
    go true true v p q r = refl
    go true false true p q r = no_way (sym p ∙ ap is_digit (eqb-true b 45 q) ∙ dash_no_digit)
    go true false false p q r = rw q

-- it does not start with "-"
other_no_dash : (s : List ℕ) → eqb (get_or s 0 0) 45 ≡ false → same (until stops s) dash ≡ false
unfolding until same
other_no_dash [] e = refl
other_no_dash (b ∷ bs) e = go (eqb b 44 || eqb b 10)
  where
    go : (u : Bool) → same (cond u [] (b ∷ until stops bs)) dash ≡ false
    go true = refl
    go false = rw e

until_none : (s : List ℕ) → stops (get_or s 0 44) ≡ true → until stops s ≡ []
unfolding until
until_none [] e = refl
until_none (b ∷ bs) e = rw e

until_some : (s : List ℕ) → stops (get_or s 0 44) ≡ false → same (45 ∷ until stops s) dash ≡ false
unfolding until same
until_some [] e = no_way e
until_some (b ∷ bs) e = rw e

until_dash : (s : List ℕ) → until stops (45 ∷ s) ≡ 45 ∷ until stops s
unfolding until
until_dash s = refl

dash_first : (s : List ℕ) → all is_digit (45 ∷ s) ≡ false
unfolding all is_digit
dash_first s = refl

dash_read : (vs : List ℕ) (d : Bool) (s : List ℕ)
    → cond (may_be 1 dash) (scan 2 (set vs 1 (decimal dash)) (d || same dash dash) (drop 1 (45 ∷ s))) unread_fields ≡ scan 2 (set vs 1 0) true s
unfolding may_be is_number tests after all is_digit same decimal value
dash_read vs d s = ap (λ (t : Bool). scan 2 (set vs 1 0) t s) (or-true d)

module _ (i : ℕ) (vs : List ℕ) (d : Bool) (s : List ℕ) where
  -- a number, or what is none
  pub scan_number : is_number (leading_digits s) ≡ true → i < 9
      → scan i vs d (44 ∷ s) ≡ scan (suc i) (set vs i (decimal (leading_digits s))) d (drop (length (leading_digits s)) s)
  scan_number e h = scan_comma i vs d s ∙ go (stops (next s)) refl
    where
      go : (t : Bool) → stops (next s) ≡ t
          → cond (may_be i (until stops s)) (scan (suc i) (set vs i (decimal (until stops s))) (d || same (until stops s) dash) (drop (length (until stops s)) s)) unread_fields
          ≡ scan (suc i) (set vs i (decimal (leading_digits s))) d (drop (length (leading_digits s)) s)
      go true q =
          ap (λ (f : List ℕ). cond (may_be i f) (scan (suc i) (set vs i (decimal f)) (d || same f dash) (drop (length f) s)) unread_fields)
          (lead_whole stops refl stops_apart s q)
          ∙ rw (may_number i (leading_digits s) h e, number_no_dash (leading_digits s) e, or-false d)
      go false q =
          let n : is_number (until stops s) ≡ false = no_digit (until stops s) (lead_parted stops refl stops_apart s q) in
          let k : ℕ = length (leading_digits s) in
          let a : get_or (drop (length (leading_digits s)) s) 0 44 ≡ next s =
          get_or-drop (length (leading_digits s)) s 0 44 ∙ ap (λ (j : ℕ). get_or s j 44) (add-zero (length (leading_digits s))) in
          ap (λ (t : Bool). cond t (scan (suc i) (set vs i (decimal (until stops s))) (d || same (until stops s) dash) (drop (length (until stops s)) s)) unread_fields)
          (may_none i (until stops s) n (rw (digit_no_dash s e) (and_false (eqb i 1))))
          ∙ sym (scan_other (suc i) (set vs i (decimal (leading_digits s))) d (drop (length (leading_digits s)) s) (ap stops a ∙ q))

  none : is_number (leading_digits s) ≡ false → is_number (until stops s) ≡ false
  none e = go (stops (next s)) refl
    where
      go : (t : Bool) → stops (next s) ≡ t → is_number (until stops s) ≡ false
      go true q = ap is_number (lead_whole stops refl stops_apart s q) ∙ e
      go false q = no_digit (until stops s) (lead_parted stops refl stops_apart s q)

  pub scan_none : is_number (leading_digits s) ≡ false → not (eqb i 1) || not (eqb (get_or s 0 0) 45) ≡ true → scan i vs d (44 ∷ s) ≡ unread_fields
  scan_none e t =
      scan_comma i vs d s
      ∙ ap (λ (t : Bool). cond t (scan (suc i) (set vs i (decimal (until stops s))) (d || same (until stops s) dash) (drop (length (until stops s)) s)) unread_fields)
      (may_none i (until stops s) (none e) (go (eqb i 1) (eqb (get_or s 0 0) 45) refl t))
    where
      go : (t u : Bool) → eqb (get_or s 0 0) 45 ≡ u → not t || not u ≡ true → t && same (until stops s) dash ≡ false
      go true true q r = no_way (sym r)
      go true false q r = other_no_dash s q
      go false u q r = refl

scan_many : (i : ℕ) (vs : List ℕ) (d : Bool) (s : List ℕ) → 9 ≤ i → scan i vs d (44 ∷ s) ≡ unread_fields
unfolding may_be
scan_many i vs d s h =
    scan_comma i vs d s
    ∙ ap (λ (t : Bool). cond (t && (is_number (until stops s) || (eqb i 1 && same (until stops s) dash)))
    (scan (suc i) (set vs i (decimal (until stops s))) (d || same (until stops s) dash) (drop (length (until stops s)) s)) unread_fields) (le-ltb i 9 h)

-- "-" is field 1, or what starts with it is no field
dash_field : (vs : List ℕ) (d : Bool) (s : List ℕ) → scan 1 vs d (44 ∷ 45 ∷ s) ≡ scan 2 (set vs 1 0) true s
dash_field vs d s = scan_comma 1 vs d (45 ∷ s) ∙ ap (λ (f : List ℕ). read f) opened ∙ go (stops (get_or s 0 44)) refl
  where
    read : List ℕ → Scanned
    read f = cond (may_be 1 f) (scan 2 (set vs 1 (decimal f)) (d || same f dash) (drop (length f) (45 ∷ s))) unread_fields

    opened : until stops (45 ∷ s) ≡ 45 ∷ until stops s
    opened = until_dash s

    go : (t : Bool) → stops (get_or s 0 44) ≡ t → read (45 ∷ until stops s) ≡ scan 2 (set vs 1 0) true s
    go true q = ap (λ (l : List ℕ). read (45 ∷ l)) (until_none s q) ∙ dash_read vs d s
    go false q =
        ap (λ (t : Bool). cond t (scan 2 (set vs 1 (decimal (45 ∷ until stops s))) (d || same (45 ∷ until stops s) dash) (drop (length (45 ∷ until stops s)) (45 ∷ s))) unread_fields)
        (may_none 1 (45 ∷ until stops s) (no_digit (45 ∷ until stops s) (dash_first (until stops s))) (until_some s q))
        ∙ sym (scan_other 2 (set vs 1 0) true s q)

module _ (i : ℕ) (vs : List ℕ) (d : Bool) where
  pub scan_dash : (s : List ℕ) → not (eqb i 1) || not (eqb (get_or s 0 0) 45) ≡ false → scan i vs d (44 ∷ s) ≡ scan (suc i) (set vs i 0) true (drop 1 s)
  scan_dash [] t = no_way (sym (or-true (not (eqb i 1))) ∙ t)
  scan_dash (b ∷ bs) t = go (eqb i 1) (eqb b 45) refl refl t
    where
      go : (x y : Bool) → eqb i 1 ≡ x → eqb b 45 ≡ y → not x || not y ≡ false → scan i vs d (44 ∷ b ∷ bs) ≡ scan (suc i) (set vs i 0) true bs
      go true true p q r =
          ap₂ (λ (j c : ℕ). scan j vs d (44 ∷ c ∷ bs)) (eqb-true i 1 p) (eqb-true b 45 q) ∙ dash_field vs d bs
          ∙ ap (λ (j : ℕ). scan (suc j) (set vs j 0) true bs) (sym (eqb-true i 1 p))
      go true false p q r = no_way r
      go false y p q r = no_way r

-- ---- the same at a place of the text

module _ (text : List ℕ) (end : ℕ) where
  pub comma_inside : eqb (get_or text end 0) 44 ≡ true → end < length text
  comma_inside e = go (dec_lt end (length text))
    where
      go : Dec (end < length text) → end < length text
      go (yes p) = p
      go (no p) = absurd (let a : get_or text end 0 ≡ 0 = get_or-eq_default text 0 (omega arith) in let c = eqb-true (get_or text end 0) 44 e in let y : ⊥ = omega arith in y)

  pub is_dash : (i : ℕ) → not (eqb i 1) || not (eqb (get_or text end 0) 45) ≡ false → get_or text end 0 ≡ 45
  is_dash i e = go (eqb i 1) (eqb (get_or text end 0) 45) refl e
    where
      go : (x y : Bool) → eqb (get_or text end 0) 45 ≡ y → not x || not y ≡ false → get_or text end 0 ≡ 45
      go true true q r = eqb-true (get_or text end 0) 45 q
      go true false q r = no_way r
      go false y q r = no_way r

  pub dash_inside : (i : ℕ) → not (eqb i 1) || not (eqb (get_or text end 0) 45) ≡ false → end < length text
  dash_inside i e = go (dec_lt end (length text))
    where
      go : Dec (end < length text) → end < length text
      go (yes p) = p
      go (no p) = absurd (let a : get_or text end 0 ≡ 0 = get_or-eq_default text 0 (omega arith) in let c = is_dash i e in let y : ⊥ = omega arith in y)

  head_at : (x : ℕ) → get_or (drop end text) 0 x ≡ get_or text end x
  head_at x = get_or-drop end text 0 x ∙ ap (λ (k : ℕ). get_or text k x) (add-zero end)

  module _ (i : ℕ) (vs : List ℕ) (d : Bool) where
    -- the line ends here
    pub at_line_end : eqb (get_or text end 10) 10 ≡ true → scan i vs d (drop end text) ≡ formed i vs d
    at_line_end e = scan_ended i vs d (drop end text) (ap (λ (b : ℕ). eqb b 10) (head_at 10) ∙ e)

    -- nothing does
    pub at_other : eqb (get_or text end 0) 44 ≡ false → eqb (get_or text end 10) 10 ≡ false → scan i vs d (drop end text) ≡ unread_fields
    at_other c e = scan_other i vs d (drop end text) (ap stops (head_at 44) ∙ go (dec_lt end (length text)))
      where
        go : Dec (end < length text) → stops (get_or text end 44) ≡ false
        go (yes p) =
            ap₂ (λ (x y : Bool). x || y)
            (ap (λ (b : ℕ). eqb b 44) (default_free text end 44 0 p) ∙ c)
            (ap (λ (b : ℕ). eqb b 10) (default_free text end 44 10 p) ∙ e)
        go (no p) = no_way (sym (eq-eqb (get_or text end 10) 10 (get_or-eq_default text 10 (omega arith))) ∙ e)

    module _ (here : eqb (get_or text end 0) 44 ≡ true) where
      opened : drop end text ≡ 44 ∷ drop (end + 1) text
      opened =
          drop-cons text end 0 (comma_inside here)
          ∙ ap₂ (λ (b k : ℕ). b ∷ drop k text) (eqb-true (get_or text end 0) 44 here) (sym (add-one end))

      pub at_number : (v last : ℕ) → AreDigits text (end + 1) v last → i < 9 → scan i vs d (drop end text) ≡ scan (i + 1) (set vs i v) d (drop last text)
      at_number v last a h =
          let s : List ℕ = drop (end + 1) text in
          ap (scan i vs d) opened ∙ scan_number i vs d (drop (end + 1) text) a.number h
          ∙ ap₂ (λ (w : ℕ) (u : List ℕ). scan (suc i) (set vs i w) d u) a.worth
          (drop-drop (length (leading_digits (drop (end + 1) text))) (end + 1) text ∙ ap (λ (k : ℕ). drop k text) a.ends)
          ∙ ap (λ (j : ℕ). scan j (set vs i v) d (drop last text)) (sym (add-one i))

      -- nine were read before
      pub at_many : 9 ≤ i → scan i vs d (drop end text) ≡ unread_fields
      at_many h = ap (scan i vs d) opened ∙ scan_many i vs d (drop (end + 1) text) h

      pub at_none : is_number (leading_digits (drop (end + 1) text)) ≡ false → not (eqb i 1) || not (eqb (get_or text (end + 1) 0) 45) ≡ true
          → scan i vs d (drop end text) ≡ unread_fields
      at_none n t =
          ap (scan i vs d) opened
          ∙ scan_none i vs d (drop (end + 1) text) n (ap (λ (b : ℕ). not (eqb i 1) || not (eqb b 45)) (get_or-drop (end + 1) text 0 0 ∙ ap (λ (k : ℕ). get_or text k 0) (add-zero (end + 1))) ∙ t)

      pub at_dash : not (eqb i 1) || not (eqb (get_or text (end + 1) 0) 45) ≡ false
          → scan i vs d (drop end text) ≡ scan (i + 1) (set vs i 0) true (drop (end + 1 + 1) text)
      at_dash t =
          ap (scan i vs d) opened
          ∙ scan_dash i vs d (drop (end + 1) text) (ap (λ (b : ℕ). not (eqb i 1) || not (eqb b 45)) (get_or-drop (end + 1) text 0 0 ∙ ap (λ (k : ℕ). get_or text k 0) (add-zero (end + 1))) ∙ t)
          ∙ ap₂ (λ (j : ℕ) (u : List ℕ). scan j (set vs i 0) true u) (sym (add-one i)) (drop-drop 1 (end + 1) text)

-- ---- where the line ends

-- as looked for from i on
abbrev pub line_end_from : ℕ → List ℕ → ℕ
line_end_from i text = i + index_of 10 (drop i text)

module _ (text : List ℕ) (i : ℕ) where
  pub end_other : i < length text → (get_or text i 0 ≡ 10 → ⊥) → line_end_from i text ≡ line_end_from (i + 1) text
  unfolding index_of
  end_other h n =
      ap (λ (u : List ℕ). i + index_of 10 u) (drop-cons text i 0 h ∙ ap (λ (k : ℕ). get_or text i 0 ∷ drop k text) (sym (add-one i)))
      ∙ ap (λ (t : Bool). i + cond t 0 (suc (index_of 10 (drop (i + 1) text)))) (ne_eqb (get_or text i 0) 10 n)
      ∙ (let e : i + suc (index_of 10 (drop (i + 1) text)) ≡ i + 1 + index_of 10 (drop (i + 1) text) = omega arith in e)

  pub end_comma : eqb (get_or text i 0) 44 ≡ true → line_end_from i text ≡ line_end_from (i + 1) text
  end_comma e = end_other (comma_inside text i e) (λ q. let c = eqb-true (get_or text i 0) 44 e in let y : ⊥ = omega arith in y)

  pub end_dash : (k : ℕ) → not (eqb k 1) || not (eqb (get_or text i 0) 45) ≡ false → line_end_from i text ≡ line_end_from (i + 1) text
  end_dash k e = end_other (dash_inside text i k e) (λ q. let c = is_dash text i k e in let y : ⊥ = omega arith in y)

  pub end_digits : (v last : ℕ) → AreDigits text i v last → line_end_from i text ≡ line_end_from last text
  end_digits v last a =
      let k : ℕ = length (leading_digits (drop i text)) in
      ap (λ (j : ℕ). i + j) (digits_found (drop i text))
      ∙ (let e : i + (length (leading_digits (drop i text)) + index_of 10 (drop (length (leading_digits (drop i text))) (drop i text)))
      ≡ i + length (leading_digits (drop i text)) + index_of 10 (drop (length (leading_digits (drop i text))) (drop i text)) = omega arith in e)
      ∙ ap₂ (λ (j : ℕ) (u : List ℕ). j + index_of 10 u) a.ends
      (drop-drop (length (leading_digits (drop i text))) i text ∙ ap (λ (j : ℕ). drop j text) a.ends)

  pub end_here : eqb (get_or text i 10) 10 ≡ true → line_end_from i text ≡ i
  unfolding index_of
  end_here e = go (drop i text) (get_or-drop i text 0 10 ∙ ap (λ (k : ℕ). get_or text k 10) (add-zero i) ∙ eqb-true (get_or text i 10) 10 e)
    where
      go : (u : List ℕ) → get_or u 0 10 ≡ 10 → i + index_of 10 u ≡ i
      go [] q = add-zero i
      go (b ∷ bs) q = rw (eq-eqb b 10 q) (add-zero i)
