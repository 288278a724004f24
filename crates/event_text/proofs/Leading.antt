-- Laws of the digits that a field starts with. Assumes nothing.
use mathlib.Core.Path.{◌≡◌, refl, sym, ap, ap₂, ◌∙◌}
use Rattle.std.proofs.Common.{None}
use Rattle.event_text.proofs.Fields.{got_value, got_end}
use mathlib.Core.Bool.{Bool, true, false, cond, ◌&&◌}
use mathlib.Core.List.{List, [], ◌∷◌}
use Prim.Native.Nat.{ℕ, zero, suc, ◌+◌, ◌≤◌, ◌<◌}
use native.Mathlib.Omega.{arith}
use borrow.Author.Tests.{eq-eqb, ne_eqb, eqb-true}
use lib.Dec.{eqb}
use lib.ListN.{length, drop, get_or, get_or-eq_default}
use lib.Seq.{get_or-drop}
use Rattle.base_blocks.specs.Lists.{all, tests, after}
use Rattle.event_text.specs.Fields.{first_field, field_end}
use Rattle.base_digits.specs.Digits.{is_digit, decimal}
use Rattle.event_text.specs.Numbers.{number_ends, is_number, number_at, leading_digits, digits_at}

pub no_way {ℓ} : {A : Type ℓ} → true ≡ false → A
no_way e = absurd (let z : ◌≡◌ {A = ℕ} 0 1 = cc in let y : ⊥ = omega arith in y)

-- what stands before the first that ends a field
unfoldable pub until : (ℕ → Bool) → List ℕ → List ℕ
until p [] = []
until p (b ∷ bs) = cond (p b) [] (b ∷ until p bs)

-- what stands after the digits that s starts with: a comma where nothing does
abbrev pub next : List ℕ → ℕ
next s = get_or s (length (leading_digits s)) 44

module _ (p : ℕ → Bool) (at-comma : p 44 ≡ true) (apart : (b : ℕ) → p b ≡ true → is_digit b ≡ false) where
  -- they are all of the field
  pub lead_whole : (s : List ℕ) → p (next s) ≡ true → until p s ≡ leading_digits s
  unfolding until leading_digits
  lead_whole [] e = refl
  lead_whole (b ∷ bs) e = go (is_digit b) (p b) refl refl (lead_whole bs) e
    where
      go : (t u : Bool) → is_digit b ≡ t → p b ≡ u → (p (next bs) ≡ true → until p bs ≡ leading_digits bs)
          → p (get_or (b ∷ bs) (length (cond t (b ∷ leading_digits bs) [])) 44) ≡ true
          → cond u [] (b ∷ until p bs) ≡ cond t (b ∷ leading_digits bs) []
      go true true d q r x = no_way (sym d ∙ apart b q)
      go true false d q r x = ap (λ (l : List ℕ). b ∷ l) (r x)
      go false true d q r x = refl
      go false false d q r x = no_way (sym x ∙ q)

  -- it has another byte
  pub lead_parted : (s : List ℕ) → p (next s) ≡ false → all is_digit (until p s) ≡ false
  unfolding until leading_digits all
  lead_parted [] e = no_way (sym at-comma ∙ e)
  lead_parted (b ∷ bs) e = go (is_digit b) (p b) refl refl (lead_parted bs) e
    where
      go : (t u : Bool) → is_digit b ≡ t → p b ≡ u → (p (next bs) ≡ false → all is_digit (until p bs) ≡ false)
          → p (get_or (b ∷ bs) (length (cond t (b ∷ leading_digits bs) [])) 44) ≡ false
          → all is_digit (cond u [] (b ∷ until p bs)) ≡ false
      go true true d q r x = no_way (sym d ∙ apart b q)
      go true false d q r x = ap₂ (λ (v w : Bool). v && w) d (r x)
      go false true d q r x = no_way (sym q ∙ x)
      go false false d q r x = ap (λ (v : Bool). v && all is_digit (until p bs)) d

pub no_digit : (f : List ℕ) → all is_digit f ≡ false → is_number f ≡ false
unfolding is_number tests after
no_digit f e = rw e

pub field_until : (s : List ℕ) → first_field s ≡ until (λ b. eqb b 44) s
unfolding first_field until
field_until [] = refl
field_until (b ∷ bs) = ap (λ (l : List ℕ). cond (eqb b 44) [] (b ∷ l)) (field_until bs)

comma_apart : (b : ℕ) → eqb b 44 ≡ true → is_digit b ≡ false
unfolding is_digit
comma_apart b e = rw (eqb-true b 44 e)

-- ---- what the digits from `at` on are

-- v, which ends at `end`
pub record AreDigits (text : List ℕ) (at v end : ℕ) : Type 0 where
  pub number : is_number (leading_digits (drop at text)) ≡ true
  pub worth : decimal (leading_digits (drop at text)) ≡ v
  pub ends : at + length (leading_digits (drop at text)) ≡ end

module _ (text : List ℕ) (at : ℕ) where
  pub digits_end : (v end : ℕ) → digits_at text at ≡ number_ends v end → AreDigits text at v end
  unfolding digits_at
  digits_end v end e = go (is_number (leading_digits (drop at text))) refl e
    where
      go : (t : Bool) → is_number (leading_digits (drop at text)) ≡ t
          → cond t (number_ends (decimal (leading_digits (drop at text))) (at + length (leading_digits (drop at text)))) None ≡ number_ends v end → AreDigits text at v end
      go true q r = record { number = q; worth = ap got_value r; ends = ap got_end r }
      go false q r = absurd (let z : ◌≡◌ {A = ℕ} 0 1 = cc in let y : ⊥ = omega arith in y)

  pub digits_none : digits_at text at ≡ None → is_number (leading_digits (drop at text)) ≡ false
  unfolding digits_at
  digits_none e = go (is_number (leading_digits (drop at text))) e
    where
      go : (t : Bool) → cond t (number_ends (decimal (leading_digits (drop at text))) (at + length (leading_digits (drop at text)))) None ≡ None → t ≡ false
      go true r = absurd (let z : ◌≡◌ {A = ℕ} 0 1 = cc in let y : ⊥ = omega arith in y)
      go false r = refl

-- what stands after them
pub next_at : (text : List ℕ) (at v end : ℕ) → AreDigits text at v end → next (drop at text) ≡ get_or text end 44
next_at text at v end d =
    get_or-drop at text (length (leading_digits (drop at text))) 44 ∙ ap (λ (k : ℕ). get_or text k 44) d.ends

-- nothing stands at the end, and what stands before it does not depend on that
pub at_end : (text : List ℕ) (i : ℕ) → length text ≤ i → get_or text i 44 ≡ 44
at_end text i h = get_or-eq_default text 44 h

pub inside_same : (text : List ℕ) (i : ℕ) → i < length text → get_or text i 44 ≡ get_or text i 0
inside_same [] i h = absurd (let y : ⊥ = omega arith in y)
inside_same (b ∷ bs) zero h = refl
inside_same (b ∷ bs) (suc i) h = inside_same bs i (omega arith)

-- ---- the field from `at` on

module _ (line : List ℕ) (at : ℕ) where
  whole : eqb (next (drop at line)) 44 ≡ true → first_field (drop at line) ≡ leading_digits (drop at line)
  whole e = field_until (drop at line) ∙ lead_whole (λ b. eqb b 44) refl comma_apart (drop at line) e

  parted : eqb (next (drop at line)) 44 ≡ false → is_number (first_field (drop at line)) ≡ false
  parted e = no_digit (first_field (drop at line)) (ap (all is_digit) (field_until (drop at line)) ∙ lead_parted (λ b. eqb b 44) refl comma_apart (drop at line) e)

  pub field_none : digits_at line at ≡ None → number_at line at ≡ None
  unfolding number_at
  field_none e = ap (λ (t : Bool). cond t (number_ends (decimal (first_field (drop at line))) (field_end line at)) None) (go (eqb (next (drop at line)) 44) refl)
    where
      go : (t : Bool) → eqb (next (drop at line)) 44 ≡ t → is_number (first_field (drop at line)) ≡ false
      go true q = ap is_number (whole q) ∙ digits_none line at e
      go false q = parted q

  module _ (v end : ℕ) (e : digits_at line at ≡ number_ends v end) where
    pub field_ends : get_or line end 44 ≡ 44 → number_ends v end ≡ number_at line at
    unfolding number_at field_end
    field_ends q =
        let d = digits_end line at v end e in
        let w = whole (eq-eqb (next (drop at line)) 44 (next_at line at v end d ∙ q)) in
        sym (rw (w, d.number, d.worth, d.ends))

    pub field_other : (get_or line end 44 ≡ 44 → ⊥) → None ≡ number_at line at
    unfolding number_at
    field_other n =
        let d = digits_end line at v end e in
        sym (ap (λ (t : Bool). cond t (number_ends (decimal (first_field (drop at line))) (field_end line at)) None)
        (parted (ne_eqb (next (drop at line)) 44 (λ q. n (sym (next_at line at v end d) ∙ q)))))
