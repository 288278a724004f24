-- Laws of text put into a buffer piece by piece. Assumes nothing.
use mathlib.Core.Path.{◌≡◌, refl, sym, ap, ap₂, ◌∙◌, subst}
use mathlib.Core.List.{List, [], ◌∷◌, ◌++◌, flat_map}
use Prim.Native.Nat.{ℕ, suc, ◌+◌, ◌≤◌, ◌<◌}
use native.Mathlib.Numerals.{add-one}
use native.Mathlib.Nat.{add_assoc}
use native.Mathlib.Omega.{arith}
use lib.ListN.{length, set, length-append}
use lib.Seq.{sets}
use Rattle.base_blocks.proofs.Listed.{left, left_step, left_none}
use Rattle.base_digits.specs.Digits.{digits_of}
use Rattle.base_digits.specs.Put.{Put}
use Rattle.base_digits.proofs.Printing.{digits_room}
use Rattle.base_digits.proofs.ShortNumbers.{sets_append}

module _ {a b : List ℕ} {i j : ℕ} {xs : List ℕ} where
  pub put_as : {ys : List ℕ} → xs ≡ ys → Put a i xs j b → Put a i ys j b
  put_as e p = subst (λ (l : List ℕ). Put a i l j b) e p

  pub put_then : {c : List ℕ} {k : ℕ} {ys : List ℕ} → Put a i xs j b → Put b j ys k c → Put a i (xs ++ ys) k c
  put_then {ys = ys} p q = record {
    ends = q.ends ∙ ap (λ (m : ℕ). m + length ys) p.ends ∙ add_assoc i (length xs) (length ys) ∙ ap (λ (m : ℕ). i + m) (sym (length-append xs ys));
    makes = q.makes ∙ ap₂ (λ (l : List ℕ) (m : ℕ). sets l m ys) p.makes p.ends ∙ sets_append a i xs ys;
  }

  -- a byte in front
  pub put_before : {x : ℕ} → Put (set a i x) (i + 1) xs j b → Put a i (x ∷ xs) j b
  put_before {x = x} p = record {
    ends = p.ends ∙ (let e : i + 1 + length xs ≡ i + suc (length xs) = omega arith in e);
    makes = p.makes ∙ ap (λ (k : ℕ). sets (set a i x) k xs) (add-one i);
  }

  -- a byte behind it, or two
  pub put_after : (x : ℕ) → Put a i xs j b → Put a i (xs ++ (x ∷ [])) (j + 1) (set b j x)
  put_after x p = put_then p (record { ends = refl; makes = refl })

  pub put_after_two : (x y : ℕ) → Put a i xs j b → Put a i (xs ++ (x ∷ y ∷ [])) (j + 2) (set (set b j x) (j + 1) y)
  put_after_two x y p = put_then p (record { ends = refl; makes = ap (λ (k : ℕ). set (set b j x) k y) (add-one j) })

-- ---- the rows of a list, one by one: those before i are put, and with those from i on all are

module _ {A : Type 0} (rows : A → List ℕ) (f : ℕ → A) (n : ℕ) where
  abbrev rest : ℕ → List ℕ
  rest i = flat_map rows (left f n i)

  pub record PutTo (a : List ℕ) (at i : ℕ) (b : List ℕ) (end : ℕ) : Type 0 where
    pub ends : end + length (rest i) ≡ at + length (rest 0)
    pub makes : sets b end (rest i) ≡ sets a at (rest 0)

  pub put_none : (a : List ℕ) (at : ℕ) → PutTo a at 0 a at
  put_none a at = record { ends = refl; makes = refl }

  module _ {a b : List ℕ} {at i end : ℕ} where
    pub put_next : {c : List ℕ} {k : ℕ} → i < n → PutTo a at i b end → Put b end (rows (f i)) k c → PutTo a at (i + 1) c k
    unfolding flat_map
    put_next {c} {k} h p q =
        let x = rows (f i) in
        let y = rest (i + 1) in
        let s : rest i ≡ x ++ y = ap (flat_map rows) (left_step f n i h) in
        let l : length (rest i) ≡ length x + length y = ap length s ∙ length-append x y in
        record {
          ends = (let e : k + length y ≡ at + length (rest 0) = omega (arith, p.ends, q.ends, l) in e);
          makes = ap₂ (λ (m : List ℕ) (j : ℕ). sets m j y) q.makes q.ends ∙ sets_append b end x y ∙ ap (sets b end) (sym s) ∙ p.makes;
        }

    pub put_all : n ≤ i → PutTo a at i b end → Put a at (rest 0) end b
    unfolding flat_map
    put_all h p =
        let s : rest i ≡ [] = ap (flat_map rows) (left_none f n i h) in
        record {
          ends = (let e : end ≡ at + length (rest 0) = omega (arith, p.ends, ap length s) in e);
          makes = ap (sets b end) (sym s) ∙ p.makes;
        }

-- ---- as contracts say it

pub text_put : (a : List ℕ) (i : ℕ) (xs : List ℕ) {j : ℕ} {b : List ℕ} → (j ≡ i + length xs) × (b ≡ sets a i xs) → Put a i xs j b
text_put a i xs p = record { ends = p.0; makes = p.1 }

pub number_put : (a : List ℕ) (i n : ℕ) {j : ℕ} {b : List ℕ} → (j ≡ i + length (digits_of n)) × (b ≡ sets a i (digits_of n)) → Put a i (digits_of n) j b
number_put a i n p = text_put a i (digits_of n) p

-- a number has at most twenty digits
pub number_most : (i j n : ℕ) → j ≡ i + length (digits_of n) → j ≤ i + 20
number_most i j n e = omega (arith, e, digits_room n)
