-- Laws of a byte looked for. Assumes nothing.
use mathlib.Core.Path.{◌≡◌, refl, sym, ap, ◌∙◌}
use mathlib.Core.Bool.{Bool, true, false, cond, ◌||◌}
use mathlib.Core.List.{List, [], ◌∷◌}
use Prim.Native.Nat.{ℕ, zero, suc, ◌+◌, ◌≤◌, ◌<◌}
use Rattle.std.proofs.Common.{add-one}
use native.Mathlib.Omega.{arith}
use borrow.Author.Tests.{eq-eqb, ne_eqb}
use lib.Dec.{eqb}
use lib.ListN.{length, drop, get_or, length-drop}
use lib.Seq.{drop-drop}
use Rattle.base_blocks.proofs.Scans.{from, from_step}
use Rattle.event_text.specs.Searches.{index_of, among}

-- ---- byte by byte

-- what is first looked at passes, or it does not
pub index_hit : (b x : ℕ) (xs : List ℕ) → x ≡ b → index_of b (x ∷ xs) ≡ 0
unfolding index_of
index_hit b x xs e = rw (eq-eqb x b e)

pub index_miss : (b x : ℕ) (xs : List ℕ) → (x ≡ b → ⊥) → index_of b (x ∷ xs) ≡ index_of b xs + 1
unfolding index_of
index_miss b x xs n = rw (ne_eqb x b n) (sym (add-one (index_of b xs)))

pub index_none : (b : ℕ) → index_of b [] ≡ 0
unfolding index_of
index_none b = refl

-- it lies within the list
index_within : (b : ℕ) (s : List ℕ) → index_of b s ≤ length s
unfolding index_of
index_within b [] = omega arith
index_within b (x ∷ xs) = go (eqb x b) (index_within b xs)
  where
    go : (t : Bool) → index_of b xs ≤ length xs → cond t 0 (suc (index_of b xs)) ≤ suc (length xs)
    go true h = omega arith
    go false h = omega arith

pub found_within : (b : ℕ) (s : List ℕ) (from r : ℕ) → from ≤ length s → r ≡ from + index_of b (drop from s) → (from ≤ r) × (r ≤ length s)
found_within b s from r h e = let w = index_within b (drop from s) in (omega arith, omega (arith, length-drop from s))

-- ---- eight at once

-- none of the first k
none_among : (k b : ℕ) (s : List ℕ) → k ≤ length s → among k b s ≡ false → index_of b s ≡ k + index_of b (drop k s)
unfolding among index_of
none_among zero b s h e = let q : index_of b s ≡ 0 + index_of b s = omega arith in q
none_among (suc k) b [] h e = absurd (let y : ⊥ = omega arith in y)
none_among (suc k) b (x ∷ xs) h e = go (eqb x b) (none_among k b xs (omega arith)) e
  where
    go : (t : Bool) → (among k b xs ≡ false → index_of b xs ≡ k + index_of b (drop k xs)) → t || among k b xs ≡ false
        → cond t 0 (suc (index_of b xs)) ≡ suc k + index_of b (drop k xs)
    go true r q = absurd (let z : ◌≡◌ {A = ℕ} 0 1 = cc in let y : ⊥ = omega arith in y)
    go false r q = let g = r q in omega arith

-- one of the next k is b
one_among : (k b : ℕ) (s : List ℕ) → k ≤ length s → among k b s ≡ true → index_of b s < length s
unfolding among index_of
one_among zero b s h e = absurd (let z : ◌≡◌ {A = ℕ} 0 1 = cc in let y : ⊥ = omega arith in y)
one_among (suc k) b [] h e = absurd (let y : ⊥ = omega arith in y)
one_among (suc k) b (x ∷ xs) h e = go (eqb x b) (one_among k b xs (omega arith)) e
  where
    go : (t : Bool) → (among k b xs ≡ true → index_of b xs < length xs) → t || among k b xs ≡ true → cond t 0 (suc (index_of b xs)) < suc (length xs)
    go true r q = omega arith
    go false r q = let g = r q in omega arith

module _ (b i : ℕ) (s : List ℕ) (room : i + 8 ≤ length s) where
  pub found_eight : among 8 b (drop i s) ≡ false → i + index_of b (drop i s) ≡ i + 8 + index_of b (drop (i + 8) s)
  found_eight e =
      let g = none_among 8 b (drop i s) (omega (arith, length-drop i s)) e in
      let q : i + (8 + index_of b (drop 8 (drop i s))) ≡ i + 8 + index_of b (drop 8 (drop i s)) = omega arith in
      ap (λ (k : ℕ). i + k) g ∙ q ∙ ap (λ (l : List ℕ). i + 8 + index_of b l) (drop-drop 8 i s)

  pub found_known : among 8 b (drop i s) ≡ true → i + index_of b (drop i s) < length s
  found_known e = let g = one_among 8 b (drop i s) (omega (arith, length-drop i s)) e in omega (arith, length-drop i s)

  -- the tests of a turn, as the code joins them
  eight_read : from i s ≡ get_or s i 0 ∷ get_or s (i + 1) 0 ∷ get_or s (i + 2) 0 ∷ get_or s (i + 3) 0 ∷ get_or s (i + 4) 0 ∷ get_or s (i + 5) 0 ∷ get_or s (i + 6) 0 ∷ get_or s (i + 7) 0
      ∷ from (i + 8) s
  eight_read =
      one i (i + 1) (omega arith) (omega arith)
      ∙ ap (λ (l : List ℕ). get_or s i 0 ∷ l) (one (i + 1) (i + 2) (omega arith) (omega arith)
      ∙ ap (λ (l : List ℕ). get_or s (i + 1) 0 ∷ l) (one (i + 2) (i + 3) (omega arith) (omega arith)
      ∙ ap (λ (l : List ℕ). get_or s (i + 2) 0 ∷ l) (one (i + 3) (i + 4) (omega arith) (omega arith)
      ∙ ap (λ (l : List ℕ). get_or s (i + 3) 0 ∷ l) (one (i + 4) (i + 5) (omega arith) (omega arith)
      ∙ ap (λ (l : List ℕ). get_or s (i + 4) 0 ∷ l) (one (i + 5) (i + 6) (omega arith) (omega arith)
      ∙ ap (λ (l : List ℕ). get_or s (i + 5) 0 ∷ l) (one (i + 6) (i + 7) (omega arith) (omega arith)
      ∙ ap (λ (l : List ℕ). get_or s (i + 6) 0 ∷ l) (one (i + 7) (i + 8) (omega arith) (omega arith))))))))
    where
      one : (j k : ℕ) → j + 1 ≡ k → j < length s → from j s ≡ get_or s j 0 ∷ from k s
      one j k e h = from_step j k s e h

  pub among_eight : eqb (get_or s i 0) b || eqb (get_or s (i + 1) 0) b || eqb (get_or s (i + 2) 0) b || eqb (get_or s (i + 3) 0) b
      || eqb (get_or s (i + 4) 0) b || eqb (get_or s (i + 5) 0) b || eqb (get_or s (i + 6) 0) b || eqb (get_or s (i + 7) 0) b ≡ among 8 b (drop i s)
  unfolding among from
  among_eight =
      sym (ap (among 8 b) eight_read
      ∙ joined (eqb (get_or s i 0) b) (eqb (get_or s (i + 1) 0) b) (eqb (get_or s (i + 2) 0) b) (eqb (get_or s (i + 3) 0) b)
      (eqb (get_or s (i + 4) 0) b) (eqb (get_or s (i + 5) 0) b) (eqb (get_or s (i + 6) 0) b) (eqb (get_or s (i + 7) 0) b))
    where
      joined : (p q r t u v w x : Bool) → p || (q || (r || (t || (u || (v || (w || (x || false))))))) ≡ p || q || r || t || u || v || w || x
      joined true q r t u v w x = refl
      joined false true r t u v w x = refl
      joined false false true t u v w x = refl
      joined false false false true u v w x = refl
      joined false false false false true v w x = refl
      joined false false false false false true w x = refl
      joined false false false false false false true x = refl
      joined false false false false false false false true = refl
      joined false false false false false false false false = refl
