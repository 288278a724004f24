-- Laws of scans of a list of numbers. Assumes nothing.
use Rattle.std.proofs.Common.{◌≡◌, ℕ, zero, suc, ◌+◌, ◌<◌, ◌≤◌, max, Bool, true, false, ◌&&◌, ◌||◌, eqb, leb, List, [], ◌∷◌, ◌++◌, length, get_or, take, drop, sym, refl, ap, ◌∙◌, ap₂, add-one, arith, take-append-drop, drop_of_length-le, drop-cons, drop-drop, eq-eqb, eqb-true, le-leb, leb-true}
use Rattle.std.specs.List.{list_any}
use native.Mathlib.Nat.{max-zero}
use native.Mathlib.Decide.{dec_lt}
use Rattle.base_blocks.specs.Lists.{all}
use Rattle.base_blocks.specs.Blocks.{at_most, member, largest}
use Rattle.base_blocks.proofs.Lists.{and_both, all_append}

-- ---- a loop over a list: those from i on

unfoldable pub from : ℕ → List ℕ → List ℕ
from i s = drop i s

pub from_all : (s : List ℕ) → from 0 s ≡ s
unfolding from
from_all s = refl

pub from_step : (i j : ℕ) (s : List ℕ) → i + 1 ≡ j → i < length s → from i s ≡ get_or s i 0 ∷ from j s
unfolding from
from_step i j s e h = drop-cons s i 0 h ∙ ap (λ (k : ℕ). get_or s i 0 ∷ drop k s) (sym (add-one i) ∙ e)

pub from_none : (i : ℕ) (s : List ℕ) → length s ≤ i → from i s ≡ []
unfolding from
from_none i s h = drop_of_length-le s h

-- the next w, and those past them
from_block : (w i : ℕ) (s : List ℕ) → from i s ≡ take w (drop i s) ++ from (i + w) s
unfolding from
from_block w i s = sym (take-append-drop w (drop i s)) ∙ ap (λ (l : List ℕ). take w (drop i s) ++ l) (drop-drop w i s)

-- the next four, one by one
pub four_read : (i : ℕ) (s : List ℕ) → i + 4 ≤ length s → take 4 (drop i s) ≡ get_or s i 0 ∷ get_or s (i + 1) 0 ∷ get_or s (i + 2) 0 ∷ get_or s (i + 3) 0 ∷ []
unfolding from
four_read i s h =
    ap (take 4)
    (from_step i (i + 1) s refl (omega arith)
    ∙ ap (λ (l : List ℕ). get_or s i 0 ∷ l) (from_step (i + 1) (i + 2) s (omega arith) (omega arith)
    ∙ ap (λ (l : List ℕ). get_or s (i + 1) 0 ∷ l) (from_step (i + 2) (i + 3) s (omega arith) (omega arith)
    ∙ ap (λ (l : List ℕ). get_or s (i + 2) 0 ∷ l) (from_step (i + 3) (i + 4) s (omega arith) (omega arith)))))

-- ---- a test of every number

module _ (p : ℕ → Bool) (i : ℕ) (s : List ℕ) where
  pub all_more : i < length s → p (get_or s i 0) ≡ true → all p (from i s) ≡ all p (from (i + 1) s)
  unfolding all
  all_more h t = rw (from_step i (i + 1) s refl h, t)

  pub all_stop : i < length s → p (get_or s i 0) ≡ false → all p (from i s) ≡ false
  unfolding all
  all_stop h t = rw (from_step i (i + 1) s refl h, t)

  pub all_done : length s ≤ i → all p (from i s) ≡ true
  unfolding all
  all_done h = rw (from_none i s h)

  module _ (w : ℕ) where
    all_block : all p (from i s) ≡ all p (take w (drop i s)) && all p (from (i + w) s)
    all_block = ap (all p) (from_block w i s) ∙ all_append p (take w (drop i s)) (from (i + w) s)

    -- w of them pass, or one does not
    pub all_block_more : all p (take w (drop i s)) ≡ true → all p (from i s) ≡ all p (from (i + w) s)
    all_block_more e = all_block ∙ ap (λ (b : Bool). b && all p (from (i + w) s)) e

    pub all_block_stop : all p (take w (drop i s)) ≡ false → all p (from i s) ≡ false
    all_block_stop e = all_block ∙ ap (λ (b : Bool). b && all p (from (i + w) s)) e

  -- the four tests of a turn, as the code joins them
  pub all_four_read : i + 4 ≤ length s → p (get_or s i 0) && p (get_or s (i + 1) 0) && p (get_or s (i + 2) 0) && p (get_or s (i + 3) 0) ≡ all p (take 4 (drop i s))
  unfolding all
  all_four_read h = sym (ap (all p) (four_read i s h) ∙ joined (p (get_or s i 0)) (p (get_or s (i + 1) 0)) (p (get_or s (i + 2) 0)) (p (get_or s (i + 3) 0)))
    where
      joined : (a b c d : Bool) → a && (b && (c && (d && true))) ≡ a && b && c && d
      joined true true true true = refl
      joined true true true false = refl
      joined true true false d = refl
      joined true false c d = refl
      joined false b c d = refl

-- ---- a number looked for

pub member_append : (b : ℕ) (xs ys : List ℕ) → member b (xs ++ ys) ≡ member b xs || member b ys
unfolding member
member_append b [] ys = refl
member_append b (x ∷ xs) ys = ap (λ (t : Bool). eqb x b || t) (member_append b xs ys) ∙ or_assoc (eqb x b) (member b xs) (member b ys)
  where
    or_assoc : (a c d : Bool) → a || (c || d) ≡ a || c || d
    or_assoc true c d = refl
    or_assoc false c d = refl

-- as std has it
pub member_any : (b : ℕ) (xs : List ℕ) → list_any (λ y. eqb y b) xs ≡ member b xs
unfolding member
member_any b [] = refl
member_any b (x ∷ xs) = ap (λ (t : Bool). eqb x b || t) (member_any b xs)

module _ (b i : ℕ) (s : List ℕ) where
  member_four : member b (from i s) ≡ member b (take 4 (drop i s)) || member b (from (i + 4) s)
  member_four = ap (member b) (from_block 4 i s) ∙ member_append b (take 4 (drop i s)) (from (i + 4) s)

  pub member_four_more : member b (take 4 (drop i s)) ≡ false → member b (from i s) ≡ member b (from (i + 4) s)
  member_four_more e = member_four ∙ ap (λ (t : Bool). t || member b (from (i + 4) s)) e

  pub member_four_stop : member b (take 4 (drop i s)) ≡ true → member b (from i s) ≡ true
  member_four_stop e = member_four ∙ ap (λ (t : Bool). t || member b (from (i + 4) s)) e

  pub member_four_read : i + 4 ≤ length s
      → eqb (get_or s i 0) b || eqb (get_or s (i + 1) 0) b || eqb (get_or s (i + 2) 0) b || eqb (get_or s (i + 3) 0) b ≡ member b (take 4 (drop i s))
  unfolding member
  member_four_read h = sym (ap (member b) (four_read i s h) ∙ joined (eqb (get_or s i 0) b) (eqb (get_or s (i + 1) 0) b) (eqb (get_or s (i + 2) 0) b) (eqb (get_or s (i + 3) 0) b))
    where
      joined : (a c d e : Bool) → a || (c || (d || (e || false))) ≡ a || c || d || e
      joined false false false false = refl
      joined false false false true = refl
      joined false false true e = refl
      joined false true d e = refl
      joined true c d e = refl

-- ---- the largest

pub largest_more : (m i : ℕ) (s : List ℕ) → i < length s → max m (largest (from i s)) ≡ max (max m (get_or s i 0)) (largest (from (i + 1) s))
unfolding largest
largest_more m i s h = ap (λ (l : List ℕ). max m (largest l)) (from_step i (i + 1) s refl h) ∙ (let e : max m (max (get_or s i 0) (largest (from (i + 1) s))) ≡ max (max m (get_or s i 0)) (largest (from (i + 1) s)) = omega arith in e)

pub largest_done : (m i : ℕ) (s : List ℕ) → length s ≤ i → max m (largest (from i s)) ≡ m
unfolding largest
largest_done m i s h = ap (λ (l : List ℕ). max m (largest l)) (from_none i s h) ∙ max-zero m

-- every number is at most the largest
pub largest_bound : (s : List ℕ) (i : ℕ) → get_or s i 0 ≤ largest s
unfolding largest
largest_bound [] i = omega arith
largest_bound (x ∷ xs) zero = omega arith
largest_bound (x ∷ xs) (suc i) = let e = largest_bound xs i in omega arith

-- x stands at some index of s
pub record Found (s : List ℕ) (x : ℕ) : Type 0 where
  pub index : ℕ
  pub inside : index < length s
  pub here : get_or s index 0 ≡ x

pub member_found : (b : ℕ) (s : List ℕ) → member b s ≡ true → Found s b
unfolding member
member_found b [] e = absurd (let z : ◌≡◌ {A = ℕ} 0 1 = cc in let y : ⊥ = omega arith in y)
member_found b (x ∷ xs) e = go (eqb x b) refl (λ f. member_found b xs f)
  where
    go : (t : Bool) → eqb x b ≡ t → (member b xs ≡ true → Found xs b) → Found (x ∷ xs) b
    go true q r = record { index = 0; inside = omega arith; here = eqb-true x b q }
    go false q r = let m = r (rw q at e) in record { index = suc m.index; inside = omega (arith, m.inside); here = m.here }

pub found_member : (b : ℕ) (s : List ℕ) → Found s b → member b s ≡ true
unfolding member
found_member b s f = go s f.index f.inside f.here
  where
    or_true : (a : Bool) → a || true ≡ true
    or_true true = refl
    or_true false = refl

    go : (s : List ℕ) (i : ℕ) → i < length s → get_or s i 0 ≡ b → member b s ≡ true
    go [] i h e = absurd (let y : ⊥ = omega arith in y)
    go (x ∷ xs) zero h e = ap (λ (t : Bool). t || member b xs) (eq-eqb x b e)
    go (x ∷ xs) (suc i) h e = ap (λ (t : Bool). eqb x b || t) (go xs i (omega arith) e) ∙ or_true (eqb x b)

-- the largest of some numbers is one of them
pub largest_found : (s : List ℕ) → 0 < length s → Found s (largest s)
unfolding largest
largest_found [] h = absurd (let y : ⊥ = omega arith in y)
largest_found (x ∷ []) h = record { index = 0; inside = omega arith; here = sym (max-zero x) }
largest_found (x ∷ y ∷ ys) h = go (dec_lt x (largest (y ∷ ys))) (largest_found (y ∷ ys) (omega arith))
  where
    go : Dec (x < largest (y ∷ ys)) → Found (y ∷ ys) (largest (y ∷ ys)) → Found (x ∷ y ∷ ys) (max x (largest (y ∷ ys)))
    go (yes q) r = record { index = suc r.index; inside = omega (arith, r.inside); here = r.here ∙ (let e : largest (y ∷ ys) ≡ max x (largest (y ∷ ys)) = omega arith in e) }
    go (no q) r = record { index = 0; inside = omega arith; here = let e : x ≡ max x (largest (y ∷ ys)) = omega arith in e }

pub largest_le : (b : ℕ) (s : List ℕ) → all (at_most b) s ≡ true → largest s ≤ b
unfolding largest all at_most
largest_le b [] e = omega arith
largest_le b (x ∷ xs) e =
    let q = and_both (leb x b) (all (at_most b) xs) e in
    let h = leb-true x b q.0 in
    let k = largest_le b xs q.1 in
    omega arith

pub all_within_lem : (b : ℕ) (s : List ℕ) → largest s ≤ b → all (at_most b) s ≡ true
unfolding largest all at_most
all_within_lem b [] h = refl
all_within_lem b (x ∷ xs) h = ap₂ (λ (t u : Bool). t && u) (le-leb x b (omega arith)) (all_within_lem b xs (omega arith))

pub le_largest : (b : ℕ) (s : List ℕ) → member b s ≡ true → b ≤ largest s
le_largest b s e = let f = member_found b s e in let h = largest_bound s f.index in let k = f.here in omega arith

-- none passes b and b is one of them: b is the largest
pub largest_is : (b : ℕ) (s : List ℕ) → all (at_most b) s ≡ true → member b s ≡ true → largest s ≡ b
largest_is b s e f = let h = largest_le b s e in let k = le_largest b s f in omega arith

-- that b is the largest is the two scans together
pub largest_test : (b : ℕ) (s : List ℕ) → 0 < length s → eqb (largest s) b ≡ (all (at_most b) s && member b s)
largest_test b s h = go (all (at_most b) s) refl (member b s) refl
  where
    -- a test that fails refutes what would make it pass
    refuted : (a : Bool) → (eqb (largest s) b ≡ true → a ≡ true) → (t : Bool) → eqb (largest s) b ≡ t → a ≡ false → t ≡ false
    refuted a f true e g = absurd (let z = f e in let n : ◌≡◌ {A = ℕ} 0 1 = cc in let y : ⊥ = omega arith in y)
    refuted a f false e g = refl

    go : (a : Bool) → all (at_most b) s ≡ a → (c : Bool) → member b s ≡ c → eqb (largest s) b ≡ a && c
    go true e true f = eq-eqb (largest s) b (largest_is b s e f)
    go true e false f = refuted (member b s) (λ t. ap (λ x. member x s) (sym (eqb-true (largest s) b t)) ∙ found_member (largest s) s (largest_found s h)) (eqb (largest s) b) refl f
    go false e c f = refuted (all (at_most b) s) (λ t. let q = eqb-true (largest s) b t in all_within_lem b s (omega arith)) (eqb (largest s) b) refl e
