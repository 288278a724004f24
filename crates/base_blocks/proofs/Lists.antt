-- Laws of lists: laid over, removed, inserted, tests and sums of the elements. Assumes nothing.
use Rattle.std.proofs.Common.{◌≡◌, ℕ, zero, suc, ◌+◌, ◌-◌, ◌<◌, ◌≤◌, Bool, true, false, cond, ◌&&◌, ltb, List, [], ◌∷◌, ◌++◌, length, get_or, take, drop, sym, refl, ap, ◌∙◌, ap₂, true≢false, append_assoc, add-zero, zero-add, arith, length-append, length-drop, take-append-drop, length-take-le, get_or-drop, drop-drop, get_or-append-add, ltb-true}
use lib.ListN.{get_or-append}
use lib.Seq.{take-append-le, drop-append-add, drop-append_seam}
use Rattle.base_blocks.specs.Lists.{over, removed, inserted, all, keep, total, ascending, after, tests}

-- ---- xs laid over the front of s

module _ {ℓ} {A : Type ℓ} (xs s : List A) where
  pub length_over : length xs ≤ length s → length (over xs s) ≡ length s
  unfolding over
  length_over h = simp (length-append, length-drop) (omega arith)

  pub take_over : (n : ℕ) → n ≤ length xs → take n (over xs s) ≡ take n xs
  unfolding over
  take_over n h = take-append-le n xs (drop (length xs) s) h

  pub drop_over : (n : ℕ) → length xs ≤ n → drop n (over xs s) ≡ drop n s
  unfolding over
  drop_over n h =
      let e : length xs + (n - length xs) ≡ n = omega arith in
      ap (λ (m : ℕ). drop m (xs ++ drop (length xs) s)) (sym e)
      ∙ drop-append-add xs (drop (length xs) s) (n - length xs)
      ∙ drop-drop (n - length xs) (length xs) s
      ∙ ap (λ (m : ℕ). drop m s) e

  pub get_or_over_in : (i : ℕ) (d : A) → i < length xs → get_or (over xs s) i d ≡ get_or xs i d
  unfolding over
  get_or_over_in i d h = get_or-append xs (drop (length xs) s) d i h

  pub get_or_over_past : (i : ℕ) (d : A) → length xs ≤ i → get_or (over xs s) i d ≡ get_or s i d
  unfolding over
  get_or_over_past i d h =
      let e : length xs + (i - length xs) ≡ i = omega arith in
      ap (λ (m : ℕ). get_or (xs ++ drop (length xs) s) m d) (sym e)
      ∙ get_or-append-add xs (drop (length xs) s) (i - length xs) d
      ∙ get_or-drop (length xs) s (i - length xs) d
      ∙ ap (λ (m : ℕ). get_or s m d) e

  -- what stands there already
  pub over_self : (t : List A) → s ≡ xs ++ t → over xs s ≡ s
  unfolding over
  over_self t e = ap (λ (l : List A). xs ++ l) (ap (drop (length xs)) e ∙ drop-append_seam xs t) ∙ sym e

-- xs and then ys laid over: ys laid over what stands past xs
pub over_append {ℓ} : {A : Type ℓ} (xs ys s : List A) → over (xs ++ ys) s ≡ xs ++ over ys (drop (length xs) s)
unfolding over
over_append {A = A} xs ys s =
    append_assoc xs ys (drop (length (xs ++ ys)) s)
    ∙ ap (λ (l : List A). xs ++ (ys ++ l)) (ap (λ (n : ℕ). drop n s) (length-append xs ys) ∙ sym (drop-drop (length ys) (length xs) s))

pub over_nothing {ℓ} : {A : Type ℓ} (o : List A) → over [] o ≡ o
unfolding over
over_nothing o = refl

-- ---- removed and inserted

module _ {ℓ} {A : Type ℓ} (i : ℕ) (xs : List A) where
  pub removed_none : i ≤ length xs → removed i 0 xs ≡ xs
  unfolding removed
  removed_none h = ap (λ (k : ℕ). take i xs ++ drop k xs) (add-zero i) ∙ take-append-drop i xs

  pub length_removed : (k : ℕ) → i + k ≤ length xs → length (removed i k xs) ≡ length xs - k
  unfolding removed
  length_removed k h =
      let f = length-take-le i xs (omega arith) in
      length-append (take i xs) (drop (i + k) xs) ∙ (let e : length (take i xs) + length (drop (i + k) xs) ≡ length xs - k = omega (arith, length-drop (i + k) xs) in e)

  module _ (ys : List A) where
    pub length_inserted : i ≤ length xs → length (inserted i ys xs) ≡ length xs + length ys
    unfolding inserted
    length_inserted h =
        let f = length-take-le i xs h in
        length-append (take i xs) (ys ++ drop i xs) ∙ ap (λ (n : ℕ). length (take i xs) + n) (length-append ys (drop i xs))
        ∙ (let e : length (take i xs) + (length ys + length (drop i xs)) ≡ length xs + length ys = omega (arith, length-drop i xs) in e)

-- ---- tests of every element, and sums over them

pub and_both : (a b : Bool) → a && b ≡ true → (a ≡ true) × (b ≡ true)
and_both true b e = (refl, e)
and_both false b e = absurd (true≢false (sym e))

pub and_assoc : (a b c : Bool) → a && b && c ≡ a && (b && c)
and_assoc true b c = refl
and_assoc false b c = refl

module _ {ℓ} {A : Type ℓ} (p : A → Bool) where
  pub all_append : (xs ys : List A) → all p (xs ++ ys) ≡ all p xs && all p ys
  unfolding all
  all_append [] ys = refl
  all_append (x ∷ xs) ys = ap (λ (b : Bool). p x && b) (all_append xs ys) ∙ sym (and_assoc (p x) (all p xs) (all p ys))

  -- what holds of every one holds of the one at i
  pub all_get : (xs : List A) (i : ℕ) (d : A) → all p xs ≡ true → i < length xs → p (get_or xs i d) ≡ true
  unfolding all
  all_get [] i d e h = absurd (let y : ⊥ = omega arith in y)
  all_get (x ∷ xs) zero d e h = (and_both (p x) (all p xs) e).0
  all_get (x ∷ xs) (suc i) d e h = all_get xs i d (and_both (p x) (all p xs) e).1 (omega arith)

  -- and what holds of each holds of every one
  pub all_from : (xs : List A) (d : A) → ((i : ℕ) → i < length xs → p (get_or xs i d) ≡ true) → all p xs ≡ true
  unfolding all
  all_from [] d h = refl
  all_from (x ∷ xs) d h = ap₂ (λ (a b : Bool). a && b) (h 0 (omega arith)) (all_from xs d (λ i q. h (suc i) (omega arith)))

  pub keep_append : (xs ys : List A) → keep p (xs ++ ys) ≡ keep p xs ++ keep p ys
  unfolding keep
  keep_append [] ys = refl
  keep_append (x ∷ xs) ys = go (p x) (keep_append xs ys)
    where
      go : (b : Bool) → keep p (xs ++ ys) ≡ keep p xs ++ keep p ys
          → cond b (x ∷ keep p (xs ++ ys)) (keep p (xs ++ ys)) ≡ cond b (x ∷ keep p xs) (keep p xs) ++ keep p ys
      go true e = ap (λ (l : List A). x ∷ l) e
      go false e = e

  pub length_keep : (xs : List A) → length (keep p xs) ≤ length xs
  unfolding keep
  length_keep [] = omega arith
  length_keep (x ∷ xs) = go (p x) (length_keep xs)
    where
      go : (b : Bool) → length (keep p xs) ≤ length xs → length (cond b (x ∷ keep p xs) (keep p xs)) ≤ suc (length xs)
      go true h = omega arith
      go false h = omega arith

module _ {ℓ} {A : Type ℓ} (f : A → ℕ) where
  pub total_append : (xs ys : List A) → total f (xs ++ ys) ≡ total f xs + total f ys
  unfolding total
  total_append [] ys = sym (zero-add (total f ys))
  total_append (x ∷ xs) ys = let e = total_append xs ys in omega arith

  -- each is at most the sum
  pub total_get : (xs : List A) (i : ℕ) (d : A) → i < length xs → f (get_or xs i d) ≤ total f xs
  unfolding total
  total_get [] i d h = absurd (let y : ⊥ = omega arith in y)
  total_get (x ∷ xs) zero d h = omega arith
  total_get (x ∷ xs) (suc i) d h = let e = total_get xs i d (omega arith) in omega arith

-- ---- ascending

module _ {ℓ} {A : Type ℓ} (f : A → ℕ) where
  -- an earlier one is below a later one
  pub ascending_get : (xs : List A) (i j : ℕ) (d : A) → ascending f xs ≡ true → i < j → j < length xs → f (get_or xs i d) < f (get_or xs j d)
  unfolding ascending
  ascending_get [] i j d e h k = absurd (let y : ⊥ = omega arith in y)
  ascending_get (x ∷ []) i j d e h k = absurd (let y : ⊥ = omega arith in y)
  ascending_get (x ∷ y ∷ xs) zero zero d e h k = absurd (let y : ⊥ = omega arith in y)
  ascending_get (x ∷ y ∷ xs) zero (suc zero) d e h k = ltb-true (f x) (f y) (and_both (ltb (f x) (f y)) (ascending f (y ∷ xs)) e).0
  ascending_get (x ∷ y ∷ xs) zero (suc (suc j)) d e h k =
      let q = and_both (ltb (f x) (f y)) (ascending f (y ∷ xs)) e in
      let a = ltb-true (f x) (f y) q.0 in
      let b = ascending_get (y ∷ xs) zero (suc j) d q.1 (omega arith) (omega arith) in
      omega arith
  ascending_get (x ∷ y ∷ xs) (suc i) zero d e h k = absurd (let y : ⊥ = omega arith in y)
  ascending_get (x ∷ y ∷ xs) (suc i) (suc j) d e h k = ascending_get (y ∷ xs) i j d (and_both (ltb (f x) (f y)) (ascending f (y ∷ xs)) e).1 (omega arith) (omega arith)

-- ---- a list of tests that passes

after_start : (a : Bool) (bs : List Bool) → after a bs ≡ true → a ≡ true
unfolding after
after_start a [] e = e
after_start a (b ∷ bs) e = (and_both a b (after_start (a && b) bs e)).0

after_all : (a : Bool) (bs : List Bool) → after a bs ≡ true → (k : ℕ) → get_or bs k true ≡ true
unfolding after
after_all a [] e k = refl
after_all a (b ∷ bs) e zero = (and_both a b (after_start (a && b) bs e)).1
after_all a (b ∷ bs) e (suc k) = after_all (a && b) bs e k

-- test k of a list that passes
pub passed : (bs : List Bool) → tests bs ≡ true → (k : ℕ) → get_or bs k true ≡ true
unfolding tests
passed bs e k = after_all true bs e k

-- a list passes where each of its tests does
pub pass : (bs : List Bool) → ((k : ℕ) → k < length bs → get_or bs k true ≡ true) → tests bs ≡ true
unfolding tests after
pass bs h = go true bs refl h
  where
    go : (a : Bool) (bs : List Bool) → a ≡ true → ((k : ℕ) → k < length bs → get_or bs k true ≡ true) → after a bs ≡ true
    go a [] e h = e
    go a (b ∷ bs) e h = go (a && b) bs (ap₂ (λ (c d : Bool). c && d) e (h 0 (omega arith))) (λ k q. h (suc k) (omega arith))

-- ---- choices and tables

-- a property of either branch
pub either {ℓ} : {A : Type ℓ} (P : A → Type 0) (b : Bool) (x y : A) → (b ≡ true → P x) → (b ≡ false → P y) → P (cond b x y)
either P true x y f g = f refl
either P false x y f g = g refl

-- a test that does not pass fails
pub not_passed : (b : Bool) → (b ≡ true → ⊥) → b ≡ false
not_passed true h = absurd (h refl)
not_passed false h = refl

-- a property of a table's entries and of what stands for those past its end is one of every entry
pub entry {ℓ} : {A : Type ℓ} (p : A → Bool) (xs : List A) (i : ℕ) (d : A) → all p xs ≡ true → p d ≡ true → p (get_or xs i d) ≡ true
unfolding all
entry p [] i d e h = h
entry p (x ∷ xs) zero d e h = (and_both (p x) (all p xs) e).0
entry p (x ∷ xs) (suc i) d e h = entry p xs i d (and_both (p x) (all p xs) e).1 h

-- within a table nothing stands for an entry
pub default_free {ℓ} : {A : Type ℓ} (xs : List A) (i : ℕ) (d e : A) → i < length xs → get_or xs i d ≡ get_or xs i e
default_free [] i d e h = absurd (let y : ⊥ = omega arith in y)
default_free (x ∷ xs) zero d e h = refl
default_free (x ∷ xs) (suc i) d e h = default_free xs i d e (omega arith)
