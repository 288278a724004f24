-- Laws of the order by parking number, then id: it parts at any line, and those parked at the line stand as they stood. Assumes nothing.
use mathlib.Core.Path.{◌≡◌, refl, sym, ap, ◌∙◌}
use mathlib.Core.Bool.{Bool, true, false, cond}
use mathlib.Core.List.{List, [], ◌∷◌, ◌++◌}
use Prim.Native.Nat.{ℕ, suc, ◌+◌, ◌≤◌, ◌<◌}
use native.Mathlib.Decide.{dec_lt}
use native.Mathlib.Omega.{arith}
use lib.Dec.{ltb, eqb}
use borrow.Author.Tests.{lt-ltb, le-ltb, le-leb, eq-eqb, ne_eqb, ltb-true, eqb-true}
use Rattle.base_blocks.specs.Lists.{keep, total}
use Rattle.base_blocks.specs.All.{All, nil, cons}
use Rattle.base_blocks.proofs.All.{all_both, all_mono, all_keep, all_kept}
use Rattle.pool_rules.proofs.Lists.{all_pairs}
use Rattle.pool_rules.specs.NoteAllocated.{Aged, not_after, insert_aged, by_age, count_of}
use Rattle.pool_relief_line.specs.Line.{bytes_of_aged, is_before, is_at, bytes_before}

-- ---- one put in

module _ (a : Aged) where
  -- before those that it does not come after
  insert_left : (xs ys : List Aged) → All (λ (b : Aged). not_after a b ≡ true) ys → insert_aged a (xs ++ ys) ≡ insert_aged a xs ++ ys
  unfolding insert_aged
  insert_left [] [] h = refl
  insert_left [] (y ∷ ys) (cons e h) = rw e
  insert_left (x ∷ xs) ys h = go (not_after a x) (insert_left xs ys h)
    where
      go : (b : Bool) → insert_aged a (xs ++ ys) ≡ insert_aged a xs ++ ys
          → cond b (a ∷ x ∷ xs ++ ys) (x ∷ insert_aged a (xs ++ ys)) ≡ cond b (a ∷ x ∷ xs) (x ∷ insert_aged a xs) ++ ys
      go true e = refl
      go false e = ap (λ (l : List Aged). x ∷ l) e

  -- past those that it comes after
  insert_right : (xs ys : List Aged) → All (λ (b : Aged). not_after a b ≡ false) xs → insert_aged a (xs ++ ys) ≡ xs ++ insert_aged a ys
  unfolding insert_aged
  insert_right [] ys h = refl
  insert_right (x ∷ xs) ys (cons e h) = rw e (ap (λ (l : List Aged). x ∷ l) (insert_right xs ys h))

  all_insert : {P : Aged → Type 0} → P a → {xs : List Aged} → All P xs → All P (insert_aged a xs)
  unfolding insert_aged
  all_insert p nil = cons p nil
  all_insert {P = P} p (cons {x = x} {xs = xs} q qs) = go (not_after a x) (all_insert p qs)
    where
      go : (b : Bool) → All P (insert_aged a xs) → All P (cond b (a ∷ x ∷ xs) (x ∷ insert_aged a xs))
      go true r = cons p (cons q qs)
      go false r = cons q r

  total_insert : (f : Aged → ℕ) (xs : List Aged) → total f (insert_aged a xs) ≡ f a + total f xs
  unfolding insert_aged total
  total_insert f [] = refl
  total_insert f (x ∷ xs) = go (not_after a x) (total_insert f xs)
    where
      go : (b : Bool) → total f (insert_aged a xs) ≡ f a + total f xs → total f (cond b (a ∷ x ∷ xs) (x ∷ insert_aged a xs)) ≡ f a + (f x + total f xs)
      go true e = refl
      go false e = omega arith

-- ---- all of them

pub all_sorted : {P : Aged → Type 0} {xs : List Aged} → All P xs → All P (by_age xs)
unfolding by_age
all_sorted nil = nil
all_sorted (cons {x = x} p ps) = all_insert x p (all_sorted ps)

pub total_sorted : (f : Aged → ℕ) (xs : List Aged) → total f (by_age xs) ≡ total f xs
unfolding by_age total
total_sorted f [] = refl
total_sorted f (x ∷ xs) = total_insert x f (by_age xs) ∙ ap (λ (n : ℕ). f x + n) (total_sorted f xs)

abbrev count_one : ℕ → Aged → ℕ
count_one id a = cond (eqb a.id id) 1 0

count_total : (id : ℕ) (xs : List Aged) → count_of id xs ≡ total (count_one id) xs
unfolding count_of total
count_total id [] = refl
count_total id (x ∷ xs) = go (eqb x.id id) (count_total id xs)
  where
    go : (b : Bool) → count_of id xs ≡ total (count_one id) xs → cond b (suc (count_of id xs)) (count_of id xs) ≡ cond b 1 0 + total (count_one id) xs
    go true e = omega arith
    go false e = omega arith

pub count_sorted : (id : ℕ) (xs : List Aged) → count_of id (by_age xs) ≡ count_of id xs
count_sorted id xs = count_total id (by_age xs) ∙ total_sorted (count_one id) xs ∙ sym (count_total id xs)

-- ---- parted at a line

module _ (line : ℕ) where
  abbrev pub is_after : Aged → Bool
  is_after a = ltb line a.parked

  earlier : (a b : Aged) → a.parked < b.parked → not_after a b ≡ true
  earlier a b h = rw (lt-ltb a.parked b.parked h)

  later : (a b : Aged) → b.parked < a.parked → not_after a b ≡ false
  later a b h = rw (le-ltb a.parked b.parked (omega arith), ne_eqb a.parked b.parked (λ e. omega arith))

  abbrev Before : Aged → Type 0
  Before a = a.parked < line

  abbrev At : Aged → Type 0
  At a = a.parked ≡ line

  abbrev After : Aged → Type 0
  After a = line < a.parked

  -- those parked before the line, at it and after it, each in order
  abbrev low : List Aged → List Aged
  low xs = by_age (keep (is_before line) xs)

  abbrev middle : List Aged → List Aged
  middle xs = by_age (keep (is_at line) xs)

  abbrev high : List Aged → List Aged
  high xs = by_age (keep is_after xs)

  all_low : (xs : List Aged) → All Before (low xs)
  all_low xs = all_sorted (all_kept (is_before line) xs (λ a e. ltb-true a.parked line e))

  all_middle : (xs : List Aged) → All At (middle xs)
  all_middle xs = all_sorted (all_kept (is_at line) xs (λ a e. eqb-true a.parked line e))

  all_high : (xs : List Aged) → All After (high xs)
  all_high xs = all_sorted (all_kept is_after xs (λ a e. ltb-true line a.parked e))

  pub sorted_parted : (xs : List Aged) → by_age xs ≡ low xs ++ (middle xs ++ high xs)
  unfolding by_age keep
  sorted_parted [] = refl
  sorted_parted (x ∷ xs) = ap (insert_aged x) (sorted_parted xs) ∙ go (dec_lt x.parked line)
    where
      upper : Dec (line < x.parked) → line ≤ x.parked → insert_aged x (low xs ++ (middle xs ++ high xs)) ≡ low (x ∷ xs) ++ (middle (x ∷ xs) ++ high (x ∷ xs))
      upper (yes h) _ =
          rw (le-ltb x.parked line (omega arith), ne_eqb x.parked line (λ e. omega arith), lt-ltb line x.parked h)
          (insert_right x (low xs) (middle xs ++ high xs) (all_mono (λ b q. later x b (omega arith)) (all_low xs))
          ∙ ap (λ (l : List Aged). low xs ++ l) (insert_right x (middle xs) (high xs) (all_mono (λ b q. later x b (omega arith)) (all_middle xs))))
      upper (no h) k =
          rw (le-ltb x.parked line k, eq-eqb x.parked line (omega arith), le-ltb line x.parked (omega arith))
          (insert_right x (low xs) (middle xs ++ high xs) (all_mono (λ b q. later x b (omega arith)) (all_low xs))
          ∙ ap (λ (l : List Aged). low xs ++ l) (insert_left x (middle xs) (high xs) (all_mono (λ b q. earlier x b (omega arith)) (all_high xs))))

      go : Dec (x.parked < line) → insert_aged x (low xs ++ (middle xs ++ high xs)) ≡ low (x ∷ xs) ++ (middle (x ∷ xs) ++ high (x ∷ xs))
      go (yes h) =
          rw (lt-ltb x.parked line h, ne_eqb x.parked line (λ e. omega arith), le-ltb line x.parked (omega arith))
          (insert_left x (low xs) (middle xs ++ high xs)
          (all_both (all_mono (λ b q. earlier x b (omega arith)) (all_middle xs)) (all_mono (λ b q. earlier x b (omega arith)) (all_high xs))))
      go (no h) = upper (dec_lt line x.parked) (omega arith)

-- none is parked past the last submission
pub none_after : (line b : ℕ) (xs : List Aged) → All (λ (a : Aged). a.parked ≤ b) xs → b ≤ line → keep (is_after line) xs ≡ []
unfolding keep
none_after line b [] h k = refl
none_after line b (x ∷ xs) (cons q h) k = rw (le-ltb line x.parked (omega arith)) (none_after line b xs h k)

-- the bytes before the next line
pub bytes_next : (line : ℕ) (xs : List Aged) → bytes_before (suc line) xs ≡ bytes_before line xs + total bytes_of_aged (keep (is_at line) xs)
unfolding bytes_before keep total
bytes_next line [] = refl
bytes_next line (x ∷ xs) = go (dec_lt x.parked line) (bytes_next line xs)
  where
    upper : Dec (line < x.parked) → line ≤ x.parked → bytes_before (suc line) xs ≡ bytes_before line xs + total bytes_of_aged (keep (is_at line) xs)
        → bytes_before (suc line) (x ∷ xs) ≡ bytes_before line (x ∷ xs) + total bytes_of_aged (keep (is_at line) (x ∷ xs))
    upper (yes h) _ r = rw (le-ltb x.parked (suc line) h, le-ltb x.parked line (omega arith), ne_eqb x.parked line (λ e. omega arith)) r
    upper (no h) k r =
        rw (lt-ltb x.parked (suc line) (omega arith), le-ltb x.parked line k, eq-eqb x.parked line (omega arith)) (omega (arith, r))

    go : Dec (x.parked < line) → bytes_before (suc line) xs ≡ bytes_before line xs + total bytes_of_aged (keep (is_at line) xs)
        → bytes_before (suc line) (x ∷ xs) ≡ bytes_before line (x ∷ xs) + total bytes_of_aged (keep (is_at line) (x ∷ xs))
    go (yes h) r = rw (lt-ltb x.parked (suc line) (omega arith), lt-ltb x.parked line h, ne_eqb x.parked line (λ e. omega arith)) (omega (arith, r))
    go (no h) r = upper (dec_lt line x.parked) (omega arith) r

-- ---- those parked at one line stand as they stood, where the ids rise

-- each id is at most those after it
pub data Rising : List Aged → Type 0 where
  level : Rising []
  rise : {a : Aged} {xs : List Aged} → All (λ (b : Aged). a.id ≤ b.id) xs → Rising xs → Rising (a ∷ xs)

pub rising_both : (lo : ℕ) {xs ys : List Aged} → Rising xs → All (λ (a : Aged). a.id ≤ lo) xs → Rising ys → All (λ (b : Aged). lo ≤ b.id) ys → Rising (xs ++ ys)
rising_both lo level h r k = r
rising_both lo (rise p ps) (cons q qs) r k = rise (all_both p (all_mono (λ b e. omega arith) k)) (rising_both lo ps qs r k)

-- those of one texture
pub rising_same : (id : ℕ) {xs : List Aged} → All (λ (a : Aged). a.id ≡ id) xs → Rising xs
rising_same id nil = level
rising_same id (cons {x = x} p ps) = rise {a = x} (all_mono (λ b e. omega (arith, p, e)) ps) (rising_same id ps)

pub sorted_at : (line : ℕ) (xs : List Aged) → Rising xs → by_age (keep (is_at line) xs) ≡ keep (is_at line) xs
unfolding by_age keep insert_aged
sorted_at line [] r = refl
sorted_at line (x ∷ xs) (rise p ps) = go (eqb x.parked line) refl (sorted_at line xs ps)
  where
    level_at : (b : Aged) → x.parked ≡ line → (x.id ≤ b.id) × (b.parked ≡ line) → not_after x b ≡ true
    level_at b e (i, q) =
        rw (le-ltb x.parked b.parked (omega arith), eq-eqb x.parked b.parked (omega arith), le-leb x.id b.id i)

    go : (b : Bool) → eqb x.parked line ≡ b → by_age (keep (is_at line) xs) ≡ keep (is_at line) xs
        → by_age (keep (is_at line) (x ∷ xs)) ≡ keep (is_at line) (x ∷ xs)
    go true e r =
        rw e (ap (insert_aged x) r
        ∙ insert_left x [] (keep (is_at line) xs)
        (all_mono (λ b q. level_at b (eqb-true x.parked line e) q)
        (all_pairs (all_keep (is_at line) p) (all_kept (is_at line) xs (λ a q. eqb-true a.parked line q)))))
    go false e r = rw e r
