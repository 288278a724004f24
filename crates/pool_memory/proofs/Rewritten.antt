-- Part of a list of numbers written anew: a block replaced, a run set. Assumes nothing.
use mathlib.Core.Path.{◌≡◌, refl, sym, ap, ap₂, ◌∙◌}
use mathlib.Core.List.{List, [], ◌∷◌, ◌++◌, append_assoc}
use Prim.Native.Nat.{ℕ, zero, suc, ◌+◌, ◌-◌, ◌≤◌, ◌<◌}
use native.Mathlib.Nat.{add-zero, zero-add, suc-add, add_assoc}
use native.Mathlib.Omega.{arith}
use lib.ListN.{length, take, drop, get_or, set, replicate, length-replicate, length-append, length-drop, length-set, take-append-drop}
use lib.Seq.{sets, sets-eq, drop-cons, take-add, take-append-le, take-append-add, drop-drop, drop-append-le, drop-append-add, length-take-le, set-append_left}
use Rattle.base_blocks.specs.Lists.{listed, over}
use Rattle.base_blocks.specs.Blocks.{moved}
use Rattle.base_blocks.proofs.Lists.{over_self}

-- moved to where it stands
pub moved_self : (s : List ℕ) (at n : ℕ) → moved s at at n ≡ s
unfolding moved
moved_self s at n =
    append_assoc (take at s) (take n (drop at s)) (drop (at + n) s)
    ∙ ap (λ (l : List ℕ). take at s ++ (take n (drop at s) ++ l)) (sym (drop-drop n at s))
    ∙ ap (λ (l : List ℕ). take at s ++ l) (take-append-drop n (drop at s))
    ∙ take-append-drop at s

-- ---- runs of one number

pub length_zeros : (n : ℕ) → length (replicate {A = ℕ} n 0) ≡ n
length_zeros n = length-replicate n 0

pub replicate_add {ℓ} : {A : Type ℓ} (a b : ℕ) (x : A) → replicate (a + b) x ≡ replicate a x ++ replicate b x
replicate_add zero b x = ap (λ (n : ℕ). replicate n x) (zero-add b)
replicate_add {A = A} (suc a) b x = ap (λ (n : ℕ). replicate n x) (suc-add a b) ∙ ap (λ (l : List A). x ∷ l) (replicate_add a b x)

-- the same number laid over a longer run
pub over_replicate {ℓ} : {A : Type ℓ} (n m : ℕ) (x : A) → n ≤ m → over (replicate n x) (replicate m x) ≡ replicate m x
over_replicate n m x h =
    over_self (replicate n x) (replicate m x) (replicate (m - n) x)
    (ap (λ (k : ℕ). replicate k x) (let e : m ≡ n + (m - n) = omega arith in e) ∙ replicate_add n (m - n) x)

-- ---- a run written anew

pub set_append_add {ℓ} : {A : Type ℓ} (xs ys : List A) (k : ℕ) (a : A) → set (xs ++ ys) (length xs + k) a ≡ xs ++ set ys k a
set_append_add [] ys k a = ap (λ (n : ℕ). set ys n a) (zero-add k)
set_append_add {A = A} (x ∷ xs) ys k a =
    ap (λ (n : ℕ). set (x ∷ (xs ++ ys)) n a) (suc-add (length xs) k) ∙ ap (λ (l : List A). x ∷ l) (set_append_add xs ys k a)

-- two runs, one behind the other
pub sets_append {ℓ} : {A : Type ℓ} (s : List A) (at : ℕ) (xs ys : List A) → sets s at (xs ++ ys) ≡ sets (sets s at xs) (at + length xs) ys
sets_append s at [] ys = ap (λ (k : ℕ). sets s k ys) (sym (add-zero at))
sets_append s at (x ∷ xs) ys =
    sets_append (set s at x) (suc at) xs ys
    ∙ ap (λ (k : ℕ). sets (sets (set s at x) (suc at) xs) k ys) (let e : suc at + length xs ≡ at + suc (length xs) = omega arith in e)

module _ {A : Type 0} (s : List A) (at : ℕ) where
  -- what stands there
  pub sets_self : (n : ℕ) → at + n ≤ length s → sets s at (take n (drop at s)) ≡ s
  sets_self n h =
      let l : length (take n (drop at s)) ≡ n = length-take-le n (drop at s) (omega (arith, length-drop at s)) in
      sets-eq (take n (drop at s)) s at (omega arith)
      ∙ ap₂ (λ (q : List A) (m : ℕ). q ++ drop (at + m) s) (sym (take-add at n s)) l
      ∙ take-append-drop (at + n) s

  module _ (ys : List A) (fits : at + length ys ≤ length s) where
    long_front : length (take at s) ≡ at
    long_front = length-take-le at s (omega arith)

    -- one element of the run
    pub set_sets : (k : ℕ) (a : A) → k < length ys → set (sets s at ys) (at + k) a ≡ sets s at (set ys k a)
    set_sets k a h =
        let f = long_front in
        let rest = drop (at + length ys) s in
        ap (λ (q : List A). set q (at + k) a) (sets-eq ys s at fits)
        ∙ set-append_left (take at s ++ ys) rest (at + k) a (omega (arith, length-append (take at s) ys))
        ∙ ap (λ (q : List A). q ++ rest) (ap (λ (n : ℕ). set (take at s ++ ys) (n + k) a) (sym f) ∙ set_append_add (take at s) ys k a)
        ∙ ap (λ (n : ℕ). take at s ++ set ys k a ++ drop (at + n) s) (sym (length-set ys k a))
        ∙ sym (sets-eq (set ys k a) s at (omega (arith, length-set ys k a)))

    take_sets : (m : ℕ) → m ≤ length ys → take (at + m) (sets s at ys) ≡ take at s ++ take m ys
    take_sets m h =
        let f = long_front in
        let rest = drop (at + length ys) s in
        ap₂ (λ (n : ℕ) (q : List A). take (n + m) q) (sym f) (sets-eq ys s at fits ∙ append_assoc (take at s) ys rest)
        ∙ take-append-add (take at s) (ys ++ rest) m
        ∙ ap (λ (q : List A). take at s ++ q) (take-append-le m ys rest h)

    drop_sets : (m : ℕ) → m ≤ length ys → drop (at + m) (sets s at ys) ≡ drop m ys ++ drop (at + length ys) s
    drop_sets m h =
        let f = long_front in
        let rest = drop (at + length ys) s in
        ap₂ (λ (n : ℕ) (q : List A). drop (n + m) q) (sym f) (sets-eq ys s at fits ∙ append_assoc (take at s) ys rest)
        ∙ drop-append-add (take at s) (ys ++ rest) m
        ∙ drop-append-le m ys rest h

    pub sets_part : (x : List A) (m w : ℕ) → length x ≡ w → m + w ≤ length ys
        → take (at + m) (sets s at ys) ++ (x ++ drop (at + m + w) (sets s at ys)) ≡ sets s at (take m ys ++ (x ++ drop (m + w) ys))
    sets_part x m w lx h =
        let new = take m ys ++ (x ++ drop (m + w) ys) in
        let rest = drop (at + length ys) s in
        let lm : length (take m ys) ≡ m = length-take-le m ys (omega arith) in
        let long : length new ≡ length ys =
        length-append (take m ys) (x ++ drop (m + w) ys) ∙ ap (λ (n : ℕ). length (take m ys) + n) (length-append x (drop (m + w) ys))
        ∙ (let q : length (take m ys) + (length x + length (drop (m + w) ys)) ≡ length ys = omega (arith, length-drop (m + w) ys) in q) in
        ap₂ (λ (p q : List A). p ++ (x ++ q)) (take_sets m (omega arith))
        (ap (λ (n : ℕ). drop n (sets s at ys)) (add_assoc at m w) ∙ drop_sets (m + w) h)
        ∙ (let e : (take at s ++ take m ys) ++ (x ++ (drop (m + w) ys ++ rest)) ≡ take at s ++ new ++ rest = simp append_assoc in e)
        ∙ ap (λ (n : ℕ). take at s ++ new ++ drop (at + n) s) (sym long)
        ∙ sym (sets-eq new s at (omega arith))

-- ---- runs and fronts

-- a run of a list, element by element
pub listed_run {ℓ} : {A : Type ℓ} (d : A) (xs : List A) (at n : ℕ) → at + n ≤ length xs → listed (λ k. get_or xs k d) at n ≡ take n (drop at xs)
unfolding listed
listed_run d xs at zero h = refl
listed_run {A = A} d xs at (suc n) h =
    ap (λ (ys : List A). get_or xs at d ∷ ys) (listed_run d xs (suc at) n (omega arith)) ∙ sym (ap (take (suc n)) (drop-cons xs at d (omega arith)))

-- the front of a list laid over it
pub over_front {ℓ} : {A : Type ℓ} (n : ℕ) (xs : List A) → over (take n xs) xs ≡ xs
over_front n xs = over_self (take n xs) xs (drop n xs) (sym (take-append-drop n xs))
