-- Laws of numbers printed a few digits at a time. Assumes nothing.
use mathlib.Core.Path.{◌≡◌, refl, sym, ap, ap₂, ◌∙◌}
use mathlib.Core.Bool.{Bool, true, false, cond}
use mathlib.Core.List.{List, [], ◌∷◌, ◌++◌, append_assoc}
use Prim.Native.Nat.{ℕ, zero, suc, ◌+◌, ◌*◌, ◌/◌, ◌%◌, ◌^◌, ◌≤◌, ◌<◌}
use native.Mathlib.Nat.{pow-suc, pow-succ', one-le-pow, div-one, div-div-eq-div-mul, div-lt_iff_lt-mul}
use native.Mathlib.Omega.{arith}
use borrow.Author.Tests.{lt-ltb, le-ltb}
use lib.Dec.{ltb}
use lib.ListN.{length, set, length-append}
use lib.Seq.{sets}
use Rattle.base_digits.specs.Digits.{digits, digits_of, last_digits}
use Rattle.base_digits.proofs.Printing.{digits_room, digits_length}

-- ---- the digits of a number, by how many it has

digits_one : (k n : ℕ) → n < 10 → digits (suc k) n ≡ (48 + n) ∷ []
unfolding digits
digits_one k n h = rw (lt-ltb n 10 h)

digits_more : (k n : ℕ) → 10 ≤ n → digits (suc k) n ≡ digits k (n / 10) ++ ((48 + n % 10) ∷ [])
unfolding digits
digits_more k n h = rw (le-ltb n 10 h)

-- d after some digits
abbrev then : ℕ → List ℕ → List ℕ
then d l = l ++ (d ∷ [])

pub of_one : (n : ℕ) → n < 10 → digits_of n ≡ (48 + n) ∷ []
unfolding digits_of
of_one n h = digits_one 19 n h

pub of_two : (n : ℕ) → 10 ≤ n → n < 100 → digits_of n ≡ (48 + n / 10) ∷ (48 + n % 10) ∷ []
unfolding digits_of
of_two n h k = digits_more 19 n h ∙ ap (then (48 + n % 10)) (digits_one 18 (n / 10) (omega arith))

pub of_three : (n : ℕ) → 100 ≤ n → n < 1000 → digits_of n ≡ (48 + n / 10 / 10) ∷ (48 + n / 10 % 10) ∷ (48 + n % 10) ∷ []
unfolding digits_of
of_three n h k =
    digits_more 19 n (omega arith)
    ∙ ap (then (48 + n % 10)) (digits_more 18 (n / 10) (omega arith) ∙ ap (then (48 + n / 10 % 10)) (digits_one 17 (n / 10 / 10) (omega arith)))

-- the last four, after those of what is left
last_four : (k n : ℕ) → 1000 ≤ n
    → digits (suc (suc (suc k))) n ≡ digits k (n / 10 / 10 / 10) ++ ((48 + n / 10 / 10 % 10) ∷ (48 + n / 10 % 10) ∷ (48 + n % 10) ∷ [])
last_four k n h =
    digits_more (suc (suc k)) n (omega arith)
    ∙ ap (then (48 + n % 10))
    (digits_more (suc k) (n / 10) (omega arith) ∙ ap (then (48 + n / 10 % 10)) (digits_more k (n / 10 / 10) (omega arith)))
    ∙ ap (then (48 + n % 10)) (append_assoc (digits k (n / 10 / 10 / 10)) ((48 + n / 10 / 10 % 10) ∷ []) ((48 + n / 10 % 10) ∷ []))
    ∙ append_assoc (digits k (n / 10 / 10 / 10)) ((48 + n / 10 / 10 % 10) ∷ (48 + n / 10 % 10) ∷ []) ((48 + n % 10) ∷ [])

pub of_four : (n : ℕ) → 1000 ≤ n → n < 10000 → digits_of n ≡ last_digits 4 n
unfolding digits_of last_digits
of_four n h k =
    let e : 48 + n / 10 / 10 / 10 ≡ 48 + n / 10 / 10 / 10 % 10 = omega arith in
    last_four 17 n h
    ∙ ap (λ (l : List ℕ). l ++ ((48 + n / 10 / 10 % 10) ∷ (48 + n / 10 % 10) ∷ (48 + n % 10) ∷ [])) (digits_one 16 (n / 10 / 10 / 10) (omega arith))
    ∙ ap (λ (d : ℕ). d ∷ (48 + n / 10 / 10 % 10) ∷ (48 + n / 10 % 10) ∷ (48 + n % 10) ∷ []) e

-- room for more digits than there are changes nothing
pub enough : (k j n : ℕ) → k ≤ j → n < 10 ^ suc k → digits (suc j) n ≡ digits (suc k) n
unfolding digits
enough zero j n h q = digits_one j n (omega arith) ∙ sym (digits_one zero n (omega arith))
enough (suc k) zero n h q = absurd (let y : ⊥ = omega arith in y)
enough (suc k) (suc j) n h q =
    go (ltb n 10) (enough k j (n / 10) (omega arith) ((div-lt_iff_lt-mul {k = 10} {x = n} {y = 10 ^ suc k} (omega arith)).1 (rw (pow-suc 10 (suc k)) at q)))
  where
    go : (t : Bool) → digits (suc j) (n / 10) ≡ digits (suc k) (n / 10)
        → cond t ((48 + n) ∷ []) (digits (suc j) (n / 10) ++ ((48 + n % 10) ∷ [])) ≡ cond t ((48 + n) ∷ []) (digits (suc k) (n / 10) ++ ((48 + n % 10) ∷ []))
    go true e = refl
    go false e = ap (then (48 + n % 10)) e

-- ---- the last digits, after those of what is left

unfoldable more : ℕ → ℕ → ℕ
more zero k = k
more (suc j) k = suc (more j k)

-- without its last j digits
unfoldable shifted : ℕ → ℕ → ℕ
shifted zero n = n
shifted (suc j) n = shifted j (n / 10)

shifted_is : (j n : ℕ) → shifted j n ≡ n / 10 ^ j
unfolding shifted
shifted_is zero n = sym (div-one n)
shifted_is (suc j) n =
    shifted_is j (n / 10) ∙ div-div-eq-div-mul n 10 (10 ^ j) ∙ ap (λ (m : ℕ). n / m) (sym (pow-succ' 10 j))

append_none : (l : List ℕ) → l ≡ l ++ []
append_none [] = refl
append_none (x ∷ xs) = ap (λ (l : List ℕ). x ∷ l) (append_none xs)

split : (j k n : ℕ) → 10 ^ j ≤ n → digits (more j k) n ≡ digits k (shifted j n) ++ last_digits j n
unfolding more shifted last_digits
split zero k n h = append_none (digits k n)
split (suc j) k n h =
    let p : 10 ^ suc j ≡ 10 ^ j * 10 = pow-suc 10 j in
    let q : 1 ≤ 10 ^ j = one-le-pow j 10 (omega arith) in
    digits_more (more j k) n (omega (arith, h, p, q))
    ∙ ap (then (48 + n % 10)) (split j k (n / 10) (omega (arith, h, p)))
    ∙ append_assoc (digits k (shifted j (n / 10))) (last_digits j (n / 10)) ((48 + n % 10) ∷ [])

four_same : (m n : ℕ) → m % 10000 ≡ n % 10000 → last_digits 4 m ≡ last_digits 4 n
unfolding last_digits
four_same m n e =
    let a : 48 + m / 10 / 10 / 10 % 10 ≡ 48 + n / 10 / 10 / 10 % 10 = omega arith in
    let b : 48 + m / 10 / 10 % 10 ≡ 48 + n / 10 / 10 % 10 = omega arith in
    let c : 48 + m / 10 % 10 ≡ 48 + n / 10 % 10 = omega arith in
    let d : 48 + m % 10 ≡ 48 + n % 10 = omega arith in
    λ i. a i ∷ b i ∷ c i ∷ d i ∷ []

eight_four : (n : ℕ) → last_digits 8 n ≡ last_digits 4 (n / 10000) ++ last_digits 4 n
unfolding last_digits
eight_four n = let q : n / 10 / 10 / 10 / 10 ≡ n / 10000 = omega arith in ap (λ (m : ℕ). last_digits 4 m ++ last_digits 4 n) q

eight_same : (n : ℕ) → last_digits 8 n ≡ last_digits 8 (n % 100000000)
eight_same n =
    eight_four n
    ∙ ap₂ (λ (l r : List ℕ). l ++ r)
    (four_same (n / 10000) (n % 100000000 / 10000) (omega arith))
    (four_same n (n % 100000000) (omega arith))
    ∙ sym (eight_four (n % 100000000))

pub length_last : (k n : ℕ) → length (last_digits k n) ≡ k
unfolding last_digits
length_last zero n = refl
length_last (suc k) n =
    length-append (last_digits k (n / 10)) ((48 + n % 10) ∷ [])
    ∙ (let h = length_last k (n / 10) in let e : length (last_digits k (n / 10)) + 1 ≡ suc k = omega arith in e)

-- n's digits are those of m and k more
pub record Behind (n m k : ℕ) (ys : List ℕ) : Type 0 where
  pub joined : digits_of n ≡ digits_of m ++ ys
  pub counted : length ys ≡ k

pub four_behind : (n : ℕ) → 10000 ≤ n → n < 2 ^ 64 → Behind n (n / 10000) 4 (last_digits 4 (n % 10000))
unfolding digits_of more
four_behind n h k = record {
  joined = split 4 16 n h
      ∙ ap₂ (λ (l r : List ℕ). l ++ r) (ap (digits 16) (shifted_is 4 n) ∙ sym (enough 15 19 (n / 10000) (omega arith) (omega arith)))
      (four_same n (n % 10000) (omega arith));
  counted = length_last 4 (n % 10000);
}

pub eight_behind : (n : ℕ) → 100000000 ≤ n → n < 2 ^ 64 → Behind n (n / 100000000) 8 (last_digits 8 (n % 100000000))
unfolding digits_of more
eight_behind n h k = record {
  joined = split 8 12 n h
      ∙ ap₂ (λ (l r : List ℕ). l ++ r) (ap (digits 12) (shifted_is 8 n) ∙ sym (enough 11 19 (n / 100000000) (omega arith) (omega arith)))
      (eight_same n);
  counted = length_last 8 (n % 100000000);
}

-- they have room where n's have
pub room_behind : (n m k : ℕ) (ys : List ℕ) → Behind n m k ys → length (digits_of m) + k ≤ 20
room_behind n m k ys b =
    let c : length (digits_of n) ≡ length (digits_of m) + length ys = ap length b.joined ∙ length-append (digits_of m) ys in
    let q = b.counted in
    let r = digits_room n in
    omega (arith, c, q, r)

-- a number below 10,000 has at most four
pub room_four : (n : ℕ) → n < 10000 → length (digits_of n) ≤ 4
unfolding digits_of
room_four n h = let e = ap length (enough 3 19 n (omega arith) (omega arith)) in let r = digits_length 4 n in omega (arith, e, r)

-- ---- digits stored one after the other

module _ (l : List ℕ) (at : ℕ) where
  stored_two : (a b : ℕ) → set (set l at a) (at + 1) b ≡ sets l at (a ∷ b ∷ [])
  stored_two a b = let e : at + 1 ≡ suc at = omega arith in ap (λ (i : ℕ). set (set l at a) i b) e

  stored_three : (a b c : ℕ) → set (set (set l at a) (at + 1) b) (at + 2) c ≡ sets l at (a ∷ b ∷ c ∷ [])
  stored_three a b c =
      let e : at + 1 ≡ suc at = omega arith in
      let f : at + 2 ≡ suc (suc at) = omega arith in
      ap₂ (λ (i j : ℕ). set (set (set l at a) i b) j c) e f

  stored_four : (a b c d : ℕ) → set (set (set (set l at a) (at + 1) b) (at + 2) c) (at + 3) d ≡ sets l at (a ∷ b ∷ c ∷ d ∷ [])
  stored_four a b c d =
      let e : at + 3 ≡ suc (suc (suc at)) = omega arith in
      ap₂ (λ (s : List ℕ) (i : ℕ). set s i d) (stored_three a b c) e

  -- a store after another
  pub sets_append : (xs ys : List ℕ) → sets (sets l at xs) (at + length xs) ys ≡ sets l at (xs ++ ys)
  sets_append xs ys = behind_sets xs ys l at
    where
      behind_sets : (us vs s : List ℕ) (i : ℕ) → sets (sets s i us) (i + length us) vs ≡ sets s i (us ++ vs)
      behind_sets [] vs s i = let e : i + 0 ≡ i = omega arith in ap (λ (k : ℕ). sets s k vs) e
      behind_sets (u ∷ us) vs s i =
          let e : i + suc (length us) ≡ suc i + length us = omega arith in
          ap (λ (k : ℕ). sets (sets (set s i u) (suc i) us) k vs) e ∙ behind_sets us vs (set s i u) (suc i)

  module _ (n : ℕ) where
    -- what a number's digits are put as: where they end, and what is stored
    abbrev Put : ℕ → List ℕ → Type 0
    Put end s = (end ≡ at + length (digits_of n)) × (s ≡ sets l at (digits_of n))

    put_as : (ds s : List ℕ) → digits_of n ≡ ds → s ≡ sets l at ds → Put (at + length ds) s
    put_as ds s e q = (ap (λ (d : List ℕ). at + length d) (sym e), q ∙ ap (sets l at) (sym e))

    pub put_one : (a : ℕ) → a ≡ 48 + n → n < 10 → Put (at + 1) (set l at a)
    put_one a e h = put_as ((48 + n) ∷ []) (set l at a) (of_one n h) (ap (set l at) e)

    pub put_two : (a b : ℕ) → a ≡ 48 + n / 10 → b ≡ 48 + n % 10 → 10 ≤ n → n < 100 → Put (at + 2) (set (set l at a) (at + 1) b)
    put_two a b e f h k =
        put_as ((48 + n / 10) ∷ (48 + n % 10) ∷ []) (set (set l at a) (at + 1) b) (of_two n h k)
        (stored_two a b ∙ ap₂ (λ (x y : ℕ). sets l at (x ∷ y ∷ [])) e f)

    pub put_three : (a b c : ℕ) → a ≡ 48 + n / 10 / 10 → b ≡ 48 + n / 10 % 10 → c ≡ 48 + n % 10 → 100 ≤ n → n < 1000
        → Put (at + 3) (set (set (set l at a) (at + 1) b) (at + 2) c)
    put_three a b c e f g h k =
        put_as ((48 + n / 10 / 10) ∷ (48 + n / 10 % 10) ∷ (48 + n % 10) ∷ []) (set (set (set l at a) (at + 1) b) (at + 2) c) (of_three n h k)
        (stored_three a b c ∙ (λ i. sets l at (e i ∷ f i ∷ g i ∷ [])))

    pub put_four : (s : List ℕ) → s ≡ sets l at (last_digits 4 n) → 1000 ≤ n → n < 10000 → Put (at + 4) s
    unfolding last_digits
    put_four s e h k = put_as (last_digits 4 n) s (of_four n h k) e

    -- m's digits were put, and then the others
    pub put_behind : (m k : ℕ) (ys : List ℕ) (end : ℕ) (s r : List ℕ) → Behind n m k ys → end ≡ at + length (digits_of m) → s ≡ sets l at (digits_of m)
        → r ≡ sets s end ys → Put (end + k) r
    put_behind m k ys end s r b e q p =
        let xs : List ℕ = digits_of m in
        let c : length (digits_of n) ≡ length xs + length ys = ap length b.joined ∙ length-append xs ys in
        let w = b.counted in (
          omega (arith, e, c, w),
          p ∙ ap₂ (λ (t : List ℕ) (i : ℕ). sets t i ys) q e ∙ sets_append xs ys ∙ ap (sets l at) (sym b.joined),
        )

  -- the last four digits of any number
  pub four_last : (n a b c d : ℕ) → a ≡ 48 + n / 10 / 10 / 10 % 10 → b ≡ 48 + n / 10 / 10 % 10 → c ≡ 48 + n / 10 % 10 → d ≡ 48 + n % 10
      → set (set (set (set l at a) (at + 1) b) (at + 2) c) (at + 3) d ≡ sets l at (last_digits 4 n)
  unfolding last_digits
  four_last n a b c d e f g h =
      stored_four a b c d ∙ (λ i. sets l at (e i ∷ f i ∷ g i ∷ h i ∷ []))

  -- the last eight, as four and four
  pub eight_last : (n : ℕ) (s r : List ℕ) → s ≡ sets l at (last_digits 4 (n / 10000)) → r ≡ sets s (at + 4) (last_digits 4 (n % 10000)) → r ≡ sets l at (last_digits 8 n)
  eight_last n s r e q =
      let xs : List ℕ = last_digits 4 (n / 10000) in
      let ys : List ℕ = last_digits 4 (n % 10000) in
      q ∙ ap₂ (λ (t : List ℕ) (i : ℕ). sets t (at + i) ys) e (sym (length_last 4 (n / 10000))) ∙ sets_append xs ys
      ∙ ap (λ (d : List ℕ). sets l at (xs ++ d)) (four_same (n % 10000) n (omega arith)) ∙ ap (sets l at) (sym (eight_four n))
