-- Laws of numbers counted, aligned in columns and read back. Assumes nothing.
use mathlib.Core.Path.{◌≡◌, refl, sym, ap, ap₂, ◌∙◌}
use mathlib.Core.Bool.{Bool, true, false, cond, ◌&&◌}
use mathlib.Core.List.{List, [], ◌∷◌, ◌++◌}
use Rattle.std.proofs.Math.Nat.{pow-suc, one-le-pow}
use Prim.Native.Nat.{ℕ, zero, suc, max, ◌+◌, ◌*◌, ◌-◌, ◌/◌, ◌%◌, ◌^◌, ◌≤◌, ◌<◌}
use native.Mathlib.Omega.{arith}
use borrow.Author.Tests.{leb-true, ltb-true, ne_eqb}
use lib.Dec.{leb, ltb, eqb}
use lib.ListN.{length, take, drop, replicate, length-append, length-replicate}
use lib.Seq.{sets, take-append_seam, drop-append_seam}
use Rattle.base_blocks.specs.Lists.{all}
use Rattle.base_blocks.proofs.Lists.{and_both}
use Rattle.base_digits.specs.Characters.{blank}
use Rattle.base_digits.specs.Aligned.{right}
use Rattle.base_digits.specs.Digits.{is_digit, value, decimal, digits, digits_of, last_digits}
use Rattle.base_digits.proofs.Printing.{digits_length, digits_some, digits_are, digits_value}
use Rattle.base_digits.proofs.ShortNumbers.{enough, sets_append, of_one, of_two, of_three, of_four, length_last, four_behind}

-- ---- how many digits a number has

pub count_one_lem : (n : ℕ) → n < 10 → length (digits_of n) ≡ 1
count_one_lem n h = ap length (of_one n h)

pub count_two : (n : ℕ) → 10 ≤ n → n < 100 → length (digits_of n) ≡ 2
count_two n h k = ap length (of_two n h k)

pub count_three : (n : ℕ) → 100 ≤ n → n < 1000 → length (digits_of n) ≡ 3
count_three n h k = ap length (of_three n h k)

pub count_four : (n : ℕ) → 1000 ≤ n → n < 10000 → length (digits_of n) ≡ 4
count_four n h k = ap length (of_four n h k) ∙ length_last 4 n

-- four more than without the last four
pub count_more : (n : ℕ) → 10000 ≤ n → n < 2 ^ 64 → length (digits_of n) ≡ 4 + length (digits_of (n / 10000))
count_more n h k =
    let b = four_behind n h k in
    let e : length (digits_of n) ≡ length (digits_of (n / 10000)) + length (last_digits 4 (n % 10000)) = ap length b.joined ∙ length-append (digits_of (n / 10000)) (last_digits 4 (n % 10000)) in
    let w = b.counted in
    omega (arith, e, w)

-- a number below 10 to the k has at most k
pub count_most : (k n : ℕ) → k < 20 → n < 10 ^ suc k → length (digits_of n) ≤ suc k
unfolding digits_of
count_most k n h q = let e = ap length (enough k 19 n (omega arith) q) in let r = digits_length (suc k) n in omega (arith, e, r)

-- a number from 10 to the k on has more than k
count_least : (k j n : ℕ) → k ≤ j → 10 ^ k ≤ n → suc k ≤ length (digits (suc j) n)
unfolding digits
count_least zero j n h q = digits_some j n
count_least (suc k) zero n h q = absurd (let y : ⊥ = omega arith in y)
count_least (suc k) (suc j) n h q =
    let p : 10 ^ suc k ≡ 10 ^ k * 10 = pow-suc 10 k in
    let b : 1 ≤ 10 ^ k = one-le-pow k 10 (omega arith) in
    go (ltb n 10) refl (omega arith) (count_least k j (n / 10) (omega arith) (omega arith))
  where
    go : (t : Bool) → ltb n 10 ≡ t → 10 ≤ n → suc k ≤ length (digits (suc j) (n / 10)) → suc (suc k) ≤ length (cond t ((48 + n) ∷ []) (digits (suc j) (n / 10) ++ ((48 + n % 10) ∷ [])))
    go true e m r = let f = ltb-true n 10 e in absurd (let y : ⊥ = omega arith in y)
    go false e m r = omega (arith, r, length-append (digits (suc j) (n / 10)) ((48 + n % 10) ∷ []))

-- the digits of a number, by the power of 10 that it reaches, where 0 counts as 1
pub count_log : (n m k : ℕ) → m ≡ max n 1 → 10 ^ k ≤ m → m < 10 * 10 ^ k → k < 20 → k + 1 ≡ length (digits_of n)
unfolding digits_of
count_log n m k e low high room =
    let p : 10 ^ suc k ≡ 10 ^ k * 10 = pow-suc 10 k in
    let most = count_most k n room (omega arith) in
    let some = least k low room in
    omega (arith, most, some)
  where
    least : (i : ℕ) → 10 ^ i ≤ m → i < 20 → suc i ≤ length (digits 20 n)
    least zero q r = digits_some 19 n
    least (suc i) q r =
        let p : 10 ^ suc i ≡ 10 ^ i * 10 = pow-suc 10 i in
        let b : 1 ≤ 10 ^ i = one-le-pow i 10 (omega arith) in
        count_least (suc i) 19 n (omega arith) (omega arith)

-- ---- a column

-- what fits its column fills it
pub right_length : (w : ℕ) (text : List ℕ) → length text ≤ w → length (right w text) ≡ w
unfolding right
right_length w text h =
    let e = length-append (replicate (w - length text) blank) text in
    let r = length-replicate (w - length text) blank in
    omega (arith, e, r)

-- blanks put first, then the text
pub right_put : (l : List ℕ) (at w k : ℕ) (text s r : List ℕ) → k ≡ w - length text → s ≡ sets l at (replicate k blank) → r ≡ sets s (at + k) text → r ≡ sets l at (right w text)
unfolding right
right_put l at w k text s r e q p =
    p
    ∙ ap₂ (λ (t : List ℕ) (i : ℕ). sets t (at + i) text) q (sym (length-replicate k blank))
    ∙ sets_append l at (replicate k blank) text
    ∙ ap (λ (i : ℕ). sets l at (replicate i blank ++ text)) e

-- ---- a number read back from its column

-- without the blanks that a text begins with
unfoldable unblanked : List ℕ → List ℕ
unblanked [] = []
unblanked (b ∷ bs) = cond (eqb b blank) (unblanked bs) (b ∷ bs)

blanks_off : (k : ℕ) (text : List ℕ) → unblanked (replicate k blank ++ text) ≡ unblanked text
unfolding unblanked
blanks_off zero text = refl
blanks_off (suc k) text = blanks_off k text

-- digits begin with no blank
digits_stay : (text : List ℕ) → all is_digit text ≡ true → unblanked text ≡ text
unfolding unblanked all is_digit
digits_stay [] e = refl
digits_stay (b ∷ bs) e =
    let d = leb-true 48 b (and_both (leb 48 b) (leb b 57) (and_both (leb 48 b && leb b 57) (all is_digit bs) e).0).0 in
    ap (λ (t : Bool). cond t (unblanked bs) (b ∷ bs)) (ne_eqb b blank (λ q. omega (arith, d, q)))

-- the number that stands in a column
unfoldable column_value : List ℕ → ℕ
column_value text = decimal (unblanked text)

value_back : (w n : ℕ) → n < 2 ^ 64 → column_value (right w (digits_of n)) ≡ n
unfolding column_value right digits_of decimal
value_back w n h =
    ap (value 0) (blanks_off (w - length (digits_of n)) (digits_of n) ∙ digits_stay (digits_of n) (digits_are 20 n))
    ∙ digits_value 20 n (omega arith)

-- columns that are the same have the same number
pub right_same : (w m n : ℕ) → m < 2 ^ 64 → n < 2 ^ 64 → right w (digits_of m) ≡ right w (digits_of n) → m ≡ n
right_same w m n h k e = sym (value_back w m h) ∙ ap column_value e ∙ value_back w n k

-- texts of one length in front are the same, and what stands behind them
pub same_front : (xs ys us vs : List ℕ) → length xs ≡ length ys → xs ++ us ≡ ys ++ vs → (xs ≡ ys) × (us ≡ vs)
same_front xs ys us vs l e =
    let n : ℕ = length xs in (
      sym (take-append_seam xs us) ∙ ap (take n) e ∙ ap (λ (k : ℕ). take k (ys ++ vs)) l ∙ take-append_seam ys vs,
      sym (drop-append_seam xs us) ∙ ap (drop n) e ∙ ap (λ (k : ℕ). drop k (ys ++ vs)) l ∙ drop-append_seam ys vs,
    )
