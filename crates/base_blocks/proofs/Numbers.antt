-- Laws of division rounded up. Assumes nothing.
use Rattle.std.proofs.Common.{◌≡◌, ℕ, suc, ◌+◌, ◌-◌, ◌*◌, ◌/◌, ◌<◌, ◌≤◌, sym, ap, ◌∙◌, suc-mul, div-lt_iff_lt-mul, mul-le-mul_left, one-mul, le-div_iff_mul-le, mul-suc, mul-add, div-mul-le_self, arith}
use native.Mathlib.Nat.{lt-div-mul-add}
use Rattle.base_blocks.specs.Lists.{ceil_div}

-- ceil_div a b parts of b cover a
pub ceil_covers : (a b : ℕ) → 0 < b → a ≤ ceil_div a b * b
unfolding ceil_div
ceil_covers a b h = let k = lt-div-mul-add {a = a + (b - 1)} {b = b} h in omega arith

-- and one part less would not
pub ceil_least : (a b : ℕ) → 0 < b → ceil_div a b * b < a + b
unfolding ceil_div
ceil_least a b h = let k = div-mul-le_self (a + (b - 1)) b in omega arith

pub ceil_pos : (a b : ℕ) → 0 < b → 0 < a → 0 < ceil_div a b
unfolding ceil_div
ceil_pos a b h k = (le-div_iff_mul-le {k = b} {x = 1} {y = a + (b - 1)} h).1 (omega (arith, one-mul b))

-- the part that x lies in is one of those that cover a
pub ceil_below : (x a b : ℕ) → 0 < b → x < a → x / b < ceil_div a b
ceil_below x a b h k = let e = ceil_covers a b h in (div-lt_iff_lt-mul {k = b} {x = x} {y = ceil_div a b} h).1 (omega arith)

-- n parts that cover it are enough
pub ceil_at_most : (a b n : ℕ) → 0 < b → a ≤ n * b → ceil_div a b ≤ n
unfolding ceil_div
ceil_at_most a b n pos h =
    let q : (a + (b - 1)) / b < suc n = (div-lt_iff_lt-mul {k = b} {x = a + (b - 1)} {y = suc n} pos).1 (omega (arith, suc-mul n b)) in
    omega arith

-- no more parts than what is parted
pub ceil_bound : (a b m : ℕ) → 0 < b → a ≤ m → ceil_div a b ≤ m
ceil_bound a b m pos h = ceil_at_most a b m pos (omega (arith, mul-le-mul_left {m = 1} {n = b} m pos))

-- parts of one
pub ceil_one : (a : ℕ) → ceil_div a 1 ≡ a
unfolding ceil_div
ceil_one a = omega arith

-- ---- products, for offsets of records of w numbers

-- the record at i lies before the end of n records
pub row_fits : (w i n : ℕ) → i < n → w * i + w ≤ w * n
row_fits w i n h = let k = mul-le-mul_left {m = suc i} {n = n} w h in let e = mul-suc w i in omega arith

-- i records and those past them
pub rows_split : (w i n : ℕ) → i ≤ n → w * i + w * (n - i) ≡ w * n
rows_split w i n h = sym (mul-add w i (n - i)) ∙ ap (λ (k : ℕ). w * k) (let e : i + (n - i) ≡ n = omega arith in e)

-- i records, k more, and those past them
pub rows_parts : (w i k n : ℕ) → i + k ≤ n → w * i + w * k + w * (n - (i + k)) ≡ w * n
rows_parts w i k n h = ap (λ (m : ℕ). m + w * (n - (i + k))) (sym (mul-add w i k)) ∙ rows_split w (i + k) n h
