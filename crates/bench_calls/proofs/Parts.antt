-- Parts lent from the front of a slice: back with as many numbers, and within what there is of newest stamps. Assumes nothing.
use Rattle.std.proofs.Common.{◌≡◌, ℕ, ◌*◌, ◌≤◌, min, List, ◌++◌, length, take, drop, arith, length-append, length-drop, length-take-le}
use native.Mathlib.Nat.{min-le_left}
use Rattle.pool_rules.specs.RuleConstants.{grid_stride, most_grids}

pub cut_long : (a : ℕ) (xs ys : List ℕ) → a ≤ length xs → length ys ≡ length (take a xs) → length (ys ++ drop a xs) ≡ length xs
cut_long a xs ys h e = omega (arith, h, e, length-take-le a xs h, length-append ys (drop a xs), length-drop a xs)

pub grids_fit_lem : (t stamps newest g : ℕ) → t ≤ 4096 → 737280 ≤ newest → g ≡ grid_stride * min (most_grids * t) stamps → g ≤ newest
grids_fit_lem t stamps newest g h e k = omega (arith, h, e, k, min-le_left (most_grids * t) stamps)
