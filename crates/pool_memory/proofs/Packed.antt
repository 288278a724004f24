-- A pass over all textures that packs what stays: what was packed so far stands at the front of each slice, what is not read yet stands as it
-- was, and so does what the pass leaves behind. Assumes nothing.
use mathlib.Core.Path.{◌≡◌, sym, ap, ap₂, ◌∙◌}
use mathlib.Core.List.{List, [], ◌∷◌, ◌++◌, flat_map, append-nil}
use Prim.Native.Nat.{ℕ, suc, ◌+◌, ◌*◌, ◌-◌, ◌≤◌, ◌<◌}
use native.Mathlib.Nat.{mul-le-mul_left, mul-add}
use native.Mathlib.Omega.{arith}
use lib.ListN.{length, take, drop, get_or, length-append, length-drop}
use lib.Seq.{sets, sets-eq, take_at, take-suc, take-append_seam}
use Rattle.base_blocks.specs.Lists.{over}
use Rattle.base_blocks.specs.Blocks.{moved}
use Rattle.base_blocks.proofs.Lists.{drop_over}
use Rattle.base_blocks.proofs.Blocks.{over_moved}
use Rattle.base_tables.specs.Records.{record_at, table, flat}
use Rattle.base_tables.proofs.Records.{Codec, length_table, flat_append, length_flat, flat_table, take_table, drop_table}
use Rattle.pool_memory.proofs.Parts.{flat_append as flat_map_append}

-- ---- numbers

-- the first of them, one more, and what it gives
pub flat_step : {A B : Type 0} (f : A → List B) (xs : List A) (i : ℕ) (d : A) → i < length xs
    → flat_map f (take (suc i) xs) ≡ flat_map f (take i xs) ++ f (get_or xs i d)
unfolding flat_map
flat_step {B = B} f xs i d h =
    ap (flat_map f) (take-suc xs i d h) ∙ flat_map_append f (take i xs) (get_or xs i d ∷ [])
    ∙ ap (λ (l : List B). flat_map f (take i xs) ++ l) (append-nil (f (get_or xs i d)))

-- numbers stored behind what was packed
pub over_stored : (xs ys s : List ℕ) → length xs + length ys ≤ length s → sets (over xs s) (length xs) ys ≡ over (xs ++ ys) s
unfolding over
over_stored xs ys s h =
    sets-eq ys (xs ++ drop (length xs) s) (length xs) (omega (arith, length-append xs (drop (length xs) s), length-drop (length xs) s))
    ∙ ap₂ (λ (p q : List ℕ). p ++ ys ++ q) (take-append_seam xs (drop (length xs) s)) (drop_over xs s (length xs + length ys) (omega arith))
    ∙ ap (λ (n : ℕ). (xs ++ ys) ++ drop n s) (sym (length-append xs ys))

-- ---- records

module _ {A : Type 0} {w : ℕ} {rd : List ℕ → A} {wr : A → List ℕ} (C : Codec w rd wr) (s : List ℕ) where
  -- one not yet packed
  pub packed_read : (xs : List A) (j : ℕ) → length xs ≤ j → record_at w rd (over (flat wr xs) s) j ≡ record_at w rd s j
  unfolding record_at
  packed_read xs j h = ap rd (drop_over (flat wr xs) s (w * j) (omega (arith, length_flat C xs, mul-le-mul_left w h)))

  -- one packed
  pub packed_put : (xs : List A) (x : A) → w * length xs + w ≤ length s
      → sets (over (flat wr xs) s) (w * length xs) (wr x) ≡ over (flat wr (xs ++ (x ∷ []))) s
  unfolding flat
  packed_put xs x h =
      ap (λ (n : ℕ). sets (over (flat wr xs) s) n (wr x)) (sym (length_flat C xs))
      ∙ over_stored (flat wr xs) (wr x) s (omega (arith, length_flat C xs, C.long x))
      ∙ ap (λ (l : List ℕ). over l s) (sym (flat_append wr xs (x ∷ []) ∙ ap (λ (l : List ℕ). flat wr xs ++ l) (append-nil (wr x))))

  -- the numbers of m records from r on
  run_numbers : (n r m : ℕ) → r + m ≤ n → w * n ≤ length s → flat wr (take m (drop r (table w rd n s))) ≡ take (w * m) (drop (w * r) s)
  run_numbers n r m h fits =
      let t = drop (w * r) s in
      let k : w * m ≤ length t = omega (arith, length-drop (w * r) s, mul-le-mul_left w h, mul-add w r m) in
      let e : take m (drop r (table w rd n s)) ≡ table w rd m t =
      ap (take m) (drop_table w rd r n s (omega arith)) ∙ take_table w rd m (n - r) t (omega arith) in
      ap (flat wr) e
      ∙ sym (ap (take (w * m)) (flat_table C m t k)
      ∙ take_at (flat wr (table w rd m t)) (drop (w * m) t) (w * m) (length_flat C (table w rd m t) ∙ ap (λ (i : ℕ). w * i) (length_table w rd m t)))

  -- m records from r on, packed
  pub packed_moved : (xs : List A) (n r m : ℕ) → length xs ≤ r → r + m ≤ n → w * n ≤ length s
      → moved (over (flat wr xs) s) (w * length xs) (w * r) (w * m) ≡ over (flat wr (xs ++ take m (drop r (table w rd n s)))) s
  packed_moved xs n r m h k fits =
      ap (λ (i : ℕ). moved (over (flat wr xs) s) i (w * r) (w * m)) (sym (length_flat C xs))
      ∙ over_moved (flat wr xs) s (w * r) (w * m) (omega (arith, length_flat C xs, mul-le-mul_left w h))
      (omega (arith, mul-le-mul_left w k, mul-add w r m))
      ∙ ap (λ (l : List ℕ). over l s)
      (sym (flat_append wr xs (take m (drop r (table w rd n s))) ∙ ap (λ (l : List ℕ). flat wr xs ++ l) (run_numbers n r m k fits)))
