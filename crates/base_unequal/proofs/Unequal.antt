-- Laws of blocks of any sizes, written one after the other: one found by its start, some renewed, taken out, put in, packed. Assumes nothing.
use mathlib.Core.Path.{◌≡◌, refl, sym, ap, ap₂, ◌∙◌}
use mathlib.Core.List.{List, [], ◌∷◌, ◌++◌, flat_map, append_assoc}
use Prim.Native.Nat.{ℕ, suc, ◌+◌, ◌-◌, ◌≤◌, ◌<◌}
use native.Mathlib.Nat.{add-zero}
use native.Mathlib.Omega.{arith}
use lib.ListN.{length, take, drop, get_or, set, length-append, take-append-drop}
use lib.Seq.{sets, take_at, drop_at, take-append_seam, drop-cons, set_split}
use Rattle.base_blocks.specs.Lists.{over, total, removed, inserted}
use Rattle.base_blocks.specs.Blocks.{moved}
use Rattle.base_blocks.proofs.Lists.{drop_over}
use Rattle.base_blocks.proofs.Blocks.{repacked, over_moved, stored_at}
use Rattle.base_unequal.specs.Unequal.{flat, size_by, start_of, renewed}
use Rattle.base_unequal.proofs.Starts.{total_parts, start_bound, start_order, start_run}

pub flat_append {ℓ} : {A : Type ℓ} (wr : A → List ℕ) (xs ys : List A) → flat wr (xs ++ ys) ≡ flat wr xs ++ flat wr ys
unfolding flat
flat_append wr [] ys = refl
flat_append wr (x ∷ xs) ys = ap (λ (l : List ℕ). wr x ++ l) (flat_append wr xs ys) ∙ sym (append_assoc (wr x) (flat wr xs) (flat wr ys))

module _ {ℓ} {A : Type ℓ} (wr : A → List ℕ) where
  pub length_flat : (xs : List A) → length (flat wr xs) ≡ total (size_by wr) xs
  unfolding flat total
  length_flat [] = refl
  length_flat (x ∷ xs) = length-append (wr x) (flat wr xs) ∙ ap (λ (n : ℕ). length (wr x) + n) (length_flat xs)

  pub length_front : (i : ℕ) (xs : List A) → length (flat wr (take i xs)) ≡ start_of (size_by wr) i xs
  unfolding start_of
  length_front i xs = length_flat (take i xs)

  pub length_rest : (i : ℕ) (xs : List A) → length (flat wr (drop i xs)) ≡ total (size_by wr) xs - start_of (size_by wr) i xs
  unfolding start_of
  length_rest i xs = omega (arith, length_flat (drop i xs), total_parts (size_by wr) i xs)

-- blocks of blocks
pub flat_flat {ℓ} : {A B : Type ℓ} (wr : B → List ℕ) (gs : A → List B) (ts : List A)
    → flat (λ (t : A). flat wr (gs t)) ts ≡ flat wr (flat_map gs ts)
unfolding flat flat_map
flat_flat wr gs [] = refl
flat_flat wr gs (t ∷ ts) = ap (λ (l : List ℕ). flat wr (gs t) ++ l) (flat_flat wr gs ts) ∙ sym (flat_append wr (gs t) (flat_map gs ts))

module _ {ℓ} {A : Type ℓ} (wr : A → List ℕ) (xs : List A) (s t : List ℕ) (stands : s ≡ flat wr xs ++ t) where
  abbrev from : ℕ → ℕ
  from i = start_of (size_by wr) i xs

  abbrev used : ℕ
  used = total (size_by wr) xs

  pub length_used : length s ≡ used + length t
  length_used = ap length stands ∙ length-append (flat wr xs) t ∙ ap (λ (n : ℕ). n + length t) (length_flat wr xs)

  -- the blocks before i, and those from i on
  parted : (i : ℕ) → s ≡ flat wr (take i xs) ++ (flat wr (drop i xs) ++ t)
  parted i =
      stands
      ∙ ap (λ (l : List A). flat wr l ++ t) (sym (take-append-drop i xs))
      ∙ ap (λ (l : List ℕ). l ++ t) (flat_append wr (take i xs) (drop i xs))
      ∙ append_assoc (flat wr (take i xs)) (flat wr (drop i xs)) t

  take_front : (i : ℕ) → take (from i) s ≡ flat wr (take i xs)
  take_front i = ap (take (from i)) (parted i) ∙ take_at (flat wr (take i xs)) (flat wr (drop i xs) ++ t) (from i) (length_front wr i xs)

  drop_front : (i : ℕ) → drop (from i) s ≡ flat wr (drop i xs) ++ t
  drop_front i = ap (drop (from i)) (parted i) ∙ drop_at (flat wr (take i xs)) (flat wr (drop i xs) ++ t) (from i) (length_front wr i xs)

  -- the m blocks from i on, by where they begin
  pub blocks_from : (i m : ℕ) → take (total (size_by wr) (take m (drop i xs))) (drop (from i) s) ≡ flat wr (take m (drop i xs))
  blocks_from i m =
      let run = take m (drop i xs) in
      let rest = drop m (drop i xs) in
      let e : flat wr (drop i xs) ++ t ≡ flat wr run ++ (flat wr rest ++ t) =
      ap (λ (l : List A). flat wr l ++ t) (sym (take-append-drop m (drop i xs)))
      ∙ ap (λ (l : List ℕ). l ++ t) (flat_append wr run rest) ∙ append_assoc (flat wr run) (flat wr rest) t in
      ap (take (total (size_by wr) run)) (drop_front i ∙ e)
      ∙ take_at (flat wr run) (flat wr rest ++ t) (total (size_by wr) run) (length_flat wr run)

  -- block i, by where it begins
  pub block_at : (i : ℕ) (d : A) → i < length xs → take (length (wr (get_or xs i d))) (drop (from i) s) ≡ wr (get_or xs i d)
  unfolding flat
  block_at i d h =
      let x = get_or xs i d in
      let rest = flat wr (drop (suc i) xs) in
      ap (take (length (wr x))) (drop_front i ∙ ap (λ (l : List A). flat wr l ++ t) (drop-cons xs i d h) ∙ append_assoc (wr x) rest t)
      ∙ take-append_seam (wr x) (rest ++ t)

  -- ---- changes

  -- the k blocks from i on make way for others, of any number and sizes: those after them move, and what stands past all of them stays
  pub renewed_blocks : (i k : ℕ) (ys : List A) → i + k ≤ length xs → from i + total (size_by wr) ys + (used - from (i + k)) ≤ length s
      → sets (moved s (from i + length (flat wr ys)) (from (i + k)) (used - from (i + k))) (from i) (flat wr ys) ≡ over (flat wr (renewed i k ys xs)) s
  unfolding renewed
  renewed_blocks i k ys h room =
      let a = from i in
      let b = from (i + k) in
      let r = used - b in
      let y = flat wr ys in
      let ordered : a ≤ b = start_order (size_by wr) xs i (i + k) (omega arith) in
      let within : b ≤ used = start_bound (size_by wr) xs (i + k) in
      let last : take r (drop b s) ≡ flat wr (drop (i + k) xs) =
      ap (take r) (drop_front (i + k)) ∙ take_at (flat wr (drop (i + k) xs)) t r (length_rest wr (i + k) xs) in
      repacked s y a b r ordered (omega (arith, length_used)) (omega (arith, length_flat wr ys))
      ∙ ap₂ (λ (p q : List ℕ). over (p ++ (y ++ q)) s) (take_front i) last
      ∙ ap (λ (l : List ℕ). over l s)
      (sym (flat_append wr (take i xs) (ys ++ drop (i + k) xs) ∙ ap (λ (l : List ℕ). flat wr (take i xs) ++ l) (flat_append wr ys (drop (i + k) xs))))

  -- taken out
  pub removed_blocks : (i k : ℕ) → i + k ≤ length xs → moved s (from i) (from (i + k)) (used - from (i + k)) ≡ over (flat wr (removed i k xs)) s
  unfolding removed renewed flat total
  removed_blocks i k h =
      ap (λ (n : ℕ). moved s n (from (i + k)) (used - from (i + k))) (sym (add-zero (from i)))
      ∙ renewed_blocks i k [] h
      (omega (arith, length_used, start_order (size_by wr) xs i (i + k) (omega arith), start_bound (size_by wr) xs (i + k)))

  -- put in
  pub inserted_blocks : (i : ℕ) (ys : List A) → i ≤ length xs → used + total (size_by wr) ys ≤ length s
      → sets (moved s (from i + length (flat wr ys)) (from i) (used - from i)) (from i) (flat wr ys) ≡ over (flat wr (inserted i ys xs)) s
  unfolding inserted renewed
  inserted_blocks i ys h room =
      let z = add-zero i in
      ap (λ (n : ℕ). sets (moved s (from i + length (flat wr ys)) (from n) (used - from n)) (from i) (flat wr ys)) (sym z)
      ∙ renewed_blocks i 0 ys (omega arith) (omega (arith, ap from z, start_bound (size_by wr) xs i))
      ∙ ap (λ (n : ℕ). over (flat wr (take i xs ++ (ys ++ drop n xs))) s) z

  -- one written over by another of its size: nothing moves
  pub replaced_block : (i : ℕ) (x d : A) → i < length xs → length (wr x) ≡ length (wr (get_or xs i d))
      → sets s (from i) (wr x) ≡ flat wr (set xs i x) ++ t
  unfolding flat
  replaced_block i x d h e =
      let a = flat wr (take i xs) in
      let y = wr (get_or xs i d) in
      let b = flat wr (drop (suc i) xs) in
      let cut : s ≡ a ++ (y ++ (b ++ t)) =
      parted i ∙ ap (λ (l : List ℕ). a ++ l) (ap (λ (l : List A). flat wr l ++ t) (drop-cons xs i d h) ∙ append_assoc y b t) in
      ap (λ (n : ℕ). sets s n (wr x)) (sym (length_front wr i xs))
      ∙ stored_at s a (wr x) y (b ++ t) cut e
      ∙ ap (λ (l : List ℕ). a ++ l) (sym (append_assoc (wr x) b t))
      ∙ sym (append_assoc a (wr x ++ b) t)
      ∙ ap (λ (l : List ℕ). l ++ t) (sym (ap (flat wr) (set_split xs i x h) ∙ flat_append wr (take i xs) (x ∷ drop (suc i) xs)))

  -- free numbers: what a write-back leaves past its blocks is what stood there
  pub free_kept : (ys : List A) (n : ℕ) → total (size_by wr) ys ≤ n → drop n (over (flat wr ys) s) ≡ drop n s
  free_kept ys n h = drop_over (flat wr ys) s n (omega (arith, length_flat wr ys))

  -- ---- a pass that packs what stays: ys at the front so far, and the m blocks from i on moved down to them
  pub packed_blocks : (ys : List A) (i m : ℕ) → total (size_by wr) ys ≤ from i
      → moved (over (flat wr ys) s) (length (flat wr ys)) (from i) (total (size_by wr) (take m (drop i xs)))
      ≡ over (flat wr (ys ++ take m (drop i xs))) s
  packed_blocks ys i m h =
      let run = take m (drop i xs) in
      let n = total (size_by wr) run in
      let within : from i + n ≤ length s = omega (arith, start_run (size_by wr) xs i m, start_bound (size_by wr) xs (i + m), length_used) in
      over_moved (flat wr ys) s (from i) n (omega (arith, length_flat wr ys)) within
      ∙ ap (λ (l : List ℕ). over (flat wr ys ++ l) s) (blocks_from i m)
      ∙ ap (λ (l : List ℕ). over l s) (sym (flat_append wr ys run))
