-- Laws of blocks read back, by the sizes that their heads give: one after the other, or each by the start that its head holds. Assumes nothing.
use mathlib.Core.Path.{◌≡◌, refl, sym, ap, ap₂, ◌∙◌}
use mathlib.Core.Bool.{true}
use mathlib.Core.List.{List, [], ◌∷◌, ◌++◌, map, append_assoc}
use Prim.Native.Nat.{ℕ, zero, suc, ◌+◌, ◌≤◌, ◌<◌}
use native.Mathlib.Nat.{add-zero}
use native.Mathlib.Omega.{arith}
use borrow.Author.Tests.{eqb-true}
use lib.Dec.{eqb}
use lib.ListN.{length, take, drop, get_or, length-drop, take-append-drop}
use lib.Seq.{take_at, drop_at, drop-drop, length-take-le}
use Rattle.base_blocks.specs.Lists.{total}
use Rattle.base_blocks.specs.All.{All, nil, cons}
use Rattle.base_blocks.proofs.Lists.{and_both}
use Rattle.base_unequal.specs.Unequal.{flat, start_of, blocks, starts_fit}

module _ {ℓ ℓ'} {H : Type ℓ} {A : Type ℓ'} (size : H → ℕ) (rd : H → List ℕ → A) where
  -- block i, by where it begins
  pub blocks_at : (hs : List H) (s : List ℕ) (i : ℕ) (d : A) (e : H) → i < length hs
      → get_or (blocks size rd hs s) i d ≡ rd (get_or hs i e) (take (size (get_or hs i e)) (drop (start_of size i hs) s))
  unfolding blocks start_of total
  blocks_at [] s i d e h = absurd (let y : ⊥ = omega arith in y)
  blocks_at (x ∷ hs) s zero d e h = refl
  blocks_at (x ∷ hs) s (suc i) d e h =
      blocks_at hs (drop (size x) s) i d e (omega arith)
      ∙ ap (λ (l : List ℕ). rd (get_or hs i e) (take (size (get_or hs i e)) l)) (drop-drop (total size (take i hs)) (size x) s)

  -- what was written is what is read
  pub blocks_flat : (wr : A → List ℕ) (head : A → H) (xs : List A) (t : List ℕ)
      → All (λ (a : A). length (wr a) ≡ size (head a)) xs → ((a : A) → rd (head a) (wr a) ≡ a)
      → blocks size rd (map head xs) (flat wr xs ++ t) ≡ xs
  unfolding blocks flat
  blocks_flat wr head [] t nil back = refl
  blocks_flat wr head (x ∷ xs) t (cons e es) back =
      let c : (wr x ++ flat wr xs) ++ t ≡ wr x ++ (flat wr xs ++ t) = append_assoc (wr x) (flat wr xs) t in
      ap₂ (λ (l r : List ℕ). rd (head x) l ∷ blocks size rd (map head xs) r)
      (ap (take (size (head x))) c ∙ take_at (wr x) (flat wr xs ++ t) (size (head x)) e)
      (ap (drop (size (head x))) c ∙ drop_at (wr x) (flat wr xs ++ t) (size (head x)) e)
      ∙ ap₂ (λ (a : A) (l : List A). a ∷ l) (back x) (blocks_flat wr head xs t es back)

  -- where each head holds its start, reading by it is reading one after the other
  pub blocks_held : (start : H → ℕ) (hs : List H) (n : ℕ) (s : List ℕ) → starts_fit size start n hs ≡ true
      → map (λ (h : H). rd h (take (size h) (drop (start h) s))) hs ≡ blocks size rd hs (drop n s)
  unfolding blocks starts_fit
  blocks_held start [] n s e = refl
  blocks_held start (h ∷ hs) n s e =
      let q = and_both (eqb (start h) n) (starts_fit size start (n + size h) hs) e in
      ap₂ (λ (a : A) (l : List A). a ∷ l)
      (ap (λ (m : ℕ). rd h (take (size h) (drop m s))) (eqb-true (start h) n q.0))
      (blocks_held start hs (n + size h) s q.1 ∙ ap (blocks size rd hs) (sym (drop-drop (size h) n s)))

-- a start that is held, as a sum
pub start_held {ℓ} : {H : Type ℓ} (size start : H → ℕ) (hs : List H) (n i : ℕ) (d : H) → starts_fit size start n hs ≡ true → i < length hs
    → start (get_or hs i d) ≡ n + start_of size i hs
unfolding starts_fit start_of total
start_held size start [] n i d e h = absurd (let y : ⊥ = omega arith in y)
start_held size start (x ∷ hs) n zero d e h =
    eqb-true (start x) n (and_both (eqb (start x) n) (starts_fit size start (n + size x) hs) e).0 ∙ sym (add-zero n)
start_held size start (x ∷ hs) n (suc i) d e h =
    let r = start_held size start hs (n + size x) i d (and_both (eqb (start x) n) (starts_fit size start (n + size x) hs) e).1 (omega arith) in
    omega (arith, r)

-- what is read is what stands there, where writing a block gives back the numbers that it was read from
pub flat_blocks {ℓ ℓ'} : {H : Type ℓ} {A : Type ℓ'} (size : H → ℕ) (rd : H → List ℕ → A) (wr : A → List ℕ)
    → ((h : H) (l : List ℕ) → length l ≡ size h → wr (rd h l) ≡ l) → (hs : List H) (s : List ℕ) → total size hs ≤ length s
    → s ≡ flat wr (blocks size rd hs s) ++ drop (total size hs) s
unfolding blocks flat total
flat_blocks size rd wr back [] s k = refl
flat_blocks size rd wr back (h ∷ hs) s k =
    let n = size h in
    let l : length (take n s) ≡ n = length-take-le n s (omega arith) in
    let r = flat wr (blocks size rd hs (drop n s)) in
    sym (take-append-drop n s)
    ∙ ap₂ (λ (a b : List ℕ). a ++ b) (sym (back h (take n s) l))
    (flat_blocks size rd wr back hs (drop n s) (omega (arith, length-drop n s))
    ∙ ap (λ (q : List ℕ). r ++ q) (drop-drop (total size hs) n s))
    ∙ sym (append_assoc (wr (rd h (take n s))) r (drop (n + total size hs) s))
