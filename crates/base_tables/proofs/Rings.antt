-- Laws of rings of records. Assumes nothing.
use mathlib.Core.Path.{◌≡◌, refl, sym, ap, ap₂, ◌∙◌}
use mathlib.Core.List.{List, [], ◌∷◌, ◌++◌}
use mathlib.Core.Logic.{◌⊎◌, inl, inr, ⊎_elim}
use Prim.Native.Nat.{ℕ, zero, suc, ◌+◌, ◌*◌, ◌-◌, ◌≤◌, ◌<◌}
use native.Mathlib.Nat.{add-zero}
use native.Mathlib.Decide.{dec_lt}
use native.Mathlib.Omega.{arith}
use borrow.Author.Tests.{lt-ltb, le-ltb}
use lib.ListN.{length, take, drop}
use lib.Seq.{sets, length-sets}
use Rattle.base_blocks.specs.Lists.{listed}
use Rattle.base_tables.specs.Records.{record_at}
use Rattle.base_tables.specs.Rings.{place_of, along, ring, laid}
use Rattle.base_blocks.proofs.Listed.{drop_listed, listed_same}
use Rattle.base_tables.proofs.Records.{Codec, record_part, read_same, read_other, rewritten}

-- ---- places

pub place_near : (cap head i : ℕ) → i < cap - head → head + i ≡ place_of cap head i
unfolding place_of
place_near cap head i h = rw (lt-ltb i (cap - head) h)

pub place_far : (cap head i : ℕ) → cap - head ≤ i → i - (cap - head) ≡ place_of cap head i
unfolding place_of
place_far cap head i h = rw (le-ltb i (cap - head) h)

-- a place, by cases and without a difference, for omega
abbrev pub Placed : ℕ → ℕ → ℕ → Type 0
Placed cap head i = ((head + i < cap) × (place_of cap head i ≡ head + i)) ⊎ ((cap ≤ head + i) × (place_of cap head i + cap ≡ head + i))

pub placed : (cap head i : ℕ) → head < cap → Placed cap head i
placed cap head i h = go (dec_lt i (cap - head))
  where
    go : Dec (i < cap - head) → Placed cap head i
    go (yes q) = inl (omega arith, sym (place_near cap head i q))
    go (no q) = inr (omega arith, omega (arith, place_far cap head i (omega arith)))

pub place_in : (cap head i : ℕ) → head < cap → i ≤ cap → place_of cap head i < cap
place_in cap head i h k = ⊎_elim (λ w. omega arith) (λ w. omega arith) (placed cap head i h)

-- the first is at the head
pub place_head : (cap head : ℕ) → head < cap → place_of cap head 0 ≡ head
place_head cap head h = sym (place_near cap head 0 (omega arith)) ∙ add-zero head

-- the i-th from the k-th on
pub place_place : (cap head k i : ℕ) → head < cap → k + i ≤ cap → place_of cap (place_of cap head k) i ≡ place_of cap head (k + i)
place_place cap head k i h b =
    let l = place_in cap head k h (omega arith) in
    ⊎_elim
    (λ u. ⊎_elim (λ v. ⊎_elim (λ w. omega arith) (λ w. omega arith) (placed cap head (k + i) h)) (λ v. ⊎_elim (λ w. omega arith) (λ w. omega arith) (placed cap head (k + i) h)) (placed cap (place_of cap head k) i l))
    (λ u. ⊎_elim (λ v. ⊎_elim (λ w. omega arith) (λ w. omega arith) (placed cap head (k + i) h)) (λ v. ⊎_elim (λ w. omega arith) (λ w. omega arith) (placed cap head (k + i) h)) (placed cap (place_of cap head k) i l))
    (placed cap head k h)

-- no two of the ring are at one place
pub place_apart : (cap head i n : ℕ) → head < cap → i < n → n < cap → place_of cap head i ≡ place_of cap head n → ⊥
place_apart cap head i n h k b e =
    ⊎_elim
    (λ u. ⊎_elim (λ v. omega arith) (λ v. omega arith) (placed cap head n h))
    (λ u. ⊎_elim (λ v. omega arith) (λ v. omega arith) (placed cap head n h))
    (placed cap head i h)

-- ---- a ring read

module _ {ℓ} {A : Type ℓ} (w : ℕ) (rd : List ℕ → A) (cap head : ℕ) where
  -- k dropped: the head moves on
  pub popped : (k n : ℕ) (s : List ℕ) → head < cap → k ≤ n → n ≤ cap
      → ring w rd cap (place_of cap head k) (n - k) s ≡ drop k (ring w rd cap head n s)
  unfolding ring along
  popped k n s h hk hn =
      sym (drop_listed (along w rd cap head s) k 0 n hk
      ∙ listed_same (along w rd cap head s) (along w rd cap (place_of cap head k) s) (n - k) (0 + k) 0
      (λ j q. ap (record_at w rd s)
      (ap (place_of cap head) (let e : 0 + k + j ≡ k + (0 + j) = omega arith in e) ∙ sym (place_place cap head k (0 + j) h (omega arith)))))

-- ---- a ring written

module _ {ℓ} {A : Type ℓ} (w : ℕ) (wr : A → List ℕ) (cap head : ℕ) where
  pub laid_more : (xs : List A) (x : A) (i : ℕ) (s : List ℕ)
      → laid w wr cap head i (xs ++ (x ∷ [])) s ≡ sets (laid w wr cap head i xs s) (w * place_of cap head (i + length xs)) (wr x)
  unfolding laid
  laid_more [] x i s = ap (λ (k : ℕ). sets s (w * place_of cap head k) (wr x)) (sym (add-zero i))
  laid_more (y ∷ xs) x i s =
      laid_more xs x (suc i) (sets s (w * place_of cap head i) (wr y))
      ∙ ap (λ (k : ℕ). sets (laid w wr cap head (suc i) xs (sets s (w * place_of cap head i) (wr y))) (w * place_of cap head k) (wr x))
      (let e : suc i + length xs ≡ i + suc (length xs) = omega arith in e)

  pub length_laid : (xs : List A) (i : ℕ) (s : List ℕ) → length (laid w wr cap head i xs s) ≡ length s
  unfolding laid
  length_laid [] i s = refl
  length_laid (x ∷ xs) i s = length_laid xs (suc i) (sets s (w * place_of cap head i) (wr x)) ∙ length-sets s (w * place_of cap head i) (wr x)

-- a record, read out of the part of s that holds it
pub ring_part {ℓ} : {A : Type ℓ} {w : ℕ} {rd : List ℕ → A} {wr : A → List ℕ} (C : Codec w rd wr) (cap head : ℕ) (s : List ℕ) (i : ℕ)
    → rd (take w (drop (w * place_of cap head i) s)) ≡ along w rd cap head s i
unfolding along
ring_part C cap head s i = record_part C s (place_of cap head i)

module _ {ℓ} {A : Type ℓ} {w : ℕ} {rd : List ℕ → A} {wr : A → List ℕ} (C : Codec w rd wr) (cap head : ℕ) (h : head < cap) where
  module _ (s : List ℕ) (fits : w * cap ≤ length s) where
    laid_listed : (n i : ℕ) → i + n ≤ cap → laid w wr cap head i (listed (along w rd cap head s) i n) s ≡ s
    unfolding laid listed along
    laid_listed zero i k = refl
    laid_listed (suc n) i k =
        ap (laid w wr cap head (suc i) (listed (along w rd cap head s) (suc i) n)) (rewritten C cap s fits (place_of cap head i) (place_in cap head i h (omega arith)))
        ∙ laid_listed n (suc i) (omega arith)

    -- what was read is what stands there
    pub laid_ring : (n : ℕ) → n ≤ cap → laid w wr cap head 0 (ring w rd cap head n s) s ≡ s
    unfolding ring
    laid_ring n k = laid_listed n 0 (omega arith)

  -- records written further along leave the k-th
  laid_other : (xs : List A) (j k : ℕ) (s : List ℕ) → w * cap ≤ length s → k < j → j + length xs ≤ cap
      → along w rd cap head (laid w wr cap head j xs s) k ≡ along w rd cap head s k
  unfolding laid along
  laid_other [] j k s fits a b = refl
  laid_other (x ∷ xs) j k s fits a b =
      let p = w * place_of cap head j in
      laid_other xs (suc j) k (sets s p (wr x)) (omega (arith, length-sets s p (wr x))) (omega arith) (omega arith)
      ∙ read_other C cap s fits (place_of cap head j) (place_of cap head k) x (place_in cap head j h (omega arith)) (place_in cap head k h (omega arith)) (place_apart cap head k j h a (omega arith))

  laid_read : (xs : List A) (i : ℕ) (s : List ℕ) → w * cap ≤ length s → i + length xs ≤ cap
      → listed (along w rd cap head (laid w wr cap head i xs s)) i (length xs) ≡ xs
  unfolding laid listed along
  laid_read [] i s fits b = refl
  laid_read (x ∷ xs) i s fits b =
      let p = place_of cap head i in
      let t = sets s (w * p) (wr x) in
      let room : w * cap ≤ length t = omega (arith, length-sets s (w * p) (wr x)) in
      ap₂ (λ (y : A) (l : List A). y ∷ l)
      (laid_other xs (suc i) i t room (omega arith) (omega arith) ∙ read_same C cap s fits p x (place_in cap head i h (omega arith)))
      (laid_read xs (suc i) t room (omega arith))

  -- what was written along the ring is what is read
  pub ring_laid : (xs : List A) (n : ℕ) (s : List ℕ) → w * cap ≤ length s → n ≤ cap → length xs ≡ n → ring w rd cap head n (laid w wr cap head 0 xs s) ≡ xs
  unfolding ring
  ring_laid xs n s fits b e = ap (listed (along w rd cap head (laid w wr cap head 0 xs s)) 0) (sym e) ∙ laid_read xs 0 s fits (omega arith)
