-- Laws of picking spares until their bytes cover the excess. Assumes nothing.
use mathlib.Core.Path.{◌≡◌, refl, sym, ap, ◌∙◌}
use mathlib.Core.Bool.{Bool, true, false, cond}
use mathlib.Core.List.{List, [], ◌∷◌, ◌++◌}
use Prim.Native.Nat.{ℕ, suc, ◌+◌, ◌≤◌, ◌<◌}
use native.Mathlib.Nat.{add-zero, add_assoc}
use native.Mathlib.Omega.{arith}
use lib.Dec.{leb, eqb}
use lib.ListN.{length}
use borrow.Author.Tests.{leb-true, le-leb, lt-leb, eq-eqb, ne_eqb}
use Rattle.base_blocks.specs.Lists.{total}
use Rattle.base_blocks.specs.All.{All, nil, cons}
use Rattle.base_blocks.proofs.Lists.{either, total_append}
use Rattle.pool_rules.specs.NoteAllocated.{Aged, picked, count_of}
use Rattle.pool_relief_line.specs.Line.{bytes_of_aged, freed_with}

-- ---- what is picked

-- where the bytes cover the excess already, none is
pub picked_none : (freed excess : ℕ) (xs : List Aged) → excess ≤ freed → picked freed excess xs ≡ []
unfolding picked
picked_none freed excess [] h = refl
picked_none freed excess (x ∷ xs) h = rw (le-leb excess freed h)

-- where all together do not cover it, all are
pub picked_all : (freed excess : ℕ) (xs : List Aged) → freed + total bytes_of_aged xs < excess → picked freed excess xs ≡ xs
unfolding picked total
picked_all freed excess [] h = refl
picked_all freed excess (x ∷ xs) h =
    rw (lt-leb excess freed (omega arith)) (ap (λ (l : List Aged). x ∷ l) (picked_all (freed + x.bytes) excess xs (omega arith)))

-- where all together cover it, those picked do
pub picked_covers : (freed excess : ℕ) (xs : List Aged) → excess ≤ freed + total bytes_of_aged xs → excess ≤ freed_with freed excess xs
unfolding picked total freed_with
picked_covers freed excess [] h = h
picked_covers freed excess (x ∷ xs) h =
    either (λ (l : List Aged). excess ≤ freed + total bytes_of_aged l) (leb excess freed) [] (x ∷ picked (freed + x.bytes) excess xs)
    (λ e. omega (arith, leb-true excess freed e)) (λ e. omega (arith, picked_covers (freed + x.bytes) excess xs (omega arith)))

-- of two lists: those of the first, and then of the second with what the first freed
pub picked_append : (freed excess : ℕ) (xs ys : List Aged)
    → picked freed excess (xs ++ ys) ≡ picked freed excess xs ++ picked (freed_with freed excess xs) excess ys
unfolding picked total freed_with
picked_append freed excess [] ys = ap (λ (f : ℕ). picked f excess ys) (sym (add-zero freed))
picked_append freed excess (x ∷ xs) ys = go (leb excess freed) refl (picked_append (freed + x.bytes) excess xs ys)
  where
    go : (b : Bool) → leb excess freed ≡ b
        → picked (freed + x.bytes) excess (xs ++ ys) ≡ picked (freed + x.bytes) excess xs ++ picked (freed_with (freed + x.bytes) excess xs) excess ys
        → picked freed excess (x ∷ xs ++ ys) ≡ picked freed excess (x ∷ xs) ++ picked (freed_with freed excess (x ∷ xs)) excess ys
    go true e r = rw e (sym (picked_none (freed + 0) excess ys (omega (arith, leb-true excess freed e))))
    go false e r =
        rw e (ap (λ (l : List Aged). x ∷ l)
        (r ∙ ap (λ (f : ℕ). picked (freed + x.bytes) excess xs ++ picked f excess ys)
        (add_assoc freed x.bytes (total bytes_of_aged (picked (freed + x.bytes) excess xs)))))

pub all_picked : {P : Aged → Type 0} (freed excess : ℕ) {xs : List Aged} → All P xs → All P (picked freed excess xs)
unfolding picked
all_picked freed excess nil = nil
all_picked {P = P} freed excess (cons {x = x} {xs = xs} p ps) =
    either (All P) (leb excess freed) [] (x ∷ picked (freed + x.bytes) excess xs) (λ e. nil) (λ e. cons p (all_picked (freed + x.bytes) excess ps))

-- what two lists free
pub freed_append : (freed excess : ℕ) (xs ys : List Aged) → freed_with freed excess (xs ++ ys) ≡ freed_with (freed_with freed excess xs) excess ys
unfolding freed_with
freed_append freed excess xs ys =
    let a = picked freed excess xs in
    let b = picked (freed + total bytes_of_aged a) excess ys in
    ap (λ (l : List Aged). freed + total bytes_of_aged l) (picked_append freed excess xs ys)
    ∙ (let e : freed + total bytes_of_aged (a ++ b) ≡ freed + total bytes_of_aged a + total bytes_of_aged b = omega (arith, total_append bytes_of_aged a b) in e)

-- ---- how many a texture has among them

module _ (id : ℕ) where
  pub count_append : (xs ys : List Aged) → count_of id (xs ++ ys) ≡ count_of id xs + count_of id ys
  unfolding count_of
  count_append [] ys = omega arith
  count_append (x ∷ xs) ys = go (eqb x.id id) (count_append xs ys)
    where
      go : (b : Bool) → count_of id (xs ++ ys) ≡ count_of id xs + count_of id ys
          → cond b (suc (count_of id (xs ++ ys))) (count_of id (xs ++ ys)) ≡ cond b (suc (count_of id xs)) (count_of id xs) + count_of id ys
      go true e = omega arith
      go false e = e

  pub count_all : {xs : List Aged} → All (λ (a : Aged). a.id ≡ id) xs → count_of id xs ≡ length xs
  unfolding count_of
  count_all nil = refl
  count_all (cons {x = x} {xs = xs} p ps) = rw (eq-eqb x.id id p) (ap suc (count_all ps))

  pub count_none : {xs : List Aged} → All (λ (a : Aged). a.id ≡ id → ⊥) xs → count_of id xs ≡ 0
  unfolding count_of
  count_none nil = refl
  count_none (cons {x = x} {xs = xs} p ps) = rw (ne_eqb x.id id p) (count_none ps)
