-- Laws of views copied to an answer. Assumes nothing.
use mathlib.Core.Path.{◌≡◌, refl, sym, ap, ap₂, ◌∙◌}
use mathlib.Core.List.{List, [], ◌∷◌, ◌++◌, append_assoc}
use Prim.Native.Nat.{ℕ, suc, ◌+◌, ◌≤◌}
use native.Mathlib.Nat.{add-zero, zero-add}
use native.Mathlib.Numerals.{add-one}
use native.Mathlib.Omega.{arith}
use lib.ListN.{length, drop, set, length-append}
use lib.Seq.{sets, sets-eq, take-append_seam}
use Rattle.base_blocks.specs.Lists.{listed, over}
use Rattle.base_blocks.proofs.Lists.{length_over, drop_over}
use Rattle.base_blocks.proofs.Listed.{length_listed, listed_more}
use Rattle.pool_memory.specs.declared.pool.Pool.{Pool}
use Rattle.pool_take_doomed.specs.Views.{column_number, column}
use Rattle.pool_take_doomed.specs.DrainVersions.{drained_views}
use Rattle.pool_records.specs.RecordConstants.{doomed_stride, retiring_stride, spare_stride}

-- one number more stored after the others
sets_more : (vs : List ℕ) (x : ℕ) (l : List ℕ) (i : ℕ) → sets l i (vs ++ (x ∷ [])) ≡ set (sets l i vs) (i + length vs) x
sets_more [] x l i = ap (λ (k : ℕ). set l k x) (sym (add-zero i))
sets_more (v ∷ vs) x l i =
    sets_more vs x (set l i v) (suc i)
    ∙ ap (λ (k : ℕ). set (sets (set l i v) (suc i) vs) k x) (let e : suc i + length vs ≡ i + suc (length vs) = omega arith in e)

module _ (w k cap head : ℕ) (s : List ℕ) (i : ℕ) where
  pub length_column : (n : ℕ) → length (column w k cap head s i n) ≡ n
  unfolding column
  length_column n = length_listed (column_number w k cap head s) i n

  module _ (o : List ℕ) (at : ℕ) where
    pub column_none : o ≡ sets o at (column w k cap head s i 0)
    unfolding column listed
    column_none = refl

    pub column_more : (j : ℕ)
        → set (sets o at (column w k cap head s i j)) (at + j) (column_number w k cap head s (i + j)) ≡ sets o at (column w k cap head s i (j + 1))
    unfolding column
    column_more j =
        let f = column_number w k cap head s in
        sym (ap (λ (n : ℕ). sets o at (listed f i n)) (add-one j)
        ∙ ap (sets o at) (listed_more f i j)
        ∙ sets_more (listed f i j) (f (i + j)) o at
        ∙ ap (λ (n : ℕ). set (sets o at (listed f i j)) (at + n) (f (i + j))) (length_listed f i j))

-- numbers stored after those laid over the front
pub over_sets : (xs ys o : List ℕ) → length xs + length ys ≤ length o → sets (over xs o) (length xs) ys ≡ over (xs ++ ys) o
unfolding over
over_sets xs ys o h =
    let room : length xs + length ys ≤ length (over xs o) = omega (arith, length_over xs o (omega arith)) in
    sets-eq ys (over xs o) (length xs) room
    ∙ ap₂ (λ (a b : List ℕ). a ++ ys ++ b) (take-append_seam xs (drop (length xs) o)) (drop_over xs o (length xs + length ys) (omega arith))
    ∙ ap (λ (n : ℕ). (xs ++ ys) ++ drop n o) (sym (length-append xs ys))

pub front_sets : (xs o : List ℕ) → length xs ≤ length o → sets o 0 xs ≡ over xs o
unfolding over
front_sets xs o h = sets-eq xs o 0 (omega arith) ∙ ap (λ (n : ℕ). xs ++ drop n o) (zero-add (length xs))

-- three blocks stored one after the other
three_sets : (xs ys zs o : List ℕ) → length xs + length ys + length zs ≤ length o
    → sets (sets (sets o 0 xs) (length xs) ys) (length xs + length ys) zs ≡ over (xs ++ (ys ++ zs)) o
three_sets xs ys zs o h =
    ap (λ (t : List ℕ). sets (sets t (length xs) ys) (length xs + length ys) zs) (front_sets xs o (omega arith))
    ∙ ap₂ (λ (t : List ℕ) (n : ℕ). sets t n zs) (over_sets xs ys o (omega arith)) (sym (length-append xs ys))
    ∙ over_sets (xs ++ ys) zs o (omega (arith, length-append xs ys))
    ∙ ap (λ (l : List ℕ). over l o) (append_assoc xs ys zs)

-- the views of a drain, copied column by column
pub views_copied : (c : Pool) (places : ℕ) (retiring doomed spares o : List ℕ) → c.queued + c.doomed + c.kept ≤ length o
    → (o1 o2 o3 : List ℕ) → o1 ≡ sets o 0 (column retiring_stride 1 places c.head retiring c.popped c.queued)
    → o2 ≡ sets o1 c.queued (column doomed_stride 0 places c.first doomed 0 c.doomed)
    → o3 ≡ sets o2 (c.queued + c.doomed) (column spare_stride 0 places 0 spares 0 c.kept) → o3 ≡ over (drained_views c places retiring doomed spares) o
unfolding drained_views
views_copied c places retiring doomed spares o h o1 o2 o3 e1 e2 e3 =
    let xs = column retiring_stride 1 places c.head retiring c.popped c.queued in
    let ys = column doomed_stride 0 places c.first doomed 0 c.doomed in
    let zs = column spare_stride 0 places 0 spares 0 c.kept in
    let lx : length xs ≡ c.queued = length_column retiring_stride 1 places c.head retiring c.popped c.queued in
    let ly : length ys ≡ c.doomed = length_column doomed_stride 0 places c.first doomed 0 c.doomed in
    let lz : length zs ≡ c.kept = length_column spare_stride 0 places 0 spares 0 c.kept in
    e3
    ∙ ap (λ (t : List ℕ). sets t (c.queued + c.doomed) zs) (e2 ∙ ap (λ (t : List ℕ). sets t c.queued ys) e1)
    ∙ ap₂ (λ (n m : ℕ). sets (sets (sets o 0 xs) n ys) (n + m) zs) (sym lx) (sym ly)
    ∙ three_sets xs ys zs o (omega arith)
