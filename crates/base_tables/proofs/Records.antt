-- Laws of tables of records. Assumes nothing.
use mathlib.Core.Path.{◌≡◌, refl, sym, ap, ap₂, ◌∙◌}
use mathlib.Core.List.{List, [], ◌∷◌, ◌++◌, map, append-nil}
use Prim.Native.Nat.{ℕ, zero, suc, ◌+◌, ◌*◌, ◌-◌, ◌≤◌, ◌<◌}
use native.Mathlib.Nat.{mul-suc, mul-zero, add_comm, mul-add, zero-add}
use native.Mathlib.Omega.{arith}
use lib.ListN.{length, take, drop, get_or, set, replicate, length-set, length-replicate}
use lib.Seq.{sets, drop-drop, drop-cons, take_all, set-get_or, get_or-set_same, get_or-set_other}
use Rattle.base_blocks.specs.Lists.{listed, over, total, removed, inserted}
use Rattle.base_blocks.specs.Blocks.{moved}
use Rattle.base_unequal.specs.Unequal.{size_by, start_of, blocks}
use Rattle.base_tables.specs.Records.{record_at, table, flat}
use Rattle.base_blocks.proofs.Lists.{over_self}
use Rattle.base_blocks.proofs.Listed.{length_listed, get_or_listed, take_listed, drop_listed, listed_same, left, left_all}
use Rattle.base_blocks.proofs.All.{all_each}
use Rattle.base_blocks.proofs.Numbers.{rows_split}
use Rattle.base_unequal.proofs.Starts.{total_equal, start_equal}
use Rattle.base_unequal.proofs.Unequal.{length_flat as length_blocks, removed_blocks, inserted_blocks, replaced_block}
use Rattle.base_unequal.proofs.Readings.{blocks_flat, flat_blocks}
pub use Rattle.base_unequal.proofs.Unequal.{flat_append}

-- What a type of record says of its reading and writing, once: all the laws below follow.
pub record Codec {ℓ} {A : Type ℓ} (w : ℕ) (rd : List ℕ → A) (wr : A → List ℕ) : Type ℓ where
  pub long : (a : A) → length (wr a) ≡ w
  pub read : (a : A) (l : List ℕ) → rd (wr a ++ l) ≡ a
  pub back : (l : List ℕ) → w ≤ length l → wr (rd l) ≡ take w l
  pub front : (l : List ℕ) → rd (take w l) ≡ rd l

-- the n numbers from index i on, one by one: of a literal n this computes to the list of the reads, which gives `back`
abbrev pub tab : ℕ → ℕ → List ℕ → List ℕ
tab zero i l = []
tab (suc n) i l = get_or l i 0 ∷ tab n (suc i) l

pub drop_tab : (n i : ℕ) (l : List ℕ) → i + n ≤ length l → take n (drop i l) ≡ tab n i l
drop_tab zero i l h = refl
drop_tab (suc n) i l h =
    ap (take (suc n)) (drop-cons l i 0 (omega arith)) ∙ ap (λ (r : List ℕ). get_or l i 0 ∷ r) (drop_tab n (suc i) l (omega arith))

pub take_tab : (n : ℕ) (l : List ℕ) → n ≤ length l → take n l ≡ tab n 0 l
take_tab n l h = drop_tab n 0 l (omega arith)

-- ---- a table read

module _ {ℓ} {A : Type ℓ} (w : ℕ) (rd : List ℕ → A) where
  pub length_table : (n : ℕ) (s : List ℕ) → length (table w rd n s) ≡ n
  unfolding table
  length_table n s = length_listed (record_at w rd s) 0 n

  pub table_none : (s : List ℕ) → table w rd 0 s ≡ []
  unfolding table listed
  table_none s = refl

  -- record i, read by itself
  pub get_or_table : (n i : ℕ) (s : List ℕ) (d : A) → i < n → get_or (table w rd n s) i d ≡ record_at w rd s i
  unfolding table
  get_or_table n i s d h = get_or_listed (record_at w rd s) 0 n i d h ∙ ap (record_at w rd s) (zero-add i)

  pub take_table : (c n : ℕ) (s : List ℕ) → c ≤ n → take c (table w rd n s) ≡ table w rd c s
  unfolding table
  take_table c n s h = take_listed (record_at w rd s) c 0 n h

  -- record j of what stands past c records
  pub record_past : (c j : ℕ) (s : List ℕ) → record_at w rd (drop (w * c) s) j ≡ record_at w rd s (c + j)
  unfolding record_at
  record_past c j s = ap rd (drop-drop (w * j) (w * c) s ∙ ap (λ (k : ℕ). drop k s) (sym (mul-add w c j)))

  pub drop_table : (c n : ℕ) (s : List ℕ) → c ≤ n → drop c (table w rd n s) ≡ table w rd (n - c) (drop (w * c) s)
  unfolding table
  drop_table c n s h =
      drop_listed (record_at w rd s) c 0 n h
      ∙ listed_same (record_at w rd s) (record_at w rd (drop (w * c) s)) (n - c) (0 + c) 0
      (λ j q. sym (record_past c (0 + j) s ∙ ap (record_at w rd s) (let e : c + (0 + j) ≡ 0 + c + j = omega arith in e)))

  -- the loops over a table
  pub table_left : (n : ℕ) (s : List ℕ) → left (record_at w rd s) n 0 ≡ table w rd n s
  unfolding table
  table_left n s = left_all (record_at w rd s) n

  -- the first record, and the table of what stands past it
  table_cons : (n : ℕ) (s : List ℕ) → table w rd (suc n) s ≡ rd s ∷ table w rd n (drop w s)
  unfolding table listed record_at
  table_cons n s =
      ap₂ (λ (x : A) (l : List A). x ∷ l)
      (ap (λ (k : ℕ). rd (drop k s)) (mul-zero w))
      (listed_same (λ i. rd (drop (w * i) s)) (λ i. rd (drop (w * i) (drop w s))) n 1 0
      (λ j q. ap (λ (k : ℕ). rd (drop k s)) (ap (λ (k : ℕ). w * k) (let e : 1 + j ≡ suc (0 + j) = omega arith in e) ∙ mul-suc w (0 + j) ∙ add_comm (w * (0 + j)) w)
      ∙ sym (ap rd (drop-drop (w * (0 + j)) w s))))

-- ---- a table written

module _ {ℓ} {A : Type ℓ} {w : ℕ} {rd : List ℕ → A} {wr : A → List ℕ} (C : Codec w rd wr) where
  -- a record, read out of the part of s that holds it
  pub record_part : (s : List ℕ) (i : ℕ) → rd (take w (drop (w * i) s)) ≡ record_at w rd s i
  unfolding record_at
  record_part s i = C.front (drop (w * i) s)

  pub length_flat : (xs : List A) → length (flat wr xs) ≡ w * length xs
  length_flat xs = length_blocks wr xs ∙ total_equal (size_by wr) w C.long xs

  -- a table is blocks of one size, and no record needs a head
  pub table_blocks : (n : ℕ) (s : List ℕ) → table w rd n s ≡ blocks (λ (u : Unit {0}). w) (λ (u : Unit {0}). rd) (replicate n tt) s
  unfolding blocks
  table_blocks zero s = table_none w rd s
  table_blocks (suc n) s = table_cons w rd n s ∙ ap₂ (λ (x : A) (l : List A). x ∷ l) (sym (C.front s)) (table_blocks n (drop w s))

  -- what was written is what is read
  pub table_flat : (xs : List A) (t : List ℕ) → table w rd (length xs) (flat wr xs ++ t) ≡ xs
  table_flat xs t =
      table_blocks (length xs) (flat wr xs ++ t)
      ∙ ap (λ (us : List (Unit {0})). blocks (λ u. w) (λ u. rd) us (flat wr xs ++ t)) (sym (heads xs))
      ∙ blocks_flat (λ u. w) (λ u. rd) wr (λ a. tt) xs t (all_each C.long xs) (λ a. ap rd (sym (append-nil (wr a))) ∙ C.read a [])
    where
      heads : (ys : List A) → map (λ (a : A). tt {0}) ys ≡ replicate (length ys) tt
      heads [] = refl
      heads (y ∷ ys) = ap (λ (us : List (Unit {0})). tt ∷ us) (heads ys)

  -- what is read after a write-back is what was written
  pub reread : (xs : List A) (n : ℕ) (s : List ℕ) → length xs ≡ n → table w rd n (over (flat wr xs) s) ≡ xs
  unfolding over
  reread xs n s e = ap (λ (m : ℕ). table w rd m (flat wr xs ++ drop (length (flat wr xs)) s)) (sym e) ∙ table_flat xs (drop (length (flat wr xs)) s)

  -- what is read is what stands there
  pub flat_table : (n : ℕ) (s : List ℕ) → w * n ≤ length s → s ≡ flat wr (table w rd n s) ++ drop (w * n) s
  flat_table n s k =
      let used : total (λ (u : Unit {0}). w) (replicate n tt) ≡ w * n = total_equal (λ u. w) w (λ u. refl) (replicate n tt) ∙ ap (λ (m : ℕ). w * m) (length-replicate n tt) in
      flat_blocks (λ (u : Unit {0}). w) (λ u. rd) wr (λ u l e. C.back l (omega arith) ∙ take_all w l (omega arith)) (replicate n tt) s (omega arith)
      ∙ ap₂ (λ (l : List A) (m : ℕ). flat wr l ++ drop m s) (sym (table_blocks n s)) used

  -- a write-back of what was read changes nothing
  pub over_table : (n : ℕ) (s : List ℕ) → w * n ≤ length s → over (flat wr (table w rd n s)) s ≡ s
  over_table n s h = over_self (flat wr (table w rd n s)) s (drop (w * n) s) (flat_table n s h)

-- ---- records put in, taken out, replaced and moved, among the first n of s

module _ {ℓ} {A : Type ℓ} {w : ℕ} {rd : List ℕ → A} {wr : A → List ℕ} (C : Codec w rd wr) (n : ℕ) (s : List ℕ) (fits : w * n ≤ length s) where
  abbrev xs : List A
  xs = table w rd n s

  -- where record i begins, and what the records take
  begins : (i : ℕ) → i ≤ n → start_of (size_by wr) i xs ≡ w * i
  begins i h = start_equal (size_by wr) w C.long xs i (omega (arith, length_table w rd n s))

  takes : total (size_by wr) xs ≡ w * n
  takes = total_equal (size_by wr) w C.long xs ∙ ap (λ (k : ℕ). w * k) (length_table w rd n s)

  -- what the records from i on take
  later : (i : ℕ) → i ≤ n → total (size_by wr) xs - start_of (size_by wr) i xs ≡ w * (n - i)
  later i h = omega (arith, takes, begins i h, rows_split w i n h)

  -- the k records from i on taken out
  pub removed_records : (i k : ℕ) → i + k ≤ n → moved s (w * i) (w * i + w * k) (w * (n - (i + k))) ≡ over (flat wr (removed i k xs)) s
  removed_records i k h =
      (λ j. moved s (sym (begins i (omega arith)) j) (sym (begins (i + k) h ∙ mul-add w i k) j) (sym (later (i + k) h) j))
      ∙ removed_blocks wr xs s (drop (w * n) s) (flat_table C n s fits) i k (omega (arith, length_table w rd n s))

  -- one record put in before record i
  pub inserted_records : (i : ℕ) (x : A) → w * n + w ≤ length s → i ≤ n
      → sets (moved s (w * i + w) (w * i) (w * (n - i))) (w * i) (wr x) ≡ over (flat wr (inserted i (x ∷ []) xs)) s
  unfolding flat total
  inserted_records i x room h =
      let one : flat wr (x ∷ []) ≡ wr x = append-nil (wr x) in
      let at = begins i h in
      (λ j. sets (moved s (sym at j + sym (ap length one ∙ C.long x) j) (sym at j) (sym (later i h) j)) (sym at j) (sym one j))
      ∙ inserted_blocks wr xs s (drop (w * n) s) (flat_table C n s fits) i (x ∷ []) (omega (arith, length_table w rd n s)) (omega (arith, takes, C.long x))

  -- record i written over
  pub replaced_record : (i : ℕ) (x : A) → i < n → sets s (w * i) (wr x) ≡ over (flat wr (set xs i x)) s
  unfolding over
  replaced_record i x h =
      let long : length (flat wr (set xs i x)) ≡ w * n = length_flat C (set xs i x) ∙ ap (λ (k : ℕ). w * k) (length-set xs i x ∙ length_table w rd n s) in
      ap (λ (k : ℕ). sets s k (wr x)) (sym (begins i (omega arith)))
      ∙ replaced_block wr xs s (drop (w * n) s) (flat_table C n s fits) i x (rd []) (omega (arith, length_table w rd n s)) (C.long x ∙ sym (C.long (get_or xs i (rd []))))
      ∙ ap (λ (k : ℕ). flat wr (set xs i x) ++ drop k s) (sym long)

  -- ---- the table after such a change

  pub table_replaced : (i : ℕ) (x : A) → i < n → table w rd n (sets s (w * i) (wr x)) ≡ set xs i x
  table_replaced i x h =
      ap (table w rd n) (replaced_record i x h) ∙ reread C (set xs i x) n s (length-set xs i x ∙ length_table w rd n s)

  -- the record at the place written, and that at any other place
  pub read_same : (p : ℕ) (x : A) → p < n → record_at w rd (sets s (w * p) (wr x)) p ≡ x
  read_same p x h =
      sym (get_or_table w rd n p (sets s (w * p) (wr x)) (rd []) h)
      ∙ ap (λ (l : List A). get_or l p (rd [])) (table_replaced p x h)
      ∙ get_or-set_same xs p x (rd []) (omega (arith, length_table w rd n s))

  pub read_other : (p q : ℕ) (x : A) → p < n → q < n → (q ≡ p → ⊥) → record_at w rd (sets s (w * p) (wr x)) q ≡ record_at w rd s q
  read_other p q x hp hq ne =
      sym (get_or_table w rd n q (sets s (w * p) (wr x)) (rd []) hq)
      ∙ ap (λ (l : List A). get_or l q (rd [])) (table_replaced p x hp)
      ∙ get_or-set_other xs p q x (rd []) ne
      ∙ get_or_table w rd n q s (rd []) hq

  -- a record written where it was read
  pub rewritten : (p : ℕ) → p < n → sets s (w * p) (wr (record_at w rd s p)) ≡ s
  rewritten p h =
      replaced_record p (record_at w rd s p) h
      ∙ ap (λ (l : List A). over (flat wr l) s) (ap (set xs p) (sym (get_or_table w rd n p s (rd []) h)) ∙ set-get_or xs p (rd []))
      ∙ over_table C n s fits
