-- Rows stamped one after the other are the tiles that a rectangle touches. Assumes nothing.
use mathlib.Core.Path.{◌≡◌, refl, sym, ap, ◌∙◌}
use mathlib.Core.List.{List}
use Prim.Native.Nat.{ℕ, zero, suc, ◌+◌, ◌-◌, ◌*◌, ◌≤◌, ◌<◌}
use native.Mathlib.Nat.{mul-le-mul_right, suc-mul}
use native.Mathlib.Numerals.{add-one}
use native.Mathlib.Decide.{dec_lt, dec_le}
use native.Mathlib.Omega.{arith}
use lib.ListN.{length, get_or, replicate, length-replicate, get_or-replicate}
use lib.Seq.{sets, length-sets}
use Rattle.base_blocks.proofs.Blocks.{get_d_sets_before, get_or_sets_in, get_or_sets_past}
use Rattle.grid_stamps.specs.Scans.{rows_stamped}

-- ---- a run of one number in a list

module _ (l : List ℕ) (at w x : ℕ) (fits : at + w ≤ length l) where
  run_fits : at + length (replicate w x) ≤ length l
  run_fits = rw length-replicate fits

  -- at an index of the run, and at any other
  pub run_in : (k : ℕ) → at ≤ k → k < at + w → get_or (sets l at (replicate w x)) k 0 ≡ x
  run_in k lo hi =
      let e : at + (k - at) ≡ k = omega arith in
      let h : k - at < w = omega arith in
      ap (λ (i : ℕ). get_or (sets l at (replicate w x)) i 0) (sym e)
      ∙ get_or_sets_in l at (replicate w x) run_fits (k - at) 0 (rw length-replicate h) ∙ get_or-replicate w (k - at) x 0 h

  pub run_out : (k : ℕ) → (at ≤ k → k < at + w → ⊥) → get_or (sets l at (replicate w x)) k 0 ≡ get_or l k 0
  run_out k miss = go (dec_lt k at) (dec_lt k (at + w))
    where
      go : Dec (k < at) → Dec (k < at + w) → get_or (sets l at (replicate w x)) k 0 ≡ get_or l k 0
      go (yes q) d = get_d_sets_before l at (replicate w x) run_fits k 0 q
      go (no q) (yes p) = absurd (miss (omega arith) p)
      go (no q) (no p) = get_or_sets_past l at (replicate w x) run_fits k 0 (rw length-replicate (omega arith))

-- ---- some rows of such runs

module _ (columns left width n : ℕ) (narrow : left + width ≤ columns) where
  pub length_rows_stamped : (row k : ℕ) (page : List ℕ) → length (rows_stamped columns left width n row k page) ≡ length page
  unfolding rows_stamped
  length_rows_stamped row zero page = refl
  length_rows_stamped row (suc k) page =
      length_rows_stamped (suc row) k (sets page (row * columns + left) (replicate width n)) ∙ length-sets page (row * columns + left) (replicate width n)

  -- a tile's place lies in a row's run only if the tile is of that row and of the run's columns
  record Hit (column row r : ℕ) : Type 0 where
    same : r ≡ row
    from : left ≤ column
    to : column < left + width

  row_step : (a b : ℕ) → a < b → a * columns + columns ≤ b * columns
  row_step a b h = let m = mul-le-mul_right columns h in omega (arith, m, suc-mul a columns)

  hit : (column row r : ℕ) → column < columns → row * columns + left ≤ r * columns + column → r * columns + column < row * columns + left + width
      → Hit column row r
  hit column row r h lo hi = go (dec_lt r row) (dec_lt row r)
    where
      go : Dec (r < row) → Dec (row < r) → Hit column row r
      go (yes p) d = absurd (let q = row_step r row p in let y : ⊥ = omega (arith, q) in y)
      go (no p) (yes q) = absurd (let m = row_step row r q in let y : ⊥ = omega (arith, m) in y)
      go (no p) (no q) =
          let e : r ≡ row = omega arith in
          let f : r * columns ≡ row * columns = ap (λ (k : ℕ). k * columns) e in
          record { same = e; from = omega (arith, f); to = omega (arith, f) }

  -- the row's run fits
  fits : (row k : ℕ) (page : List ℕ) → (row + suc k) * columns ≤ length page → row * columns + left + width ≤ length page
  fits row k page room = let m = row_step row (row + suc k) (omega arith) in omega (arith, m)

  room_next : (row k : ℕ) (page : List ℕ) → (row + suc k) * columns ≤ length page
      → (suc row + k) * columns ≤ length (sets page (row * columns + left) (replicate width n))
  room_next row k page room =
      let e : suc row + k ≡ row + suc k = omega arith in rw (length-sets page (row * columns + left) (replicate width n), e) room

  -- a tile that is not in these rows and columns keeps its stamp
  pub rows_out : (row k : ℕ) (page : List ℕ) → (row + k) * columns ≤ length page → (column r : ℕ) → column < columns
      → (row ≤ r → r < row + k → left ≤ column → column < left + width → ⊥)
      → get_or (rows_stamped columns left width n row k page) (r * columns + column) 0 ≡ get_or page (r * columns + column) 0
  unfolding rows_stamped
  rows_out row zero page room column r h miss = refl
  rows_out row (suc k) page room column r h miss =
      rows_out (suc row) k (sets page (row * columns + left) (replicate width n)) (room_next row k page room) column r h
      (λ a b c d. miss (omega arith) (omega arith) c d)
      ∙ run_out page (row * columns + left) width n (fits row k page room) (r * columns + column)
      (λ lo hi. let t = hit column row r h lo hi in miss (omega (arith, t.same)) (omega (arith, t.same)) t.from t.to)

  -- a tile of these rows and columns has the new stamp
  pub rows_in : (row k : ℕ) (page : List ℕ) → (row + k) * columns ≤ length page → (column r : ℕ) → column < columns
      → row ≤ r → r < row + k → left ≤ column → column < left + width
      → get_or (rows_stamped columns left width n row k page) (r * columns + column) 0 ≡ n
  unfolding rows_stamped
  rows_in row zero page room column r h a b c d = absurd (let y : ⊥ = omega arith in y)
  rows_in row (suc k) page room column r h a b c d = go (dec_le r row) (λ q. rows_in (suc row) k (sets page (row * columns + left) (replicate width n)) (room_next row k page room) column r h q (omega arith) c d)
    where
      go : Dec (r ≤ row) → (suc row ≤ r → get_or (rows_stamped columns left width n (suc row) k (sets page (row * columns + left) (replicate width n))) (r * columns + column) 0 ≡ n)
          → get_or (rows_stamped columns left width n (suc row) k (sets page (row * columns + left) (replicate width n))) (r * columns + column) 0 ≡ n
      go (no q) next = next (omega arith)
      go (yes q) next =
          let e : r ≡ row = omega arith in
          let f : r * columns ≡ row * columns = ap (λ (j : ℕ). j * columns) e in
          rows_out (suc row) k (sets page (row * columns + left) (replicate width n)) (room_next row k page room) column r h (λ p s t u. let y : ⊥ = omega arith in y)
          ∙ run_in page (row * columns + left) width n (fits row k page room) (r * columns + column) (omega (arith, f)) (omega (arith, f))

  -- what stands past the rows stays
  pub rows_past : (row k : ℕ) (page : List ℕ) → (row + k) * columns ≤ length page → (i : ℕ) → (row + k) * columns ≤ i
      → get_or (rows_stamped columns left width n row k page) i 0 ≡ get_or page i 0
  unfolding rows_stamped
  rows_past row zero page room i h = refl
  rows_past row (suc k) page room i h =
      let e : suc row + k ≡ row + suc k = omega arith in
      rows_past (suc row) k (sets page (row * columns + left) (replicate width n)) (room_next row k page room) i (rw e h)
      ∙ run_out page (row * columns + left) width n (fits row k page room) i
      (λ lo hi. let m = row_step row (row + suc k) (omega arith) in let y : ⊥ = omega (arith, m) in y)

-- ---- the loop over the rows

-- the runs of the rows before `bottom` fit
pub row_within : (columns left width row bottom : ℕ) → left + width ≤ columns → row < bottom → row * columns + left + width ≤ bottom * columns
row_within columns left width row bottom narrow h = let m = mul-le-mul_right columns h in omega (arith, m, suc-mul row columns)

module _ (columns left width n bottom : ℕ) (page : List ℕ) where
  pub rows_next : (row : ℕ) → row < bottom
      → rows_stamped columns left width n row (bottom - row) page
      ≡ rows_stamped columns left width n (row + 1) (bottom - (row + 1)) (sets page (row * columns + left) (replicate width n))
  unfolding rows_stamped
  rows_next row h =
      ap (λ (k : ℕ). rows_stamped columns left width n row k page) (let e : bottom - row ≡ suc (bottom - (row + 1)) = omega arith in e)
      ∙ ap (λ (k : ℕ). rows_stamped columns left width n k (bottom - (row + 1)) (sets page (row * columns + left) (replicate width n))) (sym (add-one row))

  pub rows_done : (row : ℕ) → bottom ≤ row → rows_stamped columns left width n row (bottom - row) page ≡ page
  unfolding rows_stamped
  rows_done row h = ap (λ (k : ℕ). rows_stamped columns left width n row k page) (let e : bottom - row ≡ 0 = omega arith in e)
