-- Laws of what stands tile by tile, row by row. Assumes nothing.
use mathlib.Core.Path.{◌≡◌, refl, sym, ap, ◌∙◌}
use mathlib.Core.Bool.{Bool}
use mathlib.Core.List.{List, [], ◌∷◌, ◌++◌, flat_map}
use Prim.Native.Nat.{ℕ, zero, suc, ◌+◌, ◌*◌, ◌/◌, ◌%◌, ◌<◌}
use native.Mathlib.Nat.{add-zero, zero-mul, suc-mul, mul_comm, mul-le-mul_right, div-add-mod', mod-lt, div-lt_iff_lt-mul, not-suc-le-zero, zero-add}
use native.Mathlib.Omega.{arith}
use lib.ListN.{length, get_or, length-append, get_or-append}
use lib.Seq.{get_or-append-add, ext_get_or}
use Rattle.base_blocks.specs.Lists.{listed, keep}
use Rattle.base_blocks.proofs.Lists.{keep_append}
use Rattle.base_blocks.proofs.Listed.{length_listed, get_or_listed}
use Rattle.grid_stamps.specs.Grids.{row_by_row}

-- a tile's place lies in the grid
pub tile_place : (columns rows column row : ℕ) → column < columns → row < rows → row * columns + column < columns * rows
tile_place columns rows column row h k = omega (arith, mul-le-mul_right columns k, suc-mul row columns, mul_comm columns rows)

-- and each place of the grid is a tile's
pub record TileAt (columns rows i : ℕ) : Type 0 where
  pub column : i % columns < columns
  pub row : i / columns < rows
  pub place : i ≡ i / columns * columns + i % columns

-- a product above some number has no factor 0
pub factor_pos : (a b i : ℕ) → i < a * b → 0 < a
factor_pos zero b i h = absurd (not-suc-le-zero (rw (zero-mul b) at h))
factor_pos (suc a) b i h = omega arith

pub tile_at : (columns rows i : ℕ) → i < columns * rows → TileAt columns rows i
tile_at columns rows i h =
    let pos : 0 < columns = factor_pos columns rows i h in
    record { column = mod-lt i pos; row = (div-lt_iff_lt-mul pos).1 (rw (mul_comm columns rows) at h); place = sym (div-add-mod' i columns) }

-- ---- blocks of one length, one after the other

module _ {ℓ} {A : Type ℓ} (c : ℕ) (g : ℕ → List A) (each : (k : ℕ) → length (g k) ≡ c) where
  length_blocks : (i n : ℕ) → length (flat_map g (listed (λ (k : ℕ). k) i n)) ≡ n * c
  unfolding flat_map listed
  length_blocks i zero = sym (zero-mul c)
  length_blocks i (suc n) =
      length-append (g i) (flat_map g (listed (λ (k : ℕ). k) (suc i) n))
      ∙ (let q = length_blocks (suc i) n in let e = each i in let p : length (g i) + length (flat_map g (listed (λ (k : ℕ). k) (suc i) n)) ≡ suc n * c = omega (arith, suc-mul n c) in p)

  get_or_blocks : (i n r k : ℕ) (d : A) → r < n → k < c → get_or (flat_map g (listed (λ (j : ℕ). j) i n)) (r * c + k) d ≡ get_or (g (i + r)) k d
  unfolding flat_map listed
  get_or_blocks i zero r k d h q = absurd (not-suc-le-zero h)
  get_or_blocks i (suc n) zero k d h q =
      let m : 0 * c + k ≡ k = omega (arith, zero-mul c) in
      let e = each i in
      ap (λ (j : ℕ). get_or (g i ++ flat_map g (listed (λ (l : ℕ). l) (suc i) n)) j d) m
      ∙ get_or-append (g i) _ d k (omega arith) ∙ ap (λ (j : ℕ). get_or (g j) k d) (sym (add-zero i))
  get_or_blocks i (suc n) (suc r) k d h q =
      let e = each i in
      let m : suc r * c + k ≡ length (g i) + (r * c + k) = omega (arith, suc-mul r c) in
      ap (λ (j : ℕ). get_or (g i ++ flat_map g (listed (λ (l : ℕ). l) (suc i) n)) j d) m
      ∙ get_or-append-add (g i) (flat_map g (listed (λ (l : ℕ). l) (suc i) n)) (r * c + k) d
      ∙ get_or_blocks (suc i) n r k d (omega arith) q
      ∙ ap (λ (j : ℕ). get_or (g j) k d) (let p : suc i + r ≡ i + suc r = omega arith in p)

-- ---- one value for each tile

module _ {ℓ} {A : Type ℓ} (columns rows : ℕ) (f : ℕ → ℕ → A) where
  pub length_rows : length (row_by_row columns rows f) ≡ columns * rows
  unfolding row_by_row
  length_rows = length_blocks columns (λ (row : ℕ). listed (λ (column : ℕ). f column row) 0 columns) (λ row. length_listed _ 0 columns) 0 rows ∙ mul_comm rows columns

  pub value_at : (column row : ℕ) (d : A) → column < columns → row < rows → get_or (row_by_row columns rows f) (row * columns + column) d ≡ f column row
  unfolding row_by_row
  value_at column row d h k =
      get_or_blocks columns (λ (r : ℕ). listed (λ (c : ℕ). f c r) 0 columns) (λ r. length_listed _ 0 columns) 0 rows row column d k h
      ∙ get_or_listed (λ (c : ℕ). f c (0 + row)) 0 columns column d h
      ∙ ap (λ (r : ℕ). f (0 + column) r) (zero-add row) ∙ ap (λ (c : ℕ). f c row) (zero-add column)

-- two lists with a number for each tile are equal if they are so at each tile
pub same_tiles : (columns rows : ℕ) (xs ys : List ℕ) → length xs ≡ columns * rows → length ys ≡ columns * rows
    → ((column row : ℕ) → column < columns → row < rows → get_or xs (row * columns + column) 0 ≡ get_or ys (row * columns + column) 0) → xs ≡ ys
same_tiles columns rows xs ys p q f =
    ext_get_or 0 xs ys (p ∙ sym q)
    (λ i h. let t = tile_at columns rows i (rw p at h) in rw t.place (f (i % columns) (i / columns) t.column t.row))

keep_flat_map {ℓ} : {A : Type ℓ} (p : A → Bool) (g : ℕ → List A) (xs : List ℕ) → keep p (flat_map g xs) ≡ flat_map (λ (x : ℕ). keep p (g x)) xs
unfolding keep flat_map
keep_flat_map p g [] = refl
keep_flat_map p g (x ∷ xs) = keep_append p (g x) (flat_map g xs) ∙ ap (λ l. keep p (g x) ++ l) (keep_flat_map p g xs)

-- those kept, row by row
pub keep_rows {ℓ} : {A : Type ℓ} (p : A → Bool) (columns rows : ℕ) (f : ℕ → ℕ → A)
    → keep p (row_by_row columns rows f) ≡ flat_map (λ (row : ℕ). keep p (listed (λ (column : ℕ). f column row) 0 columns)) (listed (λ (row : ℕ). row) 0 rows)
unfolding row_by_row
keep_rows p columns rows f = keep_flat_map p (λ (row : ℕ). listed (λ (column : ℕ). f column row) 0 columns) (listed (λ (row : ℕ). row) 0 rows)
