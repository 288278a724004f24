-- The scan of a page sees the box around its dirty tiles. Assumes nothing.
use mathlib.Core.Path.{◌≡◌, refl, sym, ap, ap₂, subst, ◌∙◌}
use mathlib.Core.Bool.{Bool, true, false, cond}
use mathlib.Core.List.{List, [], ◌∷◌, ◌++◌, map, flat_map}
use Prim.Native.Nat.{ℕ, ◌+◌, ◌*◌, ◌≤◌, ◌<◌}
use native.Mathlib.Omega.{arith}
use lib.Dec.{ltb}
use lib.ListN.{length, get_or, take, drop}
use lib.Seq.{get_or-take, get_or-drop}
use borrow.Author.Tests.{leb-true, le-ltb, le-leb, lt-leb}
use Rattle.base_blocks.specs.Lists.{keep, all}
use Rattle.base_blocks.specs.Blocks.{at_most}
use Rattle.base_blocks.specs.All.{All, cons}
use Rattle.base_blocks.proofs.Lists.{all_get}
use Rattle.base_blocks.proofs.Listed.{left, left_all, left_step, left_none}
use Rattle.base_blocks.proofs.All.{all_listed, all_flat_map}
use Rattle.grid_axes.specs.declared.axis.Span.{Span}
use Rattle.std.specs.Prelude.{Option, Some, None}
use Rattle.grid_rects.specs.declared.rect.TexelRect.{TexelRect}
use Rattle.grid_stamps.specs.declared.since.Seen.{Seen}
use Rattle.grid_axes.specs.Axes.{SpanIn, one_tile, widened, span_around}
use Rattle.grid_stamps.specs.declared.grid.Tiling.{Tiling}
use Rattle.grid_stamps.specs.declared.grid.Tile.{Tile}
use Rattle.grid_stamps.specs.Grids.{TilingOk, columns_of, rows_of, stamp_count, grid_in, row_by_row, stamp_of, dirty_tiles, box_of, box_around, box_since}
use Rattle.grid_stamps.specs.Scans.{nothing_seen, joined, visited, all_joined, dirty_row}
use Rattle.grid_stamps.proofs.RowByRow.{tile_place, keep_rows}
use Rattle.grid_stamps.proofs.Boxes.{TileIn}
use Rattle.grid_stamps.proofs.Legal.{columns_in, rows_in}

-- ---- what was seen is the box

-- the box of what was seen
unfoldable pub seen_box : Tiling → Option Seen → Option TexelRect
seen_box g None = None
seen_box g (Some s) = Some (box_of g s.columns s.rows)

-- two spans as what was seen
abbrev seen : Span → Span → Option Seen
seen c r = Some (record { columns = c; rows = r })

joined_spans : (c r : Span) (ts : List Tile) → all_joined (seen c r) ts ≡ seen (span_around c (map (λ (u : Tile). u.column) ts)) (span_around r (map (λ (u : Tile). u.row) ts))
unfolding all_joined joined span_around widened
joined_spans c r [] = refl
joined_spans c r (t ∷ ts) = joined_spans (widened c t.column) (widened r t.row) ts

pub box_seen : (g : Tiling) (ts : List Tile) → box_around g ts ≡ seen_box g (all_joined nothing_seen ts)
unfolding box_around seen_box all_joined joined one_tile
box_seen g [] = refl
box_seen g (t ∷ ts) = sym (ap (seen_box g) (joined_spans (one_tile t.column) (one_tile t.row) ts))

pub joined_append : (s : Option Seen) (ts us : List Tile) → all_joined s (ts ++ us) ≡ all_joined (all_joined s ts) us
unfolding all_joined
joined_append s [] us = refl
joined_append s (t ∷ ts) us = joined_append (joined s t) ts us

-- ---- one row

-- the tiles of a row, and those of them that are dirty from a column on
abbrev tile : ℕ → ℕ → Tile
tile row column = record { column = column; row = row }

abbrev dirty : ℕ → List ℕ → Tile → Bool
dirty held line t = ltb held (get_or line t.column 0)

unfoldable pub row_left : ℕ → ℕ → ℕ → List ℕ → ℕ → List Tile
row_left columns row held line i = keep (dirty held line) (left (tile row) columns i)

module _ (columns row held : ℕ) (line : List ℕ) where
  pub row_all : row_left columns row held line 0 ≡ dirty_row columns row held line
  unfolding row_left dirty_row
  row_all = ap (keep (dirty held line)) (left_all (tile row) columns)

  pub row_step : (s : Option Seen) (i : ℕ) → i < columns
      → all_joined s (row_left columns row held line i) ≡ all_joined (visited s (get_or line i 0) held i row) (row_left columns row held line (i + 1))
  unfolding row_left visited keep all_joined
  row_step s i h = ap (λ l. all_joined s (keep (dirty held line) l)) (left_step (tile row) columns i h) ∙ go (ltb held (get_or line i 0)) refl
    where
      go : (b : Bool) → ltb held (get_or line i 0) ≡ b
          → all_joined s (keep (dirty held line) (tile row i ∷ left (tile row) columns (i + 1)))
          ≡ all_joined (cond (ltb held (get_or line i 0)) (joined s (tile row i)) s) (keep (dirty held line) (left (tile row) columns (i + 1)))
      go true e = rw e
      go false e = rw e

  pub row_done : (s : Option Seen) (i : ℕ) → columns ≤ i → all_joined s (row_left columns row held line i) ≡ s
  unfolding row_left keep all_joined
  row_done s i h = rw (left_none (tile row) columns i h)

-- a clean row has no dirty tile
keep_none {ℓ} : {A : Type ℓ} (p : A → Bool) (xs : List A) → All (λ (x : A). p x ≡ false) xs → keep p xs ≡ []
unfolding keep
keep_none p [] all = refl
keep_none p (x ∷ xs) (cons e es) = rw (e, keep_none p xs es)

pub clean_row : (row held : ℕ) (line : List ℕ) → all (at_most held) line ≡ true → dirty_row (length line) row held line ≡ []
unfolding dirty_row at_most
clean_row row held line e =
    keep_none (dirty held line) _
    (all_listed (tile row) 0 (length line)
    (λ j q. le-ltb held (get_or line (0 + j) 0) (leb-true _ _ (all_get (at_most held) line (0 + j) 0 e (omega arith)))))

-- ---- every row

keep_same {ℓ} : {A : Type ℓ} (p q : A → Bool) (xs : List A) → All (λ (x : A). p x ≡ q x) xs → keep p xs ≡ keep q xs
unfolding keep
keep_same p q [] all = refl
keep_same p q (x ∷ xs) (cons e es) = rw (e, keep_same p q xs es)

flat_map_same {ℓ} : {A : Type ℓ} (f g : ℕ → List A) (xs : List ℕ) → ((x : ℕ) → f x ≡ g x) → flat_map f xs ≡ flat_map g xs
unfolding flat_map
flat_map_same f g [] h = refl
flat_map_same f g (x ∷ xs) h = ap₂ (λ l m. l ++ m) (h x) (flat_map_same f g xs h)

-- the stamps of a row
abbrev pub line_at : ℕ → List ℕ → ℕ → List ℕ
line_at columns stamps row = take columns (drop (row * columns) stamps)

-- the dirty tiles from a row on
unfoldable pub rows_left : ℕ → ℕ → ℕ → List ℕ → ℕ → List Tile
rows_left columns rows held stamps i = flat_map (λ (row : ℕ). dirty_row columns row held (line_at columns stamps row)) (left (λ (row : ℕ). row) rows i)

module _ (columns rows held : ℕ) (stamps : List ℕ) where
  pub rows_all : rows_left columns rows held stamps 0 ≡ dirty_tiles columns rows held stamps
  unfolding rows_left dirty_tiles dirty_row stamp_of
  rows_all =
      ap (flat_map (λ (row : ℕ). dirty_row columns row held (line_at columns stamps row))) (left_all (λ (row : ℕ). row) rows)
      ∙ flat_map_same _ _ _
      (λ row. keep_same _ _ _
      (all_listed (tile row) 0 columns
      (λ j q. ap (ltb held) (get_or-take columns (drop (row * columns) stamps) (0 + j) 0 (omega arith) ∙ get_or-drop (row * columns) stamps (0 + j) 0))))
      ∙ sym (keep_rows (λ (t : Tile). ltb held (get_or stamps (t.row * columns + t.column) 0)) columns rows (λ (column row : ℕ). tile row column))

  pub rows_step : (s : Option Seen) (i : ℕ) → i < rows
      → all_joined s (rows_left columns rows held stamps i)
      ≡ all_joined (all_joined s (dirty_row columns i held (line_at columns stamps i))) (rows_left columns rows held stamps (i + 1))
  unfolding rows_left flat_map
  rows_step s i h =
      ap (λ l. all_joined s (flat_map (λ (row : ℕ). dirty_row columns row held (line_at columns stamps row)) l)) (left_step (λ (row : ℕ). row) rows i h)
      ∙ joined_append s _ _

  pub rows_done : (s : Option Seen) (i : ℕ) → rows ≤ i → all_joined s (rows_left columns rows held stamps i) ≡ s
  unfolding rows_left flat_map all_joined
  rows_done s i h = rw (left_none (λ (row : ℕ). row) rows i h)

-- ---- what was seen lies in the grid

pub record SeenIn (g : Tiling) (s : Seen) : Type 0 where
  pub columns : SpanIn g.across s.columns
  pub rows : SpanIn g.down s.rows

pub seen_in : (g : Tiling) → TilingOk g → (ts : List Tile) → All (TileIn (columns_of g) (rows_of g)) ts → (s : Seen) → all_joined nothing_seen ts ≡ Some s → SeenIn g s
unfolding all_joined joined one_tile
seen_in g ok [] all s e = absurd (let z : ◌≡◌ {A = ℕ} 0 1 = cc in let y : ⊥ = omega arith in y)
seen_in g ok (t ∷ ts) all s e =
    let found : Some _ ≡ Some s = sym (joined_spans (one_tile t.column) (one_tile t.row) ts) ∙ e in
    let q : record { columns = span_around (one_tile t.column) (map (λ (u : Tile). u.column) ts); rows = span_around (one_tile t.row) (map (λ (u : Tile). u.row) ts) } ≡ s = cc in
    subst (SeenIn g) q (record { columns = columns_in g ok t ts all; rows = rows_in g ok t ts all })

-- a page's dirty tiles are those of its grid
pub dirty_page : (columns rows held : ℕ) (page : List ℕ) → dirty_tiles columns rows held (take (columns * rows) page) ≡ dirty_tiles columns rows held page
unfolding dirty_tiles stamp_of row_by_row
dirty_page columns rows held page =
    keep_same _ _ _
    (all_flat_map {P = λ (row : ℕ). row < rows} _
    (λ row h. all_listed (tile row) 0 columns
    (λ j q. ap (ltb held) (get_or-take (columns * rows) page (row * columns + (0 + j)) 0 (tile_place columns rows (0 + j) row (omega arith) h))))
    (all_listed (λ (row : ℕ). row) 0 rows (λ j q. omega arith)))

-- ---- the box that the scan gives

module _ (g : Tiling) (held newest : ℕ) (page : List ℕ) where
  pub since_clean : newest ≤ held → box_since g held (grid_in g newest page) ≡ None
  unfolding box_since grid_in
  since_clean h = rw (le-leb newest held h)

  pub since_seen : held < newest → box_since g held (grid_in g newest page) ≡ seen_box g (all_joined nothing_seen (dirty_tiles (columns_of g) (rows_of g) held page))
  unfolding box_since grid_in stamp_count
  since_seen h =
      rw (lt-leb newest held h) (ap (box_around g) (dirty_page (columns_of g) (rows_of g) held page) ∙ box_seen g (dirty_tiles (columns_of g) (rows_of g) held page))
