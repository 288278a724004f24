-- Helper: How the code goes over a page: what a scan has seen so far, and a block of tiles stamped row by row.
-- That these equal the definitions of Grids is a law; a reader of the contracts needs none of this.
use Rattle.std.specs.Prelude.{ℕ, zero, suc, ◌+◌, ◌-◌, ◌*◌, ◌≤◌, ◌<◌, cond, List, [], ◌∷◌, ltb, get_or, replicate, Option, Some, None}
use Rattle.std.proofs.lemmas.List.Edits.{sets}
use Rattle.base_blocks.specs.Lists.{listed, keep}
use Rattle.grid_axes.specs.declared.axis.Span.{Span}
use Rattle.grid_stamps.specs.declared.since.Seen.{Seen}
use Rattle.grid_stamps.specs.declared.grid.Tile.{Tile}
use Rattle.grid_axes.specs.Axes.{one_tile, widened}
use Rattle.grid_axes.specs.AxisConstants.{max_tiles_per_axis}

abbrev pub nothing_seen : Option Seen
nothing_seen = None

-- one dirty tile more
unfoldable pub joined : Option Seen → Tile → Option Seen
joined None t = Some (record { columns = one_tile t.column; rows = one_tile t.row })
joined (Some s) t = Some (record { columns = widened s.columns t.column; rows = widened s.rows t.row })

-- the tile counts if its stamp is above held
unfoldable pub visited : Option Seen → ℕ → ℕ → ℕ → ℕ → Option Seen
visited s stamp held column row = cond (ltb held stamp) (joined s (record { column = column; row = row })) s

unfoldable pub all_joined : Option Seen → List Tile → Option Seen
all_joined s [] = s
all_joined s (t ∷ ts) = all_joined (joined s t) ts

-- the dirty tiles of one row, whose stamps are given
unfoldable pub dirty_row : ℕ → ℕ → ℕ → List ℕ → List Tile
dirty_row columns row held line =
    keep (λ (t : Tile). ltb held (get_or line t.column 0)) (listed (λ (column : ℕ). record { column = column; row = row }) 0 columns)

-- `width` stamps from column `left` on set to n, in each of k rows from `row` on
unfoldable pub rows_stamped : ℕ → ℕ → ℕ → ℕ → ℕ → ℕ → List ℕ → List ℕ
rows_stamped columns left width n row zero page = page
rows_stamped columns left width n row (suc k) page = rows_stamped columns left width n (suc row) k (sets page (row * columns + left) (replicate width n))

-- the tiles of two spans set to n
unfoldable pub tiles_stamped : ℕ → Span → Span → ℕ → List ℕ → List ℕ
tiles_stamped columns across down n page =
    rows_stamped columns across.first (across.last + 1 - across.first) n down.first (down.last + 1 - down.first) page

-- they lie in a grid of that many columns, on a page of that many numbers
pub record StampRoom (columns : ℕ) (across down : Span) (size : ℕ) : Type 0 where
  pub wide : across.first ≤ across.last
  pub right : across.last < columns
  pub narrow : columns ≤ max_tiles_per_axis
  pub high : down.first ≤ down.last
  pub low : down.last < max_tiles_per_axis
  pub room : (down.last + 1) * columns ≤ size
