-- A write's stamps on its page. Assumes nothing.
use mathlib.Core.Path.{◌≡◌, sym, ap, ◌∙◌}
use mathlib.Core.Bool.{false, ◌&&◌, and-false}
use lib.ListN.{length}
use Rattle.grid_axes.specs.declared.axis.Span.{Span}
use Rattle.std.specs.Prelude.{Some}
use Rattle.grid_axes.specs.Axes.{is_cut, touched_tiles}
use Rattle.grid_stamps.specs.Grids.{columns_of, is_cut_rect}
use Rattle.grid_stamps.specs.Scans.{StampRoom, tiles_stamped}
use Rattle.grid_axes.proofs.Axes.{tiles_none}
use Rattle.grid_stamps.proofs.Pages.{page_kept, newest_kept, stamp_room, page_spans, newest_stamped}
use Rattle.grid_stamps.proofs.stamping.stamp.Goals as goal
use Rattle.grid_stamps.proofs.stamping.stamp.Goals.{After-tiles, In-Some-touched_tiles}

-- where both spans were found
module _ (c : In-Some-touched_tiles) where
  abbrev columns : Span
  columns = c.in-Some.columns

  abbrev rows : Span
  rows = c.in-Some-touched_tiles.rows

  columns_found : touched_tiles c.args.tiling.across c.args.rect.x c.args.rect.width ≡ Some columns
  columns_found = sym c.touched_tiles.ensures ∙ c.in-Some.is

  rows_found : touched_tiles c.args.tiling.down c.args.rect.y c.args.rect.height ≡ Some rows
  rows_found = sym c.touched_tiles-2.ensures ∙ c.in-Some-touched_tiles.is

  room : StampRoom (columns_of c.args.tiling) columns rows (length c.args.page.now)
  room =
      stamp_room c.args.tiling c.requires.0 c.args.rect c.args.n c.args.newest c.args.page.now c.requires.1 columns rows columns_found
      rows_found

-- the tiles call counts the columns
tiles-is : (c : After-tiles) → c.tiles.result ≡ columns_of c.args.tiling
unfolding columns_of
tiles-is c = c.tiles.ensures

-- no tile across: the cut is empty
pub returns-in_default : goal.returns-in_default
unfolding is_cut_rect
returns-in_default c =
    let a = c.args in
    let e = tiles_none a.tiling.across a.rect.x a.rect.width (sym c.touched_tiles.ensures ∙ c.in_default.is) in
    let f : is_cut a.tiling.across a.rect.x a.rect.width && is_cut a.tiling.down a.rect.y a.rect.height ≡ false = rw e in (
      sym (newest_kept c.args.tiling c.requires.0 a.rect a.n a.newest a.page.now c.requires.1 f),
      sym (page_kept c.args.tiling c.requires.0 a.rect a.n a.newest a.page.now c.requires.1 f),
    )

-- no tile down: the cut is empty
pub returns-in_default-touched_tiles : goal.returns-in_default-touched_tiles
unfolding is_cut_rect
returns-in_default-touched_tiles c =
    let a = c.args in
    let e = tiles_none a.tiling.down a.rect.y a.rect.height (sym c.touched_tiles-2.ensures ∙ c.in_default-touched_tiles.is) in
    let f : is_cut a.tiling.across a.rect.x a.rect.width && is_cut a.tiling.down a.rect.y a.rect.height ≡ false =
    ap (λ b. is_cut a.tiling.across a.rect.x a.rect.width && b) e ∙ and-false (is_cut a.tiling.across a.rect.x a.rect.width) in (
      sym (newest_kept c.args.tiling c.requires.0 a.rect a.n a.newest a.page.now c.requires.1 f),
      sym (page_kept c.args.tiling c.requires.0 a.rect a.n a.newest a.page.now c.requires.1 f),
    )

pub stamp_tiles-requires : goal.stamp_tiles-requires
stamp_tiles-requires c = rw (tiles-is (goal.at.stamp_tiles-requires c).After-tiles) (room (goal.at.stamp_tiles-requires c).In-Some-touched_tiles)

pub returns : goal.returns
returns c =
    let a = c.args in (
      sym (newest_stamped c.args.tiling c.requires.0 a.rect a.n a.newest a.page.now c.requires.1 (columns (goal.at.returns c).In-Some-touched_tiles) (rows (goal.at.returns c).In-Some-touched_tiles) (columns_found (goal.at.returns c).In-Some-touched_tiles) (rows_found (goal.at.returns c).In-Some-touched_tiles)),
      c.stamp_tiles.ensures
          ∙ ap (λ m. tiles_stamped m (columns (goal.at.returns c).In-Some-touched_tiles) (rows (goal.at.returns c).In-Some-touched_tiles) a.n a.page.now) (tiles-is (goal.at.returns c).After-tiles)
          ∙ sym (page_spans c.args.tiling c.requires.0 a.rect a.n a.newest a.page.now c.requires.1 (columns (goal.at.returns c).In-Some-touched_tiles) (rows (goal.at.returns c).In-Some-touched_tiles) (columns_found (goal.at.returns c).In-Some-touched_tiles) (rows_found (goal.at.returns c).In-Some-touched_tiles)),
    )
