-- The box since a count. Assumes nothing.
use mathlib.Core.Path.{◌≡◌, sym, ap, ap₂, ◌∙◌}
use native.Mathlib.Omega.{arith}
use Rattle.std.specs.Prelude.{Some}
use Rattle.grid_stamps.specs.declared.since.Seen.{Seen}
use Rattle.grid_stamps.specs.Grids.{columns_of, rows_of, stamp_count, grid_in, dirty_tiles, box_since}
use Rattle.grid_stamps.specs.Scans.{nothing_seen, all_joined}
use Rattle.grid_stamps.proofs.Boxes.{dirty_in}
use Rattle.grid_stamps.proofs.Seen.{seen_box, SeenIn, seen_in, since_clean, since_seen}
use Rattle.grid_stamps.proofs.since.written_since.Goals as goal
use Rattle.grid_stamps.proofs.since.written_since.Goals.{After-visit_page}

-- what the scan saw
module _ (c : After-visit_page) where
  seen_is : c.visit_page.result ≡ all_joined nothing_seen (dirty_tiles (columns_of c.args.tiling) (rows_of c.args.tiling) c.args.held c.args.page.now)
  unfolding columns_of rows_of
  seen_is =
      c.visit_page.ensures
      ∙ ap₂ (λ m n. all_joined nothing_seen (dirty_tiles m n c.args.held c.args.page.now)) c.tiles-columns.ensures c.tiles-rows.ensures

  box : box_since c.args.tiling c.args.held (grid_in c.args.tiling c.args.newest c.args.page.now) ≡ seen_box c.args.tiling c.visit_page.result
  box =
      since_seen c.args.tiling c.args.held c.args.newest c.args.page.now c.if-newest-held.false
      ∙ ap (seen_box c.args.tiling) (sym seen_is)

  spans : (s : Seen) → c.visit_page.result ≡ Some s → SeenIn c.args.tiling s
  spans s e =
      seen_in c.args.tiling c.requires.0 _ (dirty_in (columns_of c.args.tiling) (rows_of c.args.tiling) c.args.held c.args.page.now) s (sym seen_is ∙ e)

pub returns-then-newest-held : goal.returns-then-newest-held
returns-then-newest-held c = let a = c.args in sym (since_clean a.tiling a.held a.newest a.page.now c.if-newest-held.true)

pub visit_page-requires : goal.visit_page-requires
unfolding stamp_count columns_of rows_of
visit_page-requires c =
    let m = c.tiles-columns.ensures in
    let n = c.tiles-rows.ensures in
    (rw (m, n) c.requires.1, omega (arith, m, c.requires.0.across.tiles), omega (arith, n, c.requires.0.down.tiles))

pub returns-in_err-seen : goal.returns-in_err-seen
unfolding seen_box
returns-in_err-seen c =
    c.from_residual.ensures ∙ sym (box (goal.at.returns-in_err-seen c).After-visit_page ∙ ap (seen_box c.args.tiling) c.in_err-seen.was)

pub box_of-requires : goal.box_of-requires
box_of-requires c =
    let s = spans (goal.at.box_of-requires c).After-visit_page _ c.in_ok-seen.was in
    (c.requires.0, s.columns, s.rows)

pub returns : goal.returns
unfolding seen_box
returns c = ap Some c.box_of.ensures ∙ sym (box (goal.at.returns c).After-visit_page ∙ ap (seen_box c.args.tiling) c.in_ok-seen.was)
