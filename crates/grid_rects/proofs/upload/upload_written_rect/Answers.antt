-- `grid_rects::upload::upload_written_rect` meets its contract. By the format and the grid.
use Prim.Native.Nat.{ℕ}
use mathlib.Core.Path.{◌≡◌, sym, ◌∙◌, ap}
use native.Mathlib.Omega.{arith}
use Rattle.grid_rects.specs.declared.rect.TexelRect.{TexelRect}
use Rattle.grid_shapes.specs.Formats.{block_edge}
use Rattle.grid_shapes.specs.Outcomes.{accepted}
use Rattle.grid_rects.specs.Rects.{rect_on_grid, rect_fields, upload_outcome, of_upload}
use Rattle.grid_rects.proofs.Outcomes.{upload_refused, upload_on_grid, upload_off_grid}
use Rattle.grid_rects.proofs.upload.upload_written_rect.Goals as goal
use Rattle.grid_rects.proofs.upload.upload_written_rect.Goals.{After-rect_on_block_grid}

-- the grid's test, at the format's block edge
grid : (c : After-rect_on_block_grid) →
    c.rect_on_block_grid.result
    ≡ rect_on_grid (block_edge c.in-Some.format) c.args.rect
    c.args.width c.args.height
grid c =
    let a = c.args in
    c.rect_on_block_grid.ensures ∙ ap (λ (e : ℕ). rect_on_grid e a.rect a.width a.height) c.block_edge.ensures

pub returns-then-format-gt8 : goal.returns-then-format-gt8
unfolding of_upload
returns-then-format-gt8 c =
    let a = c.args in
    sym (ap (upload_outcome a.rect a.width a.height) c.in-Some.is ∙ upload_refused a.rect a.width a.height c.in-Some.format (omega arith))

pub returns-in_default : goal.returns-in_default
unfolding of_upload upload_outcome rect_fields
returns-in_default c =
    let a = c.args in
    sym (ap (upload_outcome a.rect a.width a.height) c.in_default.is)

pub returns-then-rect_on_block_grid : goal.returns-then-rect_on_block_grid
unfolding of_upload rect_fields
returns-then-rect_on_block_grid c =
    let a = c.args in
    sym (ap (upload_outcome a.rect a.width a.height) c.in-Some.is ∙ upload_on_grid _ _ _ _ c.if-format-gt8.false (sym (grid (goal.at.returns-then-rect_on_block_grid c).After-rect_on_block_grid) ∙ c.if-rect_on_block_grid.true))

pub returns-else-rect_on_block_grid : goal.returns-else-rect_on_block_grid
unfolding of_upload rect_fields
returns-else-rect_on_block_grid c =
    let a = c.args in
    let off = sym (grid (goal.at.returns-else-rect_on_block_grid c).After-rect_on_block_grid) ∙ c.if-rect_on_block_grid.false in
    ap (λ (r : TexelRect). accepted (rect_fields r)) c.level_rect.ensures
    ∙ sym (ap (upload_outcome a.rect a.width a.height) c.in-Some.is ∙ upload_off_grid _ _ _ _ c.if-format-gt8.false off)
