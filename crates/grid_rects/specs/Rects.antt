-- Rule: Rectangles on a format's block grid, and what an upload writes (the Rust's `rect_on_block_grid` and `upload_written_rect`).
use Rattle.std.specs.Prelude.{ℕ, ◌+◌, ◌%◌, Bool, cond, ◌&&◌, ◌||◌, List, [], ◌∷◌, leb, eqb, Option, Some, None, Result, Ok, Err}
use Rattle.grid_rects.specs.declared.rect.TexelRect.{TexelRect}
use Rattle.grid_shapes.specs.Formats.{block_edge}
use Rattle.grid_shapes.specs.declared.refusal.Refusal.{Refusal}
use Rattle.grid_shapes.specs.Outcomes.{Outcome, accepted, refused, number_of}

-- the whole of a level
unfoldable pub whole_level : ℕ → ℕ → TexelRect
whole_level width height = record { x = 0; y = 0; width = width; height = height }

-- whether a number is a multiple of `block`: for block 0, whether it is 0
unfoldable pub is_multiple_of : ℕ → ℕ → Bool
is_multiple_of number block = cond (eqb block 0) (eqb number 0) (eqb (number % block) 0)

-- one side of a rectangle: it starts a whole number of blocks in, and is a whole number of blocks long or ends at the level's edge
unfoldable pub side_on_grid : ℕ → ℕ → ℕ → ℕ → Bool
side_on_grid block start size extent = is_multiple_of start block && (is_multiple_of size block || eqb (start + size) extent)

-- both sides of a rectangle in a level of `width` by `height` texels
unfoldable pub rect_on_grid : ℕ → TexelRect → ℕ → ℕ → Bool
rect_on_grid block rect width height = side_on_grid block rect.x rect.width width && side_on_grid block rect.y rect.height height

-- what an upload of a rectangle writes: the rectangle, or the whole level where it is off the format's block grid
unfoldable pub written_rect : TexelRect → ℕ → ℕ → ℕ → TexelRect
written_rect rect width height format = cond (rect_on_grid (block_edge format) rect width height) rect (whole_level width height)

-- a rectangle's fields, in 01's order
unfoldable pub rect_fields : TexelRect → List ℕ
rect_fields r = r.x ∷ r.y ∷ r.width ∷ r.height ∷ []

-- 01's number and fields for each case of an answer
unfoldable pub of_upload : Result TexelRect Refusal → Outcome
of_upload (Ok r) = accepted (rect_fields r)
of_upload (Err e) = refused (number_of e)

-- an upload by texel, which has no format, writes its rectangle; a format past 8 is refused as 2
unfoldable pub upload_outcome : TexelRect → ℕ → ℕ → Option ℕ → Outcome
upload_outcome rect width height None = accepted (rect_fields rect)
upload_outcome rect width height (Some format) = cond (leb format 8) (accepted (rect_fields (written_rect rect width height format))) (refused 2)
