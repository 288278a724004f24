-- The outcome of each public call by the case that it is in, and that an outcome fixes its answer.
use Prim.Native.Nat.{ℕ, ◌≤◌, ◌<◌}
use mathlib.Core.Path.{◌≡◌, sym, ap}
use mathlib.Core.Bool.{true, false}
use mathlib.Core.List.{[], ◌∷◌}
use Rattle.std.specs.Prelude.{Result, Ok, Err, Some}
use borrow.Author.Tests.{lt-ltb, le-ltb, le-leb, lt-leb}
use Rattle.grid_shapes.specs.declared.shape.VersionShape.{VersionShape}
use Rattle.grid_rects.specs.declared.rect.TexelRect.{TexelRect}
use Rattle.grid_rects.specs.declared.rect.Region.{Region}
use Rattle.grid_shapes.specs.Formats.{block_edge}
use Rattle.grid_shapes.specs.declared.refusal.Refusal.{Refusal}
use Rattle.grid_shapes.specs.Outcomes.{Outcome, accepted, refused}
use Rattle.grid_shapes.specs.Shapes.{is_shape}
use Rattle.grid_rects.specs.Copies.{copy_bytes, copy_outcome}
use Rattle.grid_rects.specs.Rects.{whole_level, rect_on_grid, written_rect, rect_fields, of_upload, upload_outcome}
use Rattle.grid_shapes.proofs.Outcomes.{field, number_fixed, accepted_apart}

pub copy_refused : (s : VersionShape) (level : ℕ) (r : Region) → is_shape s ≡ false → copy_outcome s level r ≡ refused 2
unfolding copy_outcome
copy_refused s level r e = rw e

pub copy_past : (s : VersionShape) (level : ℕ) (r : Region) → is_shape s ≡ true → s.levels ≤ level →
    copy_outcome s level r ≡ accepted (0 ∷ [])
unfolding copy_outcome
copy_past s level r e h = rw (e, le-ltb level s.levels h)

pub copy_accepted : (s : VersionShape) (level : ℕ) (r : Region) → is_shape s ≡ true → level < s.levels →
    copy_outcome s level r ≡ accepted (copy_bytes s level r ∷ [])
unfolding copy_outcome
copy_accepted s level r e h = rw (e, lt-ltb level s.levels h)

pub upload_refused : (r : TexelRect) (width height format : ℕ) → 8 < format → upload_outcome r width height (Some format) ≡ refused 2
unfolding upload_outcome
upload_refused r width height format h = rw (lt-leb format 8 h)

pub upload_on_grid : (r : TexelRect) (width height format : ℕ) → format ≤ 8 → rect_on_grid (block_edge format) r width height ≡ true →
    upload_outcome r width height (Some format) ≡ accepted (rect_fields r)
unfolding upload_outcome written_rect
upload_on_grid r width height format h e = rw (le-leb format 8 h, e)

pub upload_off_grid : (r : TexelRect) (width height format : ℕ) → format ≤ 8 → rect_on_grid (block_edge format) r width height ≡ false →
    upload_outcome r width height (Some format) ≡ accepted (rect_fields (whole_level width height))
unfolding upload_outcome written_rect
upload_off_grid r width height format h e = rw (le-leb format 8 h, e)

rect_fixed : (a b : TexelRect) → a.x ≡ b.x → a.y ≡ b.y → a.width ≡ b.width → a.height ≡ b.height → a ≡ b
rect_fixed a b p q r t = λ i. record { x = p i; y = q i; width = r i; height = t i }

pub upload_fixed : (a b : Result TexelRect Refusal) → of_upload a ≡ of_upload b → a ≡ b
unfolding of_upload rect_fields
upload_fixed (Ok a) (Ok b) e = ap Ok (rect_fixed a b (field 0 e) (field 1 e) (field 2 e) (field 3 e))
upload_fixed (Ok a) (Err y) e = absurd (accepted_apart y e)
upload_fixed (Err x) (Ok b) e = absurd (accepted_apart x (sym e))
upload_fixed (Err x) (Err y) e = ap Err (number_fixed x y (ap (λ (o : Outcome). o.number) e))
