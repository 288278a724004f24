-- When a rectangle lies on the block grid.
use Prim.Native.Nat.{ℕ, zero, suc, ◌+◌, ◌-◌, ◌%◌, ◌≤◌, ◌<◌}
use mathlib.Core.Path.{◌≡◌, refl, sym, ◌∙◌}
use mathlib.Core.Bool.{Bool, true, false, ◌&&◌, ◌||◌}
use mathlib.Core.List.{[], ◌∷◌, map}
use native.Mathlib.Omega.{arith}
use native.Mathlib.Nat.{zero-add, mod-zero, mod-one}
use lib.Dec.{eqb}
use Rattle.std.specs.Prelude.{IsTrue, ◌↔◌}
use borrow.Author.Tests.{eqb-true, eqb-false, eq-eqb, ne_eqb}
use Rattle.grid_rects.specs.declared.rect.TexelRect.{TexelRect}
use Rattle.grid_rects.specs.Rects.{whole_level, is_multiple_of, side_on_grid, rect_on_grid, written_rect}
use Rattle.grid_shapes.specs.Formats.{block_edge}

or_true : (a b : Bool) → b ≡ true → a || b ≡ true
or_true true b e = refl
or_true false b e = e

and_false : (a : Bool) → a && false ≡ false
and_false true = refl
and_false false = refl

-- two tests of one fact
eqb_same : (a b c d : ℕ) → (a ≡ b → c ≡ d) → (c ≡ d → a ≡ b) → eqb a b ≡ eqb c d
eqb_same a b c d f g = by (eqb a b) refl
  where
    by : (t : Bool) → eqb a b ≡ t → eqb a b ≡ eqb c d
    by true e = e ∙ sym (eq-eqb c d (f (eqb-true a b e)))
    by false e = e ∙ sym (ne_eqb c d (λ q. eqb-false a b e (g q)))

-- the test of a multiple by the remainder: a number that is divided by 0 leaves itself
pub multiple_mod : (number block : ℕ) → is_multiple_of number block ≡ eqb (number % block) 0
unfolding is_multiple_of
multiple_mod number zero = rw (mod-zero number)
multiple_mod number (suc block) = rw (ne_eqb (suc block) 0 (λ e. let y : ⊥ = omega arith in y))

-- of 0 only 0 is a multiple
pub multiple_zero : (number block : ℕ) → block ≡ 0 → is_multiple_of number block ≡ eqb number 0
unfolding is_multiple_of
multiple_zero number block e = rw (eq-eqb block 0 e)

pub mod_multiple : (number block : ℕ) → number % block ≡ 0 → is_multiple_of number block ≡ true
mod_multiple number block e = multiple_mod number block ∙ eq-eqb (number % block) 0 e

-- the library's answer is the definition's
pub multiple_answer : (answer : Bool) (number block : ℕ) → IsTrue answer ↔ (number % block ≡ 0) → answer ≡ is_multiple_of number block
multiple_answer true number block h = sym (mod_multiple number block (h.0 refl))
multiple_answer false number block h = sym (multiple_mod number block ∙ ne_eqb (number % block) 0 (λ e. let q : false ≡ true = h.1 e in cc))

-- a side that starts on the grid and ends at the level's edge
pub side_at_edge : (block start size extent : ℕ) → is_multiple_of start block ≡ true → start + size ≡ extent → side_on_grid block start size extent ≡ true
unfolding side_on_grid
side_at_edge block start size extent p q = rw p (or_true (is_multiple_of size block) (eqb (start + size) extent) (eq-eqb (start + size) extent q))

-- a side of a whole number of blocks
pub side_of_blocks : (block start size extent : ℕ) → is_multiple_of start block ≡ true → is_multiple_of size block ≡ true →
    side_on_grid block start size extent ≡ true
unfolding side_on_grid
side_of_blocks block start size extent p q = rw (p, q)

-- every side is on the grid of blocks of one texel
pub side_of_one : (start size extent : ℕ) → side_on_grid 1 start size extent ≡ true
side_of_one start size extent = side_of_blocks 1 start size extent (mod_multiple start 1 (mod-one start)) (mod_multiple size 1 (mod-one size))

-- a side that starts off the grid
pub side_off_start : (block start size extent : ℕ) → is_multiple_of start block ≡ false → side_on_grid block start size extent ≡ false
unfolding side_on_grid
side_off_start block start size extent h = rw h

-- a side of no whole number of blocks that starts past the level's edge
pub side_past : (block start size extent : ℕ) → is_multiple_of size block ≡ false → extent < start → side_on_grid block start size extent ≡ false
unfolding side_on_grid
side_past block start size extent h k = rw (h, ne_eqb (start + size) extent (λ e. let y : ⊥ = omega arith in y)) (and_false (is_multiple_of start block))

-- a side of no whole number of blocks: it is on the grid just where it ends at the level's edge
pub side_rest : (block start size extent : ℕ) → is_multiple_of start block ≡ true → is_multiple_of size block ≡ false → start ≤ extent →
    side_on_grid block start size extent ≡ eqb size (extent - start)
unfolding side_on_grid
side_rest block start size extent p h k = rw (p, h) (eqb_same (start + size) extent size (extent - start) (λ e. omega arith) (λ e. omega arith))

-- of blocks of no texels a side has to start at 0, and to be empty or as long as the level
pub block_zero : (size extent : ℕ) → side_on_grid 0 0 size extent ≡ eqb size 0 || eqb size extent
unfolding side_on_grid is_multiple_of
block_zero size extent = rw (zero-add size)

pub block_zero_off : (start size extent : ℕ) → side_on_grid 0 (suc start) size extent ≡ false
unfolding side_on_grid is_multiple_of
block_zero_off start size extent = rw (ne_eqb (suc start) 0 (λ e. let y : ⊥ = omega arith in y))

-- the same in numbers, in a level of 7 by 5 texels: the level, no texels at 0, 0, the first row, one texel less, one texel on
pub block_zero_rects : map (λ (r : TexelRect). rect_on_grid 0 r 7 5)
    (whole_level 7 5 ∷ whole_level 0 0 ∷ whole_level 7 0 ∷ whole_level 7 4 ∷ record { x = 1; y = 0; width = 6; height = 5 } ∷ [])
    ≡ true ∷ true ∷ true ∷ false ∷ false ∷ []
unfolding whole_level rect_on_grid side_on_grid is_multiple_of
block_zero_rects = refl

pub rect_of_sides : (block : ℕ) (r : TexelRect) (width height : ℕ) → side_on_grid block r.x r.width width ≡ true →
    side_on_grid block r.y r.height height ≡ true → rect_on_grid block r width height ≡ true
unfolding rect_on_grid
rect_of_sides block r width height p q = rw (p, q)

pub rect_of_one : (r : TexelRect) (width height : ℕ) → rect_on_grid 1 r width height ≡ true
rect_of_one r width height = rect_of_sides 1 r width height (side_of_one r.x r.width width) (side_of_one r.y r.height height)

-- an upload of a rectangle on the grid writes just that, and any other the whole level
pub written_on_grid : (r : TexelRect) (width height format : ℕ) → rect_on_grid (block_edge format) r width height ≡ true →
    written_rect r width height format ≡ r
unfolding written_rect
written_on_grid r width height format e = rw e

pub written_off_grid : (r : TexelRect) (width height format : ℕ) → rect_on_grid (block_edge format) r width height ≡ false →
    written_rect r width height format ≡ whole_level width height
unfolding written_rect
written_off_grid r width height format e = rw e
