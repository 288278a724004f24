-- Laws of a mip regeneration, grid by grid. Assumes nothing.
use mathlib.Core.Path.{◌≡◌, refl, sym, ap, ap₂, ◌∙◌}
use mathlib.Core.Bool.{Bool, true, cond}
use mathlib.Core.List.{List, [], ◌∷◌, ◌++◌, flat_map, append-nil}
use Prim.Native.Nat.{ℕ, zero, suc, ◌+◌, ◌*◌, ◌%◌, ◌≤◌, ◌<◌}
use native.Mathlib.Nat.{zero-add, mod-eq_of_lt, mod-lt, mod-add-mod, mod_self}
use native.Mathlib.Numerals.{add-one}
use native.Mathlib.Omega.{arith}
use borrow.Author.Tests.{ne_eqb, eq-eqb}
use lib.Dec.{eqb}
use lib.ListN.{length, drop, get_or, set, length-append}
use lib.Seq.{sets, drop-set-lt}
use Rattle.base_blocks.specs.Lists.{listed}
use Rattle.base_blocks.proofs.Lists.{either}
use Rattle.base_blocks.proofs.Listed.{length_listed, listed_more}
use Rattle.grid_shapes.specs.declared.shape.VersionShape.{VersionShape}
use Rattle.grid_shapes.specs.Shapes.{is_shape, level_extent, level_width, level_height}
use Rattle.grid_shapes.proofs.Shapes.{shape_bounds}
use Rattle.grid_rects.specs.declared.rect.TexelRect.{TexelRect}
use Rattle.grid_rects.specs.Rects.{whole_level}
use Rattle.grid_stamps.specs.Grids.{StampGrid, grid_in, tiling_of, stamp_count, stamped_by}
use Rattle.grid_stamps.proofs.Tilings.{tiling_ok}
use Rattle.grid_stamps.proofs.Stamps.{length_stamped}
use Rattle.pool_rules.specs.Model.{grid_count}
use Rattle.pool_rules.specs.Histories.{regenerate_from}
use Rattle.pool_rules.specs.HistorySizes.{grid_size, grid_start, history_size}
use Rattle.pool_rules.specs.RuleConstants.{grid_stride}
use Rattle.pool_rules.proofs.HistorySizes.{grid_first, grid_next, grid_end_lem}
use Rattle.pool_memory.specs.Reading.{grid_on}
use Rattle.pool_memory.proofs.GridParts.{length_grid}
use Rattle.pool_memory.proofs.Parts.{flat_append}
use Rattle.pool_memory.proofs.Rewritten.{sets_append}
use Rattle.pool_history.specs.Remade.{stamps_in, newest_written, stamps_written, remade_grid, remade_grids}
use Rattle.pool_history.proofs.NewestWritten.{elsewhere_stays, written_more}

-- ---- one grid

pub remade_first : (s : VersionShape) (n level : ℕ) (g : StampGrid) → level ≡ 0 → remade_grid s n level g ≡ g
unfolding remade_grid
remade_first s n level g e =
    ap (λ (b : Bool). cond b g (stamped_by (tiling_of s level) (whole_level (level_width s level) (level_height s level)) n g)) (eq-eqb level 0 e)

pub remade_later : (s : VersionShape) (n level width height : ℕ) (r : TexelRect) (g : StampGrid) → (level ≡ 0 → ⊥)
    → width ≡ level_extent s.width level → height ≡ level_extent s.height level → r ≡ whole_level width height
    → stamped_by (tiling_of s level) r n g ≡ remade_grid s n level g
unfolding remade_grid level_width level_height
remade_later s n level width height r g ne e f k =
    ap (λ (x : TexelRect). stamped_by (tiling_of s level) x n g) (k ∙ ap₂ whole_level e f)
    ∙ sym (ap (λ (b : Bool). cond b g (stamped_by (tiling_of s level) (whole_level (level_width s level) (level_height s level)) n g)) (ne_eqb level 0 ne))

-- the grids of a regeneration are those that the rule makes
pub regenerate_listed : (s : VersionShape) (n : ℕ) (f : ℕ → StampGrid) (k m : ℕ)
    → regenerate_from s n k (listed f k m) ≡ listed (λ (j : ℕ). remade_grid s n (j % s.levels) (f j)) k m
unfolding regenerate_from listed remade_grid
regenerate_listed s n f k zero = refl
regenerate_listed s n f k (suc m) =
    ap (λ (gs : List StampGrid). remade_grid s n (k % s.levels) (f k) ∷ gs) (regenerate_listed s n f (suc k) m)

-- ---- the level after a level

pub level_first : (s : VersionShape) → is_shape s ≡ true → (0 < s.levels) × (0 ≡ 0 % s.levels)
level_first s shaped = let h = (shape_bounds s shaped).levels_pos in (h, sym (mod-eq_of_lt h))

-- the next level, and after the last the first
pub level_next : (level levels : ℕ) → level + 1 < levels → level + 1 ≡ (level + 1) % levels
level_next level levels h = sym (mod-eq_of_lt h)

pub level_wraps : (level levels : ℕ) → level < levels → levels ≤ level + 1 → 0 ≡ (level + 1) % levels
level_wraps level levels h k = let e : level + 1 ≡ levels = omega arith in sym (ap (λ (i : ℕ). i % levels) e ∙ mod_self levels)

pub next_below : (next level levels : ℕ) → level < levels → next ≡ (level + 1) % levels → next < levels
next_below next level levels h e = omega (arith, e, mod-lt (level + 1) {m = levels} (omega arith))

pub level_after : (level k levels : ℕ) → level ≡ k % levels → (level + 1) % levels ≡ (k + 1) % levels
level_after level k levels e = ap (λ (i : ℕ). (i + 1) % levels) e ∙ mod-add-mod k levels 1

-- ---- a run of numbers stored: what stands past it stays

drop_past : {A : Type 0} (n : ℕ) (s : List A) (at : ℕ) (xs : List A) → at + length xs ≤ n → drop n (sets s at xs) ≡ drop n s
drop_past n s at [] h = refl
drop_past n s at (x ∷ xs) h = drop_past n (set s at x) (suc at) xs (omega arith) ∙ drop-set-lt n s at x (omega arith)

-- ---- grid after grid

module _ (s : VersionShape) (shaped : is_shape s ≡ true) (n : ℕ) (newest stamps : List ℕ) (grid stamp : ℕ) where
  abbrev remade_at : ℕ → StampGrid
  remade_at k = remade_grid s n (k % s.levels) (grid_on s (k % s.levels) newest stamps (grid + grid_stride * k) (stamp + grid_start s k))

  abbrev remade : ℕ → List StampGrid
  remade k = remade_grids s n newest stamps grid stamp k

  pub remade_none : (newest ≡ newest_written newest grid (remade 0)) × (stamps ≡ stamps_written stamps stamp (remade 0))
  unfolding remade_grids listed newest_written stamps_written flat_map
  remade_none = (refl, refl)

  pub length_remade : (k : ℕ) → length (remade k) ≡ k
  unfolding remade_grids
  length_remade k = length_listed remade_at 0 k

  remade_next : (k : ℕ) → remade (suc k) ≡ remade k ++ (remade_at k ∷ [])
  unfolding remade_grids
  remade_next k = listed_more remade_at 0 k ∙ ap (λ (i : ℕ). listed remade_at 0 k ++ (remade_at i ∷ [])) (zero-add k)

  module _ (room : stamp + history_size s ≤ length stamps) where
    -- a grid that is made again has as many stamps as it had
    length_made : (k : ℕ) → k < grid_count s → length (remade_at k).stamps ≡ grid_size s k
    unfolding remade_grid grid_size
    length_made k h =
        let level = k % s.levels in
        let g = grid_on s level newest stamps (grid + grid_stride * k) (stamp + grid_start s k) in
        let fits : stamp + grid_start s k + stamp_count (tiling_of s level) ≤ length stamps = omega (arith, grid_end_lem s k h) in
        either (λ (x : StampGrid). length x.stamps ≡ stamp_count (tiling_of s level)) (eqb level 0) g
        (stamped_by (tiling_of s level) (whole_level (level_width s level) (level_height s level)) n g)
        (λ e. length_grid s shaped level newest stamps (grid + grid_stride * k) (stamp + grid_start s k) fits)
        (λ e. length_stamped (tiling_of s level) (tiling_ok s shaped level) (whole_level (level_width s level) (level_height s level)) n g)

    -- so the first k of them take what stands before the next
    pub length_stamps : (k : ℕ) → k ≤ grid_count s → length (flat_map stamps_in (remade k)) ≡ grid_start s k
    unfolding remade_grids listed flat_map
    length_stamps zero h = sym (grid_first s)
    length_stamps (suc k) h =
        ap (λ (gs : List StampGrid). length (flat_map stamps_in gs)) (remade_next k)
        ∙ ap length (flat_append stamps_in (remade k) (remade_at k ∷ []) ∙ ap (λ (xs : List ℕ). flat_map stamps_in (remade k) ++ xs) (append-nil (remade_at k).stamps))
        ∙ length-append (flat_map stamps_in (remade k)) (remade_at k).stamps
        ∙ ap₂ (λ (a b : ℕ). a + b) (length_stamps k (omega arith)) (length_made k (omega arith))
        ∙ sym (grid_next s k (omega arith))

    module _ (k : ℕ) (h : k < grid_count s) (newest₁ stamps₁ : List ℕ) (level at : ℕ)
        (e : newest₁ ≡ newest_written newest grid (remade k)) (f : stamps₁ ≡ stamps_written stamps stamp (remade k))
        (here : level ≡ k % s.levels) (begun : at ≡ stamp + grid_start s k) where
      -- the grid after those made again is as it stood
      newest_past : get_or (newest_written newest grid (remade k)) (grid + grid_stride * k) 0 ≡ get_or newest (grid + grid_stride * k) 0
      newest_past = elsewhere_stays newest grid (remade k) (grid + grid_stride * k) (λ j q e. omega (arith, q, e, length_remade k))

      stamps_past : drop (stamp + grid_start s k) (stamps_written stamps stamp (remade k)) ≡ drop (stamp + grid_start s k) stamps
      unfolding stamps_written
      stamps_past = drop_past (stamp + grid_start s k) stamps stamp (flat_map stamps_in (remade k)) (omega (arith, length_stamps k (omega arith)))

      same_grid : remade_grid s n level (grid_on s level newest₁ stamps₁ (grid + grid_stride * k) at) ≡ remade_at k
      unfolding grid_on
      same_grid =
          ap₂ (λ (x : ℕ) (y : List ℕ). remade_grid s n level (grid_in (tiling_of s level) x y))
          (ap (λ (xs : List ℕ). get_or xs (grid + grid_stride * k) 0) e ∙ newest_past)
          (ap₂ (λ (i : ℕ) (xs : List ℕ). drop i xs) begun f ∙ stamps_past)
          ∙ ap (λ (i : ℕ). remade_grid s n i (grid_in (tiling_of s i) (get_or newest (grid + grid_stride * k) 0) (drop (stamp + grid_start s k) stamps))) here

      pub newest_remade : set newest₁ (grid + grid_stride * k) (remade_grid s n level (grid_on s level newest₁ stamps₁ (grid + grid_stride * k) at)).newest
          ≡ newest_written newest grid (remade (k + 1))
      newest_remade =
          ap₂ (λ (xs : List ℕ) (g : StampGrid). set xs (grid + grid_stride * k) g.newest) e same_grid
          ∙ ap (λ (i : ℕ). set (newest_written newest grid (remade k)) (grid + grid_stride * i) (remade_at k).newest) (sym (length_remade k))
          ∙ sym (written_more newest grid (remade k) (remade_at k))
          ∙ ap (newest_written newest grid) (sym (ap remade (add-one k) ∙ remade_next k))

      pub stamps_remade : sets stamps₁ at (remade_grid s n level (grid_on s level newest₁ stamps₁ (grid + grid_stride * k) at)).stamps
          ≡ stamps_written stamps stamp (remade (k + 1))
      unfolding stamps_written flat_map
      stamps_remade =
          let xs = flat_map stamps_in (remade k) in
          ap₂ (λ (ys : List ℕ) (g : StampGrid). sets ys at g.stamps) f same_grid
          ∙ ap (λ (i : ℕ). sets (sets stamps stamp xs) i (remade_at k).stamps)
          (begun ∙ ap (λ (i : ℕ). stamp + i) (sym (length_stamps k (omega arith))))
          ∙ sym (sets_append stamps stamp xs (remade_at k).stamps)
          ∙ ap (λ (ys : List ℕ). sets stamps stamp (xs ++ ys)) (sym (append-nil (remade_at k).stamps))
          ∙ ap (sets stamps stamp) (sym (flat_append stamps_in (remade k) (remade_at k ∷ [])))
          ∙ ap (λ (gs : List StampGrid). sets stamps stamp (flat_map stamps_in gs)) (sym (ap remade (add-one k) ∙ remade_next k))
