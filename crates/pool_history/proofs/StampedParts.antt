-- A grid stamped in its part of the stamps, and put back. Assumes nothing.
use mathlib.Core.Path.{◌≡◌, sym, ap, ap₂, ◌∙◌}
use mathlib.Core.Bool.{true}
use mathlib.Core.List.{List, [], ◌++◌, append-nil, append_assoc}
use Prim.Native.Nat.{ℕ, ◌+◌, ◌≤◌}
use native.Mathlib.Omega.{arith}
use lib.ListN.{length, take, drop, get_or, set}
use lib.Seq.{sets, sets-eq, drop-drop, drop-length, set-get_or}
use Rattle.base_blocks.specs.Lists.{over}
use Rattle.grid_shapes.specs.declared.shape.VersionShape.{VersionShape}
use Rattle.grid_shapes.specs.Shapes.{is_shape}
use Rattle.grid_rects.specs.declared.rect.TexelRect.{TexelRect}
use Rattle.grid_stamps.specs.declared.grid.Tiling.{Tiling}
use Rattle.grid_stamps.specs.Grids.{StampGrid, grid_in, tiling_of, stamp_count, stamped_by}
use Rattle.grid_stamps.proofs.Tilings.{tiling_ok}
use Rattle.grid_stamps.proofs.Stamps.{length_stamped}
use Rattle.pool_memory.specs.Reading.{grid_on}
use Rattle.pool_memory.proofs.GridParts.{part_long, part_grid}
use Rattle.pool_memory.proofs.Rewritten.{sets_self}
use Rattle.pool_history.specs.Remade.{newest_stamp}

module _ (s : VersionShape) (shaped : is_shape s ≡ true) (level : ℕ) (newest stamps : List ℕ) (p at : ℕ)
    (room : at + stamp_count (tiling_of s level) ≤ length stamps) where
  abbrev count : ℕ
  count = stamp_count (tiling_of s level)

  -- one written where it stands
  pub newest_stands : newest ≡ set newest p (grid_on s level newest stamps p at).newest
  unfolding grid_on grid_in
  newest_stands = sym (set-get_or newest p 0)

  pub stamps_stand : stamps ≡ sets stamps at (grid_on s level newest stamps p at).stamps
  unfolding grid_on grid_in
  stamps_stand = sym (sets_self stamps at count room)

  module _ (r : TexelRect) (n : ℕ) where
    abbrev stamped_grid : StampGrid
    stamped_grid = stamped_by (tiling_of s level) r n (grid_on s level newest stamps p at)

    part_same : (m : ℕ) (g : Tiling) → m ≡ count → g ≡ tiling_of s level
        → stamped_by g r n (grid_in g (get_or newest p 0) (take m (drop at stamps))) ≡ stamped_grid
    part_same m g e f = ap₂ (λ (x : Tiling) (y : StampGrid). stamped_by x r n y) f (part_grid s shaped level newest stamps p at room m g e f)

    -- the newest stamp that the stamping says
    pub newest_back : (m : ℕ) (g : Tiling) (latest : ℕ) → m ≡ count → g ≡ tiling_of s level
        → latest ≡ (stamped_by g r n (grid_in g (get_or newest p 0) (take m (drop at stamps)))).newest
        → set newest p latest ≡ set newest p stamped_grid.newest
    newest_back m g latest e f h = ap (set newest p) (h ∙ ap newest_stamp (part_same m g e f))

    -- and the part when it is put back
    pub part_back : (m : ℕ) (g : Tiling) (part : List ℕ) → m ≡ count → g ≡ tiling_of s level
        → part ≡ over (stamped_by g r n (grid_in g (get_or newest p 0) (take m (drop at stamps)))).stamps (take m (drop at stamps))
        → take at stamps ++ (part ++ drop m (drop at stamps)) ≡ sets stamps at stamped_grid.stamps
    unfolding over
    part_back m g part e f h =
        let new = stamped_grid in
        let ln : length new.stamps ≡ count = length_stamped (tiling_of s level) (tiling_ok s shaped level) r n (grid_on s level newest stamps p at) in
        let lp = part_long s shaped level newest stamps p at room m e in
        let none : drop (length new.stamps) (take m (drop at stamps)) ≡ [] =
        ap (λ (i : ℕ). drop i (take m (drop at stamps))) (let q : length new.stamps ≡ length (take m (drop at stamps)) = omega (arith, ln, lp) in q)
        ∙ drop-length (take m (drop at stamps)) in
        let whole : part ≡ new.stamps =
        h ∙ ap (λ (x : StampGrid). over x.stamps (take m (drop at stamps))) (part_same m g e f) ∙ ap (λ (l : List ℕ). new.stamps ++ l) none
        ∙ append-nil new.stamps in
        ap₂ (λ (x y : List ℕ). take at stamps ++ (x ++ y)) whole
        (drop-drop m at stamps ∙ ap (λ (i : ℕ). drop (at + i) stamps) (let q : m ≡ length new.stamps = omega (arith, ln, e) in q))
        ∙ sym (append_assoc (take at stamps) new.stamps (drop (at + length new.stamps) stamps))
        ∙ sym (sets-eq new.stamps stamps at (omega (arith, ln)))
