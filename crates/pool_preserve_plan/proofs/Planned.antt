-- Laws of one subresource's copy, as the code finds it. Assumes nothing.
use mathlib.Core.Path.{◌≡◌, refl, sym, ap, ap₂, subst, ◌∙◌}
use mathlib.Core.Bool.{Bool, true, false, cond}
use mathlib.Core.List.{List}
use Prim.Native.Nat.{ℕ, ◌+◌, ◌*◌, ◌/◌, ◌%◌, ◌≤◌, ◌<◌}
use native.Mathlib.Nat.{add-zero, zero-mul, mul-add-div_right, div-eq_of_lt}
use native.Mathlib.Omega.{arith}
use lib.ListN.{length, take, drop, get_or}
use Rattle.std.specs.Prelude.{Option, Some, None}
use Rattle.grid_shapes.specs.declared.shape.VersionShape.{VersionShape}
use Rattle.grid_shapes.specs.Shapes.{is_shape, level_width, level_height}
use Rattle.grid_rects.specs.declared.rect.TexelRect.{TexelRect}
use Rattle.grid_rects.specs.declared.rect.Region.TheVariants.{Whole, Part}
use Rattle.grid_rects.specs.Rects.{whole_level}
use Rattle.grid_stamps.specs.declared.grid.Tiling.{Tiling}
use Rattle.grid_stamps.specs.Grids.{tiling_of, stamp_count, StampGrid, grid_in, box_since}
use Rattle.grid_stamps.proofs.Seen.{since_clean}
use Rattle.pool_rules.specs.Model.{UploadFootprint, grid_count}
use Rattle.pool_rules.specs.Histories.{grid_place}
use Rattle.pool_rules.specs.HistorySizes.{grid_start}
use Rattle.pool_rules.specs.PreservePlan.{same_rect, covers}
use Rattle.pool_rules.specs.RuleConstants.{grid_stride}
use Rattle.pool_rules.proofs.GridPlaces.{place_level}
use Rattle.pool_rules.proofs.HistorySizes.{grid_room}
use Rattle.pool_records.specs.Tilings.{tiling_in, EdgesAt}
use Rattle.pool_records.proofs.Tilings.{start_held, edges_there}
use Rattle.pool_memory.specs.Reading.{grid_on}
use Rattle.pool_memory.proofs.GridParts.{part_grid}
use Rattle.pool_preserve_plan.specs.declared.since.After.{After}
use Rattle.pool_preserve_plan.specs.Copies.{SinceFits, box_planned, planned_since, planned_at}

-- ---- a box

module _ (s : VersionShape) (level : ℕ) (r : TexelRect) where
  pub box_whole : same_rect r (whole_level (level_width s level) (level_height s level)) ≡ true → box_planned s level (Some r) ≡ Some Whole
  unfolding box_planned
  box_whole e = ap (λ (b : Bool). Some (cond b Whole (Part r))) e

  pub box_part : same_rect r (whole_level (level_width s level) (level_height s level)) ≡ false → box_planned s level (Some r) ≡ Some (Part r)
  unfolding box_planned
  box_part e = ap (λ (b : Bool). Some (cond b Whole (Part r))) e

pub box_clean : (s : VersionShape) (level : ℕ) → box_planned s level None ≡ None
unfolding box_planned
box_clean s level = refl

-- ---- a subresource

module _ (newest stamps : List ℕ) (s : VersionShape) (since : Option After) (u : UploadFootprint) (slice level : ℕ) where
  pub planned_covered : covers u slice level ≡ true → planned_at newest stamps s since u slice level ≡ None
  unfolding planned_at
  planned_covered e = ap (λ (b : Bool). cond b None (planned_since newest stamps s since slice level)) e

  module _ (e : covers u slice level ≡ false) where
    planned_open : planned_at newest stamps s since u slice level ≡ planned_since newest stamps s since slice level
    unfolding planned_at
    planned_open = ap (λ (b : Bool). cond b None (planned_since newest stamps s since slice level)) e

    pub planned_unknown : since ≡ None → planned_at newest stamps s since u slice level ≡ Some Whole
    planned_unknown f = planned_open ∙ ap (λ (x : Option After). planned_since newest stamps s x slice level) f

    -- the k-th, of a history
    module _ (a : After) (k : ℕ) (f : since ≡ Some a) (at : k ≡ grid_place s slice level) where
      pub planned_after : planned_at newest stamps s since u slice level
          ≡ box_planned s level (box_since (tiling_of s level) a.held (grid_on s level newest stamps (a.grid + grid_stride * k) (a.stamp + grid_start s k)))
      planned_after =
          planned_open ∙ ap (λ (x : Option After). planned_since newest stamps s x slice level) f
          ∙ ap (λ (n : ℕ). box_planned s level (box_since (tiling_of s level) a.held (grid_on s level newest stamps (a.grid + grid_stride * n) (a.stamp + grid_start s n)))) (sym at)

      pub planned_held : get_or newest (a.grid + grid_stride * k) 0 ≤ a.held → planned_at newest stamps s since u slice level ≡ None
      unfolding grid_on
      planned_held h =
          planned_after
          ∙ ap (box_planned s level) (since_clean (tiling_of s level) a.held (get_or newest (a.grid + grid_stride * k) 0) (drop (a.stamp + grid_start s k) stamps) h)
          ∙ box_clean s level

-- ---- the k-th grid of a history, whose level this is

-- what the code finds there: its two numbers, where its stamps begin, its tiles' edges, its stamps
pub record GridThere (s : VersionShape) (newest stamps : List ℕ) (grid stamp k level : ℕ) : Type 0 where
  pub numbers : grid + grid_stride * k + 1 < length newest
  pub start : (tiling_in newest (grid + grid_stride * k)).start ≡ grid_start s k
  pub edges : EdgesAt newest (grid + grid_stride * k) s level
  pub room : stamp + grid_start s k + stamp_count (tiling_of s level) ≤ length stamps

module _ (s : VersionShape) (shaped : is_shape s ≡ true) (newest stamps : List ℕ) (a : After) (k level : ℕ) where
  pub grid_there : (since : Option After) (slice : ℕ) → since ≡ Some a → SinceFits since s newest stamps → k < grid_count s → level < s.levels
      → k ≡ grid_place s slice level → GridThere s newest stamps a.grid a.stamp k level
  grid_there since slice e f h q at =
      let g : SinceFits (Some a) s newest stamps = subst (λ (x : Option After). SinceFits x s newest stamps) e f in
      let l : level ≡ k % s.levels = sym (ap (λ (n : ℕ). n % s.levels) at ∙ place_level slice level s.levels q) in
      record {
        numbers = omega (arith, g.0, h);
        start = start_held s shaped newest (a.grid + grid_stride * k) k h (g.1 k h);
        edges = edges_there s shaped newest a.grid k level h g.1 l;
        room = omega (arith, g.2, grid_room s k level h l);
      }

  -- the box of the part that the code cuts out is the grid's
  pub part_box : GridThere s newest stamps a.grid a.stamp k level → (start n : ℕ) (g : Tiling) → start ≡ grid_start s k
      → n ≡ stamp_count (tiling_of s level) → g ≡ tiling_of s level
      → box_since g a.held (grid_in g (get_or newest (a.grid + grid_stride * k) 0) (take n (drop (a.stamp + start) stamps)))
      ≡ box_since (tiling_of s level) a.held (grid_on s level newest stamps (a.grid + grid_stride * k) (a.stamp + grid_start s k))
  part_box there start n g b e f =
      ap₂ (λ (h : Tiling) (x : StampGrid). box_since h a.held x) f
      (part_grid s shaped level newest stamps (a.grid + grid_stride * k) (a.stamp + start) (omega (arith, there.room, b)) n g e f)
      ∙ ap (λ (i : ℕ). box_since (tiling_of s level) a.held (grid_on s level newest stamps (a.grid + grid_stride * k) (a.stamp + i))) b

-- ---- from subresource to subresource

pub place_slice : (slice level n : ℕ) → level < n → (slice * n + level) / n ≡ slice
place_slice slice level n h = mul-add-div_right (omega arith) slice level ∙ ap (λ (q : ℕ). slice + q) (div-eq_of_lt h) ∙ add-zero slice

-- the k-th subresource, by slice and level
pub record IsPlace (levels k slice level : ℕ) : Type 0 where
  pub inside : level < levels
  pub below : slice ≤ k
  pub place : slice * levels + level ≡ k

module _ (levels k slice level : ℕ) (p : IsPlace levels k slice level) where
  pub slice_of : slice ≡ k / levels
  slice_of = sym (place_slice slice level levels p.inside) ∙ ap (λ (n : ℕ). n / levels) p.place

  pub level_of : level ≡ k % levels
  level_of = sym (place_level slice level levels p.inside) ∙ ap (λ (n : ℕ). n % levels) p.place

  pub next_place : (a b : ℕ) → a ≤ slice + 1 → b < levels → a * levels + b ≡ slice * levels + level + 1 → IsPlace levels (k + 1) a b
  next_place a b h q e = record { inside = q; below = omega (arith, p.below); place = omega (arith, e, p.place) }

pub first_place : (levels : ℕ) → 1 ≤ levels → IsPlace levels 0 0 0
first_place levels h = record { inside = omega arith; below = omega arith; place = omega (arith, zero-mul levels) }
