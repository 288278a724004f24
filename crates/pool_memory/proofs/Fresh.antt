-- The grids of a new history: nothing written, so all stamps are 0. Assumes nothing.
use mathlib.Core.Path.{◌≡◌, refl, sym, ap, ap₂, ◌∙◌}
use mathlib.Core.List.{List, [], ◌∷◌, ◌++◌, flat_map}
use Prim.Native.Nat.{ℕ, zero, suc, ◌+◌, ◌*◌}
use lib.ListN.{length, replicate}
use Rattle.base_blocks.specs.Lists.{listed, total}
use Rattle.base_blocks.specs.All.{All, nil, cons}
use Rattle.base_blocks.proofs.All.{all_listed, all_flat_map}
use Rattle.grid_shapes.specs.declared.shape.VersionShape.{VersionShape}
use Rattle.grid_shapes.specs.Shapes.{slices_of}
use Rattle.grid_stamps.specs.Grids.{StampGrid, new_grid, tiling_of, stamp_count}
use Rattle.pool_rules.specs.Model.{grid_count}
use Rattle.pool_rules.specs.Histories.{new_history}
use Rattle.pool_rules.specs.HistorySizes.{history_size, level_start}
use Rattle.pool_rules.proofs.HistorySizes.{history_size_lem}
use Rattle.base_unequal.proofs.Starts.{total_inner, total_equal}
use Rattle.base_blocks.proofs.Listed.{length_listed}
use native.Mathlib.Nat.{mul_comm}
use Rattle.pool_rules.proofs.GridPlaces.{new_size}
use Rattle.pool_records.specs.Tilings.{tiling_number, fresh_from}
use Rattle.pool_memory.specs.Writing.{newest_from}
use Rattle.pool_memory.proofs.Rewritten.{replicate_add, length_zeros}

-- ---- a new history's grids

-- nothing written
record Unwritten (g : StampGrid) : Type 0 where
  newest : g.newest ≡ 0
  count : ℕ
  stamps : g.stamps ≡ replicate count 0

unwritten : (s : VersionShape) → All Unwritten (new_history s).grids
unfolding new_history new_grid
unwritten s =
    all_flat_map (λ (slice : ℕ). listed (λ (level : ℕ). new_grid (tiling_of s level)) 0 s.levels)
    (λ slice u. all_listed (λ (level : ℕ). new_grid (tiling_of s level)) 0 s.levels
    (λ j q. record { newest = refl; count = stamp_count (tiling_of s (0 + j)); stamps = refl }))
    (all_listed {P = λ (k : ℕ). Unit {0}} (λ (slice : ℕ). slice) 0 (slices_of s) (λ j q. tt))

-- no newest stamp, and their tilings
unwritten_newest : (s : VersionShape) (j : ℕ) (gs : List StampGrid) → All Unwritten gs → newest_from s j gs ≡ fresh_from s j (length gs)
unfolding newest_from fresh_from
unwritten_newest s j [] nil = refl
unwritten_newest s j (g ∷ gs) (cons u us) = ap₂ (λ (n : ℕ) (l : List ℕ). n ∷ (tiling_number s j ∷ l)) u.newest (unwritten_newest s (suc j) gs us)

-- as many 0 as they have stamps
unwritten_stamps : (gs : List StampGrid) → All Unwritten gs
    → flat_map (λ (g : StampGrid). g.stamps) gs ≡ replicate (total (λ (g : StampGrid). length g.stamps) gs) 0
unfolding flat_map total
unwritten_stamps [] nil = refl
unwritten_stamps (g ∷ gs) (cons u us) =
    ap₂ (λ (a b : List ℕ). a ++ b) u.stamps (unwritten_stamps gs us)
    ∙ ap (λ (n : ℕ). replicate n 0 ++ replicate (total (λ (x : StampGrid). length x.stamps) gs) 0) (sym (ap length u.stamps ∙ length_zeros u.count))
    ∙ sym (replicate_add (length g.stamps) (total (λ (x : StampGrid). length x.stamps) gs) 0)

new_grids : (s : VersionShape) → length (new_history s).grids ≡ grid_count s
unfolding grid_count
new_grids s = new_size s

-- a sum over a run of numbers, said in two ways
total_listed : {A : Type 0} (f : A → ℕ) (g : ℕ → A) (h : ℕ → ℕ) → ((k : ℕ) → f (g k) ≡ h k) → (i n : ℕ)
    → total f (listed g i n) ≡ total h (listed (λ (k : ℕ). k) i n)
unfolding total listed
total_listed f g h e i zero = refl
total_listed f g h e i (suc n) = ap₂ (λ (a b : ℕ). a + b) (e i) (total_listed f g h e (suc i) n)

-- the stamps of one slice's grids
slice_stamps : (s : VersionShape)
    → total (λ (g : StampGrid). length g.stamps) (listed (λ (k : ℕ). new_grid (tiling_of s k)) 0 s.levels) ≡ level_start s s.levels
unfolding level_start new_grid
slice_stamps s =
    total_listed (λ (g : StampGrid). length g.stamps) (λ (k : ℕ). new_grid (tiling_of s k)) (λ (k : ℕ). stamp_count (tiling_of s k))
    (λ k. length_zeros (stamp_count (tiling_of s k))) 0 s.levels

-- the stamps of its grids are those of a history of the shape
new_stamps : (s : VersionShape) → total (λ (g : StampGrid). length g.stamps) (new_history s).grids ≡ history_size s
unfolding new_history
new_stamps s =
    let grid_stamps : StampGrid → ℕ = λ g. length g.stamps in
    let level : ℕ → StampGrid = λ k. new_grid (tiling_of s k) in
    total_inner grid_stamps (λ (slice : ℕ). listed level 0 s.levels) (listed (λ (slice : ℕ). slice) 0 (slices_of s))
    ∙ total_equal (λ (slice : ℕ). total grid_stamps (listed level 0 s.levels)) (total grid_stamps (listed level 0 s.levels)) (λ slice. refl)
    (listed (λ (slice : ℕ). slice) 0 (slices_of s))
    ∙ ap₂ (λ (a b : ℕ). a * b) (slice_stamps s) (length_listed (λ (slice : ℕ). slice) 0 (slices_of s))
    ∙ mul_comm (level_start s s.levels) (slices_of s)
    ∙ sym (history_size_lem s)

pub fresh_newest : (s : VersionShape) → newest_from s 0 (new_history s).grids ≡ fresh_from s 0 (grid_count s)
fresh_newest s = unwritten_newest s 0 (new_history s).grids (unwritten s) ∙ ap (fresh_from s 0) (new_grids s)

pub fresh_stamps_lem : (s : VersionShape) → flat_map (λ (g : StampGrid). g.stamps) (new_history s).grids ≡ replicate (history_size s) 0
fresh_stamps_lem s = unwritten_stamps (new_history s).grids (unwritten s) ∙ ap (λ (n : ℕ). replicate n 0) (new_stamps s)
