-- Histories read back from the packed stamps that they were written to. Assumes nothing.
use mathlib.Core.Path.{◌≡◌, refl, sym, ap, ap₂, ◌∙◌}
use mathlib.Core.List.{List, [], ◌∷◌, ◌++◌, flat_map}
use Prim.Native.Nat.{ℕ, zero, suc, ◌+◌, ◌*◌, ◌<◌}
use native.Mathlib.Nat.{add-zero, zero-add}
use native.Mathlib.Omega.{arith}
use lib.ListN.{length, take, drop, get_or}
use lib.Seq.{drop-drop, get_or-drop}
use Rattle.base_blocks.specs.Lists.{listed, total}
use Rattle.base_blocks.proofs.Listed.{length_listed, listed_same, listed_get_d}
use Rattle.base_unequal.specs.Unequal.{flat, size_by, start_of}
use Rattle.base_unequal.proofs.Starts.{start_all}
use Rattle.base_unequal.proofs.Unequal.{length_flat, block_at}
use Rattle.grid_shapes.specs.declared.shape.VersionShape.{VersionShape}
use Rattle.grid_shapes.specs.Shapes.{slices_of}
use Rattle.grid_stamps.specs.Grids.{StampGrid, grid_in}
use Rattle.pool_rules.specs.Model.{WriteHistory, grid_count}
use Rattle.pool_rules.specs.HistorySizes.{grid_size, grid_places, grid_start, history_size}
use Rattle.pool_rules.specs.Formed.{HistoryFormed}
use Rattle.pool_rules.specs.RuleConstants.{grid_stride}
use Rattle.pool_records.specs.Tilings.{tiling_number}
use Rattle.pool_memory.specs.Lent.{Lent}
use Rattle.pool_memory.specs.Reading.{grid_read}
use Rattle.pool_memory.specs.Writing.{newest_from}
use Rattle.pool_memory.proofs.NewestNumbers.{newest_of_lem, tiling_of_lem}
use Rattle.pool_memory.proofs.FitsGrids.{no_grid, grid_of}

-- what a grid has among the stamps
abbrev pub grid_stamps : StampGrid → List ℕ
grid_stamps g = g.stamps

-- what each gives, joined, is blocks one behind the other
joined_flat : {A : Type 0} (f : A → List ℕ) (xs : List A) → flat_map f xs ≡ flat f xs
unfolding flat flat_map
joined_flat f [] = refl
joined_flat f (x ∷ xs) = ap (λ (l : List ℕ). f x ++ l) (joined_flat f xs)

-- starts over elements and over their places
start_places : {A : Type 0} (f : A → ℕ) (g : ℕ → ℕ) (xs : List A) (j : ℕ) (d : A) → ((k : ℕ) → k < length xs → f (get_or xs k d) ≡ g (j + k))
    → (i : ℕ) → start_of f i xs ≡ start_of g i (listed (λ (k : ℕ). k) j (length xs))
unfolding start_of total listed
start_places f g xs j d h zero = refl
start_places f g [] j d h (suc i) = refl
start_places f g (x ∷ xs) j d h (suc i) =
    ap₂ (λ (a b : ℕ). a + b) (h 0 (omega arith) ∙ ap g (add-zero j))
    (start_places f g xs (suc j) d (λ k q. h (suc k) (omega arith) ∙ ap g (let e : j + suc k ≡ suc j + k = omega arith in e)) i)

module _ (s : VersionShape) (h : WriteHistory) (formed : HistoryFormed s h) where
  -- ---- the grids of a formed history have the sizes of its shape

  grid_sized : (k : ℕ) → k < length h.grids → length (get_or h.grids k no_grid).stamps ≡ grid_size s k
  unfolding grid_size
  grid_sized k q = (grid_of s h formed k q).size

  pub starts_agree : (k : ℕ) → start_of (size_by grid_stamps) k h.grids ≡ grid_start s k
  unfolding grid_start grid_count
  starts_agree k =
      start_places (size_by grid_stamps) (grid_size s) h.grids 0 no_grid (λ j q. grid_sized j q ∙ ap (grid_size s) (let e : j ≡ 0 + j = omega arith in e)) k
      ∙ ap (λ (n : ℕ). start_of (grid_size s) k (listed (λ (j : ℕ). j) 0 n)) formed.size

  pub sizes_agree : total (size_by grid_stamps) h.grids ≡ history_size s
  unfolding grid_start history_size grid_count
  sizes_agree =
      let n = slices_of s * s.levels in
      sym (start_all (size_by grid_stamps) h.grids n (omega (arith, formed.size)))
      ∙ starts_agree n
      ∙ start_all (grid_size s) (grid_places s) n (omega (arith, length_listed (λ (j : ℕ). j) 0 n))

  pub length_history : length (flat_map grid_stamps h.grids) ≡ history_size s
  length_history = ap length (joined_flat grid_stamps h.grids) ∙ length_flat grid_stamps h.grids ∙ sizes_agree

  -- ---- read back, where its grids begin at `grid` and its stamps at `stamp`

  -- the tilings beside the newest stamps
  pub tiling_back : (newest : List ℕ) (grid : ℕ) (others : List ℕ) → drop grid newest ≡ newest_from s 0 h.grids ++ others
      → (k : ℕ) → k < grid_count s → get_or newest (grid + grid_stride * k + 1) 0 ≡ tiling_number s k
  unfolding grid_count
  tiling_back newest grid others newests k q =
      ap (λ (n : ℕ). get_or newest n 0) (let e : grid + grid_stride * k + 1 ≡ grid + (grid_stride * k + 1) = omega arith in e)
      ∙ sym (get_or-drop grid newest (grid_stride * k + 1) 0)
      ∙ ap (λ (l : List ℕ). get_or l (grid_stride * k + 1) 0) newests
      ∙ tiling_of_lem s 0 h.grids others k (omega (arith, formed.size))
      ∙ ap (tiling_number s) (zero-add k)

  module _ (m : Lent) (grid stamp : ℕ) (others rest : List ℕ) (newests : drop grid m.newest ≡ newest_from s 0 h.grids ++ others)
      (stamped : drop stamp m.stamps ≡ flat_map grid_stamps h.grids ++ rest) where
    newest_back : (k : ℕ) → k < length h.grids → get_or m.newest (grid + grid_stride * k) 0 ≡ (get_or h.grids k no_grid).newest
    newest_back k q =
        sym (get_or-drop grid m.newest (grid_stride * k) 0)
        ∙ ap (λ (l : List ℕ). get_or l (grid_stride * k) 0) newests
        ∙ newest_of_lem s 0 h.grids others k no_grid q

    stamps_back : (k : ℕ) → k < length h.grids → take (grid_size s k) (drop (stamp + grid_start s k) m.stamps) ≡ (get_or h.grids k no_grid).stamps
    stamps_back k q =
        ap₂ (λ (n : ℕ) (l : List ℕ). take n l) (sym (grid_sized k q))
        (sym (drop-drop (grid_start s k) stamp m.stamps) ∙ ap (λ (n : ℕ). drop n (drop stamp m.stamps)) (sym (starts_agree k)))
        ∙ block_at grid_stamps h.grids (drop stamp m.stamps) rest (stamped ∙ ap (λ (l : List ℕ). l ++ rest) (joined_flat grid_stamps h.grids)) k no_grid q

    grid_back : (k : ℕ) → k < length h.grids → grid_read m s grid stamp k ≡ get_or h.grids k no_grid
    unfolding grid_read grid_in grid_size
    grid_back k q = λ i. record { newest = newest_back k q i; stamps = stamps_back k q i }

    pub grids_back : listed (grid_read m s grid stamp) 0 (grid_count s) ≡ h.grids
    unfolding grid_count
    grids_back =
        ap (listed (grid_read m s grid stamp) 0) (sym formed.size)
        ∙ listed_same (grid_read m s grid stamp) (λ k. get_or h.grids k no_grid) (length h.grids) 0 0 (λ j q. grid_back (0 + j) (omega arith))
        ∙ listed_get_d no_grid h.grids
