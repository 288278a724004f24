-- What each texture has in a slice, packed one texture behind the other: the numbers of its grids, and its stamps. A law of such a packing is
-- said once, for both. Assumes nothing.
use mathlib.Core.Path.{◌≡◌, refl, sym, ap, ap₂, ◌∙◌}
use mathlib.Core.Bool.{Bool, true, ◌&&◌}
use mathlib.Core.List.{List, [], ◌∷◌, ◌++◌, flat_map, append-nil}
use Prim.Native.Nat.{ℕ, zero, suc, ◌+◌, ◌-◌, ◌≤◌, ◌<◌}
use native.Mathlib.Nat.{zero-add, add-zero, add_assoc}
use native.Mathlib.Numerals.{add-one}
use native.Mathlib.Omega.{arith}
use lib.ListN.{length, take, drop, get_or, set, length-append, length-drop}
use lib.Seq.{sets, set_split, take_all, take-take, take-add, drop-drop, length-take-le}
use borrow.Author.Tests.{eqb-true}
use lib.Dec.{eqb}
use Rattle.base_blocks.specs.Lists.{over, total, removed, inserted}
use Rattle.base_blocks.specs.All.{All, nil, cons}
use Rattle.base_blocks.specs.Blocks.{moved}
use Rattle.base_blocks.proofs.Lists.{and_both}
use Rattle.base_blocks.proofs.All.{all_each, all_drop, all_at}
use Rattle.base_blocks.proofs.Blocks.{repacked, over_moved}
use Rattle.base_unequal.specs.Unequal.{start_of, starts_fit}
use Rattle.base_unequal.proofs.Readings.{start_held}
use Rattle.pool_rules.specs.Model.{VersionState, PoolModel}
use Rattle.pool_rules.proofs.Lists.{total_cut}
use Rattle.pool_records.specs.declared.texture.TextureRecord.{TextureRecord}
use Rattle.pool_records.specs.Texture.{read_texture, record_grids, record_stamps}
use Rattle.pool_memory.specs.Lent.{Lent}
use Rattle.pool_memory.specs.Reading.{tracked_records, state_read, states_read, model_of}
use Rattle.pool_memory.specs.Writing.{newest_of, stamps_of}
use Rattle.pool_memory.specs.IsPool.{tilings_hold, tilings_fit}
use Rattle.pool_memory.proofs.FitsTests.{all_holds}
use Rattle.pool_memory.proofs.Fits.{Fits}
use Rattle.pool_memory.proofs.Parts.{total_next, flat_append}
use Rattle.pool_memory.proofs.Rewritten.{moved_self, listed_run, over_front}
use Rattle.pool_memory.proofs.Runs.{spares_of, first_grid_in, first_stamp_in, first_spare, state_of, tracked_records_lem, tracked_model, grid_starts, stamp_starts, take_states, drop_states, newest_state, stamps_state}

-- `wr` is what a texture has in the slice, `size` and `start` how much and from where on by its record; `count` is how much all of them have. A record
-- that is `Good` has what the slice says.
pub record Packing (l : Lent) : Type 1 where
  pub wr : VersionState ℕ → List ℕ
  pub size : TextureRecord → ℕ
  pub start : TextureRecord → ℕ
  pub slice : List ℕ
  pub count : ℕ
  pub counted : total size (tracked_records l) ≡ count
  pub room : count ≤ length slice
  pub starts : starts_fit size start 0 (tracked_records l) ≡ true
  pub Good : TextureRecord → Type 0
  pub good : All Good (tracked_records l)
  pub one : (first : ℕ) (t : TextureRecord) → Good t → start t + size t ≤ length slice → wr (state_read l first t) ≡ take (size t) (drop (start t) slice)

-- the first of them
all_take : {A : Type 0} {P : A → Type 0} (n : ℕ) {xs : List A} → All P xs → All P (take n xs)
all_take zero p = nil
all_take (suc n) nil = nil
all_take (suc n) (cons p ps) = cons p (all_take n ps)

module _ (l : Lent) (f : Fits l) where
  pub tilings_good : All (λ (t : TextureRecord). tilings_hold l t ≡ true) (tracked_records l)
  unfolding tilings_fit
  tilings_good = all_holds (tilings_hold l) (λ t e. e) (tracked_records l) f.tilings

  abbrev pub newest_packing : Packing l
  newest_packing = record {
    wr = newest_of;
    size = record_grids;
    start = first_grid_in;
    slice = l.newest;
    count = l.pool.grids;
    counted = f.claimed;
    room = f.grids;
    starts = grid_starts l f.starts;
    Good = λ (t : TextureRecord). tilings_hold l t ≡ true;
    good = tilings_good;
    one = λ first t e h. newest_state l first t e ∙ listed_run 0 l.newest t.grid (record_grids t) h;
  }

  abbrev pub stamps_packing : Packing l
  stamps_packing = record {
    wr = stamps_of;
    size = record_stamps;
    start = first_stamp_in;
    slice = l.stamps;
    count = l.pool.stamps;
    counted = f.stamps_claimed;
    room = f.stamps_counted;
    starts = stamp_starts l f.starts;
    Good = λ (t : TextureRecord). Unit {0};
    good = all_each (λ t. tt) (tracked_records l);
    one = λ first t e h. stamps_state l first t;
  }

module _ {l : Lent} (k : Packing l) where
  -- where texture i begins, and how much it has
  abbrev pub from : ℕ → ℕ
  from i = total k.size (take i (tracked_records l))

  abbrev pub size_at : ℕ → ℕ
  size_at i = k.size (get_or (tracked_records l) i (read_texture []))

  pub from_next : (i : ℕ) → i < l.pool.tracked → from (suc i) ≡ from i + size_at i
  from_next i h = total_next k.size (tracked_records l) i (read_texture []) (omega (arith, tracked_records_lem l))

  -- how much the textures from i on have
  later : (i : ℕ) → total k.size (drop i (tracked_records l)) ≡ k.count - from i
  later i = omega (arith, k.counted, total_cut k.size i (tracked_records l))

  pub from_bound : (i : ℕ) → from i ≤ k.count
  from_bound i = omega (arith, k.counted, total_cut k.size i (tracked_records l))

  pub from_last : from l.pool.tracked ≡ k.count
  from_last = ap (total k.size) (take_all l.pool.tracked (tracked_records l) (omega (arith, tracked_records_lem l))) ∙ k.counted

  pub from_order : (i j : ℕ) → i ≤ j → from i ≤ from j
  from_order i j h = omega (arith, total_cut k.size i (take j (tracked_records l)), ap (total k.size) (take-take i j (tracked_records l) h))

  pub size_in : (i : ℕ) → i < l.pool.tracked → from i + size_at i ≤ k.count
  size_in i h = omega (arith, from_next i h, from_bound (suc i))

  -- the record holds it
  pub start_at : (i : ℕ) → i < l.pool.tracked → k.start (get_or (tracked_records l) i (read_texture [])) ≡ from i
  unfolding start_of
  start_at i h =
      start_held k.size k.start (tracked_records l) 0 i (read_texture []) k.starts (omega (arith, tracked_records_lem l)) ∙ zero-add (from i)

  -- ---- textures in a row stand one behind the other

  row : (first n : ℕ) (ts : List TextureRecord) → All k.Good ts → starts_fit k.size k.start n ts ≡ true → n + total k.size ts ≤ length k.slice
      → flat_map k.wr (states_read l first ts) ≡ take (total k.size ts) (drop n k.slice)
  unfolding states_read flat_map total starts_fit
  row first n [] nil e h = refl
  row first n (t ∷ ts) (cons g gs) e h =
      let q = and_both (eqb (k.start t) n) (starts_fit k.size k.start (n + k.size t) ts) e in
      let at : k.start t ≡ n = eqb-true (k.start t) n q.0 in
      ap₂ (λ (a b : List ℕ). a ++ b)
      (k.one first t g (omega (arith, at)) ∙ ap (λ (m : ℕ). take (k.size t) (drop m k.slice)) at)
      (row (first + t.spares) (n + k.size t) ts gs q.1 (omega arith)
      ∙ ap (take (total k.size ts)) (sym (drop-drop (k.size t) n k.slice)))
      ∙ sym (take-add (k.size t) (total k.size ts) (drop n k.slice))

  starts_front : (n i : ℕ) (ts : List TextureRecord) → starts_fit k.size k.start n ts ≡ true → starts_fit k.size k.start n (take i ts) ≡ true
  unfolding starts_fit
  starts_front n zero ts e = refl
  starts_front n (suc i) [] e = refl
  starts_front n (suc i) (t ∷ ts) e =
      let q = and_both (eqb (k.start t) n) (starts_fit k.size k.start (n + k.size t) ts) e in
      ap₂ (λ (a b : Bool). a && b) q.0 (starts_front (n + k.size t) i ts q.1)

  starts_rest : (n i : ℕ) (ts : List TextureRecord) → starts_fit k.size k.start n ts ≡ true
      → starts_fit k.size k.start (n + total k.size (take i ts)) (drop i ts) ≡ true
  unfolding starts_fit total
  starts_rest n zero ts e = ap (λ (m : ℕ). starts_fit k.size k.start m ts) (add-zero n) ∙ e
  starts_rest n (suc i) [] e = refl
  starts_rest n (suc i) (t ∷ ts) e =
      let q = and_both (eqb (k.start t) n) (starts_fit k.size k.start (n + k.size t) ts) e in
      ap (λ (m : ℕ). starts_fit k.size k.start m (drop i ts)) (sym (add_assoc n (k.size t) (total k.size (take i ts))))
      ∙ starts_rest (n + k.size t) i ts q.1

  pub all_packed : flat_map k.wr (model_of l).textures ≡ take k.count k.slice
  unfolding model_of
  all_packed =
      row 0 0 (tracked_records l) k.good k.starts (omega (arith, k.counted, k.room)) ∙ ap (λ (n : ℕ). take n k.slice) k.counted

  pub before_packed : (i : ℕ) → flat_map k.wr (take i (model_of l).textures) ≡ take (from i) k.slice
  unfolding model_of
  before_packed i =
      ap (flat_map k.wr) (take_states l i 0 (tracked_records l))
      ∙ row 0 0 (take i (tracked_records l)) (all_take i k.good) (starts_front 0 i (tracked_records l) k.starts) (omega (arith, from_bound i, k.room))

  pub later_packed : (i : ℕ) → flat_map k.wr (drop i (model_of l).textures) ≡ take (k.count - from i) (drop (from i) k.slice)
  unfolding model_of
  later_packed i =
      ap (flat_map k.wr) (drop_states l i 0 (tracked_records l))
      ∙ row (0 + total spares_of (take i (tracked_records l))) (0 + from i) (drop i (tracked_records l)) (all_drop i k.good) (starts_rest 0 i (tracked_records l) k.starts)
      (omega (arith, later i, from_bound i, k.room))
      ∙ ap₂ (λ (n m : ℕ). take n (drop m k.slice)) (later i) (zero-add (from i))

  pub one_packed : (i : ℕ) → i < l.pool.tracked → k.wr (state_of l i) ≡ take (size_at i) (drop (from i) k.slice)
  unfolding state_of
  one_packed i h =
      k.one (first_spare l i) (get_or (tracked_records l) i (read_texture [])) (all_at (tracked_records l) i (read_texture []) (omega (arith, tracked_records_lem l)) k.good)
      (omega (arith, start_at i h, size_in i h, k.room))
      ∙ ap (λ (m : ℕ). take (size_at i) (drop m k.slice)) (start_at i h)

  pub length_packed : (i : ℕ) → i < l.pool.tracked → length (k.wr (state_of l i)) ≡ size_at i
  length_packed i h =
      ap length (one_packed i h)
      ∙ length-take-le (size_at i) (drop (from i) k.slice) (omega (arith, length-drop (from i) k.slice, size_in i h, k.room))

  -- ---- the textures from i up to j replaced by others

  module _ (p : PoolModel ℕ) where
    -- the slice after a call
    abbrev pub packed : List ℕ
    packed = over (flat_map k.wr p.textures) k.slice

    pub between_packed : (i j : ℕ) (between : List (VersionState ℕ)) → i ≤ j
        → p.textures ≡ take i (model_of l).textures ++ (between ++ drop j (model_of l).textures)
        → (xs : List ℕ) → flat_map k.wr between ≡ xs → from i + length xs + (k.count - from j) ≤ length k.slice
        → sets (moved k.slice (from i + length xs) (from j) (k.count - from j)) (from i) xs ≡ packed
    between_packed i j between h e xs new fits =
        let ts = (model_of l).textures in
        repacked k.slice xs (from i) (from j) (k.count - from j) (from_order i j h) (omega (arith, from_bound j, k.room)) fits
        ∙ ap (λ (ys : List ℕ). over ys k.slice)
        (sym (ap (flat_map k.wr) e
        ∙ flat_append k.wr (take i ts) (between ++ drop j ts)
        ∙ ap (λ (ys : List ℕ). flat_map k.wr (take i ts) ++ ys) (flat_append k.wr between (drop j ts))
        ∙ ap₂ (λ (a b : List ℕ). a ++ (flat_map k.wr between ++ b)) (before_packed i) (later_packed j)
        ∙ ap (λ (ys : List ℕ). take (from i) k.slice ++ (ys ++ take (k.count - from j) (drop (from j) k.slice))) new))

    -- textures that have what they had
    pub same_packed : flat_map k.wr p.textures ≡ flat_map k.wr (model_of l).textures → packed ≡ k.slice
    same_packed e = ap (λ (xs : List ℕ). over xs k.slice) (e ∙ all_packed) ∙ over_front k.count k.slice

    -- ---- texture i changed, put in or taken out

    module _ (i : ℕ) where
      pub set_parts : i < l.pool.tracked → (t : VersionState ℕ) → p.textures ≡ set (model_of l).textures i t
          → p.textures ≡ take i (model_of l).textures ++ ((t ∷ []) ++ drop (suc i) (model_of l).textures)
      set_parts h t e = e ∙ set_split (model_of l).textures i t (omega (arith, tracked_model l))

      pub removed_parts : p.textures ≡ removed i 1 (model_of l).textures
          → p.textures ≡ take i (model_of l).textures ++ ([] ++ drop (suc i) (model_of l).textures)
      unfolding removed
      removed_parts e = e ∙ ap (λ (n : ℕ). take i (model_of l).textures ++ drop n (model_of l).textures) (add-one i)

      one_alone : (t : VersionState ℕ) → flat_map k.wr (t ∷ []) ≡ k.wr t
      unfolding flat_map
      one_alone t = append-nil (k.wr t)

      -- one put in before it
      pub inserted_packed : (t : VersionState ℕ) → p.textures ≡ inserted i (t ∷ []) (model_of l).textures
          → k.count + length (k.wr t) ≤ length k.slice
          → sets (moved k.slice (from i + length (k.wr t)) (from i) (k.count - from i)) (from i) (k.wr t) ≡ packed
      unfolding inserted
      inserted_packed t e fits = between_packed i i (t ∷ []) (omega arith) e (k.wr t) (one_alone t) (omega (arith, from_bound i))

      module _ (h : i < l.pool.tracked) where
        -- it has something else: those behind it move
        pub renewed_packed : (t : VersionState ℕ) → p.textures ≡ set (model_of l).textures i t
            → from i + length (k.wr t) + (k.count - (from i + size_at i)) ≤ length k.slice
            → sets (moved k.slice (from i + length (k.wr t)) (from i + size_at i) (k.count - (from i + size_at i))) (from i) (k.wr t) ≡ packed
        renewed_packed t e fits =
            ap (λ (m : ℕ). sets (moved k.slice (from i + length (k.wr t)) m (k.count - m)) (from i) (k.wr t)) (sym (from_next i h))
            ∙ between_packed i (suc i) (t ∷ []) (omega arith) (set_parts h t e) (k.wr t) (one_alone t) (omega (arith, from_next i h))

        -- as much as it had: nothing moves
        pub rewritten_packed : (t : VersionState ℕ) → p.textures ≡ set (model_of l).textures i t → length (k.wr t) ≡ size_at i
            → sets k.slice (from i) (k.wr t) ≡ packed
        rewritten_packed t e n =
            let b = from i + size_at i in
            ap (λ (s : List ℕ). sets s (from i) (k.wr t)) (sym (moved_self k.slice b (k.count - b)))
            ∙ ap (λ (m : ℕ). sets (moved k.slice m b (k.count - b)) (from i) (k.wr t)) (ap (λ (m : ℕ). from i + m) (sym n))
            ∙ renewed_packed t e (omega (arith, size_in i h, k.room))

        -- it has nothing any more, or is taken out
        pub out_packed : (between : List (VersionState ℕ)) → p.textures ≡ take i (model_of l).textures ++ (between ++ drop (suc i) (model_of l).textures)
            → flat_map k.wr between ≡ [] → moved k.slice (from i) (from i + size_at i) (k.count - (from i + size_at i)) ≡ packed
        out_packed between e new =
            ap₂ (λ (a b : ℕ). moved k.slice a b (k.count - b)) (sym (add-zero (from i))) (sym (from_next i h))
            ∙ between_packed i (suc i) between (omega arith) e [] new
            (omega (arith, from_order i (suc i) (omega arith), from_bound (suc i), k.room))

        pub dropped_packed : (t : VersionState ℕ) → p.textures ≡ set (model_of l).textures i t → k.wr t ≡ []
            → moved k.slice (from i) (from i + size_at i) (k.count - (from i + size_at i)) ≡ packed
        dropped_packed t e n = out_packed (t ∷ []) (set_parts h t e) (one_alone t ∙ n)

        pub removed_packed : p.textures ≡ removed i 1 (model_of l).textures
            → moved k.slice (from i) (from i + size_at i) (k.count - (from i + size_at i)) ≡ packed
        unfolding flat_map
        removed_packed e = out_packed [] (removed_parts e) refl

  -- ---- a pass over all textures: p has those packed so far, q one more, which has what texture i had

  pub step_packed : (p q : PoolModel ℕ) (t : VersionState ℕ) → q.textures ≡ p.textures ++ (t ∷ []) → (i : ℕ) → i < l.pool.tracked
      → k.wr t ≡ k.wr (state_of l i) → (used : ℕ) → used ≤ from i → length (flat_map k.wr p.textures) ≡ used
      → (moved (packed p) used (from i) (size_at i) ≡ packed q) × (length (flat_map k.wr q.textures) ≡ used + size_at i)
  unfolding flat_map
  step_packed p q t e i h same used before n =
      let xs = flat_map k.wr p.textures in
      let run = take (size_at i) (drop (from i) k.slice) in
      let inside : from i + size_at i ≤ length k.slice = omega (arith, size_in i h, k.room) in
      let new : flat_map k.wr q.textures ≡ xs ++ run =
      ap (flat_map k.wr) e ∙ flat_append k.wr p.textures (t ∷ [])
      ∙ ap (λ (ys : List ℕ). xs ++ ys) (append-nil (k.wr t) ∙ same ∙ one_packed i h) in (
        ap (λ (m : ℕ). moved (over xs k.slice) m (from i) (size_at i)) (sym n)
            ∙ over_moved xs k.slice (from i) (size_at i) (omega arith) (omega arith)
            ∙ ap (λ (ys : List ℕ). over ys k.slice) (sym new),
        ap length new ∙ length-append xs run
            ∙ ap₂ (λ (a b : ℕ). a + b) n (length-take-le (size_at i) (drop (from i) k.slice) (omega (arith, length-drop (from i) k.slice))),
      )
