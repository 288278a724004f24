-- The plan that the code makes is the rule's, and so is what the call says and leaves. Assumes nothing.
use mathlib.Core.Path.{◌≡◌, refl, sym, ap, ap₂, ◌∙◌}
use mathlib.Core.Bool.{Bool, true, false, cond, not, ◌&&◌}
use mathlib.Core.List.{List, [], ◌++◌, flat_map}
use Prim.Native.Nat.{ℕ, zero, suc, ◌+◌, ◌*◌, ◌/◌, ◌%◌, ◌≤◌, ◌<◌}
use native.Mathlib.Nat.{add-zero, zero-add, suc-mul, zero-mul, mul-one, mul_comm}
use native.Mathlib.Omega.{arith}
use borrow.Author.Tests.{not-false, ltb-false}
use lib.Dec.{ltb}
use lib.ListN.{length, drop, get_or, length-append}
use Rattle.base_blocks.specs.Lists.{listed}
use Rattle.base_blocks.proofs.Listed.{listed_split, get_or_listed}
use Rattle.std.specs.Prelude.{Option, Some, None}
use Rattle.grid_rects.specs.declared.rect.TexelRect.{TexelRect}
use Rattle.grid_shapes.specs.declared.shape.VersionShape.{VersionShape}
use Rattle.grid_shapes.specs.Shapes.{is_shape, slices_of}
use Rattle.grid_stamps.specs.Grids.{StampGrid, tiling_of, grid_in, box_since}
use Rattle.grid_stamps.proofs.RowByRow.{tile_place}
use Rattle.pool_rules.specs.declared.held.Held.{Held}
use Rattle.pool_rules.specs.declared.held.Held.TheVariants.{Known, Unknown}
use Rattle.pool_rules.specs.Model.{PoolModel, Out, refused, accepted, guard, find, PreserveCopy, UploadFootprint, grid_count}
use Rattle.pool_rules.specs.Histories.{in_shape, grid_place, grid_at}
use Rattle.pool_rules.specs.HistorySizes.{grid_start}
use Rattle.pool_rules.specs.PreservePlan.{covers, box_copy, copy_of, copies, plan_found, preserve_plan}
use Rattle.pool_rules.specs.RuleConstants.{grid_stride}
use Rattle.pool_rules.proofs.GridPlaces.{place_level}
use Rattle.pool_memory.specs.Lent.{Lent}
use Rattle.pool_memory.specs.Reading.{grid_read, model_of, grid_on}
use Rattle.pool_memory.specs.IsPool.{is_pool}
use Rattle.pool_memory.specs.Calls.{refused_with, answer, copy_numbers, in_buffer, preserve_plan_on}
use Rattle.pool_memory.proofs.Fits.{Fits}
use Rattle.pool_memory.proofs.FromPool.{pool_fits}
use Rattle.pool_memory.proofs.Parts.{flat_append}
use Rattle.pool_memory.proofs.Stays.{nothing_changed}
use Rattle.pool_memory.proofs.Written.{no_grid}
use Rattle.pool_memory.proofs.Asked.{asked_refused, asked_accepted}
use Rattle.pool_preserve_plan.specs.declared.since.After.{After}
use Rattle.pool_preserve_plan.specs.declared.history.Found.{Found}
use Rattle.pool_preserve_plan.specs.declared.history.Found.TheVariants.{OtherShape, NothingRecorded, History}
use Rattle.pool_preserve_plan.specs.Copies.{box_planned, planned_since, planned_at, copy_list, in_order, copies_at, lent_copies, with_copies}
use Rattle.pool_preserve_plan.proofs.Planned.{place_slice}
use Rattle.pool_preserve_plan.proofs.Passes.{list_most, with_front}
use Rattle.pool_preserve_plan.proofs.Finding.{history_in, spent_found, found_in, plan_found_lem}
use Rattle.pool_memory.specs.MemoryConstants.{copy_stride}
use Rattle.pool_preserve_plan.specs.PlanRefusal.{since_of, is_other, skips_spent, plan_refusal}

-- ---- in order

-- two that agree, each from its own place on
each_same : (f g : ℕ → List PreserveCopy) (n i k : ℕ) → ((j : ℕ) → j < n → f (i + j) ≡ g (k + j))
    → flat_map f (listed (λ (m : ℕ). m) i n) ≡ flat_map g (listed (λ (m : ℕ). m) k n)
unfolding flat_map listed
each_same f g zero i k h = refl
each_same f g (suc n) i k h =
    ap₂ (λ (a b : List PreserveCopy). a ++ b) (ap f (sym (add-zero i)) ∙ h 0 (omega arith) ∙ ap g (add-zero k))
    (each_same f g n (suc i) (suc k) (λ j q. ap f (next i j) ∙ h (suc j) (omega arith) ∙ ap g (sym (next k j))))
  where
    next : (i j : ℕ) → suc i + j ≡ i + suc j
    next i j = omega arith

-- n rows of m, one behind the other
rows_same : (f : ℕ → List PreserveCopy) (g : ℕ → ℕ → List PreserveCopy) (n m : ℕ) → ((i j : ℕ) → i < n → j < m → f (i * m + j) ≡ g i j)
    → in_order f (n * m) ≡ flat_map (λ (i : ℕ). flat_map (g i) (listed (λ (k : ℕ). k) 0 m)) (listed (λ (k : ℕ). k) 0 n)
unfolding in_order flat_map listed
rows_same f g n m h =
    ap (λ (k : ℕ). flat_map f (listed (λ (k : ℕ). k) k (n * m))) (sym (zero-mul m)) ∙ go n 0 (λ i j p q. h i j (omega (arith, p)) q)
  where
    go : (n i : ℕ) → ((a j : ℕ) → a < i + n → j < m → f (a * m + j) ≡ g a j)
        → flat_map f (listed (λ (k : ℕ). k) (i * m) (n * m)) ≡ flat_map (λ (i : ℕ). flat_map (g i) (listed (λ (k : ℕ). k) 0 m)) (listed (λ (k : ℕ). k) i n)
    go zero i h = ap (λ (k : ℕ). flat_map f (listed (λ (k : ℕ). k) (i * m) k)) (zero-mul m)
    go (suc n) i h =
        ap (λ (k : ℕ). flat_map f (listed (λ (k : ℕ). k) (i * m) k)) (let e : suc n * m ≡ m + n * m = omega (arith, suc-mul n m) in e)
        ∙ ap (flat_map f) (listed_split (λ (k : ℕ). k) (i * m) m (n * m))
        ∙ flat_append f (listed (λ (k : ℕ). k) (i * m) m) (listed (λ (k : ℕ). k) (i * m + m) (n * m))
        ∙ ap₂ (λ (a b : List PreserveCopy). a ++ b)
        (each_same f (g i) m (i * m) 0 (λ j q. h i j (omega arith) q ∙ ap (g i) (sym (zero-add j))))
        (ap (λ (k : ℕ). flat_map f (listed (λ (k : ℕ). k) k (n * m))) (let e : i * m + m ≡ suc i * m = omega (arith, suc-mul i m) in e)
        ∙ go n (suc i) (λ a j p q. h a j (omega (arith, p)) q))

-- at most m of each
in_order_most : (f : ℕ → List PreserveCopy) (m : ℕ) → ((k : ℕ) → length (f k) ≤ m) → (n : ℕ) → length (in_order f n) ≤ n * m
unfolding in_order flat_map listed
in_order_most f m h n = go 0 n
  where
    go : (i n : ℕ) → length (flat_map f (listed (λ (k : ℕ). k) i n)) ≤ n * m
    go i zero = omega (arith, zero-mul m)
    go i (suc n) = omega (arith, go (suc i) n, h i, suc-mul n m, length-append (f i) (flat_map f (listed (λ (k : ℕ). k) (suc i) n)))

pub copies_most : (newest stamps : List ℕ) (s : VersionShape) (since : Option After) (u : UploadFootprint)
    → length (lent_copies newest stamps s since u) ≤ grid_count s
unfolding lent_copies copies_at
copies_most newest stamps s since u =
    omega (
      arith,
      in_order_most (copies_at newest stamps s since u) 1
          (λ k. list_most (planned_at newest stamps s since u (k / s.levels) (k % s.levels)) (k / s.levels) (k % s.levels)) (grid_count s),
      mul-one (grid_count s),
    )

-- ---- one subresource

box_list : (s : VersionShape) (slice level : ℕ) (d : Option TexelRect) → copy_list (box_planned s level d) slice level ≡ box_copy s slice level d
unfolding copy_list box_planned box_copy
box_list s slice level None = refl
box_list s slice level (Some r) = refl

module _ (l : Lent) (s : VersionShape) where
  -- the grid that stands there is the model's
  grid_same : (grid stamp n slice level : ℕ) → slice < slices_of s → level < s.levels
      → grid_on s level l.newest l.stamps (grid + grid_stride * grid_place s slice level) (stamp + grid_start s (grid_place s slice level))
      ≡ grid_at s (record { writes = n; grids = listed (grid_read l s grid stamp) 0 (grid_count s) }) slice level
  unfolding grid_on grid_read grid_at grid_count
  grid_same grid stamp n slice level p q =
      let k = grid_place s slice level in
      let inside : k < slices_of s * s.levels = omega (arith, tile_place s.levels (slices_of s) level slice q p, mul_comm s.levels (slices_of s)) in
      ap (λ (m : ℕ). grid_in (tiling_of s m) (get_or l.newest (grid + grid_stride * k) 0) (drop (stamp + grid_start s k) l.stamps)) (sym (place_level slice level s.levels q))
      ∙ ap (grid_read l s grid stamp) (sym (zero-add k))
      ∙ sym (get_or_listed (grid_read l s grid stamp) 0 (slices_of s * s.levels) k no_grid inside)

  since_list : (f : Found) (held : Held) (slice level : ℕ) → slice < slices_of s → level < s.levels
      → copy_list (planned_since l.newest l.stamps s (since_of f held) slice level) slice level
      ≡ copy_of s (history_in l s f) held slice level
  unfolding copy_list copy_of
  since_list OtherShape held slice level p q = refl
  since_list NothingRecorded held slice level p q = refl
  since_list (History grid stamp n) Unknown slice level p q = refl
  since_list (History grid stamp n) (Known k) slice level p q =
      let at = grid_place s slice level in
      box_list s slice level (box_since (tiling_of s level) k (grid_on s level l.newest l.stamps (grid + grid_stride * at) (stamp + grid_start s at)))
      ∙ ap (λ (g : StampGrid). box_copy s slice level (box_since (tiling_of s level) k g)) (grid_same grid stamp n slice level p q)

  module _ (f : Found) (held : Held) (u : UploadFootprint) where
    at_list : (slice level : ℕ) → slice < slices_of s → level < s.levels
        → copies_at l.newest l.stamps s (since_of f held) u (slice * s.levels + level) ≡ cond (covers u slice level) [] (copy_of s (history_in l s f) held slice level)
    unfolding copies_at planned_at copy_list
    at_list slice level p q =
        ap₂ (λ (a b : ℕ). copy_list (planned_at l.newest l.stamps s (since_of f held) u a b) a b)
        (place_slice slice level s.levels q) (place_level slice level s.levels q)
        ∙ go (covers u slice level)
      where
        go : (b : Bool) → copy_list (cond b None (planned_since l.newest l.stamps s (since_of f held) slice level)) slice level
            ≡ cond b [] (copy_of s (history_in l s f) held slice level)
        go true = refl
        go false = since_list f held slice level p q

    -- the copies are the model's
    pub copies_same : lent_copies l.newest l.stamps s (since_of f held) u ≡ copies s (history_in l s f) held u
    unfolding lent_copies copies grid_count
    copies_same =
        rows_same (copies_at l.newest l.stamps s (since_of f held) u)
        (λ slice level. cond (covers u slice level) [] (copy_of s (history_in l s f) held slice level)) (slices_of s) s.levels at_list

-- ---- the rule

-- refusals one after the other, and their numbers
abbrev number : Bool → Bool → Bool → Bool → ℕ
number a b c d = cond a 2 (cond b 4 (cond c 11 (cond d 12 0)))

-- no number: none of the four
number_passed : (a b c d : Bool) → number a b c d ≡ 0 → (a ≡ false) × (c ≡ false)
number_passed true b c d h = absurd (let y : ⊥ = omega arith in y)
number_passed false true c d h = absurd (let y : ⊥ = omega arith in y)
number_passed false false true d h = absurd (let y : ⊥ = omega arith in y)
number_passed false false false d h = (refl, refl)

module _ {A : Type 0} (out : Out ℕ A) where
  abbrev guards : Bool → Bool → Bool → Bool → Out ℕ A
  guards a b c d = guard a 2 (guard b 4 (guard c 11 (guard d 12 out)))

  guards_refused : (a b c d : Bool) → (number a b c d ≡ 0 → ⊥) → guards a b c d ≡ refused (number a b c d)
  unfolding guard
  guards_refused true b c d h = refl
  guards_refused false true c d h = refl
  guards_refused false false true d h = refl
  guards_refused false false false true h = refl
  guards_refused false false false false h = absurd (h refl)

  guards_passed : (a b c d : Bool) → number a b c d ≡ 0 → guards a b c d ≡ out
  unfolding guard
  guards_passed true b c d h = absurd (let y : ⊥ = omega arith in y)
  guards_passed false true c d h = absurd (let y : ⊥ = omega arith in y)
  guards_passed false false true d h = absurd (let y : ⊥ = omega arith in y)
  guards_passed false false false true h = absurd (let y : ⊥ = omega arith in y)
  guards_passed false false false false h = refl

-- ---- the call

module _ (l : Lent) (pool : is_pool l ≡ true) (id : ℕ) (shape : VersionShape) (held : Held) (u : UploadFootprint) where
  abbrev fits : Fits l
  fits = pool_fits l pool

  abbrev found : Found
  found = found_in l fits id shape

  abbrev pub planned : List PreserveCopy
  planned = lent_copies l.newest l.stamps shape (since_of found held) u

  abbrev pub number_of : ℕ → ℕ
  number_of room = plan_refusal shape found u (length planned) room

  plan_rule : (room : ℕ)
      → preserve_plan (model_of l) id shape held u room
      ≡ guards (accepted planned (model_of l)) (not (is_shape shape)) (is_other found) (ltb room (length planned)) (skips_spent shape found u)
  unfolding preserve_plan guard
  plan_rule room = go (is_shape shape) refl
    where
      go : (b : Bool) → is_shape shape ≡ b
          → guard (not b) 2 (plan_found (model_of l) shape held u room (find id (model_of l).textures))
          ≡ guards (accepted planned (model_of l)) (not b) (is_other found) (ltb room (length planned)) (skips_spent shape found u)
      go false e = refl
      go true e =
          plan_found_lem l fits id shape held u room
          ∙ ap₂ (λ (cs : List PreserveCopy) (b : Bool).
          guard (is_other found) 4 (guard (ltb room (length cs)) 11 (guard (u.cover && in_shape shape u.slice u.level && b) 12 (accepted cs (model_of l)))))
          (sym (copies_same l shape found held u)) (spent_found l shape found)

  -- a plan that is not refused has room
  pub plan_room : (room : ℕ) → number_of room ≡ 0 → (is_shape shape ≡ true) × (length planned ≤ room)
  unfolding plan_refusal
  plan_room room e =
      let q = number_passed (not (is_shape shape)) (is_other found) (ltb room (length planned)) (skips_spent shape found u) e in
      (not-false (is_shape shape) q.0, ltb-false room (length planned) q.1)

  module _ (buffer : List ℕ) where
    pub plan_refused : (number_of (length buffer / copy_stride) ≡ 0 → ⊥)
        → (refused_with (number_of (length buffer / copy_stride)), (buffer, l)) ≡ preserve_plan_on l buffer id shape held u
    unfolding preserve_plan_on plan_refusal
    plan_refused h =
        sym (ap (in_buffer copy_numbers buffer)
        (asked_refused (λ a. a) l (λ (p : PoolModel ℕ). preserve_plan p id shape held u (length buffer / copy_stride)) pool _
        (plan_rule (length buffer / copy_stride) ∙ guards_refused (accepted planned (model_of l)) _ _ _ _ h)))

    pub plan_accepted : number_of (length buffer / copy_stride) ≡ 0
        → (answer (length planned), (with_copies 0 planned buffer, l)) ≡ preserve_plan_on l buffer id shape held u
    unfolding preserve_plan_on plan_refusal
    plan_accepted h =
        sym (ap (in_buffer copy_numbers buffer)
        (asked_accepted (λ a. a) l (λ (p : PoolModel ℕ). preserve_plan p id shape held u (length buffer / copy_stride)) pool planned (model_of l)
        (plan_rule (length buffer / copy_stride) ∙ guards_passed (accepted planned (model_of l)) _ _ _ _ h))
        ∙ ap₂ (λ (b : List ℕ) (m : Lent). (answer (length planned), (b, m)))
        (sym (with_front planned buffer (omega (arith, (plan_room (length buffer / copy_stride) h).1)))) (nothing_changed l fits))

    -- as the code has them: what it found, what bounds the copies and the number that it worked out
    module _ (f : Found) (since : Option After) (e : f ≡ found) (b : since ≡ since_of f held) where
      same_copies : lent_copies l.newest l.stamps shape since u ≡ planned
      same_copies = ap (λ (x : Option After). lent_copies l.newest l.stamps shape x u) (b ∙ ap (λ (x : Found). since_of x held) e)

      same_number : (n : ℕ) → n ≡ plan_refusal shape f u (length (lent_copies l.newest l.stamps shape since u)) (length buffer / copy_stride)
          → n ≡ number_of (length buffer / copy_stride)
      same_number n q = q ∙ ap₂ (λ (x : Found) (cs : List PreserveCopy). plan_refusal shape x u (length cs) (length buffer / copy_stride)) e same_copies

      pub fits_room : (n : ℕ) → n ≡ plan_refusal shape f u (length (lent_copies l.newest l.stamps shape since u)) (length buffer / copy_stride) → n ≡ 0
          → (is_shape shape ≡ true) × (copy_stride * length (lent_copies l.newest l.stamps shape since u) ≤ length buffer)
      fits_room n q z =
          let r = plan_room (length buffer / copy_stride) (sym (same_number n q) ∙ z) in
          (r.0, omega (arith, r.1, ap length same_copies))

      pub says_refused : (n : ℕ) → n ≡ plan_refusal shape f u (length (lent_copies l.newest l.stamps shape since u)) (length buffer / copy_stride)
          → (n ≡ 0 → ⊥) → (refused_with n, (buffer, l)) ≡ preserve_plan_on l buffer id shape held u
      says_refused n q h =
          let w = same_number n q in
          ap (λ (k : ℕ). (refused_with k, (buffer, l))) w ∙ plan_refused (λ z. h (w ∙ z))

      pub says_accepted : (n count : ℕ) (after : List ℕ)
          → n ≡ plan_refusal shape f u (length (lent_copies l.newest l.stamps shape since u)) (length buffer / copy_stride) → n ≡ 0
          → count ≡ length (lent_copies l.newest l.stamps shape since u)
          → after ≡ with_copies 0 (lent_copies l.newest l.stamps shape since u) buffer
          → (answer count, (after, l)) ≡ preserve_plan_on l buffer id shape held u
      says_accepted n count after q z c a =
          ap₂ (λ (k : ℕ) (x : List ℕ). (answer k, (x, l))) (c ∙ ap length same_copies)
          (a ∙ ap (λ (cs : List PreserveCopy). with_copies 0 cs buffer) same_copies)
          ∙ plan_accepted (sym (same_number n q) ∙ z)
