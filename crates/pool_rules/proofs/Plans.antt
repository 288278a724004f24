-- What a plan copies: every texel whose tile is stamped above the held writes, unless its level is covered; all where nothing is known.
use Prim.Native.Nat.{ℕ, zero, suc, ◌+◌, ◌≤◌, ◌<◌}
use mathlib.Core.Path.{◌≡◌, refl, sym}
use mathlib.Core.Bool.{true, false, cond, ◌&&◌}
use mathlib.Core.Option.{Option, none, some}
use mathlib.Core.List.{List, [], flat_map}
use native.Mathlib.Omega.{arith}
use native.Mathlib.Nat.{add-zero, zero-add, add-suc, suc-add, le_of_suc-le-suc, not-suc-le-zero}
use native.Mathlib.Decide.{dec_le}
use lib.Dec.{eqb}
use borrow.Author.Tests.{eqb-true, le-leb}
use Rattle.base_blocks.specs.Lists.{listed}
use Rattle.base_blocks.specs.All.{All, nil, cons}
use Rattle.base_blocks.proofs.Lists.{either, and_both}
use Rattle.base_blocks.proofs.All.{all_head, all_both, all_left, all_right, all_mono}
use Rattle.grid_shapes.specs.declared.shape.VersionShape.{VersionShape}
use Rattle.grid_shapes.specs.Shapes.{slices_of, level_width, level_height}
use Rattle.grid_rects.specs.declared.rect.Region.{Region}
use Rattle.grid_rects.specs.declared.rect.Region.TheVariants.{Whole, Part}
use Rattle.grid_rects.specs.Rects.{whole_level}
use Rattle.grid_rects.specs.declared.rect.TexelRect.{TexelRect}
use Rattle.std.specs.Prelude.{Option as Answer, Some, None}
use Rattle.grid_stamps.specs.Grids.{tiling_of, box_since}
use Rattle.grid_stamps.proofs.Tilings.{tiling_ok}
use Rattle.grid_stamps.proofs.Stamps.{InRect}
use Rattle.grid_stamps.proofs.Boxes.{InDirty, box_since_lem}
use Rattle.pool_rules.specs.declared.held.Held.{Held}
use Rattle.pool_rules.specs.declared.held.Held.TheVariants.{Known, Unknown}
use Rattle.pool_rules.specs.Model.{WriteHistory, PreserveCopy, UploadFootprint}
use Rattle.pool_rules.specs.Formed.{Given}
use Rattle.pool_rules.specs.Histories.{grid_at}
use Rattle.pool_rules.specs.PreservePlan.{same_rect, box_copy, copy_of, covers, copies}
use Rattle.pool_rules.proofs.Histories.{HistoryOk, stamp_in, in_level}

-- a texel of what a copy brings over
abbrev pub InRegion : Region → ℕ → ℕ → Type 0
InRegion Whole x y = Unit {0}
InRegion (Part r) x y = InRect r x y

pub record InCopy (slice level x y : ℕ) (c : PreserveCopy) : Type 0 where
  pub on : c.slice ≡ slice
  pub at : c.level ≡ level
  pub within : InRegion c.region x y

-- the copies that leave a texel out
abbrev pub Missed : ℕ → ℕ → ℕ → ℕ → List PreserveCopy → Type 0
Missed slice level x y cs = All (λ (c : PreserveCopy). InCopy slice level x y c → ⊥) cs

-- a texel that needs no copy: its tile is known not to be stamped above the held writes
abbrev pub Uncopied : VersionShape → Option WriteHistory → Held → ℕ → ℕ → ℕ → ℕ → Type 0
Uncopied s none held slice level x y = ⊥
Uncopied s (some h) Unknown slice level x y = ⊥
Uncopied s (some h) (Known n) slice level x y = stamp_in s h slice level x y ≤ n

-- ---- what a plan leaves alone

each_listed : {B : Type 0} (P : B → Type 0) (f : ℕ → List B) (i n : ℕ) → All P (flat_map f (listed (λ (k : ℕ). k) i n)) → (j : ℕ) → j < n → All P (f (i + j))
unfolding flat_map listed
each_listed P f i zero all j h = absurd (not-suc-le-zero h)
each_listed P f i (suc n) all zero h = rw (add-zero i) (all_left (f i) (flat_map f (listed (λ (k : ℕ). k) (suc i) n)) all)
each_listed P f i (suc n) all (suc j) h = rw (add-suc i j, ← suc-add i j) (each_listed P f (suc i) n (all_right (f i) all) j (le_of_suc-le-suc h))

-- the part of the plan that is a subresource's own
own_part : (P : PreserveCopy → Type 0) (s : VersionShape) (h : Option WriteHistory) (held : Held) (u : UploadFootprint) (slice level : ℕ)
    → slice < slices_of s → level < s.levels → covers u slice level ≡ false → All P (copies s h held u) → All P (copy_of s h held slice level)
unfolding copies
own_part P s h held u slice level p q nc all =
    let part : ℕ → ℕ → List PreserveCopy = λ a b. cond (covers u a b) [] (copy_of s h held a b) in
    let one = each_listed P (λ a. flat_map (λ b. part a b) (listed (λ (k : ℕ). k) 0 s.levels)) 0 (slices_of s) all slice p in
    let two = each_listed P (λ b. part (0 + slice) b) 0 s.levels one level q in
    rw (zero-add slice, zero-add level, nc) at two

missed_box : (s : VersionShape) (slice level x y : ℕ) (d : Answer TexelRect) → InDirty d x y → Missed slice level x y (box_copy s slice level d) → ⊥
unfolding box_copy
missed_box s slice level x y None i all = i
missed_box s slice level x y (Some r) i all =
    all_head all
    (record {
      on = refl;
      at = refl;
      within = either (λ z. InRegion z x y) (same_rect r (whole_level (level_width s level) (level_height s level))) Whole (Part r) (λ e. tt) (λ e. i);
    })

-- a texel that the plan leaves out, of a level that is not covered, needs no copy
pub missed_uncopied : (s : VersionShape) (h : Option WriteHistory) (held : Held) (u : UploadFootprint) (slice level x y : ℕ)
    → slice < slices_of s → level < s.levels → x < level_width s level → y < level_height s level → Given (HistoryOk s) h
    → covers u slice level ≡ false → Missed slice level x y (copies s h held u) → Uncopied s h held slice level x y
unfolding copy_of stamp_in
missed_uncopied s h held u slice level x y p q i j ok nc all = go h held ok (own_part (λ c. InCopy slice level x y c → ⊥) s h held u slice level p q nc all)
  where
    go : (h : Option WriteHistory) (held : Held) → Given (HistoryOk s) h → Missed slice level x y (copy_of s h held slice level) → Uncopied s h held slice level x y
    go none held k m = all_head m (record { on = refl; at = refl; within = tt })
    go (some h) Unknown k m = all_head m (record { on = refl; at = refl; within = tt })
    go (some h) (Known n) k m = test (dec_le (stamp_in s h slice level x y) n)
      where
        test : Dec (stamp_in s h slice level x y ≤ n) → stamp_in s h slice level x y ≤ n
        test (yes le) = le
        test (no gt) =
            absurd (missed_box s slice level x y (box_since (tiling_of s level) n (grid_at s h slice level))
            (box_since_lem (tiling_of s level) (tiling_ok s k.shape level) (grid_at s h slice level) n x y (in_level s level x y i j)
            ((k.grids slice level p q).below x y (in_level s level x y i j)) (omega arith))
            m)

-- ---- nothing else is left out, and nothing of what is covered is copied

-- only what the upload names with full cover is covered
pub covers_named : (u : UploadFootprint) (slice level : ℕ) → covers u slice level ≡ true → (u.cover ≡ true) × ((u.slice ≡ slice) × (u.level ≡ level))
covers_named u slice level e =
    let a = and_both u.cover (eqb slice u.slice && eqb level u.level) e in
    let b = and_both (eqb slice u.slice) (eqb level u.level) a.1 in
    (a.0, (sym (eqb-true _ _ b.0), sym (eqb-true _ _ b.1)))

all_listed : {B : Type 0} (P : B → Type 0) (f : ℕ → List B) (i n : ℕ) → ((k : ℕ) → All P (f k)) → All P (flat_map f (listed (λ (k : ℕ). k) i n))
unfolding flat_map listed
all_listed P f i zero each = nil
all_listed P f i (suc n) each = all_both (each i) (all_listed P f (suc i) n each)

-- a subresource's copies are copies of it
copy_place : (s : VersionShape) (h : Option WriteHistory) (held : Held) (slice level : ℕ)
    → All (λ (c : PreserveCopy). (c.slice ≡ slice) × (c.level ≡ level)) (copy_of s h held slice level)
unfolding copy_of box_copy
copy_place s none held slice level = cons (refl, refl) nil
copy_place s (some h) Unknown slice level = cons (refl, refl) nil
copy_place s (some h) (Known n) slice level = go (box_since (tiling_of s level) n (grid_at s h slice level))
  where
    go : (d : Answer TexelRect) → All (λ (c : PreserveCopy). (c.slice ≡ slice) × (c.level ≡ level)) (box_copy s slice level d)
    go None = nil
    go (Some r) = cons (refl, refl) nil

pub none_covered : (s : VersionShape) (h : Option WriteHistory) (held : Held) (u : UploadFootprint)
    → All (λ (c : PreserveCopy). covers u c.slice c.level ≡ false) (copies s h held u)
unfolding copies
none_covered s h held u =
    all_listed _ _ 0 (slices_of s)
    (λ a. all_listed _ _ 0 s.levels
    (λ b. either (All (λ (c : PreserveCopy). covers u c.slice c.level ≡ false)) (covers u a b) [] (copy_of s h held a b) (λ e. nil)
    (λ e. all_mono (λ c k. rw (k.0, k.1) e) (copy_place s h held a b))))

-- a subresource with no stamp above the held writes is not copied
pub clean_uncopied : (s : VersionShape) (h : WriteHistory) (n slice level : ℕ) → (grid_at s h slice level).newest ≤ n → copy_of s (some h) (Known n) slice level ≡ []
unfolding copy_of box_copy box_since
clean_uncopied s h n slice level le = rw (le-leb (grid_at s h slice level).newest n le)
