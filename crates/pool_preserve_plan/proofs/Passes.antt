-- Laws of the two passes over a plan: those that are left, and copies written one after the other. Assumes nothing.
use mathlib.Core.Path.{◌≡◌, refl, sym, ap, ap₂, ◌∙◌}
use mathlib.Core.List.{List, [], ◌∷◌, ◌++◌, append-nil, flat_map}
use Prim.Native.Nat.{ℕ, ◌+◌, ◌*◌, ◌≤◌, ◌<◌}
use native.Mathlib.Nat.{zero-add}
use native.Mathlib.Omega.{arith}
use lib.ListN.{length, drop, length-append}
use lib.Seq.{sets, sets-eq}
use Rattle.base_blocks.specs.Lists.{over}
use Rattle.base_blocks.proofs.Listed.{left, left_all, left_step, left_none}
use Rattle.base_tables.specs.Records.{flat}
use Rattle.base_tables.proofs.Records.{flat_append}
use Rattle.std.specs.Prelude.{Option, Some, None}
use Rattle.grid_shapes.specs.declared.shape.VersionShape.{VersionShape}
use Rattle.grid_rects.specs.declared.rect.Region.{Region}
use Rattle.grid_rects.specs.declared.rect.Region.TheVariants.{Whole, Part}
use Rattle.pool_rules.specs.Model.{PreserveCopy, UploadFootprint, grid_count}
use Rattle.pool_memory.specs.Calls.{copy_numbers}
use Rattle.pool_memory.proofs.Rewritten.{sets_append}
use Rattle.pool_preserve_plan.specs.declared.since.After.{After}
use Rattle.pool_preserve_plan.specs.Copies.{planned_at, copy_list, in_order, copies_at, lent_copies, with_copies}
use Rattle.pool_preserve_plan.proofs.Planned.{IsPlace, slice_of, level_of}
use Rattle.pool_memory.specs.MemoryConstants.{copy_stride}

-- ---- of n, those from i on

unfoldable pub rest : (ℕ → List PreserveCopy) → ℕ → ℕ → List PreserveCopy
rest f n i = flat_map f (left (λ (k : ℕ). k) n i)

module _ (f : ℕ → List PreserveCopy) (n : ℕ) where
  pub rest_all : rest f n 0 ≡ in_order f n
  unfolding rest in_order
  rest_all = ap (flat_map f) (left_all (λ (k : ℕ). k) n)

  pub rest_step : (i : ℕ) → i < n → rest f n i ≡ f i ++ rest f n (i + 1)
  unfolding rest flat_map
  rest_step i h = ap (flat_map f) (left_step (λ (k : ℕ). k) n i h)

  pub rest_none : (i : ℕ) → n ≤ i → rest f n i ≡ []
  unfolding rest flat_map
  rest_none i h = ap (flat_map f) (left_none (λ (k : ℕ). k) n i h)

  -- `count` of t are done, and the rest is to come
  pub count_more : (i count t : ℕ) → i < n → count + length (rest f n i) ≡ t → count + length (f i) + length (rest f n (i + 1)) ≡ t
  count_more i count t h inv = omega (arith, inv, ap length (rest_step i h), length-append (f i) (rest f n (i + 1)))

  pub count_done : (i count t : ℕ) → n ≤ i → count + length (rest f n i) ≡ t → count ≡ t
  count_done i count t h inv = omega (arith, inv, ap length (rest_none i h))

  -- the next copies have room where all have
  pub next_room : (i count t room : ℕ) → i < n → count + length (rest f n i) ≡ t → copy_stride * t ≤ room → copy_stride * (count + length (f i)) ≤ room
  next_room i count t room h inv fits = omega (arith, count_more i count t h inv)

-- all of a plan
pub lent_all : (newest stamps : List ℕ) (s : VersionShape) (since : Option After) (u : UploadFootprint) (all : ℕ) → all ≡ grid_count s
    → rest (copies_at newest stamps s since u) all 0 ≡ lent_copies newest stamps s since u
unfolding lent_copies
lent_all newest stamps s since u all e = rest_all (copies_at newest stamps s since u) all ∙ ap (in_order (copies_at newest stamps s since u)) e

-- ---- one subresource

-- how many copies does not depend on where
pub list_length : (p : Option Region) (a b c d : ℕ) → length (copy_list p a b) ≡ length (copy_list p c d)
unfolding copy_list
list_length None a b c d = refl
list_length (Some region) a b c d = refl

pub list_most : (p : Option Region) (a b : ℕ) → length (copy_list p a b) ≤ 1
unfolding copy_list
list_most None a b = omega arith
list_most (Some region) a b = omega arith

pub list_none : (p : Option Region) (a b : ℕ) → p ≡ None → copy_list p a b ≡ []
unfolding copy_list
list_none p a b e = ap (λ (x : Option Region). copy_list x a b) e

pub list_one : (p : Option Region) (region : Region) (a b : ℕ) → p ≡ Some region → copy_list p a b ≡ record { slice = a; level = b; region = region } ∷ []
unfolding copy_list
list_one p region a b e = ap (λ (x : Option Region). copy_list x a b) e

-- what the code has planned at place k are the k-th subresource's copies
pub list_at : (newest stamps : List ℕ) (s : VersionShape) (since : Option After) (u : UploadFootprint) (k slice level : ℕ) (p : Option Region)
    → IsPlace s.levels k slice level → p ≡ planned_at newest stamps s since u slice level → copy_list p slice level ≡ copies_at newest stamps s since u k
unfolding copies_at
list_at newest stamps s since u k slice level p at f =
    ap (λ (x : Option Region). copy_list x slice level) f
    ∙ ap₂ (λ (a b : ℕ). copy_list (planned_at newest stamps s since u a b) a b) (slice_of s.levels k slice level at) (level_of s.levels k slice level at)

-- ---- copies written

pub copy_long : (c : PreserveCopy) → length (copy_numbers c) ≡ copy_stride
unfolding copy_numbers
copy_long c = go c.region
  where
    go : (r : Region) → length (copy_numbers (record { slice = c.slice; level = c.level; region = r })) ≡ copy_stride
    go Whole = refl
    go (Part r) = refl

pub length_copies : (cs : List PreserveCopy) → length (flat copy_numbers cs) ≡ copy_stride * length cs
unfolding flat
length_copies [] = refl
length_copies (c ∷ cs) = length-append (copy_numbers c) (flat copy_numbers cs) ∙ omega (arith, copy_long c, length_copies cs)

pub with_none : (at : ℕ) (b : List ℕ) → with_copies at [] b ≡ b
unfolding with_copies flat
with_none at b = refl

pub with_one_lem : (at : ℕ) (c : PreserveCopy) (b : List ℕ) → with_copies at (c ∷ []) b ≡ sets b (copy_stride * at) (copy_numbers c)
unfolding with_copies flat
with_one_lem at c b = ap (sets b (copy_stride * at)) (append-nil (copy_numbers c))

pub with_append : (xs ys : List PreserveCopy) (at : ℕ) (b : List ℕ) → with_copies at (xs ++ ys) b ≡ with_copies (at + length xs) ys (with_copies at xs b)
unfolding with_copies
with_append xs ys at b =
    ap (sets b (copy_stride * at)) (flat_append copy_numbers xs ys)
    ∙ sets_append b (copy_stride * at) (flat copy_numbers xs) (flat copy_numbers ys)
    ∙ ap (λ (k : ℕ). sets (sets b (copy_stride * at) (flat copy_numbers xs)) k (flat copy_numbers ys))
    (let e : copy_stride * at + length (flat copy_numbers xs) ≡ copy_stride * (at + length xs) = omega (arith, length_copies xs) in e)

-- from the front of the buffer on
pub with_front : (cs : List PreserveCopy) (b : List ℕ) → copy_stride * length cs ≤ length b → with_copies 0 cs b ≡ over (flat copy_numbers cs) b
unfolding with_copies over
with_front cs b h =
    sets-eq (flat copy_numbers cs) b 0 (omega (arith, length_copies cs))
    ∙ ap (λ (k : ℕ). flat copy_numbers cs ++ drop k b) (zero-add (length (flat copy_numbers cs)))

-- the rest is to be written after those that are
module _ (f : ℕ → List PreserveCopy) (n : ℕ) where
  pub put_more : (i count : ℕ) (b goal : List ℕ) → i < n → with_copies count (rest f n i) b ≡ goal
      → with_copies (count + length (f i)) (rest f n (i + 1)) (with_copies count (f i) b) ≡ goal
  put_more i count b goal h inv =
      sym (with_append (f i) (rest f n (i + 1)) count b) ∙ ap (λ (cs : List PreserveCopy). with_copies count cs b) (sym (rest_step f n i h)) ∙ inv

  pub put_done : (i count : ℕ) (b goal : List ℕ) → n ≤ i → with_copies count (rest f n i) b ≡ goal → b ≡ goal
  put_done i count b goal h inv =
      sym (ap (λ (cs : List PreserveCopy). with_copies count cs b) (rest_none f n i h) ∙ with_none count b) ∙ inv
