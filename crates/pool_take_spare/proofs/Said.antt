-- The number that the code says, test by test, and that it is the one that refuses the rule. Assumes nothing.
use mathlib.Core.Path.{◌≡◌, refl, sym, ap, ap₂, ◌∙◌}
use mathlib.Core.Bool.{Bool, true, false, cond, not, ◌&&◌, true≢false}
use mathlib.Core.List.{List}
use Prim.Native.Nat.{ℕ, ◌+◌, ◌-◌, ◌/◌, ◌≤◌, ◌<◌, ◌*◌}
use native.Mathlib.Omega.{arith}
use borrow.Author.Tests.{lt-ltb, le-ltb, le-leb, lt-leb, not-true, not-false}
use lib.Dec.{ltb, leb}
use lib.ListN.{length}
use Rattle.std.specs.Prelude.{Result, Ok, Err, IfOk}
use Rattle.grid_shapes.specs.declared.refusal.Refusal.{Refusal}
use Rattle.grid_shapes.specs.declared.refusal.Refusal.TheVariants.{BadShape, BadSubmission, TexturesFull}
use Rattle.grid_shapes.specs.declared.shape.VersionShape.{VersionShape}
use Rattle.grid_shapes.specs.Outcomes.{number_of, outcome_number}
use Rattle.grid_shapes.specs.Shapes.{is_shape, same_shape}
use Rattle.pool_rules.specs.Model.{PoolModel, find, limit}
use Rattle.pool_rules.specs.HistorySizes.{history_size}
use Rattle.pool_rules.specs.TakeSpare.{take_spare}
use Rattle.pool_records.specs.declared.texture.TextureRecord.{TextureRecord}
use Rattle.pool_records.specs.RecordConstants.{texture_stride}
use Rattle.pool_records.specs.Texture.{texture_in}
use Rattle.pool_records.specs.Starts.{stamp_end, stamps_held}
use Rattle.pool_records.specs.Find.{below, has_id}
use Rattle.pool_memory.specs.declared.pool.Pool.{Pool as Counts}
use Rattle.pool_memory.specs.Lent.{Lent}
use Rattle.pool_memory.specs.Reading.{tracked_records, model_of}
use Rattle.pool_memory.specs.IsPool.{is_pool}
use Rattle.pool_memory.specs.Calls.{refused_with, taken_of, take_spare_on}
use Rattle.pool_memory.proofs.Fits.{Fits}
use Rattle.pool_memory.proofs.FromPool.{pool_fits}
use Rattle.pool_memory.proofs.Runs.{tracked_model, stamps_used_model}
use Rattle.pool_memory.proofs.Stays.{textures_fit_lem, ids_ascend}
use Rattle.pool_memory.proofs.Places.{not_found}
use Rattle.pool_memory.proofs.Asked.{asked_refused}
use Rattle.pool_memory.proofs.Tracked.{shape_at, stamps_at}
use Rattle.pool_access.proofs.Ids as ids
use Rattle.pool_tracking.specs.Begun.{fresh_stamps}
use Rattle.pool_tracking.specs.Refusal.{tracking_refusal, begun_refusal, found_refusal, take_refusal, most_stamps}
use Rattle.pool_tracking.specs.Cases.{TrackedAt}
use Rattle.pool_tracking.proofs.Refusals.{take_refused}
use Rattle.pool_tracking.proofs.Tracked.{found_there, not_there}
use Rattle.pool_tracking.proofs.Ends.{stamps_most, stamp_begins, stamp_end_bound, stamps_held_lem}
use Rattle.pool_take_spare.specs.TakeRefusal.{Readable, refusal_at, IsRefusal}

-- ---- a tracking begun

module _ (lent own used trackings : ℕ) (shape : VersionShape) (records : Bool) (n : ℕ) (e : n ≡ fresh_stamps shape records) where
  -- stamps that are not recorded do not count
  full : (b : Bool) → records && ltb (lent + own) (used + n) ≡ b → records && ltb (lent + own) (used + history_size shape) ≡ b
  full b q = go records e ∙ q
    where
      go : (r : Bool) → n ≡ fresh_stamps shape r → r && ltb (lent + own) (used + history_size shape) ≡ r && ltb (lent + own) (used + n)
      go true y = ap (λ (k : ℕ). ltb (lent + own) (used + k)) (sym y)
      go false y = refl

  pub said_six : records && ltb (lent + own) (used + n) ≡ true → 6 ≡ tracking_refusal lent own used trackings shape records
  unfolding tracking_refusal
  said_six q = sym (ap (λ (b : Bool). cond b 6 (cond (leb limit trackings) 12 0)) (full true q))

  module _ (q : records && ltb (lent + own) (used + n) ≡ false) where
    rest : cond (leb limit trackings) 12 0 ≡ tracking_refusal lent own used trackings shape records
    unfolding tracking_refusal
    rest = sym (ap (λ (b : Bool). cond b 6 (cond (leb limit trackings) 12 0)) (full false q))

    pub said_twelve : limit ≤ trackings → 12 ≡ tracking_refusal lent own used trackings shape records
    said_twelve h = sym (ap (λ (b : Bool). cond b 12 0) (le-leb limit trackings h)) ∙ rest

    pub said_nothing : trackings < limit → 0 ≡ tracking_refusal lent own used trackings shape records
    said_nothing h = sym (ap (λ (b : Bool). cond b 12 0) (lt-leb limit trackings h)) ∙ rest

-- ---- the call, test by test

module _ (pool : Counts) (textures : List ℕ) (lent i id : ℕ) (shape : VersionShape) (records : Bool) (seq : ℕ) where
  abbrev said : ℕ
  said = refusal_at pool textures lent i id shape records seq

  abbrev begun : ℕ → ℕ
  begun own = tracking_refusal lent own pool.stamps pool.trackings shape records

  abbrev said_tracked : ℕ
  said_tracked = cond (same_shape (texture_in textures i).shape shape) 0 (begun (stamps_held textures pool.tracked pool.stamps i))

  abbrev said_untracked : ℕ
  said_untracked = cond (leb (length textures / texture_stride) pool.tracked) 5 (begun 0)

  by_tests : (a b c : Bool) → is_shape shape ≡ a → ltb limit seq ≡ b → has_id textures pool.tracked i id ≡ c
      → cond (not a) 2 (cond b 3 (cond c said_tracked said_untracked)) ≡ said
  unfolding refusal_at
  by_tests a b c e1 e2 e3 = λ j. cond (not (sym e1 j)) 2 (cond (sym e2 j) 3 (cond (sym e3 j) said_tracked said_untracked))

  abbrev Is : Result ℕ Refusal → Type 0
  Is r = IsRefusal pool textures lent i id shape records seq r

  refusing : (r : Refusal) → number_of r ≡ said → Is (Err r)
  refusing r e = record { outcome = e; fresh = tt }

  -- a texture tracked with the same shape takes no stamps
  beginning : (r : Result ℕ Refusal) → outcome_number r ≡ said → IfOk r (λ (n : ℕ). n ≡ fresh_stamps shape records) → Is r
  beginning (Ok n) e q = record { outcome = e; fresh = λ other. q }
  beginning (Err r) e q = record { outcome = e; fresh = tt }

  module _ (r : Bool) (is : r ≡ is_shape shape) where
    pub said_two : not r ≡ true → Is (Err BadShape)
    said_two q = refusing BadShape (by_tests false (ltb limit seq) (has_id textures pool.tracked i id) (sym is ∙ not-true r q) refl refl)

    module _ (shaped : not r ≡ false) where
      pub said_three : limit < seq → Is (Err BadSubmission)
      said_three h = refusing BadSubmission (by_tests true true (has_id textures pool.tracked i id) (sym is ∙ not-false r shaped) (lt-ltb limit seq h) refl)

      module _ (early : seq ≤ limit) (b : Bool) (has : b ≡ has_id textures pool.tracked i id) where
        by_found : (c : Bool) → b ≡ c → cond c said_tracked said_untracked ≡ said
        by_found c e = by_tests true false c (sym is ∙ not-false r shaped) (le-ltb limit seq early) (sym has ∙ e)

        pub said_five : not b ≡ true → length textures / texture_stride ≤ pool.tracked → Is (Err TexturesFull)
        said_five out h =
            refusing TexturesFull (sym (ap (λ (c : Bool). cond c 5 (begun 0)) (le-leb (length textures / texture_stride) pool.tracked h)) ∙ by_found false (not-true b out))

        pub said_new : not b ≡ true → pool.tracked < length textures / texture_stride → (x : Result ℕ Refusal) → outcome_number x ≡ begun 0
            → IfOk x (λ (k : ℕ). k ≡ fresh_stamps shape records) → Is x
        said_new out h x e n =
            beginning x
            (e ∙ sym (ap (λ (c : Bool). cond c 5 (begun 0)) (lt-leb (length textures / texture_stride) pool.tracked h)) ∙ by_found false (not-true b out)) n

        module _ (into : not b ≡ false) (t : TextureRecord) (is-record : t ≡ texture_in textures i) (q : Bool) (e : q ≡ same_shape t.shape shape) where
          same_is : q ≡ same_shape (texture_in textures i).shape shape
          same_is = e ∙ ap (λ (u : TextureRecord). same_shape u.shape shape) is-record

          by_shape : (c : Bool) → q ≡ c → cond c 0 (begun (stamps_held textures pool.tracked pool.stamps i)) ≡ said
          by_shape c y = sym (ap (λ (d : Bool). cond d 0 (begun (stamps_held textures pool.tracked pool.stamps i))) (sym same_is ∙ y)) ∙ by_found true (not-false b into)

          pub said_same : q ≡ true → Is (Ok 0)
          said_same y = record {
            outcome = by_shape true y;
            fresh = λ other. absurd (true≢false (sym y ∙ same_is ∙ other (sym has ∙ not-false b into)));
          }

          pub said_other : q ≡ false → (end : ℕ) → end ≡ stamp_end textures pool.tracked pool.stamps i → (x : Result ℕ Refusal)
              → outcome_number x ≡ begun (end - t.stamp) → IfOk x (λ (k : ℕ). k ≡ fresh_stamps shape records) → Is x
          said_other y end ends x en n =
              beginning x (en ∙ ap₂ (λ (k : ℕ) (u : TextureRecord). begun (k - u.stamp)) ends is-record ∙ by_shape false y) n

-- of a texture that is tracked: its place, its record, and its own stamps
module _ (pool : Counts) (textures : List ℕ) (lent i id : ℕ) (k : Readable pool textures lent) (b : Bool) (has : b ≡ has_id textures pool.tracked i id)
    (into : not b ≡ false) where
  pub is_place : i < pool.tracked
  is_place = (ids.found textures pool.tracked i id (sym has ∙ not-false b into)).0

  pub tracked_fits : texture_stride * i + texture_stride ≤ length textures
  tracked_fits = omega (arith, k.there, is_place)

  module _ (t : TextureRecord) (is-record : t ≡ texture_in textures i) (end : ℕ) (ends : end ≡ stamp_end textures pool.tracked pool.stamps i) where
    pub own_begins : t.stamp ≤ end
    own_begins = omega (arith, k.begins i is_place, ends, ap (λ (u : TextureRecord). u.stamp) is-record)

    pub own_few : end - t.stamp ≤ most_stamps
    own_few = omega (arith, k.ends i is_place, ends, k.used)

-- ---- the rule

pub readable : (l : Lent) → is_pool l ≡ true → Readable l.pool l.textures (length l.stamps)
readable l pool =
    let f = pool_fits l pool in
    record {
      there = textures_fit_lem l f;
      ids = ids_ascend l f;
      begins = λ i h. stamp_begins l f i h;
      ends = λ i h. stamp_end_bound l f i h;
      most = stamps_most l f;
      used = omega (arith, f.stamps_counted, stamps_most l f);
    }

module _ (l : Lent) (i id : ℕ) (shape : VersionShape) (records : Bool) (seq : ℕ) (pool : is_pool l ≡ true) (at : i ≡ below id (tracked_records l)) where
  abbrev f : Fits l
  f = pool_fits l pool

  abbrev lent : ℕ
  lent = length l.stamps

  begun_said : (own : ℕ) → tracking_refusal lent own l.pool.stamps l.pool.trackings shape records ≡ begun_refusal (model_of l) shape records own
  unfolding model_of
  begun_said own =
      ap₂ (λ (m n : ℕ). tracking_refusal m own n l.pool.trackings shape records) (sym f.stamps) (sym (stamps_used_model l ∙ f.stamps_claimed))

  pub none_at : has_id l.textures l.pool.tracked i id ≡ false → TrackedAt l i id → ⊥
  none_at e w = ids.not_found l.textures l.pool.tracked i id (ids_ascend l f) at e i w.0 w.1

  found_said : (b : Bool) → has_id l.textures l.pool.tracked i id ≡ b
      → cond b (said_tracked l.pool l.textures lent i id shape records seq) (said_untracked l.pool l.textures lent i id shape records seq)
      ≡ found_refusal (model_of l) shape records (find id (model_of l).textures)
  unfolding model_of
  found_said true e =
      let h = ids.found l.textures l.pool.tracked i id e in
      ap₂ (λ (s : VersionShape) (n : ℕ). cond (same_shape s shape) 0 n) (sym (shape_at l i h.0))
      (begun_said (stamps_held l.textures l.pool.tracked l.pool.stamps i)
      ∙ ap (begun_refusal (model_of l) shape records) (stamps_held_lem l f i h.0 ∙ sym (stamps_at l i h.0)))
      ∙ ap (found_refusal (model_of l) shape records) (sym (found_there l f i h.0 id at h.1))
  found_said false e =
      ap₂ (λ (n k : ℕ). cond (leb (length l.textures / texture_stride) n) 5 k) (sym (tracked_model l)) (begun_said 0)
      ∙ ap (found_refusal (model_of l) shape records) (sym (not_found l id (ids_ascend l f) (not_there l f i id at (none_at e))))

  -- what is read off the slice is what the rule goes by
  pub refusal_read : refusal_at l.pool l.textures lent i id shape records seq ≡ take_refusal (model_of l) id shape records seq
  unfolding refusal_at take_refusal
  refusal_read = ap (λ (n : ℕ). cond (not (is_shape shape)) 2 (cond (ltb limit seq) 3 n)) (found_said (has_id l.textures l.pool.tracked i id) refl)

  -- a refusal is what the call says, and nothing changes
  pub refused_call : (n : ℕ) → n ≡ refusal_at l.pool l.textures lent i id shape records seq → (n ≡ 0 → ⊥)
      → (refused_with n, l) ≡ take_spare_on l id shape records seq
  unfolding take_spare_on
  refused_call n e other =
      sym (asked_refused taken_of l (λ (p : PoolModel ℕ). take_spare p id shape records seq) pool n (take_refused (model_of l) id shape records seq n other (sym (e ∙ refusal_read))))
