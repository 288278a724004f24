-- The rule by the number that refuses it: a number other than 0 is what the rule says, and 0 leaves the three cases. Assumes nothing.
use mathlib.Core.Path.{◌≡◌, refl, sym, ap, ◌∙◌, subst}
use mathlib.Core.Bool.{Bool, true, false, cond, not}
use mathlib.Core.Option.{Option, none, some}
use Prim.Native.Nat.{ℕ, suc}
use native.Mathlib.Omega.{arith}
use borrow.Author.Tests.{not-false}
use lib.Dec.{leb, ltb}
use lib.ListN.{length}
use Rattle.grid_shapes.specs.declared.shape.VersionShape.{VersionShape}
use Rattle.grid_shapes.specs.Shapes.{is_shape, same_shape, bytes_of}
use Rattle.pool_rules.specs.Model.{Spare, VersionState, PoolModel, Out, refused, accepted, guard, find, limit}
use Rattle.pool_rules.specs.HistorySizes.{stamps_used}
use Rattle.pool_rules.specs.Updates.{with_textures, with_trackings, change, insert, as_doomed, doom_spares}
use Rattle.pool_rules.specs.TakeSpare.{new_state, history_full, take_renewed, take_tracked, take_found, take_spare}
use Rattle.pool_rules.specs.Formed.{Formed}
use Rattle.pool_rules.specs.Closed.{OutFormed, formed}
use Rattle.pool_rules.proofs.Renames.{take_spare_formed}
use Rattle.pool_memory.proofs.Asked.{guard_passed}
use Rattle.pool_tracking.specs.Refusal.{tracking_refusal, begun_refusal, found_refusal, take_refusal}

-- ---- a refusal before others

module _ {A : Type 0} where
  -- the first that applies
  first_refused : (b : Bool) (k rest n : ℕ) (out : Out ℕ A) → (rest ≡ n → out ≡ refused n) → cond b k rest ≡ n → guard b k out ≡ refused n
  unfolding guard
  first_refused true k rest n out f e = ap (λ (m : ℕ). refused m) e
  first_refused false k rest n out f e = f e

-- what is known where none applies
passed_both : (b : Bool) (k rest : ℕ) → cond b (suc k) rest ≡ 0 → (b ≡ false) × (rest ≡ 0)
passed_both true k rest e = absurd (let y : ⊥ = omega (arith, e) in y)
passed_both false k rest e = (refl, e)

nothing_said : {A : Type 0} {out : Out ℕ A} (n : ℕ) → (n ≡ 0 → ⊥) → 0 ≡ n → out ≡ refused n
nothing_said n other e = absurd (other (sym e))

-- ---- the rule

module _ (p : PoolModel ℕ) (id : ℕ) (shape : VersionShape) (records : Bool) (seq : ℕ) where
  module _ (n : ℕ) (other : n ≡ 0 → ⊥) where
    begun_refused : (own : ℕ) (out : Out ℕ (Option (Spare ℕ))) → begun_refusal p shape records own ≡ n
        → guard (history_full p shape records own) 6 (guard (leb limit p.trackings) 12 out) ≡ refused n
    unfolding tracking_refusal
    begun_refused own out =
        first_refused (history_full p shape records own) 6 (cond (leb limit p.trackings) 12 0) n (guard (leb limit p.trackings) 12 out)
        (first_refused (leb limit p.trackings) 12 0 n out (nothing_said n other))

    found_refused : (o : Option (VersionState ℕ)) → found_refusal p shape records o ≡ n → take_found p id shape records seq o ≡ refused n
    found_refused none e =
        first_refused (leb p.places.textures (length p.textures)) 5 (begun_refusal p shape records 0) n
        (guard (history_full p shape records 0) 6 (guard (leb limit p.trackings) 12 (accepted none (with_trackings (suc p.trackings) (with_textures (insert (new_state id shape records (suc p.trackings) seq) p.textures) p)))))
        (begun_refused 0 _) e
    found_refused (some t) e = go (same_shape t.shape shape) e
      where
        go : (b : Bool) → cond b 0 (begun_refusal p shape records (stamps_used t)) ≡ n → cond b (take_tracked p id seq t) (take_renewed p id shape records seq t) ≡ refused n
        go true q = nothing_said n other q
        go false q = begun_refused (stamps_used t) _ q

    pub take_refused : take_refusal p id shape records seq ≡ n → take_spare p id shape records seq ≡ refused n
    unfolding take_refusal take_spare
    take_refused =
        let found = take_found p id shape records seq (find id p.textures) in
        first_refused (not (is_shape shape)) 2 (cond (ltb limit seq) 3 (found_refusal p shape records (find id p.textures))) n (guard (ltb limit seq) 3 found)
        (first_refused (ltb limit seq) 3 (found_refusal p shape records (find id p.textures)) n found (found_refused (find id p.textures)))

  -- nothing refused: the shape and the submission pass, and the rule goes by what is found
  module _ (e : take_refusal p id shape records seq ≡ 0) where
    passed_two : (not (is_shape shape) ≡ false) × (cond (ltb limit seq) 3 (found_refusal p shape records (find id p.textures)) ≡ 0)
    unfolding take_refusal
    passed_two = passed_both (not (is_shape shape)) 1 (cond (ltb limit seq) 3 (found_refusal p shape records (find id p.textures))) e

    passed_three : (ltb limit seq ≡ false) × (found_refusal p shape records (find id p.textures) ≡ 0)
    passed_three = passed_both (ltb limit seq) 2 (found_refusal p shape records (find id p.textures)) passed_two.1

    pub shape_passed : is_shape shape ≡ true
    shape_passed = not-false (is_shape shape) passed_two.0

    pub found_passed : found_refusal p shape records (find id p.textures) ≡ 0
    found_passed = passed_three.1

    pub take_found_lem : take_spare p id shape records seq ≡ take_found p id shape records seq (find id p.textures)
    unfolding take_spare
    take_found_lem =
        let found = take_found p id shape records seq (find id p.textures) in
        guard_passed (not (is_shape shape)) 2 (guard (ltb limit seq) 3 found) passed_two.0 ∙ guard_passed (ltb limit seq) 3 found passed_three.0

    -- tracked with the same shape
    pub take_tracked_lem : (t : VersionState ℕ) → find id p.textures ≡ some t → same_shape t.shape shape ≡ true
        → take_spare p id shape records seq ≡ take_tracked p id seq t
    take_tracked_lem t q same =
        take_found_lem ∙ ap (take_found p id shape records seq) q ∙ ap (λ (b : Bool). cond b (take_tracked p id seq t) (take_renewed p id shape records seq t)) same

    -- a tracking begun: neither stamps nor the count of trackings refuse it
    module _ (own : ℕ) (b : begun_refusal p shape records own ≡ 0) where
      begun_passed : (history_full p shape records own ≡ false) × (leb limit p.trackings ≡ false)
      unfolding tracking_refusal
      begun_passed =
          let both = passed_both (history_full p shape records own) 5 (cond (leb limit p.trackings) 12 0) b in
          (both.0, (passed_both (leb limit p.trackings) 11 0 both.1).0)

      begun_out : (out : Out ℕ (Option (Spare ℕ))) → guard (history_full p shape records own) 6 (guard (leb limit p.trackings) 12 out) ≡ out
      begun_out out =
          guard_passed (history_full p shape records own) 6 (guard (leb limit p.trackings) 12 out) begun_passed.0
          ∙ guard_passed (leb limit p.trackings) 12 out begun_passed.1

    -- not tracked
    module _ (q : find id p.textures ≡ none) where
      new_passed : (leb p.places.textures (length p.textures) ≡ false) × (begun_refusal p shape records 0 ≡ 0)
      new_passed =
          passed_both (leb p.places.textures (length p.textures)) 4 (begun_refusal p shape records 0) (ap (found_refusal p shape records) (sym q) ∙ found_passed)

      pub take_new_lem : take_spare p id shape records seq
          ≡ accepted none (with_trackings (suc p.trackings) (with_textures (insert (new_state id shape records (suc p.trackings) seq) p.textures) p))
      take_new_lem =
          let out = accepted none (with_trackings (suc p.trackings) (with_textures (insert (new_state id shape records (suc p.trackings) seq) p.textures) p)) in
          take_found_lem
          ∙ ap (take_found p id shape records seq) q
          ∙ guard_passed (leb p.places.textures (length p.textures)) 5 (guard (history_full p shape records 0) 6 (guard (leb limit p.trackings) 12 out)) new_passed.0
          ∙ begun_out 0 new_passed.1 out

    -- tracked with another shape
    module _ (t : VersionState ℕ) (q : find id p.textures ≡ some t) (other : same_shape t.shape shape ≡ false) where
      renewed_begun : begun_refusal p shape records (stamps_used t) ≡ 0
      renewed_begun =
          sym (ap (λ (b : Bool). cond b 0 (begun_refusal p shape records (stamps_used t))) other) ∙ ap (found_refusal p shape records) (sym q) ∙ found_passed

      abbrev pub renewed_pool : PoolModel ℕ
      renewed_pool =
          with_trackings (suc p.trackings)
          (with_textures (change id (λ (u : VersionState ℕ). new_state id shape records (suc p.trackings) seq) p.textures)
          (doom_spares (as_doomed (bytes_of t.shape) t.spares) p))

      pub take_renewed_lem : take_spare p id shape records seq ≡ accepted none renewed_pool
      take_renewed_lem =
          take_found_lem
          ∙ ap (take_found p id shape records seq) q
          ∙ ap (λ (b : Bool). cond b (take_tracked p id seq t) (take_renewed p id shape records seq t)) other
          ∙ begun_out (stamps_used t) renewed_begun (accepted none renewed_pool)

-- ---- the pool after it is formed

accepted_formed : {A : Type 0} {a : A} {p : PoolModel ℕ} → OutFormed (accepted a p) → Formed p
accepted_formed (formed f) = f

pub formed_then : (p q : PoolModel ℕ) (id : ℕ) (shape : VersionShape) (records : Bool) (seq : ℕ) (o : Option (Spare ℕ)) → Formed p
    → take_spare p id shape records seq ≡ accepted o q → Formed q
formed_then p q id shape records seq o f e = accepted_formed (subst OutFormed e (take_spare_formed p f id shape records seq))
