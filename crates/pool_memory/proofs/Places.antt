-- A texture by its id: found, changed, put in and taken out at the place that the search by halves answers. Assumes nothing.
use mathlib.Core.Path.{◌≡◌, refl, sym, ap, ap₂, ◌∙◌}
use mathlib.Core.Bool.{Bool, true, false, cond, not}
use mathlib.Core.Option.{none, some}
use mathlib.Core.List.{List, [], ◌∷◌, ◌++◌, flat_map, append-nil}
use Prim.Native.Nat.{ℕ, zero, suc, ◌+◌, ◌≤◌, ◌<◌}
use native.Mathlib.Decide.{dec_lt}
use native.Mathlib.Omega.{arith}
use borrow.Author.Tests.{lt-ltb, le-ltb, eq-eqb, ne_eqb}
use lib.Dec.{eqb}
use lib.ListN.{length, take, drop, get_or, set}
use Rattle.base_blocks.specs.Lists.{keep, removed, inserted, ascending}
use Rattle.pool_rules.specs.Model.{VersionState, find}
use Rattle.pool_rules.specs.Updates.{change, insert}
use Rattle.pool_records.specs.Texture.{read_texture}
use Rattle.pool_records.specs.Find.{id_of, below}
use Rattle.pool_records.proofs.Places.{below_length, below_before, below_at, below_found}
use Rattle.pool_memory.specs.Lent.{Lent}
use Rattle.pool_memory.specs.Reading.{tracked_records, model_of}
use Rattle.pool_memory.proofs.Runs.{state_of, tracked_records_lem, tracked_model, model_at, id_model}

-- ---- any states

abbrev pub without_id : ℕ → List (VersionState ℕ) → List (VersionState ℕ)
without_id id xs = keep (λ (t : VersionState ℕ). not (eqb t.id id)) xs

-- what the one with that id gives, and nothing of the others
abbrev pub of_id {ℓ} : {A : Type ℓ} → ℕ → (VersionState ℕ → List A) → List (VersionState ℕ) → List A
of_id id g xs = flat_map (λ (t : VersionState ℕ). cond (eqb t.id id) (g t) []) xs

module _ (id : ℕ) (d : VersionState ℕ) where
  -- none has that id
  abbrev pub Nowhere : List (VersionState ℕ) → Type 0
  Nowhere xs = (j : ℕ) → j < length xs → (get_or xs j d).id ≡ id → ⊥

  -- the one at i has it, and no other
  abbrev pub Only : ℕ → List (VersionState ℕ) → Type 0
  Only i xs = (i < length xs) × (((get_or xs i d).id ≡ id) × ((j : ℕ) → j < length xs → (j ≡ i → ⊥) → (get_or xs j d).id ≡ id → ⊥))

  nowhere_tail : (x : VersionState ℕ) (xs : List (VersionState ℕ)) → Nowhere (x ∷ xs) → Nowhere xs
  nowhere_tail x xs h j q = h (suc j) (omega arith)

  only_tail : (i : ℕ) (x : VersionState ℕ) (xs : List (VersionState ℕ)) → Only (suc i) (x ∷ xs) → Only i xs
  only_tail i x xs (a, (e, h)) = (omega arith, (e, λ j q ne. h (suc j) (omega arith) (λ f. ne (omega arith))))

  only_rest : (x : VersionState ℕ) (xs : List (VersionState ℕ)) → Only 0 (x ∷ xs) → Nowhere xs
  only_rest x xs (a, (e, h)) j q = h (suc j) (omega arith) (λ f. let y : ⊥ = omega arith in y)

  -- the test on the first of them
  nowhere_head : (x : VersionState ℕ) (xs : List (VersionState ℕ)) → Nowhere (x ∷ xs) → eqb x.id id ≡ false
  nowhere_head x xs h = ne_eqb x.id id (h 0 (omega arith))

  only_head : (x : VersionState ℕ) (xs : List (VersionState ℕ)) → Only 0 (x ∷ xs) → eqb x.id id ≡ true
  only_head x xs h = eq-eqb x.id id h.1.0

  only_other : (i : ℕ) (x : VersionState ℕ) (xs : List (VersionState ℕ)) → Only (suc i) (x ∷ xs) → eqb x.id id ≡ false
  only_other i x xs h = ne_eqb x.id id (h.1.1 0 (omega arith) (λ f. let y : ⊥ = omega arith in y))

  pub find_nowhere : (xs : List (VersionState ℕ)) → Nowhere xs → find id xs ≡ none
  unfolding find
  find_nowhere [] h = refl
  find_nowhere (x ∷ xs) h = rw (nowhere_head x xs h) (find_nowhere xs (nowhere_tail x xs h))

  pub find_at : (xs : List (VersionState ℕ)) (i : ℕ) → Only i xs → find id xs ≡ some (get_or xs i d)
  unfolding find
  find_at [] i h = absurd (let y : ⊥ = omega (arith, h.0) in y)
  find_at (x ∷ xs) zero h = rw (only_head x xs h) refl
  find_at (x ∷ xs) (suc i) h = rw (only_other i x xs h) (find_at xs i (only_tail i x xs h))

  module _ (f : VersionState ℕ → VersionState ℕ) where
    pub change_nowhere : (xs : List (VersionState ℕ)) → Nowhere xs → change id f xs ≡ xs
    unfolding change
    change_nowhere [] h = refl
    change_nowhere (x ∷ xs) h =
        ap₂ (λ (b : Bool) (ys : List (VersionState ℕ)). cond b (f x) x ∷ ys) (nowhere_head x xs h) (change_nowhere xs (nowhere_tail x xs h))

    pub change_at : (xs : List (VersionState ℕ)) (i : ℕ) → Only i xs → change id f xs ≡ set xs i (f (get_or xs i d))
    unfolding change
    change_at [] i h = refl
    change_at (x ∷ xs) zero h =
        ap₂ (λ (b : Bool) (ys : List (VersionState ℕ)). cond b (f x) x ∷ ys) (only_head x xs h) (change_nowhere xs (only_rest x xs h))
    change_at (x ∷ xs) (suc i) h =
        ap₂ (λ (b : Bool) (ys : List (VersionState ℕ)). cond b (f x) x ∷ ys) (only_other i x xs h) (change_at xs i (only_tail i x xs h))

  pub keep_nowhere : (xs : List (VersionState ℕ)) → Nowhere xs → without_id id xs ≡ xs
  unfolding keep
  keep_nowhere [] h = refl
  keep_nowhere (x ∷ xs) h =
      ap₂ (λ (b : Bool) (ys : List (VersionState ℕ)). cond (not b) (x ∷ ys) ys) (nowhere_head x xs h) (keep_nowhere xs (nowhere_tail x xs h))

  pub keep_at : (xs : List (VersionState ℕ)) (i : ℕ) → Only i xs → without_id id xs ≡ removed i 1 xs
  unfolding keep removed
  keep_at [] i h = absurd (let y : ⊥ = omega (arith, h.0) in y)
  keep_at (x ∷ xs) zero h =
      ap₂ (λ (b : Bool) (ys : List (VersionState ℕ)). cond (not b) (x ∷ ys) ys) (only_head x xs h) (keep_nowhere xs (only_rest x xs h))
  keep_at (x ∷ xs) (suc i) h =
      ap₂ (λ (b : Bool) (ys : List (VersionState ℕ)). cond (not b) (x ∷ ys) ys) (only_other i x xs h) (keep_at xs i (only_tail i x xs h))
      ∙ ap (λ (k : ℕ). x ∷ (take i xs ++ drop k (x ∷ xs))) (suc_add_one i)
    where
      suc_add_one : (i : ℕ) → suc (i + 1) ≡ suc i + 1
      suc_add_one i = omega arith

  module _ {ℓ} {A : Type ℓ} (g : VersionState ℕ → List A) where
    pub of_nowhere : (xs : List (VersionState ℕ)) → Nowhere xs → of_id id g xs ≡ []
    unfolding flat_map
    of_nowhere [] h = refl
    of_nowhere (x ∷ xs) h = ap₂ (λ (b : Bool) (ys : List A). cond b (g x) [] ++ ys) (nowhere_head x xs h) (of_nowhere xs (nowhere_tail x xs h))

    pub of_at : (xs : List (VersionState ℕ)) (i : ℕ) → Only i xs → of_id id g xs ≡ g (get_or xs i d)
    unfolding flat_map
    of_at [] i h = absurd (let y : ⊥ = omega (arith, h.0) in y)
    of_at (x ∷ xs) zero h =
        ap₂ (λ (b : Bool) (ys : List A). cond b (g x) [] ++ ys) (only_head x xs h) (of_nowhere xs (only_rest x xs h)) ∙ append-nil (g x)
    of_at (x ∷ xs) (suc i) h = ap₂ (λ (b : Bool) (ys : List A). cond b (g x) [] ++ ys) (only_other i x xs h) (of_at xs i (only_tail i x xs h))

-- a state put in before the first of a higher id
pub insert_at : (t d : VersionState ℕ) (xs : List (VersionState ℕ)) (i : ℕ) → i ≤ length xs → ((j : ℕ) → j < i → (get_or xs j d).id ≤ t.id)
    → (i < length xs → t.id < (get_or xs i d).id) → insert t xs ≡ inserted i (t ∷ []) xs
unfolding insert inserted
insert_at t d [] zero h low high = refl
insert_at t d [] (suc i) h low high = absurd (let y : ⊥ = omega arith in y)
insert_at t d (x ∷ xs) zero h low high = rw (lt-ltb t.id x.id (high (omega arith))) refl
insert_at t d (x ∷ xs) (suc i) h low high =
    rw (le-ltb t.id x.id (low 0 (omega arith)))
    (ap (λ (ys : List (VersionState ℕ)). x ∷ ys) (insert_at t d xs i (omega arith) (λ j q. low (suc j) (omega arith)) (λ q. high (omega arith))))

-- ---- the model's textures, in ascending id

module _ (l : Lent) (id : ℕ) (up : ascending id_of (tracked_records l) ≡ true) where
  -- the place that the search answers
  abbrev pub place : ℕ
  place = below id (tracked_records l)

  abbrev id_at : ℕ → ℕ
  id_at j = (get_or (tracked_records l) j (read_texture [])).id

  -- the texture is there
  abbrev pub IsTracked : Type 0
  IsTracked = (place < l.pool.tracked) × (id_at place ≡ id)

  -- no other place has the id
  elsewhere : (j : ℕ) → j < length (model_of l).textures → (get_or (model_of l).textures j (state_of l 0)).id ≡ id
      → (place ≡ j) × ((j < l.pool.tracked) × (id_at j ≡ id))
  elsewhere j q f =
      let k : j < l.pool.tracked = omega (arith, tracked_model l) in
      let e : id_at j ≡ id = sym (id_model l j (state_of l 0) k) ∙ f in
      (below_found id (tracked_records l) j (read_texture []) (omega (arith, tracked_records_lem l)) up e, (k, e))

  only : IsTracked → Only id (state_of l 0) place (model_of l).textures
  only (h, e) = (omega (arith, tracked_model l), (id_model l place (state_of l 0) h ∙ e, λ j q ne f. ne (sym (elsewhere j q f).0)))

  pub nowhere : (IsTracked → ⊥) → Nowhere id (state_of l 0) (model_of l).textures
  nowhere ne j q f =
      let w = elsewhere j q f in
      ne (omega (arith, w.0, w.1.0), ap id_at w.0 ∙ w.1.1)

  module _ (h : IsTracked) where
    there : get_or (model_of l).textures place (state_of l 0) ≡ state_of l place
    there = model_at l place (state_of l 0) h.0

    pub found : find id (model_of l).textures ≡ some (state_of l place)
    found = find_at id (state_of l 0) (model_of l).textures place (only h) ∙ ap some there

    pub changed : (f : VersionState ℕ → VersionState ℕ) → change id f (model_of l).textures ≡ set (model_of l).textures place (f (state_of l place))
    changed f =
        change_at id (state_of l 0) f (model_of l).textures place (only h) ∙ ap (λ (t : VersionState ℕ). set (model_of l).textures place (f t)) there

    pub taken_out : without_id id (model_of l).textures ≡ removed place 1 (model_of l).textures
    taken_out = keep_at id (state_of l 0) (model_of l).textures place (only h)

    pub given {ℓ} : {A : Type ℓ} (g : VersionState ℕ → List A) → of_id id g (model_of l).textures ≡ g (state_of l place)
    given g = of_at id (state_of l 0) g (model_of l).textures place (only h) ∙ ap g there

  module _ (h : IsTracked → ⊥) where
    pub not_found : find id (model_of l).textures ≡ none
    not_found = find_nowhere id (state_of l 0) (model_of l).textures (nowhere h)

    pub not_changed : (f : VersionState ℕ → VersionState ℕ) → change id f (model_of l).textures ≡ (model_of l).textures
    not_changed f = change_nowhere id (state_of l 0) f (model_of l).textures (nowhere h)

    pub put_in : (t : VersionState ℕ) → t.id ≡ id → insert t (model_of l).textures ≡ inserted place (t ∷ []) (model_of l).textures
    put_in t e =
        insert_at t (state_of l 0) (model_of l).textures place (omega (arith, tracked_model l, tracked_records_lem l, below_length id (tracked_records l)))
        (λ j q.
        omega (
          arith,
          e,
          id_model l j (state_of l 0) (omega (arith, tracked_records_lem l, below_length id (tracked_records l))),
          below_before id
              (tracked_records l) j (read_texture []) q,
        ))
        (λ q. higher (omega (arith, tracked_model l)))
      where
        higher : place < l.pool.tracked → t.id < (get_or (model_of l).textures place (state_of l 0)).id
        higher q = go (dec_lt id (id_at place))
          where
            go : Dec (id < id_at place) → t.id < (get_or (model_of l).textures place (state_of l 0)).id
            go (yes m) = omega (arith, e, id_model l place (state_of l 0) q)
            go (no m) = absurd (h (q, omega (arith, below_at id (tracked_records l) (read_texture []) (omega (arith, tracked_records_lem l)))))

    pub not_taken_out : without_id id (model_of l).textures ≡ (model_of l).textures
    not_taken_out = keep_nowhere id (state_of l 0) (model_of l).textures (nowhere h)

    pub not_given {ℓ} : {A : Type ℓ} (g : VersionState ℕ → List A) → of_id id g (model_of l).textures ≡ []
    not_given g = of_nowhere id (state_of l 0) g (model_of l).textures (nowhere h)
