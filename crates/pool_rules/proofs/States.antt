-- Laws of the states in ascending id: found, changed, put in, kept. Assumes nothing.
use Prim.Native.Nat.{ℕ, suc, ◌+◌, ◌≤◌}
use mathlib.Core.Path.{◌≡◌, refl, ap, ap₂, subst}
use mathlib.Core.Bool.{Bool, true, false, cond}
use mathlib.Core.Option.{none, some, some-injective, none-ne-some, some-ne-none}
use mathlib.Core.List.{List, [], ◌∷◌, map}
use native.Mathlib.Omega.{arith}
use lib.ListN.{length, length-map}
use lib.Dec.{ltb, eqb}
use borrow.Author.Tests.{ltb-true, ltb-false, eqb-true, eqb-false, ne_eqb}
use Rattle.base_blocks.specs.Lists.{keep, total}
use Rattle.base_blocks.specs.All.{All, nil, cons}
use Rattle.base_blocks.proofs.Lists.{either}
use Rattle.base_blocks.proofs.All.{all_mono}
use Rattle.pool_rules.specs.Model.{VersionState, find}
use Rattle.pool_rules.specs.Updates.{change, insert}
use Rattle.pool_rules.specs.Formed.{Ascending, end, more}
use Rattle.pool_rules.proofs.Lists.{total_map, total_mapped}

module _ {W : Type 0} where
  -- ---- ascending ids

  pub ascending_low : {lo hi : ℕ} {ts : List (VersionState W)} → lo ≤ hi → Ascending hi ts → Ascending lo ts
  ascending_low h end = end
  ascending_low {lo} h (more {t = t} l up) = more {lo = lo} {t = t} (omega arith) up

  pub ascending_above : {lo : ℕ} {ts : List (VersionState W)} → Ascending lo ts → All (λ (t : VersionState W). lo ≤ t.id) ts
  ascending_above end = nil
  ascending_above (more {lo = lo} {t = t} l up) = cons l (all_mono (λ u h. omega arith) (ascending_above up))

  pub ascending_map : {lo : ℕ} {ts : List (VersionState W)} (f : VersionState W → VersionState W) → ((t : VersionState W) → (f t).id ≡ t.id)
      → Ascending lo ts → Ascending lo (map f ts)
  ascending_map f e end = end
  ascending_map {lo} f e (more {t = t} l up) = more {lo = lo} {t = f t} (omega (arith, e t)) (ascending_low (omega (arith, e t)) (ascending_map f e up))

  pub ascending_change : {lo : ℕ} {ts : List (VersionState W)} (id : ℕ) (f : VersionState W → VersionState W)
      → ((t : VersionState W) → t.id ≡ id → (f t).id ≡ t.id) → Ascending lo ts → Ascending lo (change id f ts)
  unfolding change
  ascending_change id f e up =
      ascending_map (λ t. cond (eqb t.id id) (f t) t)
      (λ t. either (λ (u : VersionState W). u.id ≡ t.id) (eqb t.id id) (f t) t (λ q. e t (eqb-true _ _ q)) (λ q. refl)) up

  pub ascending_keep : {lo : ℕ} {ts : List (VersionState W)} (p : VersionState W → Bool) → Ascending lo ts → Ascending lo (keep p ts)
  unfolding keep
  ascending_keep p end = end
  ascending_keep {lo} p (more {t = t} {ts = ts} l up) =
      either (Ascending lo) (p t) (t ∷ keep p ts) (keep p ts) (λ e. more l (ascending_keep p up)) (λ e. ascending_low (omega arith) (ascending_keep p up))

  pub ascending_insert : {lo : ℕ} {ts : List (VersionState W)} (t : VersionState W) → lo ≤ t.id → All (λ (u : VersionState W). u.id ≡ t.id → ⊥) ts
      → Ascending lo ts → Ascending lo (insert t ts)
  unfolding insert
  ascending_insert t l ne end = more l end
  ascending_insert {lo} t l (cons n ns) (more {t = u} {ts = us} k up) =
      either (Ascending lo) (ltb t.id u.id) (t ∷ u ∷ us) (u ∷ insert t us) (λ e. more l (more (ltb-true _ _ e) up))
      (λ e. more k (ascending_insert t (past t.id u.id (ltb-false _ _ e) n) ns up))
    where
      past : (a b : ℕ) → b ≤ a → (b ≡ a → ⊥) → suc b ≤ a
      past a b h ne' = omega arith

  -- ---- a property of every state

  pub all_insert : {P : VersionState W → Type 0} (t : VersionState W) {ts : List (VersionState W)} → P t → All P ts → All P (insert t ts)
  unfolding insert
  all_insert t p nil = cons p nil
  all_insert {P} t p (cons {x = u} {xs = us} q qs) =
      either (All P) (ltb t.id u.id) (t ∷ u ∷ us) (u ∷ insert t us) (λ e. cons p (cons q qs)) (λ e. cons q (all_insert t p qs))

  pub all_change : {P Q : VersionState W → Type 0} (id : ℕ) (f : VersionState W → VersionState W) {ts : List (VersionState W)}
      → ((t : VersionState W) → t.id ≡ id → P t → Q (f t)) → ((t : VersionState W) → P t → Q t) → All P ts → All Q (change id f ts)
  unfolding change
  all_change id f g h nil = nil
  all_change {Q = Q} id f g h (cons {x = t} p ps) =
      cons (either Q (eqb t.id id) (f t) t (λ e. g t (eqb-true _ _ e) p) (λ e. h t p)) (all_change id f g h ps)

  -- ---- the state found

  pub find_all : (P : VersionState W → Type 0) (id : ℕ) (t : VersionState W) (ts : List (VersionState W)) → All P ts → find id ts ≡ some t → P t
  unfolding find
  find_all P id t [] ps e = absurd (none-ne-some t e)
  find_all P id t (u ∷ us) (cons p ps) e = go (eqb u.id id) refl (find_all P id t us ps)
    where
      go : (b : Bool) → eqb u.id id ≡ b → (find id us ≡ some t → P t) → P t
      go true q ih = let same : u ≡ t = some-injective u t (rw q at e) in subst P same p
      go false q ih = ih (rw q at e)

  pub find_none : (id : ℕ) (ts : List (VersionState W)) → find id ts ≡ none → All (λ (t : VersionState W). t.id ≡ id → ⊥) ts
  unfolding find
  find_none id [] e = nil
  find_none id (u ∷ us) e = go (eqb u.id id) refl (find_none id us)
    where
      go : (b : Bool) → eqb u.id id ≡ b → (find id us ≡ none → All (λ (t : VersionState W). t.id ≡ id → ⊥) us) → All (λ (t : VersionState W). t.id ≡ id → ⊥) (u ∷ us)
      go true q ih = absurd (some-ne-none u (rw q at e))
      go false q ih = cons (eqb-false _ _ q) (ih (rw q at e))

  -- no other state has its id
  pub find_only : {lo : ℕ} (id : ℕ) (t : VersionState W) (ts : List (VersionState W)) → Ascending lo ts → find id ts ≡ some t
      → All (λ (u : VersionState W). u.id ≡ id → u ≡ t) ts
  unfolding find
  find_only id t [] up e = nil
  find_only {lo = lo} id t (u ∷ us) (more l up) e = go (eqb u.id id) refl (find_only {lo = suc u.id} id t us up)
    where
      far : (a b c : ℕ) → suc a ≤ b → b ≡ c → a ≡ c → ⊥
      far a b c h p q = omega arith

      go : (b : Bool) → eqb u.id id ≡ b → (find id us ≡ some t → All (λ (u : VersionState W). u.id ≡ id → u ≡ t) us)
          → All (λ (u : VersionState W). u.id ≡ id → u ≡ t) (u ∷ us)
      go true q ih = cons (λ h. some-injective u t (rw q at e)) (all_mono (λ v h k. absurd (far u.id v.id id h k (eqb-true _ _ q))) (ascending_above up))
      go false q ih = cons (λ h. absurd (eqb-false _ _ q h)) (ih (rw q at e))

  -- its part of a sum
  pub find_part : (f : VersionState W → ℕ) (id : ℕ) (t : VersionState W) (ts : List (VersionState W)) → find id ts ≡ some t → f t ≤ total f ts
  unfolding find total
  find_part f id t [] e = absurd (none-ne-some t e)
  find_part f id t (u ∷ us) e = go (eqb u.id id) refl (find_part f id t us)
    where
      go : (b : Bool) → eqb u.id id ≡ b → (find id us ≡ some t → f t ≤ total f us) → f t ≤ f u + total f us
      go true q ih = omega (arith, ap f (some-injective u t (rw q at e)))
      go false q ih = omega (arith, ih (rw q at e))

  -- ---- sums and lengths

  pub length_change : (id : ℕ) (g : VersionState W → VersionState W) (ts : List (VersionState W)) → length (change id g ts) ≡ length ts
  unfolding change
  length_change id g ts = length-map ts _

  pub length_insert : (t : VersionState W) (ts : List (VersionState W)) → length (insert t ts) ≡ suc (length ts)
  unfolding insert
  length_insert t [] = refl
  length_insert t (u ∷ us) =
      either (λ (l : List (VersionState W)). length l ≡ suc (suc (length us))) (ltb t.id u.id) (t ∷ u ∷ us) (u ∷ insert t us) (λ e. refl)
      (λ e. omega (arith, length_insert t us))

  module _ (f : VersionState W → ℕ) where
    pub total_insert : (t : VersionState W) (ts : List (VersionState W)) → total f (insert t ts) ≡ f t + total f ts
    unfolding insert total
    total_insert t [] = refl
    total_insert t (u ∷ us) =
        either (λ (l : List (VersionState W)). total f l ≡ f t + (f u + total f us)) (ltb t.id u.id) (t ∷ u ∷ us) (u ∷ insert t us) (λ e. refl)
        (λ e. omega (arith, total_insert t us))

    module _ (id : ℕ) (g : VersionState W → VersionState W) where
      pub total_unchanged : ((t : VersionState W) → f (g t) ≡ f t) → (ts : List (VersionState W)) → total f (change id g ts) ≡ total f ts
      unfolding change
      total_unchanged e ts =
          total_map f (λ t. cond (eqb t.id id) (g t) t)
          (λ t. either (λ (u : VersionState W). f u ≡ f t) (eqb t.id id) (g t) t (λ q. e t) (λ q. refl)) ts

      pub total_not_raised : ((t : VersionState W) → f (g t) ≤ f t) → (ts : List (VersionState W)) → total f (change id g ts) ≤ total f ts
      unfolding change
      total_not_raised e ts =
          total_mapped f (λ t. cond (eqb t.id id) (g t) t)
          (λ t. either (λ (u : VersionState W). f u ≤ f t) (eqb t.id id) (g t) t (λ q. e t) (λ q. omega arith)) ts

      change_none : {ts : List (VersionState W)} → All (λ (t : VersionState W). t.id ≡ id → ⊥) ts → change id g ts ≡ ts
      unfolding change
      change_none nil = refl
      change_none (cons {x = t} {xs = ts} n ns) = ap₂ ◌∷◌ (rw (ne_eqb t.id id n)) (change_none ns)

      -- the one changed gives its old part for its new one
      pub total_change : {lo : ℕ} (t : VersionState W) (ts : List (VersionState W)) → Ascending lo ts → find id ts ≡ some t
          → total f (change id g ts) + f t ≡ total f ts + f (g t)
      unfolding change find total
      total_change t [] up e = absurd (none-ne-some t e)
      total_change {lo = lo} t (u ∷ us) (more l up) e = go (eqb u.id id) refl (total_change {lo = suc u.id} t us up)
        where
          far : (a b c : ℕ) → suc a ≤ b → a ≡ c → b ≡ c → ⊥
          far a b c h p q = omega arith

          go : (b : Bool) → eqb u.id id ≡ b → (find id us ≡ some t → total f (change id g us) + f t ≡ total f us + f (g t))
              → total f (change id g (u ∷ us)) + f t ≡ total f (u ∷ us) + f (g t)
          go true q ih =
              let same : u ≡ t = some-injective u t (rw q at e) in
              let rest : total f (change id g us) ≡ total f us = ap (total f) (change_none (all_mono (λ v h k. far u.id v.id id h (eqb-true _ _ q) k) (ascending_above up))) in
              rw q (omega (arith, rest, ap f same, ap (λ (x : VersionState W). f (g x)) same))
          go false q ih = rw q (omega (arith, ih (rw q at e)))
