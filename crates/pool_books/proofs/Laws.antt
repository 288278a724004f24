-- Tests, options, and lists of states: what the invariant's proofs use throughout. Assumes nothing.
use Prim.Native.Nat.{ℕ}
use mathlib.Core.Path.{◌≡◌, refl, sym, ◌∙◌, ap}
use mathlib.Core.Bool.{Bool, true, false, ◌&&◌, true≢false, false≢true}
use mathlib.Core.Option.{Option, none, some, some-injective, none-ne-some}
use mathlib.Core.List.{List, [], ◌∷◌}
use lib.Dec.{eqb}
use borrow.Author.Tests.{eqb-true, eqb-false}
use Rattle.base_blocks.specs.All.{All, nil, cons}
use Rattle.base_blocks.proofs.Lists.{either}
use Rattle.pool_rules.specs.Formed.{Given}
use Rattle.pool_rules.specs.Model.{Spare, VersionState, find}
use Rattle.pool_rules.specs.Updates.{change}
use Rattle.pool_rules.specs.TakeSpare.{newest, others}

pub and_left : (a b : Bool) → a && b ≡ true → a ≡ true
and_left true b e = refl
and_left false b e = e

pub and_right : (a b : Bool) → a && b ≡ true → b ≡ true
and_right true b e = e
and_right false b e = absurd (false≢true e)

pub and_true : {a b : Bool} → a ≡ true → b ≡ true → a && b ≡ true
and_true {a} {b} p q = rw (p, q)

-- no test both passes and fails
pub clash : (a : Bool) → a ≡ true → a ≡ false → ⊥
clash a p q = true≢false (sym p ∙ q)

-- a fact of what an option holds, which it has to
abbrev pub Exists {ℓ} : {A : Type ℓ} → (A → Type 0) → Option A → Type 0
Exists P none = ⊥
Exists P (some a) = P a

pub given_mono {ℓ} : {A : Type ℓ} (P Q : A → Type 0) (o : Option A) → ((a : A) → P a → Q a) → Given P o → Given Q o
given_mono P Q none f p = tt
given_mono P Q (some a) f p = f a p

pub exists_mono {ℓ} : {A : Type ℓ} (P Q : A → Type 0) (o : Option A) → ((a : A) → P a → Q a) → Exists P o → Exists Q o
exists_mono P Q none f p = p
exists_mono P Q (some a) f p = f a p

pub all_const : {A : Type 0} {P : A → Type 0} (xs : List A) → ((x : A) → P x) → All P xs
all_const [] f = nil
all_const (x ∷ xs) f = cons (f x) (all_const xs f)

module _ {W : Type 0} where
  -- the newest spare and the others
  pub all_others : {P : Spare W → Type 0} {xs : List (Spare W)} → All P xs → All P (others xs)
  all_others nil = nil
  all_others (cons p nil) = nil
  all_others (cons p (cons q qs)) = cons p (all_others (cons q qs))

  pub all_newest : (P : Spare W → Type 0) {xs : List (Spare W)} → All P xs → Given P (newest xs)
  all_newest P nil = tt
  all_newest P (cons p nil) = p
  all_newest P (cons p (cons q qs)) = all_newest P (cons q qs)

  -- one state changed, the others as they were
  pub all_changed : {P Q : VersionState W → Type 0} (id : ℕ) (f : VersionState W → VersionState W) {ts : List (VersionState W)}
      → ((t : VersionState W) → t.id ≡ id → P t → Q (f t)) → ((t : VersionState W) → (t.id ≡ id → ⊥) → P t → Q t) → All P ts → All Q (change id f ts)
  unfolding change
  all_changed id f g h nil = nil
  all_changed {Q = Q} id f g h (cons {x = t} p ps) =
      cons (either Q (eqb t.id id) (f t) t (λ e. g t (eqb-true _ _ e) p) (λ e. h t (eqb-false _ _ e) p)) (all_changed id f g h ps)

  pub found_id : (id : ℕ) (t : VersionState W) (ts : List (VersionState W)) → find id ts ≡ some t → t.id ≡ id
  unfolding find
  found_id id t [] e = absurd (none-ne-some t e)
  found_id id t (u ∷ us) e = go (eqb u.id id) refl (found_id id t us)
    where
      go : (b : Bool) → eqb u.id id ≡ b → (find id us ≡ some t → t.id ≡ id) → t.id ≡ id
      go true q ih = let same : u ≡ t = some-injective u t (rw q at e) in sym (ap (λ (z : VersionState W). z.id) same) ∙ eqb-true _ _ q
      go false q ih = ih (rw q at e)
