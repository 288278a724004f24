-- An outcome fixes its answer, so a contract that gives the outcome gives the answer.
use Prim.Native.Nat.{ℕ}
use mathlib.Core.Path.{◌≡◌, refl, sym, ap, ◌∙◌}
use mathlib.Core.Bool.{Bool, true, false}
use mathlib.Core.List.{List, [], ◌∷◌}
use lib.ListN.{get_or}
use borrow.Author.Tests.{eqb-false}
use Rattle.std.specs.Prelude.{Result, Ok, Err}
use Rattle.grid_shapes.specs.declared.refusal.Refusal.{Refusal}
use Rattle.grid_shapes.specs.declared.refusal.Refusal.TheVariants.{NoPool, BadShape, BadSubmission, OtherShape, TexturesFull, HistoryFull, VersionsFull, OutOfOrder, HandFull, HandEmpty, ShortAnswer, CounterSpent}
use Rattle.grid_shapes.specs.Outcomes.{Outcome, accepted, refused, number_of, of_bytes, of_records}

-- equal outcomes agree in each field
pub field : {a b : Outcome} (k : ℕ) → a ≡ b → get_or a.fields k 0 ≡ get_or b.fields k 0
field k e = ap (λ (o : Outcome). get_or o.fields k 0) e

-- two with different numbers are not the same
pub apart : (a b : Outcome) → (a.number ≡ b.number → ⊥) → a ≡ b → ⊥
apart a b h e = h (ap (λ (o : Outcome). o.number) e)

-- the refusals in order, after one that stands at 0
refusals : List Refusal
refusals =
    CounterSpent ∷ NoPool ∷ BadShape ∷ BadSubmission ∷ OtherShape ∷ TexturesFull ∷ HistoryFull ∷ VersionsFull ∷ OutOfOrder ∷ HandFull ∷ HandEmpty ∷ ShortAnswer
    ∷ CounterSpent ∷ []

refusal_of : ℕ → Refusal
refusal_of n = get_or refusals n NoPool

-- a number tells the refusal
of_number : (e : Refusal) → refusal_of (number_of e) ≡ e
unfolding refusal_of refusals
of_number NoPool = refl
of_number BadShape = refl
of_number BadSubmission = refl
of_number OtherShape = refl
of_number TexturesFull = refl
of_number HistoryFull = refl
of_number VersionsFull = refl
of_number OutOfOrder = refl
of_number HandFull = refl
of_number HandEmpty = refl
of_number ShortAnswer = refl
of_number CounterSpent = refl

pub number_fixed : (a b : Refusal) → number_of a ≡ number_of b → a ≡ b
number_fixed a b e = sym (of_number a) ∙ ap refusal_of e ∙ of_number b

-- no refusal is an acceptance
pub accepted_apart : {fields : List ℕ} (e : Refusal) → accepted fields ≡ refused (number_of e) → ⊥
unfolding refusal_of refusals
accepted_apart e h =
    let zero : 0 ≡ number_of e = ap (λ (o : Outcome). o.number) h in
    eqb-false 0 12 refl (zero ∙ ap number_of (sym (of_number e) ∙ ap refusal_of (sym zero)))

pub bytes_fixed : (a b : Result ℕ Refusal) → of_bytes a ≡ of_bytes b → a ≡ b
unfolding of_bytes
bytes_fixed (Ok m) (Ok n) e = ap Ok (field 0 e)
bytes_fixed (Ok m) (Err x) e = absurd (accepted_apart x e)
bytes_fixed (Err x) (Ok n) e = absurd (accepted_apart x (sym e))
bytes_fixed (Err x) (Err y) e = ap Err (number_fixed x y (ap (λ (o : Outcome). o.number) e))

pub records_fixed : (a b : Result Bool Refusal) → of_records a ≡ of_records b → a ≡ b
unfolding of_records
records_fixed (Ok true) (Ok true) e = refl
records_fixed (Ok true) (Ok false) e = absurd (eqb-false 1 0 refl (field 0 e))
records_fixed (Ok false) (Ok true) e = absurd (eqb-false 0 1 refl (field 0 e))
records_fixed (Ok false) (Ok false) e = refl
records_fixed (Ok a) (Err x) e = absurd (accepted_apart x e)
records_fixed (Err x) (Ok b) e = absurd (accepted_apart x (sym e))
records_fixed (Err x) (Err y) e = ap Err (number_fixed x y (ap (λ (o : Outcome). o.number) e))
