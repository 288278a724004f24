-- Answers that are neither views nor copies have no entries. Assumes nothing.
use Prim.Native.Nat.{ℕ}
use mathlib.Core.Path.{◌≡◌, refl}
use mathlib.Core.List.{List}
use Rattle.event_answers.specs.declared.answer.Answer.{Answer}
use Rattle.event_answers.specs.declared.answer.Answer.TheVariants.{Question, Refused, Done, Spare, NoSpare, Version, NothingSettled, Views, Copies}
use Rattle.event_answers.specs.Answers.{entries, InBuffers}

pub no_entries : (a : Answer) → ((n : ℕ) → a ≡ Views n → ⊥) → ((n : ℕ) → a ≡ Copies n → ⊥) → (copies views : List ℕ)
    → (entries a ≡ 0) × InBuffers a copies views
unfolding entries InBuffers
no_entries Question v k copies views = (refl, tt)
no_entries (Refused n) v k copies views = (refl, tt)
no_entries Done v k copies views = (refl, tt)
no_entries (Spare view held) v k copies views = (refl, tt)
no_entries NoSpare v k copies views = (refl, tt)
no_entries (Version id view) v k copies views = (refl, tt)
no_entries NothingSettled v k copies views = (refl, tt)
no_entries (Views n) v k copies views = absurd (v n refl)
no_entries (Copies n) v k copies views = absurd (k n refl)
