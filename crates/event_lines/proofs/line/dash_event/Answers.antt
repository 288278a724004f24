-- `dash_event` meets its contract: only a plan is made. Assumes nothing.
use Rattle.std.proofs.Common.{◌≡◌, sym, ap, ◌∙◌, refl, ℕ, get_or}
use Rattle.event_lines.specs.declared.event.Word.{Word}
use Rattle.event_lines.specs.declared.event.Event.{Event}
use Rattle.event_lines.specs.Grammar.{made}
use Rattle.event_lines.specs.Reading.{dash_made}
use Rattle.event_lines.proofs.line.dash_event.Goals as goal

-- another word makes nothing
no_plan : (w : Word) (count : ℕ) (n : ℕ → ℕ) → (w ≡ Word.Plan → ⊥) → Event.Unread ≡ dash_made w count n
unfolding dash_made
no_plan Word.Open count n h = refl
no_plan Word.Take count n h = refl
no_plan Word.Plan count n h = absurd (h refl)
no_plan Word.Retire count n h = refl
no_plan Word.Write count n h = refl
no_plan Word.Regen count n h = refl
no_plan Word.Pop count n h = refl
no_plan Word.Park count n h = refl
no_plan Word.Note count n h = refl
no_plan Word.Doomed count n h = refl
no_plan Word.Drain count n h = refl
no_plan Word.Trim count n h = refl
no_plan Word.Forget count n h = refl
no_plan Word.Other count n h = refl

pub returns-in-Plan : goal.returns-in-Plan
unfolding dash_made made
returns-in-Plan c =
    let a = c.args in
    c.plan_event.ensures ∙ sym (ap (λ w. dash_made w a.count (λ k. get_or a.n.now k 0)) c.in-Plan.is)

pub returns-in_default : goal.returns-in_default
returns-in_default c = no_plan c.args.word _ _ c.in_default.not-Plan
