-- `open_session` meets its contract: the sizes of the slices decide. Assumes nothing.
use mathlib.Core.List.{[]}
use mathlib.Core.Path.{◌≡◌, sym, ap, ◌∙◌}
use Rattle.std.specs.Prelude.{Result}
use Rattle.grid_shapes.specs.declared.refusal.Refusal.{Refusal}
use Rattle.grid_shapes.specs.Outcomes.{refused, outcome_number}
use Rattle.grid_shapes.proofs.Outcomes.{accepted_apart}
use Rattle.event_sessions.proofs.Opened.{open_refused, open_done}
use Rattle.event_sessions.proofs.opening.open_session.Goals as goal

pub returns-in-Ok : goal.returns-in-Ok
returns-in-Ok c =
    let a = c.args in
    let s = a.stores.now in
    let o = c.open-said in
    let e = ap (outcome_number {A = Unit {0}}) c.in-Ok.is in
    open_done a.session s.textures.now s.retiring.now s.doomed.now s.spares.now s.newest.now s.stamps.now a.working _ o.ensures.outcome e _ _ o.ensures.pool o.ensures.book

pub returns-in-Err : goal.returns-in-Err
returns-in-Err c =
    let a = c.args in
    let s = a.stores.now in
    let o = c.open-said in
    let e = ap (outcome_number {A = Unit {0}}) c.in-Err.is in
    open_refused a.session s.textures.now s.retiring.now s.doomed.now s.spares.now s.newest.now s.stamps.now a.working _ o.ensures.outcome _
    (c.number.ensures ∙ sym e) (λ z. accepted_apart {fields = []} _ (ap refused (sym z ∙ e)))
