-- `take_spare` meets its contract: each case leaves what the rule leaves. Assumes nothing.
use mathlib.Core.Path.{refl, sym, ap}
use mathlib.Core.List.{[]}
use Rattle.grid_shapes.specs.Outcomes.{refused, number_of}
use Rattle.grid_shapes.proofs.Outcomes.{accepted_apart}
use Rattle.pool_tracking.proofs.Started.{start_fits, left_started}
use Rattle.pool_take_spare.proofs.Said.{readable, refused_call}
use Rattle.pool_take_spare.proofs.LookedUp.{look_accepted, look_same, look_untracked, look_new, look_other}
use Rattle.pool_take_spare.proofs.TakenNewest.{newest_fits, left_taken}
use Rattle.pool_take_spare.proofs.calls.take_spare.take_spare.Goals as goal

pub look_up-requires : goal.look_up-requires
look_up-requires c = readable _ c.requires

pub returns-in-Err : goal.returns-in-Err
returns-in-Err c =
    let r = c.in-Err.refusal in
    rw c.same_counts.ensures (refused_call _ _ _ _ _ _ c.requires refl (number_of r) c.in-Err.ensures.outcome (λ z. accepted_apart {fields = []} r (ap refused (sym z))))

pub take_newest-requires : goal.take_newest-requires
take_newest-requires c =
    let look = c.in-Ok.ensures in
    newest_fits _ _ _ _ _ _ (look_accepted _ _ _ _ _ _ c.requires look) (look_same _ _ _ _ _ _ c.requires look c.in-SameShape.is).0

pub returns-in-SameShape : goal.returns-in-SameShape
returns-in-SameShape c =
    let look = c.in-Ok.ensures in
    let same = look_same _ _ _ _ _ _ c.requires look c.in-SameShape.is in
    left_taken _ _ _ _ _ _ (look_accepted _ _ _ _ _ _ c.requires look) same.0 same.1 _ _ _ _ c.take_newest.ensures

pub start_tracking-requires : goal.start_tracking-requires
start_tracking-requires c =
    let look = c.in-Ok.ensures in
    rw c.begun-new.ensures (start_fits _ _ (look_new _ _ _ _ _ _ c.requires look c.in-Untracked.is) (look_untracked _ _ _ _ _ _ c.requires look c.in-Untracked.is))

pub returns-in-Untracked : goal.returns-in-Untracked
returns-in-Untracked c =
    let look = c.in-Ok.ensures in
    left_started _ _ (look_new _ _ _ _ _ _ c.requires look c.in-Untracked.is) (look_untracked _ _ _ _ _ _ c.requires look c.in-Untracked.is) _ _ _ _
    (rw c.begun-new.ensures at c.start_tracking.ensures)

pub renew_tracking-requires : goal.renew_tracking-requires
renew_tracking-requires c = rw c.begun-renewed.ensures (look_other _ _ _ _ _ _ c.requires c.in-Ok.ensures c.in-OtherShape.is)

pub returns-in-OtherShape : goal.returns-in-OtherShape
returns-in-OtherShape c = rw c.begun-renewed.ensures at c.renew_tracking.ensures
