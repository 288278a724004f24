-- `put_views` meets its contract: the rows of those before i are put. Assumes nothing.
use borrow.Author.Rules.{rules}
use mathlib.Core.Path.{ap}
use mathlib.Core.List.{flat_map}
use Prim.Native.Nat.{ℕ}
use native.Mathlib.Omega.{arith}
use lib.ListN.{get_or}
use Rattle.std.proofs.Common.{◌<◌, length-take-le, get_or-take}
use Rattle.event_answers.specs.Printed.{view_row}
use Rattle.base_digits.proofs.Puts.{put_none, put_next, put_all, put_as}
use Rattle.event_answers.proofs.Puts.{left_take}
use Rattle.event_answers.proofs.entry.put_views.Goals as goal

pub loop-view-init : goal.loop-view-init
loop-view-init c =
    let a = c.args in
    (search rules, search rules, put_none (view_row a.number) _ _ _ _)

pub loop-view-preserved : goal.loop-view-preserved
unfolding view_row
loop-view-preserved c =
    let l = c.loop-view in
    let a = c.args in
    let p = c.put_row-end in
    let before : l.view-index < a.n = omega (arith, c.loop-view-test.true, length-take-le a.n a.views.now c.requires.1) in (
      omega (arith, p.ensures.0, l.invariant.0),
      search rules,
      put_next (view_row a.number) (λ (k : ℕ). get_or a.views.now k 0) a.n before l.invariant.2
          (put_as (ap (view_row a.number) (get_or-take a.n a.views.now l.view-index 0 before)) p.ensures.1),
    )

pub returns : goal.returns
returns c =
    let l = c.loop-view in
    let a = c.args in
    put_as (ap (flat_map (view_row a.number)) (left_take a.views.now a.n c.requires.1))
    (put_all (view_row a.number) (λ (k : ℕ). get_or a.views.now k 0) a.n (omega (arith, c.loop-view-test.false, length-take-le a.n a.views.now c.requires.1)) l.invariant.2)
