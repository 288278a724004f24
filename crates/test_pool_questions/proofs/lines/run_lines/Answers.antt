-- Lines until the input ends: the same stores, which form a pool once it is opened. Assumes nothing.
use borrow.Author.Rules.{rules}
use mathlib.Core.Path.{refl, ◌∙◌}
use native.Mathlib.Omega.{arith}
use Rattle.event_sessions.proofs.Same.{same_on}
use Rattle.test_pool_questions.proofs.Holds.{begun_holds}
use Rattle.test_pool_questions.proofs.lines.run_lines.Goals as goal

pub loop-from-init : goal.loop-from-init
loop-from-init c = record { holds = begun_holds _ _ _ _ _ _ _ c.fresh-session.ensures; same = search rules; numbered = omega arith; inside = omega arith; page = refl }

pub run_line-ran-requires : goal.run_line-ran-requires
run_line-ran-requires c = c.loop-from.invariant.holds

pub loop-from-smaller : goal.loop-from-smaller
loop-from-smaller c = omega (arith, c.part_end-end.ensures.0, c.loop-from-test.true)

pub loop-from-preserved : goal.loop-from-preserved
loop-from-preserved c =
    let i = c.loop-from.invariant in
    let r = c.run_line-ran in
    let e = c.part_end-end.ensures in
    record {
      holds = r.ensures.holds.0;
      same = same_on i.same r.ensures.same;
      numbered = omega (arith, r.ensures.holds.1, i.numbered, e.0);
      inside = omega (arith, e.1);
      page = r.auto.page ∙ i.page;
    }
