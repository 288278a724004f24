-- `cost_lines` meets its contract: the lines before `from` were run. The measure is what is left of the input. Assumes nothing.
use mathlib.Core.Path.{refl}
use native.Mathlib.Omega.{arith}
use Rattle.std.proofs.Common.{rules}
use Rattle.event_sessions.proofs.Same.{same_on}
use Rattle.event_runs.proofs.Runs.{end_of, event_of_lem}
use Rattle.event_cost.specs.Costs.{no_sums}
use Rattle.event_cost.proofs.Running.{run_first, run_full, run_end, run_done, run_next}
use Rattle.event_cost.proofs.cost_lines.cost_lines.Goals as goal

pub loop-run-init : goal.loop-run-init
unfolding no_sums
loop-run-init c = record { run = run_first _ _ c.args.input.now _ refl refl refl c.requires.0; same = search rules }

pub overflow_add-end : goal.overflow_add-end
overflow_add-end c =
    let i = c.loop-run.invariant.run in
    let h = run_end _ _ c.args.input.now _ _ _ _ i _ _
    (end_of c.args.input.now _ _ i.inside c.parse_first-parsed.ensures.1) refl in
    omega (arith, h)

pub returns-then-input-end-clause-costed : goal.returns-then-input-end-clause-costed
returns-then-input-end-clause-costed c =
    let i = c.loop-run.invariant.run in
    run_done _ _ c.args.input.now _ _ _ _ i _ _
    (end_of c.args.input.now _ _ i.inside c.parse_first-parsed.ensures.1) refl c.if-input-end.true

pub cost_line-ran-requires : goal.cost_line-ran-requires
cost_line-ran-requires c =
    let i = c.loop-run.invariant.run in
    (i.pool, omega (arith, c.loop-run-test.true, i.fits, c.loop-run.auto.out))

pub loop-run-preserved : goal.loop-run-preserved
loop-run-preserved c =
    let i = c.loop-run.invariant.run in
    let k = c.loop-run.invariant.same in
    record {
      run = run_next _ _ c.args.input.now _ _ _ _ i _ _
          (end_of c.args.input.now _ _ i.inside c.parse_first-parsed.ensures.1) refl c.if-input-end.false _
          (event_of_lem c.args.input.now _ _ i.inside c.parse_first-parsed.ensures.0) _ _ k.copies_long k.views_long _ refl refl c.cost_line-ran.ensures.costed
          (omega (arith, c.loop-run-test.true, i.fits));
      same = same_on k c.cost_line-ran.ensures.same;
    }

pub returns-clause-costed : goal.returns-clause-costed
returns-clause-costed c = run_full _ _ _ _ _ _ _ c.loop-run.invariant.run c.loop-run-test.false
