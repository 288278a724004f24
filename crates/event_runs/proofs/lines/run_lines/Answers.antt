-- `run_lines` meets its contract: what is left to run is, at every turn, what was to run at first. The measure is what is left of the input. Assumes nothing.
use mathlib.Core.Path.{refl}
use native.Mathlib.Omega.{arith}
use Rattle.std.proofs.Common.{rules}
use Rattle.event_sessions.proofs.Same.{same_on}
use Rattle.event_runs.proofs.Runs.{end_of, event_of_lem, going_first, going_full, going_end, going_done, going_room, going_next}
use Rattle.event_runs.proofs.lines.run_lines.Goals as goal

pub loop-run-init : goal.loop-run-init
loop-run-init c = record { going = going_first _ _ c.args.input.now _ _ refl refl refl c.requires.0; same = search rules }

pub overflow_add-end : goal.overflow_add-end
overflow_add-end c =
    let i = c.loop-run.invariant.going in
    let k = c.loop-run.invariant.same in
    let h = going_end _ _ _ _ k.copies_long k.views_long c.args.input.now _ _ _ _ _ _ i c.longest_answer-room.ensures c.loop-run-test.true (end_of c.args.input.now _ _ i.inside c.parse_first-parsed.ensures.1) refl in
    omega (arith, h)

pub returns-then-input-end-clause-ran : goal.returns-then-input-end-clause-ran
returns-then-input-end-clause-ran c =
    let i = c.loop-run.invariant.going in
    let k = c.loop-run.invariant.same in
    going_done _ _ _ _ k.copies_long k.views_long c.args.input.now _ _ _ _ _ _ i c.longest_answer-room.ensures c.loop-run-test.true (end_of c.args.input.now _ _ i.inside c.parse_first-parsed.ensures.1) refl c.if-input-end.true

pub run_line-ran-requires : goal.run_line-ran-requires
run_line-ran-requires c =
    let i = c.loop-run.invariant.going in
    let k = c.loop-run.invariant.same in
    (i.pool, going_room _ _ _ _ k.copies_long k.views_long c.args.input.now _ _ _ _ _ _ i c.longest_answer-room.ensures c.loop-run-test.true (end_of c.args.input.now _ _ i.inside c.parse_first-parsed.ensures.1) refl)

pub loop-run-preserved : goal.loop-run-preserved
loop-run-preserved c =
    let i = c.loop-run.invariant.going in
    let k = c.loop-run.invariant.same in
    let r = c.run_line-ran in
    record {
      going = going_next _ _ _ _ k.copies_long k.views_long c.args.input.now _ _ _ _ _ _ i c.longest_answer-room.ensures c.loop-run-test.true (end_of c.args.input.now _ _ i.inside c.parse_first-parsed.ensures.1) refl c.if-input-end.false _ (event_of_lem c.args.input.now _ _ i.inside c.parse_first-parsed.ensures.0) _ refl refl r.ensures.ran;
      same = same_on k r.ensures.same;
    }

pub returns-clause-ran : goal.returns-clause-ran
returns-clause-ran c =
    let i = c.loop-run.invariant.going in
    going_full _ _ c.args.input.now _ _ _ _ i c.longest_answer-room.ensures c.loop-run-test.false
