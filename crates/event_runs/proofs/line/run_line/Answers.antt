-- `run_line` meets its contract: the event's answer, and the answer's output. Assumes nothing.
use mathlib.Core.Path.{ap, ◌∙◌}
use Prim.Native.Nat.{◌+◌}
use lib.ListN.{length}
use lib.Seq.{sets}
use Rattle.event_runs.proofs.Rooms.{answer_fits, output_fits}
use Rattle.event_runs.proofs.Runs.{event_state, event_output}
use Rattle.event_runs.proofs.line.run_line.Goals as goal

pub put_entries-end-requires : goal.put_entries-end-requires
put_entries-end-requires c =
    let a = c.answer_event-answered in
    (answer_fits a.result.answer _ _ _ _ c.args.filled _ a.ensures.answered.0 a.ensures.same.copies_long a.ensures.same.views_long c.requires.1, a.ensures.answered.0)

pub returns-clause-ran : goal.returns-clause-ran
returns-clause-ran c =
    let a = c.answer_event-answered in
    let p = c.put_entries-end in
    let t = event_output _ _ _ _ _ a.result.answer _ _ a.ensures.answered.1 c.args.number in record {
      state = event_state _ _ _ _ _ a.result.answer _ _ a.ensures.answered.1;
      length_is = p.ensures.0 ∙ ap (λ l. c.args.filled + length l) t;
      put = p.ensures.1 ∙ ap (sets c.args.out.now c.args.filled) t;
      fits = output_fits a.result.answer _ _ _ _ c.args.filled _ c.args.number _ a.ensures.answered.0 a.ensures.same.copies_long a.ensures.same.views_long c.requires.1 p.ensures.0;
    }
