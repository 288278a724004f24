-- `any_start` meets its contract. Assumes nothing.
use mathlib.Core.Path.{sym}
use native.Mathlib.Omega.{arith}
use lib.Seq.{length-take-le}
use Rattle.event_lines.proofs.Starts.{word_room, any_starts}
use Rattle.event_lines.proofs.words.any_start.Goals as goal

pub slice_bounds-word_of-end : goal.slice_bounds-word_of-end
slice_bounds-word_of-end c =
    let l = c.args.text.now in
    let e = c.first_end-end in
    sym (length-take-le e.result l (omega (arith, e.ensures, word_room l)))

pub returns : goal.returns
returns c = any_starts _ _ _ c.first_end-end.ensures c.word_of-word.ensures
