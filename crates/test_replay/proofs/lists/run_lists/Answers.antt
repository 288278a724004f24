-- Lists until the input ends: each is run on stores of the same length. Assumes nothing.
use mathlib.Core.Path.{◌∙◌}
use native.Mathlib.Omega.{arith}
use Rattle.test_replay.proofs.lists.run_lists.Goals as goal

pub run_next-requires : goal.run_next-requires
run_next-requires c =
    let k = c.loop-from.auto in
    let p = c.requires in
    let q = p.0 in (
      record {
        textures_are = k.textures ∙ q.textures_are;
        retiring_are = k.retiring ∙ q.retiring_are;
        doomed_are = k.doomed ∙ q.doomed_are;
        spares_are = k.spares ∙ q.spares_are;
        newest_are = k.newest ∙ q.newest_are;
        stamps_are = k.stamps ∙ q.stamps_are;
        copies_are = k.copies ∙ q.copies_are;
        views_are = k.views ∙ q.views_are;
      },
      omega (arith, k.buf, p.1),
      omega (arith, k.out, p.2),
    )

pub loop-from-smaller : goal.loop-from-smaller
loop-from-smaller c = omega (arith, c.line_after-first.ensures.0, c.next_list-next.ensures.0, c.next_list-next.ensures.1)
