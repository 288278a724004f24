-- A turn meets its contract: the lines that the output has room for, and what they leave of the block. Assumes nothing.
use mathlib.Core.Path.{ap, ◌∙◌}
use Prim.Native.Nat.{◌-◌, ◌≤◌}
use native.Mathlib.Omega.{arith}
use lib.ListN.{length}
use Rattle.event_runs.specs.Lines.{whole_lines}
use Rattle.event_feed.proofs.Parts.{part_short}
use Rattle.event_feed.proofs.Turns.{ran_within, turn, turn_from}
use Rattle.event_feed.proofs.calls.feed.feed.Goals as goal

pub finish-to-requires : goal.finish-to-requires
finish-to-requires c =
    let p = c.requires in
    let i = p.placed.inside in
    let e = p.after in (
      omega arith,
      p.within,
      λ z. omega (arith, p.placed.space (omega arith), p.large, z),
    )

pub run_lines-run-requires : goal.run_lines-run-requires
run_lines-run-requires c =
    let k = c.finish-to in
    let f = c.args.before.from in
    (c.requires.pool, omega (arith, c.requires.counted, part_short f (k.result - f) k.new.buf, k.auto.buf))

pub rest_of-place-requires : goal.rest_of-place-requires
rest_of-place-requires c =
    let b = c.args.before in
    let k = c.finish-to in
    let r = c.run_lines-run in
    let w : k.result ≤ length k.new.buf = omega (arith, k.ensures.within, k.auto.buf) in (
      ran_within _ _ _ _ b.from b.held k.result k.new.buf k.new.buf _ k.ensures.least w _ r.ensures.ran,
      w,
      omega (arith, c.requires.large, k.auto.buf),
    )

pub returns-clause-turn : goal.returns-clause-turn
returns-clause-turn c =
    let b = c.args.before in
    let k = c.finish-to in
    let r = c.run_lines-run in
    let z = c.rest_of-place.ensures in
    let w : k.result ≤ length k.new.buf = omega (arith, k.ensures.within, k.auto.buf) in
    turn_from _ _ _ _ b.from b.held _ k.result c.args.buf.now k.new.buf k.ensures _ _ _ _ _
    (turn _ _ _ _ b.from b.held k.result k.new.buf _ _ k.ensures.least w (ap whole_lines k.ensures.line ∙ c.requires.plain) c.requires.room _ r.ensures.ran r.ensures.filled _ z)

pub returns-clause-placed : goal.returns-clause-placed
returns-clause-placed c =
    let k = c.finish-to in
    let z = c.rest_of-place.ensures in
    record { inside = z.inside; within = omega (arith, z.within, k.auto.buf); space = z.space }
