-- A turn meets its contract: the lines that the output has room for, and what they leave of the buffer. Assumes nothing.
use Prim.Native.Nat.{◌-◌}
use native.Mathlib.Omega.{arith}
use Rattle.event_feed.proofs.Parts.{part_short}
use Rattle.event_cost.proofs.Turning.{turn_within, turned}
use Rattle.event_cost.proofs.cost_turn.cost_turn.Goals as goal

pub finish-to-requires : goal.finish-to-requires
finish-to-requires c =
    let p = c.requires in
    let i = p.placed.inside in
    let e = p.after in (
      omega arith,
      p.within,
      λ z. omega (arith, p.placed.space (omega arith), p.large, z),
    )

pub cost_lines-run-requires : goal.cost_lines-run-requires
cost_lines-run-requires c =
    let k = c.finish-to in
    let f = c.args.before.from in
    (c.requires.pool, omega (arith, c.requires.counted, part_short f (k.result - f) k.new.buf, k.auto.buf))

pub rest_of-place-requires : goal.rest_of-place-requires
rest_of-place-requires c =
    let k = c.finish-to in
    let r = c.cost_lines-run in (
      turn_within _ _ c.args.before c.args.end k.result _ c.args.buf.now k.new.buf c.args.out.now k.auto.buf c.requires k.ensures _ r.ensures.costed,
      omega (arith, k.ensures.within, k.auto.buf),
      omega (arith, c.requires.large, k.auto.buf),
    )

pub returns-clause-costed : goal.returns-clause-costed
returns-clause-costed c =
    let k = c.finish-to in
    let r = c.cost_lines-run in
    let z = c.rest_of-place in
    turned _ _ c.args.before c.args.end k.result _ c.args.buf.now k.new.buf c.args.out.now k.auto.buf c.requires k.ensures _ r.ensures.costed
    z.result _ z.ensures r.result.session
