-- `nothing_aged` meets its contract: the loop stops at the first texture that a trim would not leave as it is. Assumes nothing.
use native.Mathlib.Omega.{arith}
use Rattle.pool_trim.proofs.YoungTextures.{young_start, young_end, run_fits, due_aged, oldest_aged, no_spares, oldest_young}
use Rattle.pool_trim.proofs.nothing_aged.nothing_aged.Goals as goal
use Rattle.pool_trim.proofs.nothing_aged.nothing_aged.Goals.{then-own-ne0+else-spares-first, else-own-ne0}

pub loop-i-init : goal.loop-i-init
loop-i-init c =
    let a = c.args in
    young_start a.current a.textures.now a.spares.now a.tracked

pub returns-then-textures-i : goal.returns-then-textures-i
returns-then-textures-i c =
    due_aged c.loop-i.invariant (omega arith) (omega (arith, c.saturating_sub-recent.ensures, c.if-textures-i.true))

pub overflow_mul-first : goal.overflow_mul-first
overflow_mul-first c =
    omega (arith, run_fits c.loop-i.invariant (omega arith) c.requires.1)

pub overflow_add-first : goal.overflow_add-first
overflow_add-first c =
    omega (arith, run_fits c.loop-i.invariant (omega arith) c.requires.1)

pub offset_bounds-spares-first : goal.offset_bounds-spares-first
offset_bounds-spares-first c =
    omega (arith, run_fits c.loop-i.invariant (omega arith) c.requires.1)

pub bounds-spares-first : goal.bounds-spares-first
bounds-spares-first c =
    omega (arith, run_fits c.loop-i.invariant (omega arith) c.requires.1)

pub returns-then-spares-first : goal.returns-then-spares-first
returns-then-spares-first c =
    oldest_aged c.loop-i.invariant (omega arith) c.if-own-ne0.true (omega (arith, c.saturating_sub-young.ensures, c.if-spares-first.true))

pub overflow_add-first-in-loop-i : goal.overflow_add-first-in-loop-i
overflow_add-first-in-loop-i c =
    omega (arith, run_fits c.loop-i.invariant (omega arith) c.requires.1)

pub loop-i-preserved : goal.loop-i-preserved
loop-i-preserved c =
    let young = c.saturating_sub-young.ensures in
    let recent = c.saturating_sub-recent.ensures in
    let due = c.if-textures-i.false in
    elim c.if-own-ne0.branch [
      | then-own-ne0+else-spares-first w ↦ oldest_young c.loop-i.invariant (omega arith) (omega (arith, recent, due)) w.if-own-ne0.true (omega (arith, young, w.if-spares-first.false))
      | else-own-ne0 w ↦ no_spares c.loop-i.invariant (omega arith) (omega (arith, recent, due)) w.if-own-ne0.false
    ]

pub returns : goal.returns
returns c = young_end c.loop-i.invariant (omega arith)
