-- `spares_between` meets its contract: the sum so far is what the records up to j have beyond the first `from`. Assumes nothing.
use mathlib.Core.Path.{◌≡◌, ap, ◌∙◌}
use Prim.Native.Nat.{ℕ}
use native.Mathlib.Nat.{add-zero}
use native.Mathlib.Omega.{arith}
use Rattle.pool_records.specs.Texture.{read_texture}
use Rattle.pool_access.proofs.Totals.{total_next, total_with}
use Rattle.pool_access.proofs.Fields.{spares_number}
use Rattle.pool_records.specs.RecordConstants.{texture_stride}
use Rattle.pool_access.proofs.spare.spares_between.Invariants.{sum_to, spares_of}
use Rattle.pool_access.proofs.spare.spares_between.Goals as goal

pub loop-j-init : goal.loop-j-init
loop-j-init c = add-zero _

pub overflow_add-sum-in-loop-j : goal.overflow_add-sum-in-loop-j
overflow_add-sum-in-loop-j c =
    let t = c.args.textures.now in
    let j = c.loop-j.j in
    omega (arith, c.requires.2, c.loop-j.invariant, spares_number t j, total_with texture_stride read_texture spares_of t j c.args.to c.loop-j-test.true)

pub loop-j-preserved : goal.loop-j-preserved
loop-j-preserved c =
    let t = c.args.textures.now in
    let j = c.loop-j.j in
    omega (arith, c.loop-j.invariant, spares_number t j, total_next texture_stride read_texture spares_of t j)

pub returns : goal.returns
returns c =
    let a = c.args in
    let end : c.loop-j.j ≡ a.to = omega (arith, c.requires.1) in
    c.loop-j.invariant ∙ ap (λ (k : ℕ). sum_to a.textures.now k) end
