-- `spares_fit` meets its contract. Assumes nothing.
use native.Mathlib.Omega.{arith}
use mathlib.Core.Path.{sym, ap, ◌∙◌}
use Rattle.base_blocks.specs.Lists.{all}
use Rattle.base_blocks.proofs.Listed.{left_all, all_more, all_stop, all_done}
use Rattle.pool_memory.specs.IsPool.{is_spare}
use Rattle.pool_formed_textures.specs.Textures.{model_spare_at}
use Rattle.pool_formed_textures.proofs.SpareTests.{spare_fits, spare_holds_more, spare_parked_late}
use Rattle.pool_formed_textures.proofs.spares_fit.spares_fit.Goals as goal

pub loop-k-init : goal.loop-k-init
loop-k-init c = ap (all is_spare) (left_all (model_spare_at _) _)

pub returns-then-spares-k : goal.returns-then-spares-k
returns-then-spares-k c =
    let a = c.args in
    let s = a.spares.now in
    sym (all_stop (model_spare_at s) a.n is_spare c.loop-k.k c.loop-k-test.true (spare_holds_more s c.loop-k.k c.if-spares-k.true)) ∙ c.loop-k.invariant

pub returns-then-spares-k-gt-LIMIT : goal.returns-then-spares-k-gt-LIMIT
returns-then-spares-k-gt-LIMIT c =
    let a = c.args in
    let s = a.spares.now in
    sym (all_stop (model_spare_at s) a.n is_spare c.loop-k.k c.loop-k-test.true (spare_parked_late s c.loop-k.k c.if-spares-k-gt-LIMIT.true)) ∙ c.loop-k.invariant

pub loop-k-preserved : goal.loop-k-preserved
loop-k-preserved c =
    let a = c.args in
    let s = a.spares.now in
    let ok = spare_fits s c.loop-k.k c.if-spares-k.false c.if-spares-k-gt-LIMIT.false in
    sym (all_more (model_spare_at s) a.n is_spare c.loop-k.k c.loop-k-test.true ok) ∙ c.loop-k.invariant

pub returns : goal.returns
returns c =
    let a = c.args in
    sym (all_done (model_spare_at a.spares.now) a.n is_spare c.loop-k.k (omega arith)) ∙ c.loop-k.invariant
