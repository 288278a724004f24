-- `trim` meets its contract: late submissions are refused, where nothing has aged all is left as it is, and otherwise its pass leaves the
-- call's memory. Assumes nothing.
use native.Mathlib.Omega.{arith}
use Rattle.pool_memory.specs.Lent.{lent}
use Rattle.pool_memory.proofs.FromPool.{pool_fits}
use Rattle.pool_memory.proofs.Stays.{textures_fit_lem, spares_fit}
use Rattle.pool_trim.proofs.TrimCalls.{trim_done, trim_nothing, trim_late}
use Rattle.pool_trim.proofs.calls.trim.trim.Goals as goal

pub returns-then-current-gt-LIMIT : goal.returns-then-current-gt-LIMIT
returns-then-current-gt-LIMIT c =
    let a = c.args in
    trim_late (lent a.pool a.book a.textures.now a.retiring.now a.doomed.now a.spares.now a.newest.now a.stamps.now) c.requires a.current c.if-current-gt-LIMIT.true

pub nothing_aged-requires : goal.nothing_aged-requires
nothing_aged-requires c =
    let a = c.args in
    let l = lent a.pool a.book a.textures.now a.retiring.now a.doomed.now a.spares.now a.newest.now a.stamps.now in
    let f = pool_fits l c.requires in
    (textures_fit_lem l f, spares_fit l f)

pub returns-then-nothing_aged : goal.returns-then-nothing_aged
returns-then-nothing_aged c =
    let a = c.args in
    trim_nothing (lent a.pool a.book a.textures.now a.retiring.now a.doomed.now a.spares.now a.newest.now a.stamps.now) c.requires a.current (omega (arith, c.if-current-gt-LIMIT.false)) c.nothing_aged.ensures c.if-nothing_aged.true

pub returns : goal.returns
returns c =
    let a = c.args in
    trim_done (lent a.pool a.book a.textures.now a.retiring.now a.doomed.now a.spares.now a.newest.now a.stamps.now) c.requires a.current (omega (arith, c.if-current-gt-LIMIT.false)) _ c.trim_textures-counts.ensures
