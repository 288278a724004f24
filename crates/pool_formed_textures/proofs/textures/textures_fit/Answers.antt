-- `textures_fit` meets its contract: each test refuses by itself, and the last decides. Assumes nothing.
use mathlib.Core.Path.{sym, ◌∙◌}
use native.Mathlib.Omega.{arith}
use borrow.Author.Tests.{not-true, not-false}
use Rattle.pool_formed_textures.specs.Textures.{textures_fit}
use Rattle.pool_formed_textures.proofs.Tests.{fails}
use Rattle.pool_formed_textures.proofs.TextureTests.{claimed_spares, textures_last, parked_other}
use Rattle.pool_formed_textures.proofs.textures.textures_fit.Goals as goal

pub returns-then-not-ids_ascend : goal.returns-then-not-ids_ascend
unfolding textures_fit
returns-then-not-ids_ascend c = sym (fails _ 0 (sym c.ids_ascend.ensures ∙ not-true _ c.if-not-ids_ascend.true-raw))

pub returns-then-not-records_fit : goal.returns-then-not-records_fit
unfolding textures_fit
returns-then-not-records_fit c = sym (fails _ 1 (sym c.records_fit.ensures ∙ not-true _ c.if-not-records_fit.true-raw))

pub runs_fit-requires : goal.runs_fit-requires
runs_fit-requires c = c.requires.0

pub returns-then-not-runs_fit : goal.returns-then-not-runs_fit
unfolding textures_fit
returns-then-not-runs_fit c = sym (fails _ 2 (sym c.runs_fit.ensures ∙ not-true _ c.if-not-runs_fit.true-raw))

pub spares_fit-requires : goal.spares_fit-requires
spares_fit-requires c = c.requires.1

pub returns-then-not-spares_fit : goal.returns-then-not-spares_fit
unfolding textures_fit
returns-then-not-spares_fit c = sym (fails _ 3 (sym c.spares_fit.ensures ∙ not-true _ c.if-not-spares_fit.true-raw))

pub parked_bytes-requires : goal.parked_bytes-requires
parked_bytes-requires c =
    let runs = sym c.runs_fit.ensures ∙ not-false _ c.if-not-runs_fit.false-raw in
    (c.requires.0, sym c.records_fit.ensures ∙ not-false _ c.if-not-records_fit.false-raw, omega (arith, claimed_spares _ _ runs, c.requires.2))

pub returns-then-pool-parked_bytes : goal.returns-then-pool-parked_bytes
unfolding textures_fit
returns-then-pool-parked_bytes c = sym (fails _ 4 (parked_other _ _ _ c.parked_bytes.ensures c.if-pool-parked_bytes.true))

pub histories_fit-requires : goal.histories_fit-requires
histories_fit-requires c =
    let p = c.requires in
    (p.0, sym c.records_fit.ensures ∙ not-false _ c.if-not-records_fit.false-raw, p.3, p.4)

pub returns : goal.returns
returns c =
    c.histories_fit.ensures
    ∙ textures_last _ _ _ _ _
    (sym c.ids_ascend.ensures ∙ not-false _ c.if-not-ids_ascend.false-raw)
    (sym c.records_fit.ensures ∙ not-false _ c.if-not-records_fit.false-raw)
    (sym c.runs_fit.ensures ∙ not-false _ c.if-not-runs_fit.false-raw)
    (sym c.spares_fit.ensures ∙ not-false _ c.if-not-spares_fit.false-raw)
    (c.if-pool-parked_bytes.false ∙ c.parked_bytes.ensures)
