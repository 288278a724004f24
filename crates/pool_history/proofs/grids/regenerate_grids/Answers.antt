-- `regenerate_grids` meets its contract: grid by grid, each beginning where the one before it ends. Assumes nothing.
use mathlib.Core.Path.{refl, sym, ◌∙◌, subst}
use Prim.Native.Nat.{ℕ, ◌<◌}
use native.Mathlib.Omega.{arith}
use mathlib.Core.List.{List}
use Rattle.pool_rules.specs.Model.{grid_count}
use Rattle.pool_rules.proofs.HistorySizes.{grid_first, start_after, grid_room, grids_most}
use Rattle.pool_records.specs.Tilings.{TilingsAt}
use Rattle.pool_records.proofs.Tilings.{edges_there}
use Rattle.pool_history.proofs.NewestWritten.{tilings_stay}
use Rattle.pool_history.proofs.Regenerated.{level_first, next_below, level_after, remade_none, newest_remade, stamps_remade}
use Rattle.pool_history.proofs.grids.regenerate_grids.Goals as goal

pub shape_grids-grids-requires : goal.shape_grids-grids-requires
shape_grids-grids-requires c = omega (arith, grids_most c.args.shape c.requires.0)

pub loop-k-init : goal.loop-k-init
loop-k-init c =
    let a = c.args in
    let e = remade_none a.shape c.requires.0 a.n a.newest.now a.stamps.now a.grid a.stamp in
    let f = level_first a.shape c.requires.0 in
    (f.0, f.1, omega (arith, grid_first a.shape), refl, refl, e.0, e.1)

pub regenerate_grid-at-requires : goal.regenerate_grid-at-requires
regenerate_grid-at-requires c =
    let a = c.args in
    let counted = c.shape_grids-grids.ensures in
    let more : c.loop-k.k < grid_count a.shape = omega (arith, counted) in
    let beside : TilingsAt c.loop-k.newest a.grid a.shape =
    subst (λ (xs : List ℕ). TilingsAt xs a.grid a.shape) (sym c.loop-k.invariant.5) (tilings_stay a.shape a.newest.now a.grid _ c.requires.2) in (
      c.requires.0,
      omega (arith, c.requires.1, c.loop-k.invariant.3, more),
      edges_there a.shape c.requires.0 c.loop-k.newest a.grid c.loop-k.k c.loop-k.level more beside c.loop-k.invariant.1,
      omega (arith, c.requires.3, c.loop-k.invariant.4, c.loop-k.invariant.2, grid_room a.shape c.loop-k.k c.loop-k.level more c.loop-k.invariant.1),
    )

pub loop-k-preserved : goal.loop-k-preserved
loop-k-preserved c =
    let a = c.args in
    let inv = c.loop-k.invariant in
    let counted = c.shape_grids-grids.ensures in
    let more : c.loop-k.k < grid_count a.shape = omega (arith, counted) in (
      next_below c.next_level-level.result c.loop-k.level a.shape.levels inv.0 c.next_level-level.ensures,
      c.next_level-level.ensures ∙ level_after c.loop-k.level c.loop-k.k a.shape.levels inv.1,
      omega (arith, c.regenerate_grid-at.ensures.0, inv.2, start_after a.shape c.loop-k.k c.loop-k.level more inv.1),
      c.regenerate_grid-at.auto.newest ∙ inv.3,
      c.regenerate_grid-at.auto.stamps ∙ inv.4,
      c.regenerate_grid-at.ensures.1
          ∙ newest_remade a.shape c.requires.0 a.n a.newest.now a.stamps.now a.grid a.stamp c.requires.3 c.loop-k.k more
          c.loop-k.newest c.loop-k.stamps c.loop-k.level c.loop-k.at inv.5 inv.6 inv.1 inv.2,
      c.regenerate_grid-at.ensures.2
          ∙ stamps_remade a.shape c.requires.0 a.n a.newest.now a.stamps.now a.grid a.stamp c.requires.3 c.loop-k.k more
          c.loop-k.newest c.loop-k.stamps c.loop-k.level c.loop-k.at inv.5 inv.6 inv.1 inv.2,
    )
