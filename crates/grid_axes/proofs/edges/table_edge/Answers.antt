-- One entry of the table of a block edge. The rule is tested over the whole table, by computation (`refl`). Assumes nothing.
use mathlib.Core.Path.{◌≡◌, refl, sym, ap, ◌∙◌}
use mathlib.Core.Logic.{⊎_elim}
use Prim.Native.Nat.{ℕ}
use Rattle.base_blocks.specs.Lists.{ceil_div, listed, all, tests, after}
use Rattle.grid_axes.specs.EdgeTables.{is_edge_table, entry_of, edge_at}
use Rattle.grid_axes.proofs.EdgeTables.{entry_read, block_cases}
use Rattle.grid_axes.proofs.edges.table_edge.Goals as goal

pub returns-then-block-eq1 : goal.returns-then-block-eq1
returns-then-block-eq1 c =
    let k = c.args.k in
    entry_read 1 _ _ _ c.entry_of.ensures (unfold is_edge_table entry_of edge_at ceil_div all listed tests after in refl) c.requires.1 ∙ ap (λ (b : ℕ). edge_at b k) (sym c.if-block-eq1.true)

pub returns : goal.returns
returns c =
    let k = c.args.k in
    let four : c.args.block ≡ 4 = ⊎_elim (λ e. absurd (c.if-block-eq1.false e)) (λ e. e) (block_cases _ c.requires.0) in
    entry_read 4 _ _ _ c.entry_of-2.ensures (unfold is_edge_table entry_of edge_at ceil_div all listed tests after in refl) c.requires.1 ∙ ap (λ (b : ℕ). edge_at b k) (sym four)
