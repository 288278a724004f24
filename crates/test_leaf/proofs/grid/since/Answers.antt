-- A grid of a good tiling has at most 1,024 stamps, as many as the page. Assumes nothing.
use native.Mathlib.Omega.{arith}
use Rattle.grid_stamps.proofs.Tilings.{count_bound}
use Rattle.test_leaf.proofs.grid.since.Goals as goal

pub stamp_all-requires : goal.stamp_all-requires
stamp_all-requires c =
    let p = c.requires in
    record {
      tiling_ok = (p.tiling_ok, omega (arith, count_bound c.args.tiling p.tiling_ok));
      fields_len_bound = p.fields_len_bound;
    }

pub written_since-requires : goal.written_since-requires
written_since-requires c =
    let x = c.requires.tiling_ok in
    let k = c.stamp_all.auto.page in
    (x, omega (arith, k, count_bound c.args.tiling x))
