-- `look_at` meets its contract: each number is what its part answers. Assumes nothing.
use mathlib.Core.Path.{sym, ap, ap₂, ◌∙◌}
use mathlib.Core.Bool.{true, false}
use Prim.Native.Nat.{ℕ, ◌-◌}
use native.Mathlib.Omega.{arith}
use Rattle.base_blocks.specs.Lists.{listed}
use Rattle.pool_records.specs.Texture.{texture_in}
use Rattle.pool_rules.specs.Trim.{aged_count}
use Rattle.pool_access.proofs.Fields.{spares_number}
use Rattle.pool_trim.specs.LookAt.{spare_in, look_at}
use Rattle.pool_trim.proofs.Ages.{bytes_read, grid_number, stamp_number}
use Rattle.pool_trim.proofs.Looks.{look_made}
use Rattle.pool_trim.proofs.look_at.look_at.Goals as goal

pub aged_count-aged-requires : goal.aged_count-aged-requires
aged_count-aged-requires c =
    omega (arith, c.requires, spares_number c.args.textures.now c.args.i)

pub overflow_sub-grids : goal.overflow_sub-grids
overflow_sub-grids c =
    omega (arith, c.grid_end.ensures, grid_number c.args.textures.now c.args.i, c.requires)

pub overflow_sub-stamps : goal.overflow_sub-stamps
overflow_sub-stamps c =
    omega (arith, c.stamp_end.ensures, stamp_number c.args.textures.now c.args.i, c.requires)

pub returns-then-is_idle : goal.returns-then-is_idle
unfolding look_at
returns-then-is_idle c =
    let a = c.args in
    let own = spares_number a.textures.now a.i in
    let grid = grid_number a.textures.now a.i in
    let stamp = stamp_number a.textures.now a.i in
    look_made a.current (texture_in a.textures.now a.i) (aged_count a.current (listed (spare_in a.spares.now) a.first (texture_in a.textures.now a.i).spares))
    _ _ _ _ _ _ _ _ _ _ true own
    (c.aged_count-aged.ensures.1 ∙ ap (λ (m : ℕ). aged_count a.current (listed (spare_in a.spares.now) a.first m)) own)
    grid (ap₂ (λ (m k : ℕ). m - k) c.grid_end.ensures grid)
    stamp (ap₂ (λ (m k : ℕ). m - k) c.stamp_end.ensures stamp)
    c.due_after-due.ensures (bytes_read a.textures.now a.i)
    (sym c.if-is_idle.true ∙ c.is_idle.ensures)

pub returns : goal.returns
unfolding look_at
returns c =
    let a = c.args in
    let own = spares_number a.textures.now a.i in
    let grid = grid_number a.textures.now a.i in
    let stamp = stamp_number a.textures.now a.i in
    look_made a.current (texture_in a.textures.now a.i) (aged_count a.current (listed (spare_in a.spares.now) a.first (texture_in a.textures.now a.i).spares))
    _ _ _ _ _ _ _ _ _ _ false own
    (c.aged_count-aged.ensures.1 ∙ ap (λ (m : ℕ). aged_count a.current (listed (spare_in a.spares.now) a.first m)) own)
    grid (ap₂ (λ (m k : ℕ). m - k) c.grid_end.ensures grid)
    stamp (ap₂ (λ (m k : ℕ). m - k) c.stamp_end.ensures stamp)
    c.due_after-due.ensures (bytes_read a.textures.now a.i)
    (sym c.if-is_idle.false ∙ c.is_idle.ensures)
