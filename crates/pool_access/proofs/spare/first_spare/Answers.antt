-- `first_spare` meets its contract: the first i and those from i on have `kept`. Assumes nothing.
use mathlib.Core.Path.{◌≡◌, ap}
use mathlib.Core.List.{List}
use mathlib.Core.Logic.{◌⊎◌, ⊎_elim}
use Prim.Native.Nat.{ℕ, ◌+◌, ◌≤◌, ◌<◌}
use native.Mathlib.Omega.{arith}
use Rattle.base_blocks.specs.Lists.{total}
use Rattle.pool_records.specs.declared.texture.TextureRecord.{TextureRecord}
use Rattle.pool_records.specs.Texture.{read_texture, textures_in}
use Rattle.pool_access.proofs.Totals.{total_none, total_first}
use Rattle.pool_records.specs.RecordConstants.{texture_stride}
use Rattle.pool_access.proofs.spare.first_spare.Goals as goal

abbrev spares_of : TextureRecord → ℕ
spares_of t = t.spares

abbrev sum_to : List ℕ → ℕ → ℕ
sum_to s k = total spares_of (textures_in k s)

abbrev Near : ℕ → ℕ → ℕ → ℕ → Type 0
Near n i from to = ((from ≡ 0) × (to ≡ i)) ⊎ ((from ≡ i) × (to ≡ n) × (0 < i))

module _ (s : List ℕ) (n i from to : ℕ) (near : Near n i from to) (inside : i ≤ n) where
  near_fits : (to ≤ n) × (from ≤ to)
  near_fits = ⊎_elim (λ w. (omega (arith, w), omega (arith, w))) (λ w. (omega (arith, w), omega (arith, w))) near

  module _ (sum kept : ℕ) (between : sum_to s from + sum ≡ sum_to s to) (whole : sum_to s n ≡ kept) where
    near_front : from ≡ 0 → sum ≡ sum_to s i
    near_front z =
        ⊎_elim
        (λ w. omega (arith, between, ap (sum_to s) w.0, total_none texture_stride read_texture spares_of s, ap (sum_to s) w.1))
        (λ w. absurd (let y : ⊥ = omega (arith, z, w.0, w.2) in y))
        near

    near_back : (from ≡ 0 → ⊥) → sum_to s i + sum ≡ kept
    near_back z = ⊎_elim (λ w. absurd (z w.0)) (λ w. omega (arith, between, ap (sum_to s) w.0, ap (sum_to s) w.1, whole)) near

pub spares_between-sum-requires : goal.spares_between-sum-requires
spares_between-sum-requires c =
    let a = c.args in
    let m = near_fits a.textures.now a.n a.i _ _ c.fewer-near.ensures c.requires.1 in
    (omega (arith, m.0, c.requires.0), m.1, omega (arith, c.requires.2, c.requires.3, total_first texture_stride read_texture spares_of a.textures.now _ a.n m.0))

pub returns-then-near-eq0 : goal.returns-then-near-eq0
returns-then-near-eq0 c =
    let a = c.args in
    near_front a.textures.now a.n a.i _ _ c.fewer-near.ensures c.requires.1 _ a.kept c.spares_between-sum.ensures c.requires.2 c.if-near-eq0.true

pub overflow_sub-result : goal.overflow_sub-result
overflow_sub-result c =
    let a = c.args in
    omega (arith, near_back a.textures.now a.n a.i _ _ c.fewer-near.ensures c.requires.1 _ a.kept c.spares_between-sum.ensures c.requires.2 c.if-near-eq0.false)

pub returns : goal.returns
returns c =
    let a = c.args in
    omega (arith, near_back a.textures.now a.n a.i _ _ c.fewer-near.ensures c.requires.1 _ a.kept c.spares_between-sum.ensures c.requires.2 c.if-near-eq0.false)
