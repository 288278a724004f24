-- `spares_between` meets its contract: the sum so far is what the records up to j have beyond the first `from`. Assumes nothing.
use mathlib.Core.Path.{◌≡◌}
use mathlib.Core.List.{List}
use Prim.Native.Nat.{ℕ, ◌+◌}
use Rattle.base_blocks.specs.Lists.{total}
use Rattle.pool_records.specs.declared.texture.TextureRecord.{TextureRecord}
use Rattle.pool_records.specs.Texture.{textures_in}
use Rattle.pool_access.proofs.spare.spares_between.Given as goal

abbrev pub spares_of : TextureRecord → ℕ
spares_of t = t.spares

abbrev pub sum_to : List ℕ → ℕ → ℕ
sum_to s j = total spares_of (textures_in j s)

abbrev pub invariant-loop-j : goal.invariant-loop-j
invariant-loop-j l = sum_to l.textures l.from + l.sum ≡ sum_to l.textures l.j
