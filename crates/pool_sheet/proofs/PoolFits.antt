-- In a pool no number of a sheet is wider than its column: no texture's, and no total. Assumes nothing.
use mathlib.Core.Path.{◌≡◌, sym, ◌∙◌}
use mathlib.Core.List.{List, ◌∷◌, map}
use Prim.Native.Nat.{ℕ, ◌*◌, ◌^◌, ◌≤◌, ◌<◌}
use native.Mathlib.Nat.{mul-le-mul_right, mul-add}
use native.Mathlib.Omega.{arith}
use lib.ListN.{length}
use Rattle.base_blocks.specs.Lists.{total}
use Rattle.base_blocks.specs.All.{All, nil, cons}
use Rattle.grid_shapes.specs.ShapeConstants.{most_shape_bytes}
use Rattle.grid_shapes.proofs.Shapes.{shape_bounds}
use Rattle.grid_shapes.proofs.ShapeBytes.{bytes_bound}
use Rattle.pool_rules.specs.Model.{VersionState, PoolModel, spare_bytes}
use Rattle.pool_rules.specs.Formed.{StateFormed, Formed}
use Rattle.pool_rules.specs.RuleConstants.{most_places}
use Rattle.pool_memory.proofs.Parts.{total_mapped}
use Rattle.pool_sheet.specs.declared.fields.SheetFields.{SheetFields}
use Rattle.pool_sheet.specs.Sheet.{state_fields, pool_fields, all_spares, all_parked}
use Rattle.pool_sheet.specs.Records.{FieldsFit}

module _ {W : Type 0} where
  abbrev spare_count : VersionState W → ℕ
  spare_count t = length t.spares

  -- the bytes of a texture's spares: at most 2^44 for each
  spares_bytes : (t : VersionState W) → StateFormed t → spare_bytes t ≤ most_shape_bytes * spare_count t
  spares_bytes t f = mul-le-mul_right (spare_count t) (bytes_bound t.shape f.shape)

  all_bytes : {ts : List (VersionState W)} → All StateFormed ts → total spare_bytes ts ≤ most_shape_bytes * total spare_count ts
  unfolding total
  all_bytes nil = omega arith
  all_bytes {ts = t ∷ ts} (cons f fs) =
      let one = spares_bytes t f in
      let rest = all_bytes fs in
      let sum = mul-add most_shape_bytes (spare_count t) (total spare_count ts) in
      omega (arith, one, rest, sum)

  state_fits : (t : VersionState W) → StateFormed t → spare_count t ≤ most_places → FieldsFit (state_fields t)
  state_fits t f few =
      let s = shape_bounds t.shape f.shape in
      let b = spares_bytes t f in
      record {
        kind = omega (arith, s.kind);
        levels = omega (arith, s.levels_bound);
        spares = omega (arith, few);
        parked = omega (arith, b, few);
        last = omega (arith, f.rename);
      }

  states_fit : {ts : List (VersionState W)} → All StateFormed ts → total spare_count ts ≤ most_places → All FieldsFit (map state_fields ts)
  unfolding total
  states_fit nil few = nil
  states_fit {ts = t ∷ ts} (cons f fs) few = cons (state_fits t f (omega (arith, few))) (states_fit fs (omega (arith, few)))

  module _ (p : PoolModel W) (f : Formed p) where
    pub spares_most : total spare_count p.textures ≤ most_places
    spares_most = omega (arith, f.versions, f.most)

    pub pool_fields_fit : All FieldsFit (pool_fields p)
    unfolding pool_fields
    pool_fields_fit = states_fit f.textures spares_most

    -- the totals that are printed are those of the pool
    pub spares_told : all_spares (pool_fields p) ≡ total spare_count p.textures
    unfolding pool_fields
    spares_told = sym (total_mapped state_fields (λ (g : SheetFields). g.spares) p.textures)

    pub parked_told : all_parked (pool_fields p) ≡ p.parked
    unfolding pool_fields
    parked_told = sym (total_mapped state_fields (λ (g : SheetFields). g.parked) p.textures) ∙ sym f.parked

    pub spares_fit : all_spares (pool_fields p) < 10 ^ 4
    spares_fit = omega (arith, spares_told, spares_most)

    pub parked_fits : all_parked (pool_fields p) < 10 ^ 19
    parked_fits = omega (arith, parked_told, f.parked, all_bytes f.textures, spares_most)
