-- Where the rule of pages takes a history, the rule of stamps does: the stamps of a grid are no more than a page's. Assumes nothing.
use mathlib.Core.Path.{◌≡◌, refl, ap}
use mathlib.Core.Bool.{Bool, true, false, cond}
use mathlib.Core.Option.{Option, none, some, some-injective, none-ne-some}
use mathlib.Core.List.{List, [], ◌∷◌}
use Prim.Native.Nat.{ℕ, ◌+◌, ◌*◌, ◌≤◌}
use native.Mathlib.Omega.{arith}
use borrow.Author.Tests.{ltb-false, le-ltb}
use lib.Dec.{eqb}
use Rattle.base_blocks.specs.Lists.{total}
use Rattle.base_blocks.specs.All.{All, nil, cons}
use Rattle.grid_shapes.specs.declared.shape.VersionShape.{VersionShape}
use Rattle.grid_shapes.specs.Shapes.{is_shape}
use Rattle.grid_stamps.specs.StampConstants.{page_stamps}
use Rattle.pool_rules.specs.Model.{VersionState, PoolModel, find, grid_count, has_history, grids_used}
use Rattle.pool_rules.specs.HistorySizes.{history_size, stamps_used}
use Rattle.pool_rules.specs.Formed.{StateFormed, Formed}
use Rattle.pool_rules.proofs.HistorySizes.{history_bound}
use Rattle.pool_page_rule.specs.PageRule.{own_by, page_rule, stamp_rule}

module _ {W : Type 0} where
  -- a state's stamps fit a page for each of its grids
  used_bound : (t : VersionState W) → StateFormed t → stamps_used t ≤ page_stamps * grids_used t
  used_bound t f = go (has_history t.history)
    where
      go : (b : Bool) → cond b (history_size t.shape) 0 ≤ page_stamps * cond b (grid_count t.shape) 0
      go true = history_bound t.shape f.shape
      go false = omega arith

  total_used : (ts : List (VersionState W)) → All StateFormed ts → total stamps_used ts ≤ page_stamps * total grids_used ts
  unfolding total
  total_used [] nil = omega arith
  total_used (t ∷ ts) (cons f fs) = omega (arith, used_bound t f, total_used ts fs)

  -- and so do the others' once one's own are given back
  others_used : (id : ℕ) (t : VersionState W) (ts : List (VersionState W)) → All StateFormed ts → find id ts ≡ some t
      → total stamps_used ts + page_stamps * grids_used t ≤ page_stamps * total grids_used ts + stamps_used t
  unfolding find total
  others_used id t [] nil e = absurd (none-ne-some t e)
  others_used id t (u ∷ us) (cons f fs) e = go (eqb u.id id) refl (others_used id t us fs)
    where
      go : (b : Bool) → eqb u.id id ≡ b
          → (find id us ≡ some t → total stamps_used us + page_stamps * grids_used t ≤ page_stamps * total grids_used us + stamps_used t)
          → stamps_used u + total stamps_used us + page_stamps * grids_used t ≤ page_stamps * (grids_used u + total grids_used us) + stamps_used t
      go true q ih =
          let same : u ≡ t = some-injective u t (rw q at e) in
          omega (arith, ap stamps_used same, ap grids_used same, total_used us fs)
      go false q ih = omega (arith, ih (rw q at e), used_bound u f)

  module _ (p : PoolModel W) (f : Formed p) (shape : VersionShape) (shaped : is_shape shape ≡ true) (id : ℕ) where
    -- one's own stamps, and those of the rest
    own_used : (o : Option (VersionState W)) → find id p.textures ≡ o
        → total stamps_used p.textures + page_stamps * own_by grids_used o ≤ page_stamps * total grids_used p.textures + own_by stamps_used o
    own_used none e = omega (arith, total_used p.textures f.textures)
    own_used (some t) e = others_used id t p.textures f.textures e

    pub rule_weaker : (records : Bool) (o : Option (VersionState W)) → find id p.textures ≡ o
        → page_rule p shape records o ≡ false → stamp_rule p shape records o ≡ false
    rule_weaker false o e h = refl
    rule_weaker true o e h =
        let a = ltb-false (p.places.pages + own_by grids_used o) (total grids_used p.textures + grid_count shape) h in
        let b = own_used o e in
        let c = history_bound shape shaped in
        le-ltb (page_stamps * p.places.pages + own_by stamps_used o) (total stamps_used p.textures + history_size shape) (omega (arith, a, b, c))
