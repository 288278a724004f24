-- Textures that keep their ids, shapes and histories have the grids and the stamps that they had. Assumes nothing.
use mathlib.Core.Path.{◌≡◌, sym, ap, ◌∙◌}
use mathlib.Core.Bool.{cond}
use mathlib.Core.Option.{Option}
use mathlib.Core.List.{List, map, flat_map}
use Prim.Native.Nat.{ℕ, ◌*◌}
use Rattle.base_blocks.specs.Lists.{total}
use Rattle.grid_shapes.specs.declared.shape.VersionShape.{VersionShape}
use Rattle.grid_stamps.specs.Grids.{StampGrid}
use Rattle.pool_rules.specs.Model.{WriteHistory, VersionState, has_history, grid_count}
use Rattle.pool_rules.specs.HistorySizes.{history_size, newest_used, stamps_used}
use Rattle.pool_rules.specs.RuleConstants.{grid_stride}
use Rattle.pool_memory.specs.Writing.{grids_of, newest_from, newest_of, stamps_of}
use Rattle.pool_memory.proofs.Parts.{flat_mapped, total_mapped}

-- what the grids of a texture depend on
pub record KeptHistory : Type 0 where
  pub id : ℕ
  pub shape : VersionShape
  pub history : Option WriteHistory

abbrev pub kept_history : VersionState ℕ → KeptHistory
kept_history t = record { id = t.id; shape = t.shape; history = t.history }

abbrev newest_in : KeptHistory → List ℕ
newest_in t = newest_from t.shape 0 (grids_of t.history)

pub newest_kept : (ts us : List (VersionState ℕ)) → map kept_history ts ≡ map kept_history us → flat_map newest_of ts ≡ flat_map newest_of us
newest_kept ts us e = flat_mapped kept_history newest_in ts ∙ ap (flat_map newest_in) e ∙ sym (flat_mapped kept_history newest_in us)

abbrev stamps_in : KeptHistory → List ℕ
stamps_in t = flat_map (λ (g : StampGrid). g.stamps) (grids_of t.history)

pub stamps_kept : (ts us : List (VersionState ℕ)) → map kept_history ts ≡ map kept_history us → flat_map stamps_of ts ≡ flat_map stamps_of us
stamps_kept ts us e = flat_mapped kept_history stamps_in ts ∙ ap (flat_map stamps_in) e ∙ sym (flat_mapped kept_history stamps_in us)

abbrev used_in : KeptHistory → ℕ
used_in t = cond (has_history t.history) (grid_stride * grid_count t.shape) 0

pub grids_kept : (ts us : List (VersionState ℕ)) → map kept_history ts ≡ map kept_history us → total newest_used ts ≡ total newest_used us
grids_kept ts us e = total_mapped kept_history used_in ts ∙ ap (total used_in) e ∙ sym (total_mapped kept_history used_in us)

abbrev stamps_used_in : KeptHistory → ℕ
stamps_used_in t = cond (has_history t.history) (history_size t.shape) 0

pub stamps_used_kept : (ts us : List (VersionState ℕ)) → map kept_history ts ≡ map kept_history us → total stamps_used ts ≡ total stamps_used us
stamps_used_kept ts us e = total_mapped kept_history stamps_used_in ts ∙ ap (total stamps_used_in) e ∙ sym (total_mapped kept_history stamps_used_in us)
