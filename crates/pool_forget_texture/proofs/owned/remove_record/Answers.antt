-- `remove_record` meets its contract: the record is taken out, and then the starts of those behind it are lowered. Assumes nothing.
use mathlib.Core.Path.{ap, ◌∙◌}
use mathlib.Core.List.{List}
use Prim.Native.Nat.{ℕ, ◌-◌}
use Rattle.pool_records.specs.Starts.{less_by, starts_moved}
use Rattle.pool_forget_texture.specs.Owned.{without_record}
use Rattle.pool_forget_texture.proofs.owned.remove_record.Goals as goal

pub returns : goal.returns
unfolding without_record
returns c =
    let a = c.args in
    c.move_starts.ensures
    ∙ ap (λ (s : List ℕ). starts_moved (less_by a.own.grids) (less_by a.own.stamps) a.i (a.n - 1) s) c.remove_texture.ensures
