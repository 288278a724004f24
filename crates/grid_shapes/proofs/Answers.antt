-- The outcome of each public call, by the case that it is in.
use Prim.Native.Nat.{ℕ}
use mathlib.Core.Path.{◌≡◌}
use mathlib.Core.Bool.{true, false, cond}
use mathlib.Core.List.{[], ◌∷◌}
use Rattle.grid_shapes.specs.declared.shape.VersionShape.{VersionShape}
use Rattle.grid_shapes.specs.Outcomes.{accepted, refused}
use Rattle.grid_shapes.specs.Shapes.{is_shape, bytes_of, bytes_outcome, records_every_write, records_outcome}

pub bytes_refused : (s : VersionShape) → is_shape s ≡ false → bytes_outcome s ≡ refused 2
unfolding bytes_outcome
bytes_refused s e = rw e

pub bytes_accepted : (s : VersionShape) → is_shape s ≡ true → bytes_outcome s ≡ accepted (bytes_of s ∷ [])
unfolding bytes_outcome
bytes_accepted s e = rw e

pub records_refused : (s : VersionShape) (usage : ℕ) → is_shape s ≡ false → records_outcome s usage ≡ refused 2
unfolding records_outcome
records_refused s usage e = rw e

pub records_accepted : (s : VersionShape) (usage : ℕ) → is_shape s ≡ true → records_outcome s usage ≡ accepted (cond (records_every_write s usage) 1 0 ∷ [])
unfolding records_outcome
records_accepted s usage e = rw e
