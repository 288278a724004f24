-- Rule: What the answer of a pop says: 01's number, and the values of an accepted one.
use Rattle.std.specs.Prelude.{Result, Ok, Err, Option as Maybe, Some, None}
use Rattle.std.proofs.Math.Option.{Option, none, some}
use Rattle.grid_shapes.specs.declared.refusal.Refusal.{Refusal}
use Rattle.grid_shapes.specs.Outcomes.{number_of}
use Rattle.pool_memory.specs.declared.answer.PoppedVersion.{PoppedVersion}
use Rattle.pool_memory.specs.Calls.{Told, refused_with, answer}

abbrev pub popped_told : Result (Maybe PoppedVersion) Refusal → Told (Option PoppedVersion)
popped_told (Ok (Some v)) = answer (some v)
popped_told (Ok None) = answer none
popped_told (Err r) = refused_with (number_of r)
