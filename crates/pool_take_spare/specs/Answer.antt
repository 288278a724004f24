-- Rule: What an answer of take_spare says.
use Rattle.std.specs.Prelude.{Result, Ok, Err, Option as Maybe, Some, None}
use Rattle.std.proofs.Math.Option.{Option, none, some}
use Rattle.grid_shapes.specs.declared.refusal.Refusal.{Refusal}
use Rattle.grid_shapes.specs.Outcomes.{number_of}
use Rattle.pool_memory.specs.declared.answer.TakenVersion.{TakenVersion}
use Rattle.pool_memory.specs.Calls.{Told, refused_with, answer}

-- the spare's view number and held writes, no spare, or 01's number of a refusal
abbrev pub taken_told : Result (Maybe TakenVersion) Refusal → Told (Option TakenVersion)
taken_told (Ok (Some v)) = answer (some v)
taken_told (Ok None) = answer none
taken_told (Err r) = refused_with (number_of r)
