-- Rule: What a plan's answer says.
use Rattle.std.specs.Prelude.{ℕ, Result, Ok, Err}
use Rattle.grid_shapes.specs.declared.refusal.Refusal.{Refusal}
use Rattle.grid_shapes.specs.Outcomes.{number_of}
use Rattle.pool_memory.specs.Calls.{Told, refused_with, answer}

-- how many copies, or 01's number of a refusal
abbrev pub planned_told : Result ℕ Refusal → Told ℕ
planned_told (Ok n) = answer n
planned_told (Err r) = refused_with (number_of r)
