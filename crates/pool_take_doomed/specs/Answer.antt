-- Rule: What an answer of the calls that hand versions back says.
use Rattle.std.specs.Prelude.{ℕ, Result, Ok, Err}
use Rattle.grid_shapes.specs.declared.refusal.Refusal.{Refusal}
use Rattle.grid_shapes.specs.Outcomes.{number_of}
use Rattle.pool_memory.specs.Calls.{Told, refused_with, answer}

-- how many views, or 01's number of a refusal
abbrev pub handed_told : Result ℕ Refusal → Told ℕ
handed_told (Ok n) = answer n
handed_told (Err r) = refused_with (number_of r)
