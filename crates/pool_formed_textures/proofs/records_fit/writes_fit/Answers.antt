-- `writes_fit` meets its contract. Assumes nothing.
use mathlib.Core.Path.{sym, ap}
use Rattle.pool_formed_textures.specs.Textures.{writes_fit}
use Rattle.pool_formed_textures.proofs.records_fit.writes_fit.Goals as goal

pub returns-in-Some : goal.returns-in-Some
returns-in-Some c = sym (ap writes_fit c.in-Some.is)
