-- `nothing_aged` meets its contract: the loop stops at the first texture that a trim would not leave as it is. Assumes nothing.
use Rattle.pool_trim.proofs.YoungTextures.{YoungTo}
use Rattle.pool_trim.proofs.nothing_aged.nothing_aged.Given as goal

abbrev pub invariant-loop-i : goal.invariant-loop-i
invariant-loop-i l = YoungTo l.current l.textures l.spares l.tracked l.i l.first
