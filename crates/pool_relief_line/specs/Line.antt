-- Helper: Relief without sorting. Spares in order of parking number, then id, are picked until the bytes cover the excess; so one parking number is the
-- line, before which all are picked and after which none is. Of those parked at the line the textures give in ascending id.
use Rattle.std.specs.Prelude.{ℕ, suc, ◌+◌, ◌≤◌, ◌<◌, Bool, cond, ◌⊎◌, List, [], ◌∷◌, leb, ltb, eqb}
use Rattle.base_blocks.specs.Lists.{keep, total}
use Rattle.pool_rules.specs.Model.{Spare, limit}
use Rattle.pool_rules.specs.NoteAllocated.{Aged, picked}

abbrev pub bytes_of_aged : Aged → ℕ
bytes_of_aged a = a.bytes

abbrev pub is_before : ℕ → Aged → Bool
is_before line a = ltb a.parked line

abbrev pub is_at : ℕ → Aged → Bool
is_at line a = eqb a.parked line

-- bytes of the spares parked before a line
unfoldable pub bytes_before : ℕ → List Aged → ℕ
bytes_before line xs = total bytes_of_aged (keep (is_before line) xs)

-- the last line such that what is parked before it does not cover the excess; `below` says how many bytes are parked before a line
pub record IsLine (dooming excess : ℕ) (below : ℕ → ℕ) (line : ℕ) : Type 0 where
  pub short : dooming + below line < excess
  pub last : (excess ≤ dooming + below (suc line)) ⊎ (limit < line)

-- the bytes freed by what is parked before the line and by those picked among some at it
unfoldable pub freed_with : ℕ → ℕ → List Aged → ℕ
freed_with freed excess xs = freed + total bytes_of_aged (picked freed excess xs)

-- ---- one texture, whose spares have these parking numbers and that many bytes each

abbrev pub parked_of : {W : Type 0} → Spare W → ℕ
parked_of s = s.parked

-- how many are parked before the line
unfoldable pub count_before : ℕ → List ℕ → ℕ
count_before line ps = total (λ (p : ℕ). cond (ltb p line) 1 0) ps

-- how many of those at the line it takes to cover the excess, if as many are there
unfoldable pub taken_at : ℕ → ℕ → ℕ → ℕ → List ℕ → ℕ
taken_at freed excess bytes line [] = 0
taken_at freed excess bytes line (p ∷ ps) =
    cond (leb excess freed) 0 (cond (eqb p line) (suc (taken_at (freed + bytes) excess bytes line ps)) (taken_at freed excess bytes line ps))

-- how many it gives: `freed` is what those before the line, and the textures before this one, have freed
unfoldable pub gives : ℕ → ℕ → ℕ → ℕ → List ℕ → ℕ
gives freed excess bytes line ps = count_before line ps + taken_at freed excess bytes line ps
