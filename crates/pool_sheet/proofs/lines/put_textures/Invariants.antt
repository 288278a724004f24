-- `put_textures` meets its contract: the lines of those before i are put. Assumes nothing.
use mathlib.Core.Path.{◌≡◌}
use Prim.Native.Nat.{◌+◌, ◌*◌}
use lib.ListN.{length}
use Rattle.base_digits.proofs.Puts.{PutTo}
use Rattle.pool_records.specs.Texture.{texture_in}
use Rattle.pool_sheet.specs.Records.{line_bytes, record_line}
use Rattle.pool_sheet.proofs.lines.put_textures.Given as goal

abbrev pub invariant-loop-i : goal.invariant-loop-i
invariant-loop-i l = (length l.out ≡ length l.initial.out) × PutTo record_line (texture_in l.textures) l.n l.initial.out l.at l.i l.out (l.at + line_bytes * l.i)
