-- `bytes_before` meets its contract: one texture's spares after the other's. Assumes nothing.
use mathlib.Core.Path.{◌≡◌}
use Prim.Native.Nat.{◌+◌, ◌≤◌}
use Rattle.base_blocks.specs.Lists.{total}
use Rattle.base_blocks.proofs.Listed.{left}
use Rattle.base_tables.specs.Records.{record_at}
use Rattle.pool_records.specs.Texture.{read_texture, textures_in, record_spares, record_bytes}
use Rattle.pool_relief_line.specs.Parked.{bytes_from, most_version_bytes}
use Rattle.pool_records.specs.RecordConstants.{texture_stride}
use Rattle.pool_relief_line.proofs.line.bytes_before.Given as goal

abbrev pub invariant-loop-i : goal.invariant-loop-i
invariant-loop-i l =
    (l.from + total record_spares (left (record_at texture_stride read_texture l.textures) l.n l.i) ≡ total record_spares (textures_in l.n l.textures))
    × (l.sum + total record_bytes (left (record_at texture_stride read_texture l.textures) l.n l.i) ≤ most_version_bytes)
    × (l.sum + bytes_from l.spares l.line l.from (left (record_at texture_stride read_texture l.textures) l.n l.i) ≡ bytes_from l.spares l.line 0 (textures_in l.n l.textures))
