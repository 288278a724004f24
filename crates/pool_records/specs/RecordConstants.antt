-- Rule: How many numbers each record has, and where in it the fields stand that the code reads by themselves.
use Rattle.std.specs.Prelude.{ℕ}

-- The numbers of a texture's record.
abbrev pub texture_stride : ℕ
texture_stride = 22

-- The numbers of a retiring version's record.
abbrev pub retiring_stride : ℕ
retiring_stride = 7

-- The numbers of a spare's record.
abbrev pub spare_stride : ℕ
spare_stride = 3

-- The numbers of a doomed version's record.
abbrev pub doomed_stride : ℕ
doomed_stride = 2

-- Where a texture's record has its levels.
abbrev pub texture_levels_at : ℕ
texture_levels_at = 5

-- Where a texture's record has its kind.
abbrev pub texture_kind_at : ℕ
texture_kind_at = 6

-- Where a texture's record has its history: 0 for none, or the writes and one.
abbrev pub texture_history_at : ℕ
texture_history_at = 14

-- Where a texture's record has the submission of its last rename.
abbrev pub texture_rename_at : ℕ
texture_rename_at = 16

-- Where a texture's record has the submission that it is looked at again from.
abbrev pub texture_due_at : ℕ
texture_due_at = 17

-- Where a texture's record has how many spares it has.
abbrev pub texture_spares_at : ℕ
texture_spares_at = 18

-- Where a texture's record has the bytes of one version.
abbrev pub texture_bytes_at : ℕ
texture_bytes_at = 19

-- Where a texture's record has where its history begins in `newest`.
abbrev pub texture_grid_at : ℕ
texture_grid_at = 20

-- Where a texture's record has the first of its history's stamps.
abbrev pub texture_stamp_at : ℕ
texture_stamp_at = 21

-- Where a spare's record has the writes that it holds: 0 for unknown, or the count and one.
abbrev pub spare_held_at : ℕ
spare_held_at = 1

-- Where a spare's record has the submission that it was parked in.
abbrev pub spare_parked_at : ℕ
spare_parked_at = 2

-- Where a doomed version's record has its bytes.
abbrev pub doomed_bytes_at : ℕ
doomed_bytes_at = 1

-- Where in its history a grid begins is below this: 2^17, and a history has at most 92,160 stamps.
abbrev pub start_span : ℕ
start_span = 131072

-- A tile's edge is below this: 2^15, and no edge passes 16,384.
abbrev pub edge_span : ℕ
edge_span = 32768

-- What an edge down counts for in a grid's tiling: 2^32, above the start and the edge across.
abbrev pub down_unit : ℕ
down_unit = 4294967296
