-- Helper: The numbers that have a name, each with its reason.
use Rattle.std.specs.Prelude.{ℕ}

-- What is lent at most; a list is lent as much of it as its first line asks for. The textures, versions and pages are those of the large event program.
abbrev pub most_textures : ℕ
most_textures = 64

abbrev pub most_versions : ℕ
most_versions = 2000

abbrev pub most_pages : ℕ
most_pages = 256

-- As many entries as there may be versions (01), so that an answer of any length can be asked for.
abbrev pub most_entries : ℕ
most_entries = 4096
