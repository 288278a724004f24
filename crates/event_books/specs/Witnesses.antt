-- Rule: What is shown of a witness of demand 3, a text that meets the claim's hypothesis on the event program's stores.
use Rattle.std.specs.Prelude.{ℕ, ◌*◌, ◌≡◌, true, length, take}
use Prim.Native.String.{String}
use Rattle.std.proofs.Math.Option.{Option, none, some}
use mathlib.Core.List.{List, map, flat_map}
use Rattle.grid_stamps.specs.StampConstants.{page_stamps}
use Rattle.pool_rules.specs.RuleConstants.{grid_stride, most_grids}
use Rattle.pool_records.specs.RecordConstants.{texture_stride, retiring_stride, doomed_stride, spare_stride}
use Rattle.pool_memory.specs.MemoryConstants.{copy_stride}
use Rattle.pool_books.specs.ComputedBooks.{texel}
use Rattle.pool_books.specs.Sample.{sample_lent}
use Rattle.pool_books.specs.Texels.{Texel}
use Rattle.pool_books.specs.VersionBook.{Book, live_of}
use Rattle.event_lines.specs.declared.event.Event.{Event}
use Rattle.event_runs.specs.Texts.{text_output}
use Rattle.event_books.specs.Bytes.{bytes}
use Rattle.event_books.specs.EventLists.{Room, after_events, InRenames, AgreeThroughout, book_of, plain_of, events, fresh, Claim}

-- ---- the event program: "lends 8 textures, 64 versions, 6 pages, answers of 90 entries"

-- the lengths of its stores, in crates/event_program/src/main.rt: 176, 448, 128, 192, 1,440 and 6,144
pub record ProgramStores (textures retiring doomed spares newest stamps : List ℕ) : Type 0 where
  pub textures_are : length textures ≡ texture_stride * 8
  pub retiring_are : length retiring ≡ retiring_stride * 64
  pub doomed_are : length doomed ≡ doomed_stride * 64
  pub spares_are : length spares ≡ spare_stride * 64
  pub newest_are : length newest ≡ grid_stride * (most_grids * 8)
  pub stamps_are : length stamps ≡ page_stamps * 6

-- the lengths of its answer buffers, 630 and 90
abbrev pub program_copies : ℕ
program_copies = copy_stride * 90

abbrev pub program_views : ℕ
program_views = 90

abbrev pub program_room : Room
program_room = record { copies = 90; views = 90; fits = true; places = sample_lent }

-- ---- a text, line by line

-- a line's characters, the event that it is, and what it prints
pub record Line : Type 0 where
  pub text : String
  pub event : Event
  pub prints : String

abbrev pub line : String → Event → String → Line
line text event prints = record { text = text; event = event; prints = prints }

abbrev pub text_of : List Line → List ℕ
text_of lines = flat_map (λ (l : Line). bytes l.text) lines

abbrev pub events_of : List Line → List Event
events_of lines = map (λ (l : Line). l.event) lines

abbrev pub output_of : List Line → List ℕ
output_of lines = flat_map (λ (l : Line). bytes l.prints) lines

-- ---- demand 3 of it: its lines are the events that stand beside them, these stand in renames, and the program prints what stands there

pub record Holds (lines : List Line) (textures retiring doomed spares newest stamps : List ℕ) : Type 0 where
  pub claim : Claim program_copies program_views textures retiring doomed spares newest stamps (text_of lines)
  pub prints : text_output program_copies program_views (fresh textures retiring doomed spares newest stamps) (text_of lines) ≡ output_of lines

pub record Witness (lines : List Line) : Type 0 where
  pub events_are : events (text_of lines) ≡ events_of lines
  pub renames : InRenames program_room none (events_of lines)
  -- on every six stores of these lengths, whatever they hold
  pub holds : (textures retiring doomed spares newest stamps : List ℕ) → ProgramStores textures retiring doomed spares newest stamps
      → Holds lines textures retiring doomed spares newest stamps

-- ---- a texel's number after the first k lines: the plain book's is computed, and the claim makes it the live version's

abbrev pub book_after_lines : List Line → ℕ → ℕ → Option Book
book_after_lines lines k id = book_of (after_events program_room none (take k (events_of lines))) id

pub record NumberIs (lines : List Line) (k id : ℕ) (t : Texel) (n : ℕ) : Type 0 where
  pub plain : plain_of (book_after_lines lines k id) t ≡ some n
  pub live : AgreeThroughout program_room none (events_of lines) → live_of (book_after_lines lines k id) t ≡ some n

-- the texel at x and y of a level, in slice 0 of a texture that is no volume
abbrev pub flat_texel : ℕ → ℕ → ℕ → Texel
flat_texel level x y = texel 0 level x y 0
