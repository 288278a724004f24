-- A text's witness and a texel's number, from what is computed of them. Assumes nothing.
use Prim.Native.Nat.{ℕ, ◌/◌}
use mathlib.Core.Path.{◌≡◌, ◌∙◌}
use mathlib.Core.Bool.{true}
use mathlib.Core.Option.{none, some}
use mathlib.Core.List.{List}
use lib.ListN.{take}
use Rattle.base_blocks.specs.Lists.{tests}
use Rattle.grid_stamps.specs.StampConstants.{page_stamps}
use Rattle.pool_rules.specs.Open.{are_places}
use Rattle.pool_records.specs.RecordConstants.{texture_stride, retiring_stride}
use Rattle.pool_memory.specs.Lent.{version_places}
use Rattle.pool_memory.specs.Reading.{model_of}
use Rattle.pool_memory.specs.IsPool.{sizes_fit}
use Rattle.pool_books.specs.Sample.{sample_lent}
use Rattle.pool_books.specs.Texels.{Texel}
use Rattle.event_books.specs.EventLists.{after_events, InRenames, replies, replies_text, AgreeThroughout, plain_of, Compared, AgreeAtTexels, events, fresh, fresh_room, Demand3Text}
use Rattle.event_books.specs.Witnesses.{ProgramStores, program_copies, program_views, program_room, Line, text_of, events_of, output_of, Holds, Witness, book_after_lines, NumberIs}
use Rattle.event_books.proofs.Agreeing.{agree_at_texels}
use Rattle.event_books.proofs.Demand3Text.{demand3_text}

-- ---- the event program's room

module _ (textures retiring doomed spares newest stamps : List ℕ) (h : ProgramStores textures retiring doomed spares newest stamps) where
  places_are : (model_of (fresh textures retiring doomed spares newest stamps).lent).places ≡ sample_lent
  unfolding model_of version_places
  places_are = λ i. record { textures = h.textures_are i / texture_stride; versions = h.retiring_are i / retiring_stride; pages = h.stamps_are i / page_stamps }

  fits : sizes_fit (fresh textures retiring doomed spares newest stamps).lent ≡ true
  unfolding sizes_fit model_of version_places are_places tests
  fits = rw (h.textures_are, h.retiring_are, h.doomed_are, h.spares_are, h.newest_are, h.stamps_are)

  room_is : fresh_room program_copies program_views textures retiring doomed spares newest stamps ≡ program_room
  room_is = λ i. record { copies = 90; views = 90; fits = fits i; places = places_are i }

-- ---- a text

module _ (lines : List Line) (e : events (text_of lines) ≡ events_of lines) (r : InRenames program_room none (events_of lines))
    (p : replies_text 0 (replies program_room none (events_of lines)) ≡ output_of lines) where
  text_holds : (textures retiring doomed spares newest stamps : List ℕ) → ProgramStores textures retiring doomed spares newest stamps
      → Holds lines textures retiring doomed spares newest stamps
  unfolding Demand3Text
  text_holds textures retiring doomed spares newest stamps h =
      let q = room_is textures retiring doomed spares newest stamps h in
      let c = demand3_text program_copies program_views textures retiring doomed spares newest stamps (text_of lines) (rw (q, e) r) in
      record { claim = c; prints = c.prints ∙ rw (q, e) p }

  pub witness : Witness lines
  witness = record { events_are = e; renames = r; holds = text_holds }

-- ---- a texel

pub number_is : (lines : List Line) (k id : ℕ) (t : Texel) (n : ℕ) → Compared (book_after_lines lines k id) t → plain_of (book_after_lines lines k id) t ≡ some n → NumberIs lines k id t n
unfolding AgreeAtTexels AgreeThroughout
number_is lines k id t n c p = record {
  plain = p;
  live = λ a. agree_at_texels (after_events program_room none (take k (events_of lines))) (a k) id t c ∙ p;
}
