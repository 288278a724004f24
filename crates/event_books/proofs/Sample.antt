-- 01's sample as a text: its lines' events, that they stand in renames, what is printed and the numbers after its write, by computation. Assumes nothing.
use mathlib.Core.Path.{◌≡◌, refl}
use mathlib.Core.Option.{none}
use lib.Dec.{lit<}
use Rattle.base_blocks.specs.Lists.{all, tests, listed, total, keep, after as after_if, ceil_div}
use mathlib.Core.List.{flat_map}
use Rattle.grid_shapes.specs.Formats.{block_edge, block_bytes}
use Rattle.grid_shapes.specs.Shapes.{is_shape, same_shape, slices_of, level_extent, level_width, level_height, level_depth, level_bytes, bytes_of}
use Rattle.grid_rects.specs.Rects.{whole_level}
use Rattle.grid_axes.specs.Axes.{tile_edge, axis_of, tiles_of, cut_end, is_cut, touched, one_tile, widened, span_around, span_start, span_size}
use Rattle.grid_stamps.specs.Grids.{tiling_of, columns_of, rows_of, stamp_count, new_grid, row_by_row, stamp_of, touches, is_cut_rect, stamped_by, dirty_tiles, box_of, box_around, box_since}
use Rattle.pool_rules.specs.Budget.{budget_of}
use Rattle.pool_rules.specs.Model.{guard, find, grid_count}
use Rattle.pool_rules.specs.HistorySizes.{grid_size, history_size}
use Rattle.pool_rules.specs.Updates.{change, insert}
use Rattle.pool_rules.specs.Histories.{grid_at, new_history, stamp_write}
use Rattle.pool_rules.specs.TakeSpare.{take_spare}
use Rattle.pool_rules.specs.PreservePlan.{box_copy, copy_of, copies, preserve_plan}
use Rattle.pool_rules.specs.Retire.{retire}
use Rattle.pool_rules.specs.NoteWrite.{note_write}
use Rattle.pool_rules.specs.PopRetired.{pop_retired}
use Rattle.pool_rules.specs.Park.{park}
use Rattle.pool_books.specs.Lists.{after_take, after_plan, after_retire, rename_in, marking, step_between, step, start}
use Rattle.pool_books.specs.Demand3.{perform, perform_between}
use Rattle.event_answers.specs.Printed.{row, optional, held_field, region_fields, copy_row, view_row, reply_rows, printed}
use Rattle.event_text.specs.Fields.{in_first, fields_of, same}
use Rattle.base_digits.specs.Digits.{is_digit, value, decimal, digits, digits_of}
use Rattle.event_text.specs.Numbers.{is_number}
use Rattle.event_lines.specs.Words.{word_of, later_word}
use Rattle.event_lines.specs.Grammar.{is_kind, are_kinds, kinds_of, shape_of, rect_of, take_event, plan_event, retire_event, write_event, made, held_by, num, event_by, event, event_of}
use Rattle.event_runs.specs.Lines.{in_first_line, whole_lines}
use Rattle.event_runs.specs.Texts.{in_last_line, last_line, if_any, all_lines}
use Rattle.pool_books.specs.Texels.{in_rect, in_write, is_whole}
use Rattle.pool_books.specs.VersionBook.{put, change_book, start_book, book_write, book_regeneration, copied, in_copy, skipped, not_copied}
use Rattle.pool_books.specs.Sample.{flat_shape}
use Rattle.event_books.specs.EventLists.{after_events, events, working_of, call_of, opening, opening_reply, InRenames, replies, replies_text}
use Rattle.event_books.specs.Bytes.{bytes}
use Rattle.event_books.specs.Witnesses.{program_room, text_of, events_of, output_of, flat_texel}
use Rattle.event_books.specs.Sample.{sample_lines, SampleHolds, SampleNumbers}
use Rattle.event_books.proofs.Witnesses.{witness, number_is}

sample_events : events (text_of sample_lines) ≡ events_of sample_lines
unfolding sample_lines flat_shape bytes flat_map all_lines whole_lines in_first_line last_line in_last_line if_any event_of event event_by word_of later_word fields_of in_first same are_kinds kinds_of is_kind is_number decimal value is_digit num held_by made take_event plan_event retire_event write_event shape_of rect_of all tests
sample_events = refl

sample_renames : InRenames program_room none (events_of sample_lines)
unfolding InRenames sample_lines take_spare preserve_plan retire note_write pop_retired park guard find grid_count grid_size history_size change insert grid_at new_history stamp_write box_copy copy_of copies budget_of is_shape same_shape slices_of level_extent level_width level_height level_depth level_bytes bytes_of block_edge block_bytes whole_level tile_edge axis_of tiles_of cut_end is_cut touched one_tile widened span_around span_start span_size tiling_of columns_of rows_of stamp_count new_grid row_by_row stamp_of touches is_cut_rect stamped_by dirty_tiles box_of box_around box_since listed total keep tests after_if ceil_div flat_map after_take after_plan after_retire rename_in marking step_between step start call_of working_of opening flat_shape
sample_renames = (tt, (tt, ((refl, refl, refl), (refl, (tt, (tt, (tt, (tt, ((refl, refl, refl), tt)))))))))

sample_replies : replies_text 0 (replies program_room none (events_of sample_lines)) ≡ output_of sample_lines
unfolding replies replies_text opening_reply sample_lines bytes perform perform_between printed row optional held_field region_fields copy_row view_row reply_rows digits_of digits take_spare preserve_plan retire note_write pop_retired park guard find grid_count grid_size history_size change insert grid_at new_history stamp_write box_copy copy_of copies budget_of is_shape same_shape slices_of level_extent level_width level_height level_depth level_bytes bytes_of block_edge block_bytes whole_level tile_edge axis_of tiles_of cut_end is_cut touched one_tile widened span_around span_start span_size tiling_of columns_of rows_of stamp_count new_grid row_by_row stamp_of touches is_cut_rect stamped_by dirty_tiles box_of box_around box_since listed total keep tests after_if ceil_div flat_map after_take after_plan after_retire rename_in marking step_between step start call_of working_of opening flat_shape
sample_replies = refl

pub sample_holds : SampleHolds
sample_holds = witness sample_lines sample_events sample_renames sample_replies

pub sample_numbers : SampleNumbers
unfolding after_events sample_lines put change_book start_book book_write book_regeneration copied in_copy skipped not_copied in_rect in_write is_whole take_spare preserve_plan retire note_write pop_retired park guard find grid_count grid_size history_size change insert grid_at new_history stamp_write box_copy copy_of copies budget_of is_shape same_shape slices_of level_extent level_width level_height level_depth level_bytes bytes_of block_edge block_bytes whole_level tile_edge axis_of tiles_of cut_end is_cut touched one_tile widened span_around span_start span_size tiling_of columns_of rows_of stamp_count new_grid row_by_row stamp_of touches is_cut_rect stamped_by dirty_tiles box_of box_around box_since listed total keep tests after_if ceil_div flat_map after_take after_plan after_retire rename_in marking step_between step start call_of working_of opening flat_shape
sample_numbers = record {
  inside = number_is sample_lines 5 7 (flat_texel 0 20 5) 1 (record { slice = lit< tt; level = lit< tt; x = lit< tt; y = lit< tt; z = lit< tt }, refl) refl;
  beside = number_is sample_lines 5 7 (flat_texel 0 19 5) 0 (record { slice = lit< tt; level = lit< tt; x = lit< tt; y = lit< tt; z = lit< tt }, refl) refl;
  before = number_is sample_lines 4 7 (flat_texel 0 20 5) 0 (record { slice = lit< tt; level = lit< tt; x = lit< tt; y = lit< tt; z = lit< tt }, refl) refl;
}
