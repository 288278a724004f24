-- The text with every call: its lines' events, that they stand in renames, what is printed and numbers after lines of it, by computation. Assumes nothing.
use mathlib.Core.Path.{◌≡◌, refl}
use mathlib.Core.Option.{none}
use lib.Dec.{lit<}
use Rattle.base_blocks.specs.Lists.{all, tests, listed, total, keep, after as after_if, ceil_div}
use mathlib.Core.List.{flat_map}
use Rattle.grid_shapes.specs.Formats.{block_edge, block_bytes}
use Rattle.grid_shapes.specs.Shapes.{is_shape, same_shape, slices_of, level_extent, level_width, level_height, level_depth, level_bytes, bytes_of}
use Rattle.grid_rects.specs.Rects.{whole_level}
use Rattle.grid_axes.specs.Axes.{tile_edge, axis_of, tiles_of, cut_end, is_cut, touched, one_tile, widened, span_around, span_start, span_size}
use Rattle.grid_stamps.specs.Grids.{tiling_of, columns_of, rows_of, stamp_count, new_grid, row_by_row, stamp_of, touches, is_cut_rect, stamped_by, dirty_tiles, box_of, box_around, box_since}
use Rattle.pool_rules.specs.Budget.{budget_of, resume_below}
use Rattle.pool_rules.specs.Model.{guard, find, grid_count}
use Rattle.pool_rules.specs.HistorySizes.{grid_size, history_size}
use Rattle.pool_rules.specs.Updates.{change, insert}
use Rattle.pool_rules.specs.Histories.{grid_at, new_history, stamp_write, regenerate_from, stamp_regeneration}
use Rattle.pool_rules.specs.TakeSpare.{take_spare}
use Rattle.pool_rules.specs.PreservePlan.{box_copy, copy_of, copies, preserve_plan}
use Rattle.pool_rules.specs.Retire.{retire}
use Rattle.pool_rules.specs.NoteWrite.{note_write, note_mip_regeneration}
use Rattle.pool_rules.specs.PopRetired.{pop_retired}
use Rattle.pool_rules.specs.Park.{park}
use Rattle.pool_rules.specs.NoteAllocated.{note_allocated, insert_aged, by_age, picked, count_of}
use Rattle.pool_rules.specs.TakeDoomed.{take_doomed, cover_more}
use Rattle.pool_rules.specs.DrainVersions.{drain_versions}
use Rattle.pool_rules.specs.Trim.{trim, aged_count}
use Rattle.pool_rules.specs.ForgetTexture.{forget_texture}
use Rattle.pool_books.specs.Lists.{after_take, after_plan, after_retire, rename_in, marking, step_between, step, start}
use Rattle.pool_books.specs.Demand3.{perform, perform_between}
use Rattle.event_answers.specs.Printed.{row, optional, held_field, region_fields, copy_row, view_row, reply_rows, printed}
use Rattle.event_text.specs.Fields.{in_first, fields_of, same}
use Rattle.base_digits.specs.Digits.{is_digit, value, decimal, digits, digits_of}
use Rattle.event_text.specs.Numbers.{is_number}
use Rattle.event_lines.specs.Words.{word_of, later_word}
use Rattle.event_lines.specs.Grammar.{is_kind, are_kinds, kinds_of, shape_of, rect_of, take_event, plan_event, retire_event, write_event, made, held_by, num, event_by, event, event_of}
use Rattle.event_runs.specs.Lines.{in_first_line, whole_lines}
use Rattle.event_runs.specs.Texts.{in_last_line, last_line, if_any, all_lines}
use Rattle.pool_books.specs.Texels.{in_rect, in_write, is_whole}
use Rattle.pool_books.specs.VersionBook.{put, change_book, start_book, book_write, book_regeneration, copied, in_copy, skipped, not_copied}
use Rattle.pool_books.specs.Sample.{flat_shape}
use Rattle.event_books.specs.EventLists.{after_events, events, working_of, call_of, opening, opening_reply, InRenames, replies, replies_text}
use Rattle.event_books.specs.Bytes.{bytes}
use Rattle.event_books.specs.Witnesses.{program_room, text_of, events_of, output_of, flat_texel}
use Rattle.event_books.specs.AllCalls.{all_calls, AllCallsHold, AllCallsNumbers}
use Rattle.event_books.proofs.Witnesses.{witness, number_is}

all_calls_events : events (text_of all_calls) ≡ events_of all_calls
unfolding all_calls flat_shape bytes flat_map all_lines whole_lines in_first_line last_line in_last_line if_any event_of event event_by word_of later_word fields_of in_first same are_kinds kinds_of is_kind is_number decimal value is_digit num held_by made take_event plan_event retire_event write_event shape_of rect_of all tests
all_calls_events = refl

all_calls_renames : InRenames program_room none (events_of all_calls)
unfolding InRenames all_calls note_mip_regeneration note_allocated take_doomed drain_versions trim forget_texture cover_more aged_count insert_aged by_age picked count_of resume_below regenerate_from stamp_regeneration put change_book start_book book_write book_regeneration take_spare preserve_plan retire note_write pop_retired park guard find grid_count grid_size history_size change insert grid_at new_history stamp_write box_copy copy_of copies budget_of is_shape same_shape slices_of level_extent level_width level_height level_depth level_bytes bytes_of block_edge block_bytes whole_level tile_edge axis_of tiles_of cut_end is_cut touched one_tile widened span_around span_start span_size tiling_of columns_of rows_of stamp_count new_grid row_by_row stamp_of touches is_cut_rect stamped_by dirty_tiles box_of box_around box_since listed total keep tests after_if ceil_div flat_map after_take after_plan after_retire rename_in marking step_between step start call_of working_of opening flat_shape
all_calls_renames = (tt, (tt, (tt, (tt, (tt, (tt, (tt, ((refl, refl, refl), (refl, (tt, (tt, ((refl, refl, refl), (refl, (tt, (tt, (tt, ((refl, refl, refl), (refl, (tt, (tt, (tt, (tt, (tt, ((refl, refl, refl), (refl, (tt, (tt, (tt, (tt, (tt, ((refl, refl, refl), (refl, (tt, (tt, (tt, ((refl, refl, refl), (refl, (tt, (tt, (tt, (tt, (tt, ((refl, refl, refl), (refl, (tt, (tt, (tt, (tt, tt))))))))))))))))))))))))))))))))))))))))))))))))

all_calls_replies : replies_text 0 (replies program_room none (events_of all_calls)) ≡ output_of all_calls
unfolding replies replies_text opening_reply all_calls bytes perform perform_between printed row optional held_field region_fields copy_row view_row reply_rows digits_of digits note_mip_regeneration note_allocated take_doomed drain_versions trim forget_texture cover_more aged_count insert_aged by_age picked count_of resume_below regenerate_from stamp_regeneration put change_book start_book book_write book_regeneration take_spare preserve_plan retire note_write pop_retired park guard find grid_count grid_size history_size change insert grid_at new_history stamp_write box_copy copy_of copies budget_of is_shape same_shape slices_of level_extent level_width level_height level_depth level_bytes bytes_of block_edge block_bytes whole_level tile_edge axis_of tiles_of cut_end is_cut touched one_tile widened span_around span_start span_size tiling_of columns_of rows_of stamp_count new_grid row_by_row stamp_of touches is_cut_rect stamped_by dirty_tiles box_of box_around box_since listed total keep tests after_if ceil_div flat_map after_take after_plan after_retire rename_in marking step_between step start call_of working_of opening flat_shape
all_calls_replies = refl

pub all_calls_hold : AllCallsHold
all_calls_hold = witness all_calls all_calls_events all_calls_renames all_calls_replies

pub all_calls_numbers : AllCallsNumbers
unfolding after_events all_calls copied in_copy skipped not_copied in_rect in_write is_whole note_mip_regeneration note_allocated take_doomed drain_versions trim forget_texture cover_more aged_count insert_aged by_age picked count_of resume_below regenerate_from stamp_regeneration put change_book start_book book_write book_regeneration take_spare preserve_plan retire note_write pop_retired park guard find grid_count grid_size history_size change insert grid_at new_history stamp_write box_copy copy_of copies budget_of is_shape same_shape slices_of level_extent level_width level_height level_depth level_bytes bytes_of block_edge block_bytes whole_level tile_edge axis_of tiles_of cut_end is_cut touched one_tile widened span_around span_start span_size tiling_of columns_of rows_of stamp_count new_grid row_by_row stamp_of touches is_cut_rect stamped_by dirty_tiles box_of box_around box_since listed total keep tests after_if ceil_div flat_map after_take after_plan after_retire rename_in marking step_between step start call_of working_of opening flat_shape
all_calls_numbers = record {
  refused_rename = number_is all_calls 10 7 (flat_texel 0 7 7) 1 (record { slice = lit< tt; level = lit< tt; x = lit< tt; y = lit< tt; z = lit< tt }, refl) refl;
  copied_level = number_is all_calls 13 7 (flat_texel 1 0 0) 0 (record { slice = lit< tt; level = lit< tt; x = lit< tt; y = lit< tt; z = lit< tt }, refl) refl;
  covered_level = number_is all_calls 14 7 (flat_texel 0 7 7) 2 (record { slice = lit< tt; level = lit< tt; x = lit< tt; y = lit< tt; z = lit< tt }, refl) refl;
  known_spare = number_is all_calls 25 7 (flat_texel 1 0 0) 3 (record { slice = lit< tt; level = lit< tt; x = lit< tt; y = lit< tt; z = lit< tt }, refl) refl;
  lacking_tile = number_is all_calls 32 7 (flat_texel 0 20 5) 4 (record { slice = lit< tt; level = lit< tt; x = lit< tt; y = lit< tt; z = lit< tt }, refl) refl;
  other_tile = number_is all_calls 32 7 (flat_texel 0 7 7) 2 (record { slice = lit< tt; level = lit< tt; x = lit< tt; y = lit< tt; z = lit< tt }, refl) refl;
  unknown_spare = number_is all_calls 37 7 (flat_texel 0 20 5) 4 (record { slice = lit< tt; level = lit< tt; x = lit< tt; y = lit< tt; z = lit< tt }, refl) refl;
  untracked = number_is all_calls 48 7 (flat_texel 0 20 5) 4 (record { slice = lit< tt; level = lit< tt; x = lit< tt; y = lit< tt; z = lit< tt }, refl) refl;
}
