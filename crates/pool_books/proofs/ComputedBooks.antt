-- What specs/ComputedBooks.antt has with numbers, by computation.
use mathlib.Core.Path.{refl}
use mathlib.Core.List.{flat_map}
use native.Mathlib.Omega.{arith}
use Rattle.base_blocks.specs.Lists.{ceil_div, listed, keep, total, after, tests}
use Rattle.grid_shapes.specs.Formats.{block_edge, block_bytes}
use Rattle.grid_shapes.specs.Shapes.{is_shape, same_shape, slices_of, level_extent, level_width, level_height, level_depth, level_bytes, bytes_of}
use Rattle.grid_rects.specs.Rects.{whole_level}
use Rattle.grid_axes.specs.Axes.{tile_edge, axis_of, tiles_of, cut_end, is_cut, touched, one_tile, widened, span_around, span_start, span_size}
use Rattle.grid_stamps.specs.Grids.{tiling_of, columns_of, rows_of, stamp_count, new_grid, row_by_row, stamp_of, touches, is_cut_rect, stamped_by, dirty_tiles, box_of, box_around, box_since}
use Rattle.pool_rules.specs.Budget.{budget_of}
use Rattle.pool_rules.specs.DrainVersions.{drain_versions}
use Rattle.pool_rules.specs.ForgetTexture.{forget_texture}
use Rattle.pool_rules.specs.Histories.{grid_at, new_history, stamp_write, regenerate_from, stamp_regeneration}
use Rattle.pool_rules.specs.Model.{grid_count, guard, find}
use Rattle.pool_rules.specs.HistorySizes.{grid_size, history_size}
use Rattle.pool_rules.specs.NoteAllocated.{insert_aged, by_age, picked, count_of, note_allocated}
use Rattle.pool_rules.specs.NoteWrite.{note_write, note_mip_regeneration}
use Rattle.pool_rules.specs.Park.{park}
use Rattle.pool_rules.specs.PopRetired.{pop_retired}
use Rattle.pool_rules.specs.PreservePlan.{box_copy, copy_of, copies, preserve_plan}
use Rattle.pool_rules.specs.Retire.{retire}
use Rattle.pool_rules.specs.TakeDoomed.{cover_more, take_doomed}
use Rattle.pool_rules.specs.TakeSpare.{take_spare}
use Rattle.pool_rules.specs.Trim.{aged_count, trim}
use Rattle.pool_rules.specs.Updates.{change, insert}
use Rattle.pool_books.specs.Demand3.{perform_between, perform}
use Rattle.pool_books.specs.Lists.{after_take, after_plan, rename_in, after_retire, marking, step_between, step, run, Renames, start}
use Rattle.pool_books.specs.Sample.{flat_shape, replies_of, sample}
use Rattle.pool_books.specs.Texels.{in_rect, in_write, is_whole}
use Rattle.pool_books.specs.VersionBook.{put, change_book, start_book, book_write, book_regeneration, in_copy, copied, not_copied, skipped}
use Rattle.pool_books.specs.ComputedBooks.{Corners, KeepToRenames, ComputedBooks}

pub corners : Corners
unfolding flat_shape slices_of level_width level_height level_depth level_extent
corners = record {
  cube_0_first = (
    record { slice = omega arith; level = omega arith; x = omega arith; y = omega arith; z = omega arith },
    record { slice = omega arith; level = omega arith; x = omega arith; y = omega arith; z = omega arith },
    record { slice = omega arith; level = omega arith; x = omega arith; y = omega arith; z = omega arith },
    record { slice = omega arith; level = omega arith; x = omega arith; y = omega arith; z = omega arith },
  );
  cube_0_last = (
    record { slice = omega arith; level = omega arith; x = omega arith; y = omega arith; z = omega arith },
    record { slice = omega arith; level = omega arith; x = omega arith; y = omega arith; z = omega arith },
    record { slice = omega arith; level = omega arith; x = omega arith; y = omega arith; z = omega arith },
    record { slice = omega arith; level = omega arith; x = omega arith; y = omega arith; z = omega arith },
  );
  cube_1_first = (
    record { slice = omega arith; level = omega arith; x = omega arith; y = omega arith; z = omega arith },
    record { slice = omega arith; level = omega arith; x = omega arith; y = omega arith; z = omega arith },
    record { slice = omega arith; level = omega arith; x = omega arith; y = omega arith; z = omega arith },
    record { slice = omega arith; level = omega arith; x = omega arith; y = omega arith; z = omega arith },
  );
  cube_1_last = (
    record { slice = omega arith; level = omega arith; x = omega arith; y = omega arith; z = omega arith },
    record { slice = omega arith; level = omega arith; x = omega arith; y = omega arith; z = omega arith },
    record { slice = omega arith; level = omega arith; x = omega arith; y = omega arith; z = omega arith },
    record { slice = omega arith; level = omega arith; x = omega arith; y = omega arith; z = omega arith },
  );
  cube_2_first = (
    record { slice = omega arith; level = omega arith; x = omega arith; y = omega arith; z = omega arith },
    record { slice = omega arith; level = omega arith; x = omega arith; y = omega arith; z = omega arith },
    record { slice = omega arith; level = omega arith; x = omega arith; y = omega arith; z = omega arith },
    record { slice = omega arith; level = omega arith; x = omega arith; y = omega arith; z = omega arith },
  );
  cube_2_last = (
    record { slice = omega arith; level = omega arith; x = omega arith; y = omega arith; z = omega arith },
    record { slice = omega arith; level = omega arith; x = omega arith; y = omega arith; z = omega arith },
    record { slice = omega arith; level = omega arith; x = omega arith; y = omega arith; z = omega arith },
    record { slice = omega arith; level = omega arith; x = omega arith; y = omega arith; z = omega arith },
  );
  volume_0_first = (
    record { slice = omega arith; level = omega arith; x = omega arith; y = omega arith; z = omega arith },
    record { slice = omega arith; level = omega arith; x = omega arith; y = omega arith; z = omega arith },
    record { slice = omega arith; level = omega arith; x = omega arith; y = omega arith; z = omega arith },
    record { slice = omega arith; level = omega arith; x = omega arith; y = omega arith; z = omega arith },
  );
  volume_0_last = (
    record { slice = omega arith; level = omega arith; x = omega arith; y = omega arith; z = omega arith },
    record { slice = omega arith; level = omega arith; x = omega arith; y = omega arith; z = omega arith },
    record { slice = omega arith; level = omega arith; x = omega arith; y = omega arith; z = omega arith },
    record { slice = omega arith; level = omega arith; x = omega arith; y = omega arith; z = omega arith },
  );
  volume_1_first = (
    record { slice = omega arith; level = omega arith; x = omega arith; y = omega arith; z = omega arith },
    record { slice = omega arith; level = omega arith; x = omega arith; y = omega arith; z = omega arith },
    record { slice = omega arith; level = omega arith; x = omega arith; y = omega arith; z = omega arith },
    record { slice = omega arith; level = omega arith; x = omega arith; y = omega arith; z = omega arith },
  );
  volume_1_last = (
    record { slice = omega arith; level = omega arith; x = omega arith; y = omega arith; z = omega arith },
    record { slice = omega arith; level = omega arith; x = omega arith; y = omega arith; z = omega arith },
    record { slice = omega arith; level = omega arith; x = omega arith; y = omega arith; z = omega arith },
    record { slice = omega arith; level = omega arith; x = omega arith; y = omega arith; z = omega arith },
  );
  volume_2 = (
    record { slice = omega arith; level = omega arith; x = omega arith; y = omega arith; z = omega arith },
    record { slice = omega arith; level = omega arith; x = omega arith; y = omega arith; z = omega arith },
    record { slice = omega arith; level = omega arith; x = omega arith; y = omega arith; z = omega arith },
    record { slice = omega arith; level = omega arith; x = omega arith; y = omega arith; z = omega arith },
  );
}

pub keep_to_renames : KeepToRenames
unfolding ceil_div listed keep total after tests block_edge block_bytes is_shape same_shape slices_of level_extent level_width level_height level_depth level_bytes bytes_of whole_level tile_edge axis_of tiles_of cut_end is_cut touched one_tile widened span_around span_start span_size tiling_of columns_of rows_of stamp_count new_grid row_by_row stamp_of touches is_cut_rect stamped_by dirty_tiles box_of box_around box_since budget_of drain_versions forget_texture grid_at new_history stamp_write regenerate_from stamp_regeneration grid_count grid_size history_size guard find insert_aged by_age picked count_of note_allocated note_write note_mip_regeneration park pop_retired box_copy copy_of copies preserve_plan retire cover_more take_doomed take_spare aged_count trim change insert perform_between perform after_take after_plan rename_in after_retire marking step_between step run Renames start flat_shape replies_of sample in_rect in_write is_whole put change_book start_book book_write book_regeneration in_copy copied not_copied skipped flat_map
keep_to_renames = record {
  sample_keeps = (tt, ((refl, refl, refl), (refl, (tt, (tt, (tt, (tt, ((refl, refl, refl), tt))))))));
  sample_on_keeps = (tt, ((refl, refl, refl), (refl, (tt, (tt, (tt, (tt, ((refl, refl, refl), (refl, (tt, tt))))))))));
  cube_keeps = (tt, ((refl, refl, refl), (refl, (tt, (tt, (tt, (tt, (tt, (tt, (tt, ((refl, refl, refl), (refl, tt))))))))))));
  volume_keeps = (tt, ((refl, refl, refl), (refl, (tt, (tt, (tt, (tt, ((refl, refl, refl), (refl, tt)))))))));
  cover_keeps = (tt, ((refl, refl, refl), (refl, (tt, (tt, tt)))));
  shapes_keeps = (tt, ((refl, refl, refl), (refl, (tt, (tt, ((refl, refl, refl), (refl, (tt, ((refl, refl, refl), (refl, (tt, tt)))))))))));
  twelve_keeps = (tt, ((refl, refl, refl), (refl, (tt, (tt, (tt, (tt, (tt, (tt, (tt, (tt, (tt, (tt, ((refl, refl, refl), (refl, (tt, tt))))))))))))))));
  twelve_accepted = refl;
}

pub computed_books : ComputedBooks
unfolding ceil_div listed keep total after tests block_edge block_bytes is_shape same_shape slices_of level_extent level_width level_height level_depth level_bytes bytes_of whole_level tile_edge axis_of tiles_of cut_end is_cut touched one_tile widened span_around span_start span_size tiling_of columns_of rows_of stamp_count new_grid row_by_row stamp_of touches is_cut_rect stamped_by dirty_tiles box_of box_around box_since budget_of drain_versions forget_texture grid_at new_history stamp_write regenerate_from stamp_regeneration grid_count grid_size history_size guard find insert_aged by_age picked count_of note_allocated note_write note_mip_regeneration park pop_retired box_copy copy_of copies preserve_plan retire cover_more take_doomed take_spare aged_count trim change insert perform_between perform after_take after_plan rename_in after_retire marking step_between step run Renames start flat_shape replies_of sample in_rect in_write is_whole put change_book start_book book_write book_regeneration in_copy copied not_copied skipped flat_map
computed_books = record {
  no_book = refl;
  at_first = (refl, refl, refl);
  first_rename = (refl, refl, refl);
  write_first = (refl, refl, refl);
  write_last = (refl, refl, refl);
  write_left_of = (refl, refl, refl);
  write_below = (refl, refl, refl);
  second_rename = (refl, refl, refl);
  second_rename_outside = (refl, refl, refl);
  second_write = (refl, refl, refl);
  second_write_outside = (refl, refl, refl);
  cube_level = (refl, refl, refl);
  cube_regenerated = (refl, refl, refl);
  cube_regenerated_slice = (refl, refl, refl);
  cube_level_0 = (refl, refl, refl);
  cube_renamed_level = (refl, refl, refl);
  cube_renamed_slice = (refl, refl, refl);
  cube_renamed_both = (refl, refl, refl);
  cube_renamed_first = (refl, refl, refl);
  volume_depth = (refl, refl, refl);
  volume_renamed_depth = (refl, refl, refl);
  volume_renamed_last = (refl, refl, refl);
  cover_planned = refl;
  cover_retired = refl;
  cover_unknown = refl;
  cover_other_level = (refl, refl, refl);
  cover_part_written = refl;
  cover_whole_written = (refl, refl, refl);
  same_shape_lem = (refl, refl, refl);
  another_shape = (refl, refl, refl);
  another_shape_next = (refl, refl, refl);
  twelve_level_1 = (refl, refl, refl);
  twelve_level_0 = (refl, refl, refl);
  twelve_next = (refl, refl, refl);
}
