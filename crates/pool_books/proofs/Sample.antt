-- 01's sample list computes to 01's sample answers, and the starred edges hold: by computation.
use Prim.Native.Nat.{ℕ}
use mathlib.Core.Path.{◌≡◌, refl}
use mathlib.Core.List.{List, [], ◌∷◌, flat_map}
use Rattle.base_blocks.specs.Lists.{listed, total, keep, tests, after, ceil_div}
use Rattle.grid_shapes.specs.Formats.{block_edge, block_bytes}
use Rattle.grid_shapes.specs.Shapes.{is_shape, same_shape, slices_of, level_extent, level_width, level_height, level_depth, level_bytes, bytes_of}
use Rattle.grid_rects.specs.Rects.{whole_level}
use Rattle.grid_axes.specs.Axes.{tile_edge, axis_of, tiles_of, cut_end, is_cut, touched, one_tile, widened, span_around, span_start, span_size}
use Rattle.grid_stamps.specs.Grids.{tiling_of, columns_of, rows_of, stamp_count, new_grid, row_by_row, stamp_of, touches, is_cut_rect, stamped_by, dirty_tiles, box_of, box_around, box_since}
use Rattle.pool_rules.specs.Budget.{budget_of}
use Rattle.pool_rules.specs.Model.{PoolModel, Out, refused, accepted, guard, find, grid_count}
use Rattle.pool_rules.specs.HistorySizes.{grid_size, history_size}
use Rattle.pool_rules.specs.Updates.{change, insert}
use Rattle.pool_rules.specs.Histories.{grid_at, new_history, stamp_write}
use Rattle.pool_rules.specs.TakeSpare.{take_spare}
use Rattle.pool_rules.specs.PreservePlan.{box_copy, copy_of, copies, preserve_plan}
use Rattle.pool_rules.specs.Retire.{retire}
use Rattle.pool_rules.specs.NoteWrite.{note_write}
use Rattle.pool_rules.specs.PopRetired.{pop_retired}
use Rattle.pool_rules.specs.Park.{park}
use Rattle.pool_rules.specs.TakeDoomed.{cover_more, take_doomed}
use Rattle.pool_rules.specs.Trim.{aged_count, trim}
use Rattle.pool_rules.specs.ForgetTexture.{forget_texture}
use Rattle.pool_rules.specs.Formed.{Formed}
use Rattle.pool_rules.specs.Closed.{OutFormed, formed}
use Rattle.pool_rules.specs.Open.{are_places, opened}
use Rattle.pool_rules.proofs.Closure.{closed, opened_formed}
use Rattle.pool_books.specs.Lists.{write_call, regen_call, pop_call, park_call, note_call, doomed_call, drain_call, trim_call, forget_call, Call, take_call, plan_call, retire_call, between}
use Rattle.pool_books.specs.Demand3.{Reply, answered, call, perform, perform_between}
use Rattle.pool_books.specs.Sample.{flat_shape, sample_lent, replies_of, reached, ReachedIsFormed, sample, sample_answers, parked_at10, queued678, handed_out, born_in5, Edges}

pub sample_answers_lem : replies_of (opened sample_lent 0) sample ≡ sample_answers
unfolding replies_of sample flat_shape perform perform_between take_spare preserve_plan retire note_write pop_retired park guard find grid_count grid_size history_size change insert grid_at new_history stamp_write box_copy copy_of copies budget_of is_shape same_shape slices_of level_extent level_width level_height level_depth level_bytes bytes_of block_edge block_bytes whole_level tile_edge axis_of tiles_of cut_end is_cut touched one_tile widened span_around span_start span_size tiling_of columns_of rows_of stamp_count new_grid row_by_row stamp_of touches is_cut_rect stamped_by dirty_tiles box_of box_around box_since listed total keep tests after ceil_div flat_map
sample_answers_lem = refl

-- ---- the pools that calls reach are formed

formed_after : {A : Type 0} (f : A → Reply) (p : PoolModel ℕ) (o : Out ℕ A) → Formed p → OutFormed o → Formed (answered (λ (n : ℕ). n) (λ (id n : ℕ). n) f p o).1
formed_after f p (refused n) k q = k
formed_after f p (accepted a r) k (formed q) = q

pub call_formed : (p : PoolModel ℕ) → Formed p → (c : Call) → Formed (call p c).1
unfolding perform perform_between
call_formed p k (take_call id shape records seq) = formed_after _ p _ k ((closed p k).take_spare_lem id shape records seq)
call_formed p k (plan_call id shape held u buffer) = formed_after _ p _ k ((closed p k).preserve_plan_lem id shape held u buffer)
call_formed p k (retire_call id view seq) = formed_after _ p _ k ((closed p k).retires id view seq)
call_formed p k (between (write_call id slice level r)) = formed_after _ p _ k ((closed p k).note_write_lem id slice level r)
call_formed p k (between (regen_call id)) = formed_after _ p _ k ((closed p k).note_mip_regeneration_lem id)
call_formed p k (between (pop_call settled)) = formed_after _ p _ k ((closed p k).pop_retired_lem settled)
call_formed p k (between (park_call failed now)) = formed_after _ p _ k ((closed p k).parks failed now)
call_formed p k (between (note_call allocated)) = formed_after _ p _ k ((closed p k).note_allocated_lem allocated)
call_formed p k (between (doomed_call buffer)) = formed_after _ p _ k ((closed p k).take_doomed_lem buffer)
call_formed p k (between (drain_call buffer)) = formed_after _ p _ k ((closed p k).drain_versions_lem buffer)
call_formed p k (between (trim_call now)) = formed_after _ p _ k ((closed p k).trims now)
call_formed p k (between (forget_call id)) = formed_after _ p _ k ((closed p k).forget_texture_lem id)

calls_formed : (p : PoolModel ℕ) → Formed p → (cs : List Call) → Formed (reached p cs)
unfolding reached
calls_formed p k [] = k
calls_formed p k (c ∷ cs) = calls_formed (call p c).1 (call_formed p k c) cs

pub reached_formed : ReachedIsFormed
reached_formed places enough working cs = calls_formed (opened places working) (opened_formed places enough working) cs

-- ---- edges

parked_formed : Formed parked_at10
unfolding parked_at10 are_places tests
parked_formed = reached_formed sample_lent refl 0 _

queued_formed : Formed queued678
unfolding queued678 are_places tests
queued_formed = reached_formed _ refl 0 _

born_formed : Formed born_in5
unfolding born_in5 are_places tests
born_formed = reached_formed sample_lent refl 0 _

pub edges : Edges
unfolding replies_of sample flat_shape perform perform_between take_spare preserve_plan retire note_write pop_retired park guard find grid_count grid_size history_size change insert grid_at new_history stamp_write box_copy copy_of copies budget_of is_shape same_shape slices_of level_extent level_width level_height level_depth level_bytes bytes_of block_edge block_bytes whole_level tile_edge axis_of tiles_of cut_end is_cut touched one_tile widened span_around span_start span_size tiling_of columns_of rows_of stamp_count new_grid row_by_row stamp_of touches is_cut_rect stamped_by dirty_tiles box_of box_around box_since listed total keep tests after ceil_div flat_map reached trim aged_count parked_at10 queued678 born_in5 handed_out take_doomed cover_more forget_texture
edges = record {
  edge = (refl, refl);
  edge_blocks = (refl, refl);
  bytes = refl;
  bytes_cube = refl;
  working_0 = refl;
  working_7 = refl;
  parked_formed = parked_formed;
  parked = refl;
  parked_total = refl;
  stays_then_goes = (refl, refl);
  queued_formed = queued_formed;
  queued = refl;
  queued_since = refl;
  batches = refl;
  born_formed = born_formed;
  born = refl;
  known_then_unknown = (refl, refl);
}
