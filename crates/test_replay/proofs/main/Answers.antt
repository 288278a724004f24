-- `main`: the memory has the lengths that are asked for, which laws say, since to count it out takes long. Assumes nothing.
use mathlib.Core.Path.{sym}
use native.Mathlib.Omega.{arith}
use Rattle.event_stream.proofs.Lengths.{zeros_count}
use Rattle.test_replay.proofs.Stores.{zeros_room}
use Rattle.test_replay.proofs.main.Goals as goal

pub slice_bounds-run_lists-end : goal.slice_bounds-run_lists-end
slice_bounds-run_lists-end c = zeros_count 524288

pub slice_bounds-run_lists-end-2 : goal.slice_bounds-run_lists-end-2
slice_bounds-run_lists-end-2 c = zeros_count 512

pub slice_bounds-run_lists-end-3 : goal.slice_bounds-run_lists-end-3
slice_bounds-run_lists-end-3 c = zeros_count 1408

pub slice_bounds-run_lists-end-4 : goal.slice_bounds-run_lists-end-4
slice_bounds-run_lists-end-4 c = zeros_count 14000

pub slice_bounds-run_lists-end-5 : goal.slice_bounds-run_lists-end-5
slice_bounds-run_lists-end-5 c = zeros_count 4000

pub slice_bounds-run_lists-end-6 : goal.slice_bounds-run_lists-end-6
slice_bounds-run_lists-end-6 c = zeros_count 6000

pub slice_bounds-run_lists-end-7 : goal.slice_bounds-run_lists-end-7
slice_bounds-run_lists-end-7 c = zeros_count 11520

pub slice_bounds-run_lists-end-8 : goal.slice_bounds-run_lists-end-8
slice_bounds-run_lists-end-8 c = zeros_count 262144

pub slice_bounds-run_lists-end-9 : goal.slice_bounds-run_lists-end-9
slice_bounds-run_lists-end-9 c = zeros_count 28672

pub slice_bounds-run_lists-end-10 : goal.slice_bounds-run_lists-end-10
slice_bounds-run_lists-end-10 c = zeros_count 4096

pub slice_bounds-run_lists-end-11 : goal.slice_bounds-run_lists-end-11
slice_bounds-run_lists-end-11 c = zeros_count 1048576

pub run_lists-requires : goal.run_lists-requires
run_lists-requires c = (
  record {
    textures_are = sym (zeros_count 1408);
    retiring_are = sym (zeros_count 14000);
    doomed_are = sym (zeros_count 4000);
    spares_are = sym (zeros_count 6000);
    newest_are = sym (zeros_count 11520);
    stamps_are = sym (zeros_count 262144);
    copies_are = sym (zeros_count 28672);
    views_are = sym (zeros_count 4096);
  },
  zeros_room 197 512 (omega arith),
  zeros_room 602259 1048576 (omega arith),
)
