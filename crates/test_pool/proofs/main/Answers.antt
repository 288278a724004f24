-- `main`: the memory has the lengths that are asked for, which a law says, since to count it out takes long. Assumes nothing.
use native.Mathlib.Omega.{arith}
use Rattle.test_pool.proofs.Stores.{zeros_count, zeros_room}
use Rattle.test_pool.proofs.main.Goals as goal

pub slice_bounds-run_all-end : goal.slice_bounds-run_all-end
slice_bounds-run_all-end c = zeros_count 2097152

pub slice_bounds-run_all-end-2 : goal.slice_bounds-run_all-end-2
slice_bounds-run_all-end-2 c = zeros_count 1408

pub slice_bounds-run_all-end-3 : goal.slice_bounds-run_all-end-3
slice_bounds-run_all-end-3 c = zeros_count 14000

pub slice_bounds-run_all-end-4 : goal.slice_bounds-run_all-end-4
slice_bounds-run_all-end-4 c = zeros_count 4000

pub slice_bounds-run_all-end-5 : goal.slice_bounds-run_all-end-5
slice_bounds-run_all-end-5 c = zeros_count 6000

pub slice_bounds-run_all-end-6 : goal.slice_bounds-run_all-end-6
slice_bounds-run_all-end-6 c = zeros_count 11520

pub slice_bounds-run_all-end-7 : goal.slice_bounds-run_all-end-7
slice_bounds-run_all-end-7 c = zeros_count 65536

pub slice_bounds-run_all-end-8 : goal.slice_bounds-run_all-end-8
slice_bounds-run_all-end-8 c = zeros_count 28672

pub slice_bounds-run_all-end-9 : goal.slice_bounds-run_all-end-9
slice_bounds-run_all-end-9 c = zeros_count 4096

pub slice_bounds-run_all-end-10 : goal.slice_bounds-run_all-end-10
slice_bounds-run_all-end-10 c = zeros_count 139264

pub slice_bounds-run_all-end-11 : goal.slice_bounds-run_all-end-11
slice_bounds-run_all-end-11 c = zeros_count 655360

pub run_all-requires : goal.run_all-requires
run_all-requires c = zeros_room 147 655360 (omega arith)
