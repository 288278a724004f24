-- A tracking just begun: its record, the numbers of its grids, and its stamps, which are all 0. Assumes nothing.
use mathlib.Core.Path.{◌≡◌, refl, ap, ◌∙◌, sym}
use mathlib.Core.Bool.{Bool, true, false}
use mathlib.Core.List.{List, flat_map}
use Prim.Native.Nat.{ℕ, ◌+◌, ◌*◌, ◌-◌, ◌/◌, ◌≤◌}
use native.Mathlib.Nat.{add-zero}
use native.Mathlib.Omega.{arith}
use lib.ListN.{length, replicate}
use lib.Seq.{sets}
use Rattle.base_blocks.specs.Blocks.{moved}
use Rattle.grid_shapes.specs.declared.shape.VersionShape.{VersionShape}
use Rattle.grid_shapes.specs.Shapes.{is_shape, bytes_of}
use Rattle.grid_stamps.specs.StampConstants.{page_stamps}
use Rattle.pool_rules.specs.Model.{VersionState, grid_count}
use Rattle.pool_rules.specs.HistorySizes.{newest_used, stamps_used}
use Rattle.pool_rules.specs.Histories.{new_history}
use Rattle.pool_rules.specs.TakeSpare.{new_state}
use Rattle.pool_rules.specs.RuleConstants.{grid_stride, most_grids}
use Rattle.pool_rules.proofs.HistorySizes.{grids_most, history_most}
use Rattle.pool_records.specs.Tilings.{fresh_from}
use Rattle.pool_records.specs.declared.texture.TextureRecord.{TextureRecord}
use Rattle.pool_records.specs.Recorded.{RecordedFits}
use Rattle.pool_memory.specs.Writing.{texture_record, newest_from, newest_of, stamps_of}
use Rattle.pool_memory.proofs.Rewritten.{length_zeros}
use Rattle.pool_memory.proofs.Fresh.{fresh_newest, fresh_stamps_lem}
use Rattle.pool_tracking.specs.declared.begun.NewTracking.{NewTracking}
use Rattle.pool_tracking.specs.Begun.{fresh_history, fresh_grids, fresh_stamps, new_record}
use Rattle.pool_tracking.proofs.FreshNumbers.{length_fresh}

module _ (new : NewTracking) (epoch : ℕ) where
  abbrev grids : ℕ
  grids = fresh_grids new.shape new.records

  abbrev stamps : ℕ
  stamps = fresh_stamps new.shape new.records

  abbrev pub begun : VersionState ℕ
  begun = new_state new.id new.shape new.records epoch new.seq

  abbrev begun_as : Bool → VersionState ℕ
  begun_as b = new_state new.id new.shape b epoch new.seq

  pub begun_record : (grid stamp : ℕ) → texture_record grid stamp begun ≡ new_record new epoch grid stamp
  unfolding new_history
  begun_record grid stamp = go new.records
    where
      go : (b : Bool) → texture_record grid stamp (begun_as b) ≡ record {
        id = new.id;
        shape = new.shape;
        epoch = epoch;
        history = fresh_history b;
        birth = 0;
        rename = new.seq;
        due = new.seq;
        spares = 0;
        bytes = bytes_of new.shape;
        grid = grid;
        stamp = stamp;
      }
      go true = refl
      go false = refl

  -- its history fits its number
  pub begun_fits : (grid stamp : ℕ) (x : TextureRecord) → x ≡ new_record new epoch grid stamp → RecordedFits x.history
  begun_fits grid stamp x e = rw (sym (ap (λ (r : TextureRecord). r.history) e)) at (go new.records)
    where
      go : (b : Bool) → RecordedFits (fresh_history b)
      go true = omega arith
      go false = omega arith

  -- ---- what its history has

  pub begun_grids : newest_used begun ≡ grids
  begun_grids = go new.records
    where
      go : (b : Bool) → newest_used (begun_as b) ≡ fresh_grids new.shape b
      go true = refl
      go false = refl

  pub begun_stamps : stamps_used begun ≡ stamps
  begun_stamps = go new.records
    where
      go : (b : Bool) → stamps_used (begun_as b) ≡ fresh_stamps new.shape b
      go true = refl
      go false = refl

  -- for each grid no stamp yet, and its tiling
  pub newest_fresh : newest_of begun ≡ fresh_from new.shape 0 (grids / grid_stride)
  unfolding newest_from fresh_from
  newest_fresh = go new.records
    where
      go : (b : Bool) → newest_of (begun_as b) ≡ fresh_from new.shape 0 (fresh_grids new.shape b / grid_stride)
      go true =
          fresh_newest new.shape
          ∙ ap (fresh_from new.shape 0) (let e : grid_count new.shape ≡ grid_stride * grid_count new.shape / grid_stride = omega arith in e)
      go false = refl

  pub stamps_zeros : stamps_of begun ≡ replicate stamps 0
  unfolding flat_map
  stamps_zeros = go new.records
    where
      go : (b : Bool) → stamps_of (begun_as b) ≡ replicate (fresh_stamps new.shape b) 0
      go true = fresh_stamps_lem new.shape
      go false = refl

  pub newest_count : length (newest_of begun) ≡ grids
  newest_count = ap length newest_fresh ∙ length_fresh new.shape 0 (grids / grid_stride) ∙ go new.records
    where
      go : (b : Bool) → grid_stride * (fresh_grids new.shape b / grid_stride) ≡ fresh_grids new.shape b
      go true = omega arith
      go false = omega arith

  pub stamps_count : length (stamps_of begun) ≡ stamps
  stamps_count = ap length stamps_zeros ∙ length_zeros stamps

-- no more than a history of the shape takes
pub grids_all : (shape : VersionShape) (records : Bool) → fresh_grids shape records ≤ grid_stride * grid_count shape
grids_all shape true = omega arith
grids_all shape false = omega arith

-- no more than a shape that passes 2 may have
module _ (shape : VersionShape) (shaped : is_shape shape ≡ true) where
  pub grids_few : (records : Bool) → fresh_grids shape records ≤ grid_stride * most_grids
  grids_few true = omega (arith, grids_most shape shaped)
  grids_few false = omega arith

  pub stamps_few : (records : Bool) → fresh_stamps shape records ≤ page_stamps * most_grids
  stamps_few true = history_most shape shaped
  stamps_few false = omega arith

-- ---- what a texture has in a packed slice, as the code writes it

module _ (s : List ℕ) (used : ℕ) {at at' : ℕ} (e : at ≡ at') {n : ℕ} {xs ys : List ℕ} (counted : n ≡ length xs) (same : ys ≡ xs) where
  -- put in
  pub run_put : sets (moved s (at + n) (at + 0) (used - at)) at ys ≡ sets (moved s (at' + length xs) at' (used - at')) at' xs
  run_put = λ j. sets (moved s (e j + counted j) ((add-zero at ∙ e) j) (used - e j)) (e j) (same j)

  -- in place of others
  pub run_renewed : {old size : ℕ} → old ≡ size
      → sets (moved s (at + n) (at + old) (used - (at + old))) at ys ≡ sets (moved s (at' + length xs) (at' + size) (used - (at' + size))) at' xs
  run_renewed q = λ j. sets (moved s (e j + counted j) (e j + q j) (used - (e j + q j))) (e j) (same j)
