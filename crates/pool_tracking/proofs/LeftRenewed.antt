-- take_spare for a texture tracked with another shape: what the code leaves is what the rule leaves. Assumes nothing.
use mathlib.Core.Path.{◌≡◌, refl, sym, ap, ◌∙◌}
use mathlib.Core.Bool.{false}
use mathlib.Core.Option.{none}
use mathlib.Core.List.{List}
use Prim.Native.Nat.{ℕ, ◌+◌, ◌*◌, ◌-◌, ◌/◌}
use lib.ListN.{length, replicate}
use lib.Seq.{sets}
use Rattle.base_blocks.specs.Blocks.{moved}
use Rattle.base_tables.specs.Rings.{laid}
use Rattle.grid_shapes.specs.Shapes.{same_shape}
use Rattle.pool_rules.specs.RuleConstants.{grid_stride}
use Rattle.pool_records.specs.RecordConstants.{doomed_stride, retiring_stride, spare_stride}
use Rattle.pool_records.specs.Starts.{starts_moved}
use Rattle.pool_records.specs.Doomed.{write_doomed}
use Rattle.pool_records.specs.Tilings.{fresh_from}
use Rattle.pool_memory.specs.declared.pool.Pool.{Pool as Counts}
use Rattle.pool_memory.specs.Lent.{Lent, lent}
use Rattle.pool_memory.specs.Calls.{answer, take_spare_on}
use Rattle.pool_memory.proofs.FromPool.{pool_fits}
use Rattle.pool_memory.proofs.Stays.{put_together, book_stays, retiring_stay}
use Rattle.pool_take_doomed.specs.Given.{given_records}
use Rattle.pool_tracking.specs.declared.begun.NewTracking.{NewTracking}
use Rattle.pool_tracking.specs.declared.holding.Holding.{Holding}
use Rattle.pool_tracking.specs.Begun.{fresh_grids}
use Rattle.pool_tracking.specs.Cases.{Begins, record_of, TrackedAt}
use Rattle.pool_tracking.specs.Holdings.{holding_at, given_up, grid_shift, stamp_shift, record_renewed}
use Rattle.pool_tracking.proofs.Counts.{begun_counts}
use Rattle.pool_tracking.proofs.Renewed.{renewed, ruled, counts_left, textures_left, doomed_left, spares_left, newest_left, stamps_left}

module _ (l : Lent) (new : NewTracking) (ok : Begins l new) (h : TrackedAt l new.place new.id)
    (other : same_shape (record_of l new.place).shape new.shape ≡ false) (hold : Holding) (is_held : hold ≡ holding_at l.pool l.textures new.place) where
  pub left_renewed : (places fresh : ℕ) (g : Counts) (textures doomed spares newest stamps : List ℕ)
      → places ≡ length l.retiring / retiring_stride → fresh ≡ fresh_grids new.shape new.records → g ≡ given_up l.pool hold.spares hold.bytes
      → doomed ≡ laid doomed_stride write_doomed places l.pool.first l.pool.doomed (given_records l.spares hold.bytes hold.first hold.spares) l.doomed
      → spares ≡ moved l.spares (spare_stride * hold.first) (spare_stride * hold.first + spare_stride * hold.spares) (spare_stride * (l.pool.kept - (hold.first + hold.spares)))
      → textures ≡ starts_moved (grid_shift hold fresh) (stamp_shift hold new) (new.place + 1) l.pool.tracked (record_renewed l.textures new (l.pool.trackings + 1) hold)
      → newest ≡ sets (moved l.newest (hold.grid + fresh) (hold.grid + hold.grids) (l.pool.grids - (hold.grid + hold.grids))) hold.grid (fresh_from new.shape 0 (fresh / grid_stride))
      → stamps ≡ sets (moved l.stamps (hold.stamp + new.stamps) (hold.stamp + hold.stamps) (l.pool.stamps - (hold.stamp + hold.stamps))) hold.stamp (replicate new.stamps 0)
      → (
        answer none,
        lent (begun_counts g (l.pool.grids - hold.grids + fresh) (l.pool.stamps - hold.stamps + new.stamps) (l.pool.trackings + 1)) l.book textures l.retiring doomed spares newest stamps,
      )
      ≡ take_spare_on l new.id new.shape new.records new.seq
  left_renewed places fresh g textures doomed spares newest stamps e1 e2 e3 e4 e5 e6 e7 e8 =
      let next = renewed l new ok h other in
      ap (λ (m : Lent). (answer none, m))
      (put_together next l (begun_counts g (l.pool.grids - hold.grids + fresh) (l.pool.stamps - hold.stamps + new.stamps) (l.pool.trackings + 1)) l.book textures l.retiring doomed spares newest stamps
      (counts_left l new ok h other hold is_held fresh e2 g e3) (book_stays l (pool_fits l ok.0.0) next refl)
      (textures_left l new ok h other hold is_held fresh e2 textures e6) (retiring_stay l (pool_fits l ok.0.0) next refl refl)
      (doomed_left l new ok h other hold is_held places e1 doomed e4) (spares_left l new ok h other hold is_held spares e5)
      (newest_left l new ok h other hold is_held fresh e2 newest e7) (stamps_left l new ok h other hold is_held stamps e8))
      ∙ sym (ruled l new ok h other)
