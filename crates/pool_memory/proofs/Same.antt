-- What a call leaves of a pool whose parts are the model's: the slices, the counts and the book as they stood. Assumes nothing.
use mathlib.Core.Path.{◌≡◌, refl, ap, ◌∙◌}
use mathlib.Core.List.{List, map}
use Prim.Native.Nat.{ℕ, zero, suc, ◌*◌, ◌≤◌}
use native.Mathlib.Omega.{arith}
use lib.Dec.{eqb}
use lib.ListN.{length}
use Rattle.base_blocks.specs.Lists.{listed, over, total}
use Rattle.base_blocks.proofs.Listed.{length_listed, map_listed}
use Rattle.base_tables.specs.Records.{table, flat}
use Rattle.base_tables.proofs.Records.{over_table}
use Rattle.pool_rules.specs.Model.{PoolModel}
use Rattle.pool_records.specs.declared.texture.TextureRecord.{TextureRecord}
use Rattle.pool_records.specs.declared.spare.SpareRecord.{SpareRecord}
use Rattle.pool_records.specs.Texture.{write_texture}
use Rattle.pool_records.specs.Spare.{read_spare, write_spare}
use Rattle.pool_records.specs.Codecs.{texture_codec, spare_codec}
use Rattle.pool_memory.specs.Lent.{Lent}
use Rattle.pool_memory.specs.Reading.{tracked_records, spare_read, retiring_read, doomed_read, model_of}
use Rattle.pool_memory.specs.Writing.{texture_records, spare_record, every_spare, textures_after, spares_after, newest_after, stamps_after, pool_after, mark_of, pacing_after, lent_after}
use Rattle.pool_memory.proofs.Runs.{spares_of, tracked_model, records_model, spares_model, kept_model, grids_model, stamps_used_model}
use Rattle.pool_memory.proofs.Kept.{kept_history, newest_kept, stamps_kept}
use Rattle.pool_memory.proofs.Fits.{Fits}
use Rattle.pool_memory.proofs.Packings.{newest_packing, stamps_packing, same_packed}
use Rattle.pool_memory.proofs.Rings.{head_stays, hand_model, retiring_same, first_stays, doomed_same}
use Rattle.pool_records.specs.RecordConstants.{spare_stride, texture_stride}

-- the spares' records
pub spare_records : (l : Lent) (n : ℕ) → map spare_record (listed (spare_read l) 0 n) ≡ table spare_stride read_spare n l.spares
unfolding spare_read table
spare_records l n = map_listed spare_record (spare_read l) 0 n

module _ (l : Lent) (p : PoolModel ℕ) where
  pub textures_same : texture_stride * l.pool.tracked ≤ length l.textures → texture_records 0 0 p.textures ≡ tracked_records l
      → textures_after p l ≡ l.textures
  unfolding textures_after
  textures_same fits e =
      ap (λ (xs : List TextureRecord). over (flat write_texture xs) l.textures) e ∙ over_table texture_codec l.pool.tracked l.textures fits

  pub spares_same : spare_stride * total spares_of (tracked_records l) ≤ length l.spares → every_spare p.textures ≡ every_spare (model_of l).textures
      → spares_after p l ≡ l.spares
  unfolding spares_after
  spares_same fits e =
      ap (λ (xs : List SpareRecord). over (flat write_spare xs) l.spares)
      (ap (map spare_record) (e ∙ spares_model l) ∙ spare_records l (total spares_of (tracked_records l)))
      ∙ over_table spare_codec (total spares_of (tracked_records l)) l.spares fits

  -- textures that keep their ids, shapes and histories keep their grids
  module _ (f : Fits l) (e : map kept_history p.textures ≡ map kept_history (model_of l).textures) where
    pub newest_same : newest_after p l ≡ l.newest
    unfolding newest_after
    newest_same = same_packed (newest_packing l f) p (newest_kept p.textures (model_of l).textures e)

    pub stamps_same : stamps_after p l ≡ l.stamps
    unfolding stamps_after
    stamps_same = same_packed (stamps_packing l f) p (stamps_kept p.textures (model_of l).textures e)

-- ---- nothing changed at all

-- a mark that is 0 or 1 is written back as it was read
pub mark_same : (n : ℕ) → n ≤ 1 → mark_of (eqb n 1) ≡ n
mark_same zero h = refl
mark_same (suc zero) h = refl
mark_same (suc (suc n)) h = absurd (let y : ⊥ = omega arith in y)

module _ (l : Lent) where
  pub book_same : l.book.pressed ≤ 1 → pacing_after (model_of l) ≡ l.book
  unfolding pacing_after model_of
  book_same h = λ i. record {
    arrivals = l.book.arrivals;
    slot = l.book.slot;
    pressed = mark_same l.book.pressed h i;
    excess = l.book.excess;
  }

  pub queued_model : length (model_of l).retiring ≡ l.pool.queued
  unfolding model_of
  queued_model = length_listed (retiring_read l) l.pool.popped l.pool.queued

  pub doomed_model : length (model_of l).doomed ≡ l.pool.doomed
  unfolding model_of
  doomed_model = length_listed (doomed_read l) 0 l.pool.doomed

  module _ (f : Fits l) where
    pub pool_same : pool_after (model_of l) l ≡ l.pool
    unfolding pool_after model_of
    pool_same = λ i. record {
      tracked = tracked_model l i;
      kept = (kept_model l ∙ f.kept) i;
      grids = (grids_model l ∙ f.claimed) i;
      stamps = (stamps_used_model l ∙ f.stamps_claimed) i;
      head = head_stays l (model_of l) f.head (omega (arith, hand_model l f.hand)) i;
      popped = hand_model l f.hand i;
      queued = queued_model i;
      first = first_stays l (model_of l) f.first (omega (arith, doomed_model)) i;
      doomed = doomed_model i;
      since = l.pool.since;
      trackings = l.pool.trackings;
      parked = l.pool.parked;
      dooming = l.pool.dooming;
      cap = l.pool.cap;
      line = l.pool.line;
    }

    -- the lent memory as it stood
    pub after_same : lent_after (model_of l) l ≡ l
    unfolding lent_after
    after_same = λ i. record {
      pool = pool_same i;
      book = book_same f.mark i;
      textures = textures_same l (model_of l) (omega (arith, f.textures, f.tracked)) (records_model l f.bytes f.starts) i;
      retiring = retiring_same l (model_of l) f.head (omega (arith, f.retiring)) f.hand (omega (arith, f.versions)) refl refl i;
      doomed = doomed_same l (model_of l) f.first (omega (arith, f.doomed)) (omega (arith, f.versions)) refl i;
      spares = spares_same l (model_of l) (omega (arith, f.spares, f.kept, f.versions)) refl i;
      newest = newest_same l (model_of l) f refl i;
      stamps = stamps_same l (model_of l) f refl i;
    }
