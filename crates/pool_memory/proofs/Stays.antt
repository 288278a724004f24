-- What a call on a pool leaves as it stood, slice by slice, and the lent memory after a call put together from its slices. Assumes nothing.
use mathlib.Core.Path.{◌≡◌, refl, sym, ap, ◌∙◌}
use mathlib.Core.Bool.{Bool, true, ◌&&◌}
use mathlib.Core.List.{List, [], ◌∷◌, map}
use Prim.Native.Nat.{ℕ, ◌+◌, ◌*◌, ◌≤◌}
use native.Mathlib.Omega.{arith}
use lib.Dec.{ltb}
use lib.ListN.{length}
use Rattle.base_blocks.specs.Lists.{ascending, total}
use Rattle.base_blocks.specs.All.{All, nil, cons}
use Rattle.pool_rules.specs.Model.{Doomed, VersionState, PoolModel, doomed_bytes}
use Rattle.pool_rules.specs.HistorySizes.{newest_used, stamps_used}
use Rattle.pool_rules.specs.Formed.{DoomedFormed}
use Rattle.pool_records.specs.declared.texture.TextureRecord.{TextureRecord}
use Rattle.pool_records.specs.Find.{id_of}
use Rattle.pool_memory.specs.declared.pool.Pool.{Pool as Counts}
use Rattle.pool_memory.specs.declared.book.PacingBook.{PacingBook}
use Rattle.pool_memory.specs.Lent.{Lent, lent, version_places}
use Rattle.pool_memory.specs.Reading.{tracked_records, model_of}
use Rattle.pool_memory.specs.Writing.{texture_records, every_spare, textures_after, spares_after, newest_after, stamps_after, retiring_after, doomed_after, pool_after, mark_of, pacing_after, lent_after}
use Rattle.pool_memory.specs.IsPool.{state_id}
use Rattle.pool_memory.proofs.FitsTests.{ascending_passes}
use Rattle.pool_memory.proofs.Fits.{Fits}
use Rattle.pool_memory.proofs.Runs.{records_model}
use Rattle.pool_memory.proofs.Kept.{kept_history}
use Rattle.pool_memory.proofs.Rings.{retiring_same, doomed_same}
use Rattle.pool_memory.proofs.Same.{book_same, textures_same, spares_same, newest_same, stamps_same, after_same}
use Rattle.grid_shapes.specs.ShapeConstants.{most_shape_bytes}
use Rattle.pool_records.specs.RecordConstants.{spare_stride, texture_stride}

-- what a call leaves, slice by slice
pub put_together : (p : PoolModel ℕ) (l : Lent) (c : Counts) (b : PacingBook) (textures retiring doomed spares newest stamps : List ℕ)
    → c ≡ pool_after p l → b ≡ pacing_after p → textures ≡ textures_after p l → retiring ≡ retiring_after p l → doomed ≡ doomed_after p l
    → spares ≡ spares_after p l → newest ≡ newest_after p l → stamps ≡ stamps_after p l
    → lent c b textures retiring doomed spares newest stamps ≡ lent_after p l
unfolding lent_after
put_together p l c b textures retiring doomed spares newest stamps e1 e2 e3 e4 e5 e6 e7 e8 =
    λ i. lent (e1 i) (e2 i) (e3 i) (e4 i) (e5 i) (e6 i) (e7 i) (e8 i)

-- ids ascend along the records as they do along the states
ascending_records : (grid stamp : ℕ) (ts : List (VersionState ℕ)) → ascending id_of (texture_records grid stamp ts) ≡ ascending state_id ts
unfolding ascending texture_records
ascending_records grid stamp [] = refl
ascending_records grid stamp (t ∷ []) = refl
ascending_records grid stamp (t ∷ u ∷ us) =
    ap (λ (b : Bool). ltb t.id u.id && b) (ascending_records (grid + newest_used t) (stamp + stamps_used t) (u ∷ us))

-- the bytes of formed versions
pub doomed_bound : {ds : List (Doomed ℕ)} → All DoomedFormed ds → doomed_bytes ds ≤ most_shape_bytes * length ds
unfolding total
doomed_bound nil = omega arith
doomed_bound (cons d ds) = omega (arith, d.bytes, doomed_bound ds)

module _ (l : Lent) (f : Fits l) where
  pub ids_ascend : ascending id_of (tracked_records l) ≡ true
  ids_ascend =
      ap (ascending id_of) (sym (records_model l f.bytes f.starts)) ∙ ascending_records 0 0 (model_of l).textures
      ∙ ascending_passes f.formed.ids

  pub textures_fit_lem : texture_stride * l.pool.tracked ≤ length l.textures
  textures_fit_lem = omega (arith, f.textures, f.tracked)

  pub spares_fit : spare_stride * total (λ (t : TextureRecord). t.spares) (tracked_records l) ≤ length l.spares
  spares_fit = omega (arith, f.spares, f.kept, f.versions)

  pub ring_fits : l.pool.popped + l.pool.queued ≤ version_places l
  ring_fits = omega (arith, f.versions)

  pub doomed_fit_lem : l.pool.doomed ≤ version_places l
  doomed_fit_lem = omega (arith, f.versions)

  -- nothing changed
  pub nothing_changed : lent_after (model_of l) l ≡ l
  nothing_changed = after_same l f

  module _ (p : PoolModel ℕ) where
    pub book_stays : p.pacing ≡ (model_of l).pacing → l.book ≡ pacing_after p
    unfolding pacing_after
    book_stays e =
        sym (book_same l f.mark)
        ∙ (λ i. record { arrivals = (sym e i).arrivals; slot = (sym e i).slot; pressed = mark_of (sym e i).pressed; excess = (sym e i).excess })

    pub textures_stay : texture_records 0 0 p.textures ≡ texture_records 0 0 (model_of l).textures → l.textures ≡ textures_after p l
    textures_stay e = sym (textures_same l p textures_fit_lem (e ∙ records_model l f.bytes f.starts))

    pub spares_stay : every_spare p.textures ≡ every_spare (model_of l).textures → l.spares ≡ spares_after p l
    spares_stay e = sym (spares_same l p spares_fit e)

    -- textures that keep their ids, shapes and histories
    pub newest_stay : map kept_history p.textures ≡ map kept_history (model_of l).textures → l.newest ≡ newest_after p l
    newest_stay e = sym (newest_same l p f e)

    pub stamps_stay : map kept_history p.textures ≡ map kept_history (model_of l).textures → l.stamps ≡ stamps_after p l
    stamps_stay e = sym (stamps_same l p f e)

    pub retiring_stay : p.hand ≡ (model_of l).hand → p.retiring ≡ (model_of l).retiring → l.retiring ≡ retiring_after p l
    retiring_stay e g = sym (retiring_same l p f.head (omega (arith, f.retiring)) f.hand ring_fits e g)

    pub doomed_stay : p.doomed ≡ (model_of l).doomed → l.doomed ≡ doomed_after p l
    doomed_stay e = sym (doomed_same l p f.first (omega (arith, f.doomed)) doomed_fit_lem e)
