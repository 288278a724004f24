-- Laws of spares given up: one more pushed after the others, and the records of all of them. Assumes nothing.
use mathlib.Core.Path.{◌≡◌, refl, sym, ap, ap₂, ◌∙◌}
use mathlib.Core.List.{List, [], ◌∷◌, map}
use Prim.Native.Nat.{ℕ, ◌+◌, ◌*◌}
use native.Mathlib.Nat.{add-zero}
use native.Mathlib.Numerals.{add-one}
use lib.ListN.{get_or}
use lib.Seq.{sets, get_or-drop}
use Rattle.base_blocks.specs.Lists.{listed}
use Rattle.base_blocks.proofs.Listed.{length_listed, listed_more, map_listed}
use Rattle.base_tables.specs.Records.{record_at}
use Rattle.base_tables.specs.Rings.{place_of, laid}
use Rattle.base_tables.proofs.Rings.{laid_more}
use Rattle.pool_records.specs.declared.doomed.DoomedRecord.{DoomedRecord}
use Rattle.pool_records.specs.Spare.{read_spare}
use Rattle.pool_records.specs.Doomed.{write_doomed}
use Rattle.pool_rules.specs.Model.{Spare}
use Rattle.pool_rules.specs.Updates.{as_doomed}
use Rattle.pool_memory.specs.Lent.{Lent}
use Rattle.pool_memory.specs.Reading.{spare_read}
use Rattle.pool_memory.specs.Writing.{doomed_record}
use Rattle.pool_take_doomed.specs.Given.{given_records}
use Rattle.pool_records.specs.RecordConstants.{doomed_stride, spare_stride}

-- a spare's view is the first number of its record
view_at : (spares : List ℕ) (j : ℕ) → (record_at spare_stride read_spare spares j).view ≡ get_or spares (spare_stride * j) 0
unfolding record_at read_spare
view_at spares j = get_or-drop (spare_stride * j) spares 0 0 ∙ ap (λ (k : ℕ). get_or spares k 0) (add-zero (spare_stride * j))

module _ (cap first n : ℕ) (spares : List ℕ) (bytes from : ℕ) (s : List ℕ) where
  pub given_none : s ≡ laid doomed_stride write_doomed cap first n (given_records spares bytes from 0) s
  unfolding given_records listed laid
  given_none = refl

  pub given_more : (j : ℕ)
      → sets (laid doomed_stride write_doomed cap first n (given_records spares bytes from j) s) (doomed_stride * place_of cap first (n + j)) (get_or spares (spare_stride * (from + j)) 0 ∷ bytes ∷ [])
      ≡ laid doomed_stride write_doomed cap first n (given_records spares bytes from (j + 1)) s
  unfolding given_records write_doomed
  given_more j =
      let f : ℕ → DoomedRecord = λ i. record { view = (record_at spare_stride read_spare spares i).view; bytes = bytes } in
      sym (ap (λ (i : ℕ). laid doomed_stride write_doomed cap first n (listed f from i) s) (add-one j)
      ∙ ap (λ (l : List DoomedRecord). laid doomed_stride write_doomed cap first n l s) (listed_more f from j)
      ∙ laid_more doomed_stride write_doomed cap first (listed f from j) (f (from + j)) n s
      ∙ ap₂
      (λ (i v : ℕ). sets (laid doomed_stride write_doomed cap first n (listed f from j) s) (doomed_stride * place_of cap first (n + i)) (v ∷ bytes ∷ []))
      (length_listed f from j) (view_at spares (from + j)))

-- the spares as the model has them
pub given_spares : (l : Lent) (bytes from k : ℕ) → given_records l.spares bytes from k ≡ map doomed_record (as_doomed bytes (listed (spare_read l) from k))
unfolding given_records spare_read
given_spares l bytes from k =
    sym (ap (map doomed_record) (map_listed (λ (s : Spare ℕ). record { view = s.view; bytes = bytes }) (spare_read l) from k)
    ∙ map_listed doomed_record (λ (j : ℕ). record { view = (spare_read l j).view; bytes = bytes }) from k)
