-- Laws of a record written after a look: none where it is dropped, and none needed where it stands there already. Assumes nothing.
use mathlib.Core.Path.{◌≡◌, sym, ap, ap₂, ◌∙◌}
use mathlib.Core.Bool.{Bool, true, cond, ◌&&◌}
use mathlib.Core.List.{List}
use Prim.Native.Nat.{ℕ, ◌+◌, ◌-◌, ◌*◌, ◌≤◌}
use native.Mathlib.Omega.{arith}
use borrow.Author.Tests.{eq-eqb, ne_eqb, eqb-true}
use lib.Dec.{eqb}
use lib.ListN.{length, get_or}
use lib.Seq.{sets}
use Rattle.base_blocks.proofs.Lists.{and_both}
use Rattle.base_tables.proofs.Records.{rewritten}
use Rattle.pool_records.specs.declared.texture.TextureRecord.{TextureRecord}
use Rattle.pool_records.specs.Texture.{write_texture, texture_in}
use Rattle.pool_records.specs.Codecs.{texture_codec}
use Rattle.pool_access.proofs.Fields.{spares_number}
use Rattle.pool_trim.specs.declared.look_at.Look.{Look}
use Rattle.pool_trim.specs.declared.pass.Pass.{Pass}
use Rattle.pool_trim.specs.LookAt.{looked_record, looked_put}
use Rattle.pool_trim.proofs.Ages.{due_at}
use Rattle.pool_records.specs.RecordConstants.{texture_due_at, texture_spares_at, texture_stride}

module _ (T : List ℕ) (i : ℕ) (look : Look) (w : Pass) where
  abbrev t₀ : TextureRecord
  t₀ = texture_in T i

  abbrev written : List ℕ
  written = sets T (texture_stride * w.tracked) (write_texture (looked_record look w t₀))

  pub put_none : look.staying ≡ 0 → T ≡ looked_put T i look w
  unfolding looked_put
  put_none e = sym (ap (λ (b : Bool). cond b T written) (eq-eqb look.staying 0 e))

  pub put_some : (look.staying ≡ 0 → ⊥) → written ≡ looked_put T i look w
  unfolding looked_put
  put_some h = sym (ap (λ (b : Bool). cond b T written) (ne_eqb look.staying 0 h))

  -- the numbers that a look may change
  abbrev due : ℕ
  due = get_or T (texture_stride * i + texture_due_at) 0

  abbrev spares : ℕ
  spares = get_or T (texture_stride * i + texture_spares_at) 0

  as_it_stands : due ≡ look.due → spares ≡ look.own - look.aged → t₀.grid ≡ w.grids → t₀.stamp ≡ w.stamps → looked_record look w t₀ ≡ t₀
  unfolding looked_record
  as_it_stands d n g s = λ j. record {
    id = t₀.id;
    shape = t₀.shape;
    epoch = t₀.epoch;
    history = t₀.history;
    birth = t₀.birth;
    rename = t₀.rename;
    due = (sym d ∙ sym (due_at T i)) j;
    spares = (sym n ∙ spares_number T i) j;
    bytes = t₀.bytes;
    grid = sym g j;
    stamp = sym s j;
  }

  pub put_same : (look.staying ≡ 0 → ⊥) → texture_stride * i + texture_stride ≤ length T → look.grid ≡ t₀.grid → look.stamp ≡ t₀.stamp
      → eqb w.tracked i && eqb look.grid w.grids && eqb look.stamp w.stamps && eqb due look.due && eqb spares (look.own - look.aged) ≡ true
      → T ≡ looked_put T i look w
  put_same h fits g s e =
      let five = and_both (eqb w.tracked i && eqb look.grid w.grids && eqb look.stamp w.stamps && eqb due look.due) _ e in
      let four = and_both (eqb w.tracked i && eqb look.grid w.grids && eqb look.stamp w.stamps) (eqb due look.due) five.0 in
      let three = and_both (eqb w.tracked i && eqb look.grid w.grids) (eqb look.stamp w.stamps) four.0 in
      let two = and_both (eqb w.tracked i) (eqb look.grid w.grids) three.0 in
      let stands = as_it_stands (eqb-true due look.due four.1) (eqb-true spares (look.own - look.aged) five.1)
      (sym g ∙ eqb-true look.grid w.grids two.1) (sym s ∙ eqb-true look.stamp w.stamps three.1) in
      sym (ap₂ (λ (k : ℕ) (r : TextureRecord). sets T (texture_stride * k) (write_texture r)) (eqb-true w.tracked i two.0) stands
      ∙ rewritten texture_codec (i + 1) T (omega arith) i (omega arith))
      ∙ put_some h
