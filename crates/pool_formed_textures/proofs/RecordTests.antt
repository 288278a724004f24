-- What a pass learns at one texture's record. Assumes nothing.
use mathlib.Core.Path.{◌≡◌, sym, ap, ap₂, ◌∙◌, subst}
use mathlib.Core.Bool.{Bool, true, false, ◌&&◌}
use mathlib.Core.List.{List, []}
use Prim.Native.Nat.{ℕ, ◌+◌, ◌*◌, ◌-◌, ◌≤◌, ◌<◌}
use native.Mathlib.Nat.{add-zero, mul-le-mul}
use native.Mathlib.Omega.{arith}
use borrow.Author.Tests.{lt-ltb, le-ltb}
use lib.Dec.{leb, eqb}
use lib.ListN.{take, drop, get_or}
use lib.Seq.{get_or-drop}
use Rattle.base_blocks.specs.Lists.{all, total, ascending, tests, after}
use Rattle.base_blocks.proofs.Lists.{all_get, total_get, passed}
use Rattle.base_blocks.proofs.Listed.{left, ascending_more, ascending_stop}
use Rattle.base_tables.specs.Records.{record_at}
use Rattle.base_tables.proofs.Records.{length_table, get_or_table, record_part}
use Rattle.grid_shapes.specs.declared.shape.VersionShape.{VersionShape}
use Rattle.grid_shapes.specs.Shapes.{is_shape, bytes_of}
use Rattle.grid_shapes.proofs.ShapeBytes.{bytes_bound}
use Rattle.pool_rules.specs.Model.{limit}
use Rattle.pool_records.specs.declared.texture.TextureRecord.{TextureRecord}
use Rattle.pool_records.specs.Texture.{read_texture, texture_in, record_spares, textures_in}
use Rattle.pool_records.specs.Find.{id_of}
use Rattle.pool_records.specs.Codecs.{texture_codec}
use Rattle.pool_memory.specs.IsPool.{bytes_hold}
use Rattle.pool_memory.proofs.Runs.{bytes_held}
use Rattle.pool_formed_textures.specs.Textures.{writes_fit, is_record}
use Rattle.pool_formed_textures.proofs.Tests.{fails}
use Rattle.grid_shapes.specs.ShapeConstants.{most_shape_bytes}
use Rattle.pool_records.specs.RecordConstants.{texture_grid_at, texture_spares_at, texture_stamp_at, texture_stride}
use Rattle.pool_rules.specs.RuleConstants.{most_places}

-- ---- records

-- read out of the part of the slice that holds it
pub texture_read : (s : List ℕ) (i : ℕ) (p : List ℕ) → p ≡ take texture_stride (drop (texture_stride * i) s) → read_texture p ≡ texture_in s i
texture_read s i p e = ap read_texture e ∙ record_part texture_codec s i

-- ---- ids

id_here : (s : List ℕ) (i : ℕ) → get_or s (texture_stride * i) 0 ≡ id_of (texture_in s i)
unfolding record_at read_texture
id_here s i = sym (get_or-drop (texture_stride * i) s 0 0 ∙ ap (λ (k : ℕ). get_or s k 0) (add-zero (texture_stride * i)))

-- the one before record i, and what the two tell of those from there on
module _ (s : List ℕ) (n i : ℕ) (p : 0 < i) (h : i < n) where
  next : i - 1 + 1 ≡ i
  next = omega arith

  id_next : get_or s (texture_stride * i) 0 ≡ id_of (texture_in s (i - 1 + 1))
  id_next = id_here s i ∙ ap (λ (k : ℕ). id_of (texture_in s k)) (sym next)

  id_before : get_or s (texture_stride * i - texture_stride) 0 ≡ id_of (texture_in s (i - 1))
  id_before = ap (λ (k : ℕ). get_or s k 0) (let e : texture_stride * i - texture_stride ≡ texture_stride * (i - 1) = omega arith in e) ∙ id_here s (i - 1)

  pub ids_more : get_or s (texture_stride * i - texture_stride) 0 < get_or s (texture_stride * i) 0
      → ascending id_of (left (texture_in s) n (i - 1)) ≡ ascending id_of (left (texture_in s) n (i + 1 - 1))
  ids_more q =
      ascending_more (texture_in s) n id_of (i - 1) (omega arith) (lt-ltb (id_of (texture_in s (i - 1))) (id_of (texture_in s (i - 1 + 1))) (omega (arith, id_before, id_next)))
      ∙ ap (λ (k : ℕ). ascending id_of (left (texture_in s) n k)) (let e : i - 1 + 1 ≡ i + 1 - 1 = omega arith in e)

  pub ids_stop : get_or s (texture_stride * i) 0 ≤ get_or s (texture_stride * i - texture_stride) 0 → ascending id_of (left (texture_in s) n (i - 1)) ≡ false
  ids_stop q =
      ascending_stop (texture_in s) n id_of (i - 1) (omega arith)
      (le-ltb (id_of (texture_in s (i - 1))) (id_of (texture_in s (i - 1 + 1))) (omega (arith, id_before, id_next)))

-- ---- single records

module _ (t u : TextureRecord) (e : t ≡ u) where
  pub record_unshaped : is_shape t.shape ≡ false → false ≡ is_record u
  unfolding is_record
  record_unshaped q = sym (fails _ 0 q) ∙ ap is_record e

  pub record_test : (w : Bool) (bytes : ℕ) → is_shape t.shape ≡ true → w ≡ writes_fit t.history → bytes ≡ bytes_of t.shape
      → leb t.epoch limit && leb t.birth limit && leb t.rename limit && leb t.due limit && w && eqb t.bytes bytes ≡ is_record u
  unfolding is_record bytes_hold tests after
  record_test w bytes q ew eb =
      ap₂ (λ (y : Bool) (n : ℕ). leb t.epoch limit && leb t.birth limit && leb t.rename limit && leb t.due limit && y && eqb t.bytes n) ew eb
      ∙ ap (λ (x : Bool). x && leb t.epoch limit && leb t.birth limit && leb t.rename limit && leb t.due limit && writes_fit t.history && eqb t.bytes (bytes_of t.shape))
      (sym q)
      ∙ ap is_record e

pub bytes_small : (s : VersionShape) (b k : ℕ) → b ≡ bytes_of s → is_shape s ≡ true → k ≤ most_places → b * k ≤ 72057594037927936
bytes_small s b k e h q = mul-le-mul {n₂ = most_shape_bytes} {m₂ = most_places} (omega (arith, e, bytes_bound s h)) q

-- ---- what passed, of the record at i

pub record_shape : (t : TextureRecord) → is_record t ≡ true → is_shape t.shape ≡ true
unfolding is_record
record_shape t e = passed _ e 0

pub record_holds_lem : (t : TextureRecord) → is_record t ≡ true → bytes_hold t ≡ true
unfolding is_record
record_holds_lem t e = passed _ e 6

module _ (s : List ℕ) (n : ℕ) (ok : all is_record (textures_in n s) ≡ true) where
  pub shape_at : (i : ℕ) → i < n → is_shape (texture_in s i).shape ≡ true
  shape_at i h =
      let e = get_or_table texture_stride read_texture n i s (read_texture []) h in
      let f = all_get is_record (textures_in n s) i (read_texture []) ok (omega (arith, length_table texture_stride read_texture n s)) in
      record_shape (texture_in s i) (rw e at f)

  pub bytes_at : (i : ℕ) → i < n → (texture_in s i).bytes ≡ bytes_of (texture_in s i).shape
  bytes_at i h =
      let e = get_or_table texture_stride read_texture n i s (read_texture []) h in
      let f = all_get is_record (textures_in n s) i (read_texture []) ok (omega (arith, length_table texture_stride read_texture n s)) in
      bytes_held (texture_in s i) (record_holds_lem (texture_in s i) (rw e at f))

pub spares_at_lem : (s : List ℕ) (n i : ℕ) → i < n → (texture_in s i).spares ≤ total record_spares (textures_in n s)
spares_at_lem s n i h =
    let e = get_or_table texture_stride read_texture n i s (read_texture []) h in
    let f = total_get record_spares (textures_in n s) i (read_texture []) (omega (arith, length_table texture_stride read_texture n s)) in
    rw e at f

-- ---- the record at i, read out of its part of the slice

module _ (s : List ℕ) (i : ℕ) (p : List ℕ) (e : p ≡ take texture_stride (drop (texture_stride * i) s)) where
  pub read_shape : (n : ℕ) → all is_record (textures_in n s) ≡ true → i < n → is_shape (read_texture p).shape ≡ true
  read_shape n ok h = ap (λ (t : TextureRecord). is_shape t.shape) (texture_read s i p e) ∙ shape_at s n ok i h

  pub read_bytes : (n : ℕ) → all is_record (textures_in n s) ≡ true → i < n → (read_texture p).bytes ≡ bytes_of (read_texture p).shape
  read_bytes n ok h = subst (λ (t : TextureRecord). t.bytes ≡ bytes_of t.shape) (sym (texture_read s i p e)) (bytes_at s n ok i h)

  pub read_spares : get_or p texture_spares_at 0 ≡ (texture_in s i).spares
  unfolding read_texture
  read_spares = ap (λ (t : TextureRecord). t.spares) (texture_read s i p e)

  pub read_grid : get_or p texture_grid_at 0 ≡ (texture_in s i).grid
  unfolding read_texture
  read_grid = ap (λ (t : TextureRecord). t.grid) (texture_read s i p e)

  pub read_stamp : get_or p texture_stamp_at 0 ≡ (texture_in s i).stamp
  unfolding read_texture
  read_stamp = ap (λ (t : TextureRecord). t.stamp) (texture_read s i p e)
