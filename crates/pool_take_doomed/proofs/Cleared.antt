-- Textures' records cleared of their spares, one after the other. Assumes nothing.
use mathlib.Core.Path.{◌≡◌, refl, sym, ap, ap₂, ◌∙◌}
use mathlib.Core.List.{List, [], ◌∷◌, ◌++◌, map, map-append, append_assoc, append-nil}
use Prim.Native.Nat.{ℕ, suc, ◌+◌, ◌*◌, ◌≤◌}
use native.Mathlib.Nat.{zero-add}
use native.Mathlib.Numerals.{add-one}
use native.Mathlib.Omega.{arith}
use lib.ListN.{length, drop, set, length-append, length-map, length-drop, take-append-drop}
use lib.Seq.{drop-drop}
use Rattle.base_blocks.specs.Lists.{listed, over}
use Rattle.base_blocks.proofs.Listed.{listed_more}
use Rattle.base_tables.specs.Records.{record_at, table, flat}
use Rattle.base_tables.proofs.Records.{length_table, flat_append, length_flat}
use Rattle.pool_records.specs.declared.texture.TextureRecord.{TextureRecord}
use Rattle.pool_records.specs.Texture.{read_texture, write_texture, texture_in, textures_in}
use Rattle.pool_records.specs.Codecs.{texture_codec}
use Rattle.pool_take_doomed.specs.DrainVersions.{spareless, cleared}
use Rattle.pool_records.specs.RecordConstants.{texture_spares_at, texture_stride}

-- an element of the second of two lists set
set_past : (a b : List ℕ) (k x : ℕ) → set (a ++ b) (length a + k) x ≡ a ++ set b k x
set_past [] b k x = ap (λ (i : ℕ). set b i x) (zero-add k)
set_past (y ∷ a) b k x =
    ap (λ (i : ℕ). set (y ∷ (a ++ b)) i x) (let e : suc (length a) + k ≡ suc (length a + k) = omega arith in e)
    ∙ ap (λ (l : List ℕ). y ∷ l) (set_past a b k x)

-- the last but one of a record's numbers is how many spares it has
set_spares : (t : TextureRecord) (b : List ℕ) → set (write_texture t ++ b) 18 0 ≡ write_texture (spareless t) ++ b
unfolding write_texture
set_spares t b = refl

pub cleared_none : (s : List ℕ) → s ≡ cleared 0 s
unfolding cleared table listed flat over
cleared_none s = refl

module _ (s : List ℕ) (i : ℕ) (fits : texture_stride * i + texture_stride ≤ length s) where
  abbrev front : List ℕ
  front = flat write_texture (map spareless (textures_in i s))

  length_front : length front ≡ texture_stride * i
  length_front =
      length_flat texture_codec (map spareless (textures_in i s))
      ∙ ap (λ (k : ℕ). texture_stride * k) (length-map (textures_in i s) spareless ∙ length_table texture_stride read_texture i s)

  -- record i and what stands past it
  parted : drop (texture_stride * i) s ≡ write_texture (texture_in s i) ++ drop (texture_stride * i + texture_stride) s
  unfolding record_at
  parted =
      sym (take-append-drop texture_stride (drop (texture_stride * i) s))
      ∙ ap₂ (λ (a b : List ℕ). a ++ b) (sym (texture_codec.back (drop (texture_stride * i) s) (omega (arith, length-drop (texture_stride * i) s)))) (drop-drop texture_stride (texture_stride * i) s)

  front_more : flat write_texture (map spareless (textures_in (i + 1) s)) ≡ front ++ write_texture (spareless (texture_in s i))
  unfolding table flat
  front_more =
      let f = texture_in s in
      ap (λ (n : ℕ). flat write_texture (map spareless (listed f 0 n))) (add-one i)
      ∙ ap (λ (ts : List TextureRecord). flat write_texture (map spareless ts))
      (listed_more f 0 i ∙ ap (λ (k : ℕ). listed f 0 i ++ (f k ∷ [])) (zero-add i))
      ∙ ap (flat write_texture) (map-append spareless (listed f 0 i) (f i ∷ []))
      ∙ flat_append write_texture (map spareless (listed f 0 i)) (spareless (f i) ∷ [])
      ∙ ap (λ (l : List ℕ). flat write_texture (map spareless (listed f 0 i)) ++ l) (append-nil (write_texture (spareless (f i))))

  pub cleared_more : set (cleared i s) (texture_stride * i + texture_spares_at) 0 ≡ cleared (i + 1) s
  unfolding cleared over
  cleared_more =
      let t = texture_in s i in
      let rest = drop (texture_stride * i + texture_stride) s in
      let longer : length (front ++ write_texture (spareless t)) ≡ texture_stride * i + texture_stride =
      length-append front (write_texture (spareless t)) ∙ ap₂ (λ (a b : ℕ). a + b) length_front (texture_codec.long (spareless t)) in
      ap (λ (k : ℕ). set (front ++ drop k s) (texture_stride * i + texture_spares_at) 0) length_front
      ∙ ap (λ (k : ℕ). set (front ++ drop (texture_stride * i) s) (k + 18) 0) (sym length_front)
      ∙ set_past front (drop (texture_stride * i) s) 18 0
      ∙ ap (λ (l : List ℕ). front ++ set l texture_spares_at 0) parted
      ∙ ap (λ (l : List ℕ). front ++ l) (set_spares t rest)
      ∙ sym (append_assoc front (write_texture (spareless t)) rest)
      ∙ ap (λ (k : ℕ). (front ++ write_texture (spareless t)) ++ drop k s) (sym longer)
      ∙ ap (λ (l : List ℕ). l ++ drop (length l) s) (sym front_more)
