-- Laws of the place of an id: all before it are below the id, the one at it is not, and what a search by halves learns at one place.
-- Assumes nothing.
use mathlib.Core.Path.{◌≡◌, refl, ap, ◌∙◌}
use mathlib.Core.Bool.{true}
use mathlib.Core.List.{List, [], ◌∷◌}
use Prim.Native.Nat.{ℕ, zero, suc, ◌+◌, ◌*◌, ◌≤◌, ◌<◌, min}
use native.Mathlib.Nat.{add-zero}
use native.Mathlib.Decide.{dec_lt}
use native.Mathlib.Omega.{arith}
use lib.Dec.{ltb}
use mir.Val.{bool_byte}
use borrow.Author.Tests.{lt-ltb, le-ltb}
use lib.ListN.{length, get_or}
use lib.Seq.{get_or-drop}
use Rattle.base_blocks.specs.Lists.{ascending}
use Rattle.base_blocks.proofs.Lists.{ascending_get}
use Rattle.base_tables.specs.Records.{record_at}
use Rattle.base_tables.proofs.Records.{length_table, get_or_table}
use Rattle.pool_records.specs.declared.texture.TextureRecord.{TextureRecord}
use Rattle.pool_records.specs.Texture.{read_texture, textures_in}
use Rattle.pool_records.specs.Find.{id_of, below}
use Rattle.pool_records.specs.RecordConstants.{texture_stride}

module _ (id : ℕ) where
  below_more : (t : TextureRecord) (ts : List TextureRecord) → t.id < id → below id (t ∷ ts) ≡ suc (below id ts)
  unfolding below
  below_more t ts h = rw (lt-ltb t.id id h)

  below_stop : (t : TextureRecord) (ts : List TextureRecord) → id ≤ t.id → below id (t ∷ ts) ≡ 0
  unfolding below
  below_stop t ts h = rw (le-ltb t.id id h)

  below_none : below id [] ≡ 0
  unfolding below
  below_none = refl

  pub below_length : (ts : List TextureRecord) → below id ts ≤ length ts
  below_length [] = omega (arith, below_none)
  below_length (t ∷ ts) = go (dec_lt t.id id) (below_length ts)
    where
      go : Dec (t.id < id) → below id ts ≤ length ts → below id (t ∷ ts) ≤ length (t ∷ ts)
      go (yes h) k = omega (arith, below_more t ts h)
      go (no h) k = omega (arith, below_stop t ts (omega arith))

  -- those before the place are below the id
  pub below_before : (ts : List TextureRecord) (i : ℕ) (d : TextureRecord) → i < below id ts → (get_or ts i d).id < id
  below_before [] i d k = absurd (let y : ⊥ = omega (arith, below_none) in y)
  below_before (t ∷ ts) i d k = go (dec_lt t.id id) i k (λ j. below_before ts j d)
    where
      go : Dec (t.id < id) → (i : ℕ) → i < below id (t ∷ ts) → ((j : ℕ) → j < below id ts → (get_or ts j d).id < id) → (get_or (t ∷ ts) i d).id < id
      go (yes h) zero q r = h
      go (yes h) (suc j) q r = r j (omega (arith, below_more t ts h))
      go (no h) i q r = absurd (let y : ⊥ = omega (arith, below_stop t ts (omega arith)) in y)

  -- the one at the place is not
  pub below_at : (ts : List TextureRecord) (d : TextureRecord) → below id ts < length ts → id ≤ (get_or ts (below id ts) d).id
  below_at [] d k = absurd (let y : ⊥ = omega arith in y)
  below_at (t ∷ ts) d k = go (dec_lt t.id id) (below_at ts d)
    where
      go : Dec (t.id < id) → (below id ts < length ts → id ≤ (get_or ts (below id ts) d).id) → id ≤ (get_or (t ∷ ts) (below id (t ∷ ts)) d).id
      go (yes h) r = let e = below_more t ts h in rw e (r (omega arith))
      go (no h) r = let e = below_stop t ts (omega arith) in rw e (omega arith)

  -- what one id says of the place: it is not past an id that is not below
  pub not_past : (ts : List TextureRecord) (i : ℕ) (d : TextureRecord) → id ≤ (get_or ts i d).id → below id ts ≤ i
  not_past ts i d h = go (dec_lt i (below id ts))
    where
      go : Dec (i < below id ts) → below id ts ≤ i
      go (yes q) = let a = below_before ts i d q in omega arith
      go (no q) = omega arith

  module _ (ts : List TextureRecord) (i : ℕ) (d : TextureRecord) (within : i < length ts) (up : ascending id_of ts ≡ true) where
    reached : (get_or ts i d).id ≤ id → i ≤ below id ts
    reached h = go (dec_lt (below id ts) i)
      where
        go : Dec (below id ts < i) → i ≤ below id ts
        go (yes k) =
            let a = below_at ts d (omega arith) in
            let b = ascending_get id_of ts (below id ts) i d up k within in
            omega arith
        go (no k) = omega arith

    -- it is past an id that is below
    pub past : (get_or ts i d).id < id → i < below id ts
    past h = go (dec_lt i (below id ts))
      where
        go : Dec (i < below id ts) → i < below id ts
        go (yes q) = q
        go (no q) =
            let e : below id ts ≡ i = omega (arith, reached (omega arith)) in
            let f = below_at ts d (omega arith) in
            let g : id ≤ (get_or ts i d).id = rw e at f in
            omega arith

    -- a texture that is there is at the place of its id
    pub below_found : (get_or ts i d).id ≡ id → below id ts ≡ i
    below_found e = omega (arith, reached (omega arith), not_past ts i d (omega arith))

-- an id is the first number of its record
pub id_at : (n i : ℕ) (s : List ℕ) → i < n → (get_or (textures_in n s) i (read_texture [])).id ≡ get_or s (texture_stride * i) 0
unfolding read_texture record_at
id_at n i s h =
    ap id_of (get_or_table texture_stride read_texture n i s (read_texture []) h)
    ∙ get_or-drop (texture_stride * i) s 0 0 ∙ ap (λ (k : ℕ). get_or s k 0) (add-zero (texture_stride * i))

-- the search's two turns
module _ (n i id : ℕ) (s : List ℕ) (h : i < n) where
  pub search_past : ascending id_of (textures_in n s) ≡ true → get_or s (texture_stride * i) 0 < id → i < below id (textures_in n s)
  search_past up q = past id (textures_in n s) i (read_texture []) (omega (arith, length_table texture_stride read_texture n s)) up (omega (arith, id_at n i s h))

  pub search_before : id ≤ get_or s (texture_stride * i) 0 → below id (textures_in n s) ≤ i
  search_before q = not_past id (textures_in n s) i (read_texture []) (omega (arith, id_at n i s h))

  -- and a count's turn: one more where this one is below the id
  pub search_count : ascending id_of (textures_in n s) ≡ true →
      min i (below id (textures_in n s)) + bool_byte (ltb (get_or s (texture_stride * i) 0) id) ≡ min (i + 1) (below id (textures_in n s))
  search_count up = go (dec_lt (get_or s (texture_stride * i) 0) id)
    where
      go : Dec (get_or s (texture_stride * i) 0 < id) → min i (below id (textures_in n s)) + bool_byte (ltb (get_or s (texture_stride * i) 0) id) ≡ min (i + 1) (below id (textures_in n s))
      go (yes q) = let e = lt-ltb (get_or s (texture_stride * i) 0) id q in rw e (omega (arith, search_past up q))
      go (no q) = let e = le-ltb (get_or s (texture_stride * i) 0) id (omega arith) in rw e (omega (arith, search_before (omega arith)))

pub search_end : (n id : ℕ) (s : List ℕ) → below id (textures_in n s) ≤ n
search_end n id s = omega (arith, below_length id (textures_in n s), length_table texture_stride read_texture n s)
