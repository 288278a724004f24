-- Laws of the loops over parking numbers. Assumes nothing.
use mathlib.Core.Path.{◌≡◌, refl, sym, ap, ap₂, ◌∙◌}
use mathlib.Core.Bool.{Bool, true, false, cond}
use mathlib.Core.List.{List, [], ◌∷◌}
use mathlib.Core.Logic.{◌⊎◌, inl, inr, ⊎_elim}
use Prim.Native.Nat.{ℕ, suc, ◌+◌, ◌-◌, ◌*◌, ◌≤◌, ◌<◌}
use native.Mathlib.Nat.{mul-le-mul_left}
use native.Mathlib.Omega.{arith}
use lib.Dec.{ltb, leb}
use lib.ListN.{length, get_or}
use lib.Seq.{get_or-drop}
use native.Mathlib.Decide.{dec_lt}
use borrow.Author.Tests.{le-leb, lt-leb, lt-ltb, le-ltb, eq-eqb, ne_eqb}
use Rattle.base_blocks.specs.Lists.{listed, total}
use Rattle.base_blocks.proofs.Lists.{either}
use Rattle.base_blocks.proofs.Listed.{left, left_step, left_none, total_more, total_done, length_listed}
use Rattle.base_tables.specs.Records.{record_at}
use Rattle.grid_shapes.specs.Shapes.{bytes_of}
use Rattle.pool_records.specs.declared.texture.TextureRecord.{TextureRecord}
use Rattle.pool_records.specs.Texture.{read_texture, texture_in, record_spares, record_bytes}
use Rattle.pool_records.specs.Spare.{read_spare}
use Rattle.pool_access.proofs.Fields.{spares_number}
use Rattle.pool_relief_line.specs.Line.{count_before, taken_at, gives, IsLine}
use Rattle.pool_relief_line.specs.Parked.{parked_at, parkings, bytes_from}
use Rattle.pool_records.specs.RecordConstants.{spare_parked_at, spare_stride, texture_bytes_at, texture_spares_at, texture_stride}
use Rattle.pool_rules.specs.Model.{limit}

-- a parking number is the third number of its record
pub parked_at_lem : (spares : List ℕ) (k : ℕ) → get_or spares (spare_stride * k + spare_parked_at) 0 ≡ parked_at spares k
unfolding parked_at record_at read_spare
parked_at_lem spares k = sym (get_or-drop (spare_stride * k) spares spare_parked_at 0)

module _ (spares : List ℕ) (from n : ℕ) where
  pub parkings_left : left (parked_at spares) (from + n) from ≡ parkings spares from n
  unfolding left parkings
  parkings_left = ap (listed (parked_at spares) from) (let e : from + n - from ≡ n = omega arith in e)

  pub length_parkings : length (parkings spares from n) ≡ n
  unfolding parkings
  length_parkings = length_listed (parked_at spares) from n

-- ---- those parked before the line

module _ (line : ℕ) (f : ℕ → ℕ) (end : ℕ) where
  count_more : (j : ℕ) → j < end → count_before line (left f end j) ≡ cond (ltb (f j) line) 1 0 + count_before line (left f end (j + 1))
  unfolding count_before
  count_more j h = total_more f end (λ (p : ℕ). cond (ltb p line) 1 0) j h

  pub count_done : (j : ℕ) → end ≤ j → count_before line (left f end j) ≡ 0
  unfolding count_before
  count_done j h = total_done f end (λ (p : ℕ). cond (ltb p line) 1 0) j h

-- a turn of the loop: k are counted, m in all
module _ (spares : List ℕ) (line end j k m : ℕ) (h : j < end) (e : k + count_before line (left (parked_at spares) end j) ≡ m) where
  pub count_hit : get_or spares (spare_stride * j + spare_parked_at) 0 < line → k + 1 + count_before line (left (parked_at spares) end (j + 1)) ≡ m
  count_hit q =
      let t : ltb (parked_at spares j) line ≡ true = lt-ltb (parked_at spares j) line (omega (arith, q, parked_at_lem spares j)) in
      omega (arith, e, count_more line (parked_at spares) end j h, ap {B = ℕ} (λ (b : Bool). cond b 1 0) t)

  pub count_miss : line ≤ get_or spares (spare_stride * j + spare_parked_at) 0 → k + count_before line (left (parked_at spares) end (j + 1)) ≡ m
  count_miss q =
      let t : ltb (parked_at spares j) line ≡ false = le-ltb (parked_at spares j) line (omega (arith, q, parked_at_lem spares j)) in
      omega (arith, e, count_more line (parked_at spares) end j h, ap {B = ℕ} (λ (b : Bool). cond b 1 0) t)

-- ---- those parked at it

pub taken_none : (freed excess bytes line : ℕ) (ps : List ℕ) → excess ≤ freed → taken_at freed excess bytes line ps ≡ 0
unfolding taken_at
taken_none freed excess bytes line [] h = refl
taken_none freed excess bytes line (p ∷ ps) h = rw (le-leb excess freed h)

module _ (freed excess bytes line : ℕ) (f : ℕ → ℕ) (end j : ℕ) where
  pub taken_done : end ≤ j → taken_at freed excess bytes line (left f end j) ≡ 0
  unfolding taken_at
  taken_done h = rw (left_none f end j h)

  pub taken_hit : j < end → freed < excess → f j ≡ line
      → taken_at freed excess bytes line (left f end j) ≡ suc (taken_at (freed + bytes) excess bytes line (left f end (j + 1)))
  unfolding taken_at
  taken_hit h g e = rw (left_step f end j h, lt-leb excess freed g, eq-eqb (f j) line e)

  pub taken_miss : j < end → freed < excess → (f j ≡ line → ⊥)
      → taken_at freed excess bytes line (left f end j) ≡ taken_at freed excess bytes line (left f end (j + 1))
  unfolding taken_at
  taken_miss h g e = rw (left_step f end j h, lt-leb excess freed g, ne_eqb (f j) line e)

-- a turn of the loop: `count` are picked, m in all
module _ (spares : List ℕ) (excess bytes line end j count sum m : ℕ) (h : j < end) (short : sum < excess)
    (e : count + taken_at sum excess bytes line (left (parked_at spares) end j) ≡ m) where
  pub take_hit : get_or spares (spare_stride * j + spare_parked_at) 0 ≡ line → count + 1 + taken_at (sum + bytes) excess bytes line (left (parked_at spares) end (j + 1)) ≡ m
  take_hit q = omega (arith, e, taken_hit sum excess bytes line (parked_at spares) end j h short (sym (parked_at_lem spares j) ∙ q))

  pub take_miss : (get_or spares (spare_stride * j + spare_parked_at) 0 ≡ line → ⊥) → count + taken_at sum excess bytes line (left (parked_at spares) end (j + 1)) ≡ m
  take_miss q = omega (arith, e, taken_miss sum excess bytes line (parked_at spares) end j h short (λ z. q (parked_at_lem spares j ∙ z)))

-- ---- both

pub gives_most : (freed excess bytes line : ℕ) (ps : List ℕ) → gives freed excess bytes line ps ≤ length ps
unfolding gives count_before taken_at total
gives_most freed excess bytes line [] = omega arith
gives_most freed excess bytes line (p ∷ ps) =
    go (dec_lt p line) (dec_lt line p) (gives_most freed excess bytes line ps) (gives_most (freed + bytes) excess bytes line ps)
  where
    go : Dec (p < line) → Dec (line < p) → gives freed excess bytes line ps ≤ length ps → gives (freed + bytes) excess bytes line ps ≤ length ps
        → gives freed excess bytes line (p ∷ ps) ≤ suc (length ps)
    go (yes h) k a b = rw (lt-ltb p line h, ne_eqb p line (λ e. omega arith)) (either (λ (m : ℕ). 1 + count_before line ps + m ≤ suc (length ps)) (leb excess freed) 0 (taken_at freed excess bytes line ps) (λ e. omega (arith, a)) (λ e. omega (arith, a)))
    go (no h) (yes k) a b = rw (le-ltb p line (omega arith), ne_eqb p line (λ e. omega arith)) (either (λ (m : ℕ). 0 + count_before line ps + m ≤ suc (length ps)) (leb excess freed) 0 (taken_at freed excess bytes line ps) (λ e. omega (arith, a)) (λ e. omega (arith, a)))
    go (no h) (no k) a b = rw (le-ltb p line (omega arith), eq-eqb p line (omega arith)) (either (λ (m : ℕ). 0 + count_before line ps + m ≤ suc (length ps)) (leb excess freed) 0 (suc (taken_at (freed + bytes) excess bytes line ps)) (λ e. omega (arith, a)) (λ e. omega (arith, b)))

pub gives_sum : (freed excess bytes line : ℕ) (ps : List ℕ)
    → count_before line ps + taken_at freed excess bytes line ps ≡ gives freed excess bytes line ps
unfolding gives
gives_sum freed excess bytes line ps = refl

-- ---- textures

-- a texture's bytes are the last number of its record
pub bytes_number : (textures : List ℕ) (i : ℕ) → get_or textures (texture_stride * i + texture_bytes_at) 0 ≡ (texture_in textures i).bytes
unfolding record_at read_texture
bytes_number textures i = sym (get_or-drop (texture_stride * i) textures texture_bytes_at 0)

-- no spare is parked before the first line
count_zero : (ps : List ℕ) → count_before 0 ps ≡ 0
unfolding count_before total
count_zero [] = refl
count_zero (p ∷ ps) = rw (le-ltb p 0 (omega arith)) (omega (arith, count_zero ps))

pub bytes_zero : (spares : List ℕ) (from : ℕ) (ts : List TextureRecord) → bytes_from spares 0 from ts ≡ 0
unfolding bytes_from
bytes_zero spares from [] = refl
bytes_zero spares from (t ∷ ts) =
    ap₂ (λ (a b : ℕ). bytes_of t.shape * a + b) (count_zero (parkings spares from t.spares)) (bytes_zero spares (from + t.spares) ts)
    ∙ (let e : bytes_of t.shape * 0 + 0 ≡ 0 = omega arith in e)

-- ---- a turn of the loop over textures: the rest of them, from texture i on

module _ (textures spares : List ℕ) (n i : ℕ) (h : i < n) where
  abbrev texture_at : ℕ → TextureRecord
  texture_at k = texture_in textures k

  abbrev rest : ℕ → List TextureRecord
  rest k = left texture_at n k

  pub spares_rest : total record_spares (rest i) ≡ get_or textures (texture_stride * i + texture_spares_at) 0 + total record_spares (rest (i + 1))
  spares_rest = total_more texture_at n record_spares i h ∙ ap (λ (k : ℕ). k + total record_spares (rest (i + 1))) (sym (spares_number textures i))

  pub bytes_rest : total record_bytes (rest i) ≡ bytes_of (texture_at i).shape * get_or textures (texture_stride * i + texture_spares_at) 0 + total record_bytes (rest (i + 1))
  unfolding record_bytes
  bytes_rest =
      total_more texture_at n record_bytes i h
      ∙ ap (λ (k : ℕ). bytes_of (texture_at i).shape * k + total record_bytes (rest (i + 1))) (sym (spares_number textures i))

  pub before_rest : (line from : ℕ)
      → bytes_from spares line from (rest i)
      ≡ bytes_of (texture_at i).shape * count_before line (parkings spares from (get_or textures (texture_stride * i + texture_spares_at) 0))
      + bytes_from spares line (from + get_or textures (texture_stride * i + texture_spares_at) 0) (rest (i + 1))
  unfolding bytes_from
  before_rest line from =
      ap (bytes_from spares line from) (left_step texture_at n i h)
      ∙ ap (λ (k : ℕ). bytes_of (texture_at i).shape * count_before line (parkings spares from k) + bytes_from spares line (from + k) (rest (i + 1))) (sym (spares_number textures i))

pub before_done : (textures spares : List ℕ) (n i line from : ℕ) → n ≤ i → bytes_from spares line from (left (record_at texture_stride read_texture textures) n i) ≡ 0
unfolding bytes_from
before_done textures spares n i line from h = rw (left_none (record_at texture_stride read_texture textures) n i h)

-- as many as are parked before a line are bytes of theirs
pub count_most : (line : ℕ) (ps : List ℕ) → count_before line ps ≤ length ps
count_most line ps = omega (arith, gives_sum 0 0 0 line ps, gives_most 0 0 0 line ps)

pub counted_bytes : (bytes line : ℕ) (spares : List ℕ) (from n : ℕ) → bytes * count_before line (parkings spares from n) ≤ bytes * n
counted_bytes bytes line spares from n =
    mul-le-mul_left {m = count_before line (parkings spares from n)} {n = n} bytes (omega (arith, count_most line (parkings spares from n), length_parkings spares from n))

pub before_most : (spares : List ℕ) (line from : ℕ) (ts : List TextureRecord) → bytes_from spares line from ts ≤ total record_bytes ts
unfolding bytes_from total record_bytes
before_most spares line from [] = omega arith
before_most spares line from (t ∷ ts) =
    omega (arith, counted_bytes (bytes_of t.shape) line spares from t.spares, before_most spares line (from + t.spares) ts)

-- where the two ends of a search by halving meet, there is the line
pub ends_meet : (dooming excess : ℕ) (below : ℕ → ℕ) (lo hi : ℕ) → lo < hi → hi ≤ lo + 1 → dooming + below lo < excess
    → (excess ≤ dooming + below hi) ⊎ (hi ≡ limit + 2) → IsLine dooming excess below lo
ends_meet dooming excess below lo hi h k short last = record {
  short = short;
  last =
      let e : hi ≡ suc lo = omega arith in
      ⊎_elim (λ q. inl (omega (arith, q, ap below e))) (λ q. inr (omega arith)) last;
}
