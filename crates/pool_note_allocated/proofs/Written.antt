-- Laws of slices written from the front: one record more, one run more. Assumes nothing.
use mathlib.Core.Path.{◌≡◌, sym, ap, ap₂, ◌∙◌}
use mathlib.Core.List.{List, [], ◌∷◌, ◌++◌}
use Prim.Native.Nat.{ℕ, ◌+◌, ◌*◌, ◌≤◌}
use native.Mathlib.Nat.{zero-add, suc-add, mul-add, mul-le-mul_left}
use native.Mathlib.Omega.{arith}
use lib.ListN.{length, take, drop, set, length-append, length-drop, take-append-drop}
use lib.Seq.{take_at}
use Rattle.base_blocks.specs.Lists.{listed, over}
use Rattle.base_blocks.specs.Blocks.{moved}
use Rattle.base_blocks.proofs.Lists.{drop_over, over_append}
use Rattle.base_blocks.proofs.Listed.{length_listed, listed_same}
use Rattle.base_tables.specs.Records.{record_at, table, flat}
use Rattle.base_tables.proofs.Records.{Codec, length_flat, flat_append, flat_table, length_table, record_past}
use Rattle.pool_records.specs.declared.texture.TextureRecord.{TextureRecord}
use Rattle.pool_records.specs.Texture.{read_texture, write_texture, texture_in}
use Rattle.pool_records.specs.Codecs.{texture_codec}
use Rattle.pool_records.specs.RecordConstants.{texture_spares_at, texture_stride}

-- ---- a run of records, written out

module _ {ℓ} {A : Type ℓ} {w : ℕ} {rd : List ℕ → A} {wr : A → List ℕ} (C : Codec w rd wr) where
  run_table : (s : List ℕ) (at n : ℕ) → table w rd n (drop (w * at) s) ≡ listed (record_at w rd s) at n
  unfolding table
  run_table s at n =
      listed_same (record_at w rd (drop (w * at) s)) (record_at w rd s) n 0 at
      (λ j q. record_past w rd at (0 + j) s ∙ ap (λ (k : ℕ). record_at w rd s (at + k)) (zero-add j))

  pub run_numbers : (s : List ℕ) (at n : ℕ) → w * (at + n) ≤ length s → take (w * n) (drop (w * at) s) ≡ flat wr (listed (record_at w rd s) at n)
  run_numbers s at n h =
      let t = drop (w * at) s in
      let fits : w * n ≤ length t = omega (arith, length-drop (w * at) s, mul-add w at n) in
      ap (take (w * n)) (flat_table C n t fits)
      ∙ take_at (flat wr (table w rd n t)) (drop (w * n) t) (w * n) (length_flat C (table w rd n t) ∙ ap (λ (k : ℕ). w * k) (length_table w rd n t))
      ∙ ap (flat wr) (run_table s at n)

  -- a record past what was written is what it was
  pub record_over : (xs : List A) (s : List ℕ) (j : ℕ) → length xs ≤ j → record_at w rd (over (flat wr xs) s) j ≡ record_at w rd s j
  unfolding record_at
  record_over xs s j h = ap rd (drop_over (flat wr xs) s (w * j) (omega (arith, length_flat C xs, mul-le-mul_left {m = length xs} {n = j} w h)))

  -- the run of n records from `from` on moved down after the records xs that were written
  pub moved_run : (xs : List A) (s : List ℕ) (to from n : ℕ) → length xs ≡ to → to ≤ from → w * (from + n) ≤ length s
      → moved (over (flat wr xs) s) (w * to) (w * from) (w * n) ≡ over (flat wr (xs ++ listed (record_at w rd s) from n)) s
  unfolding moved over
  moved_run xs s to from n e h fits =
      let p = flat wr xs in
      let m = flat wr (listed (record_at w rd s) from n) in
      let lp : length p ≡ w * to = length_flat C xs ∙ ap (λ (k : ℕ). w * k) e in
      let lm : length m ≡ w * n = length_flat C (listed (record_at w rd s) from n) ∙ ap (λ (k : ℕ). w * k) (length_listed (record_at w rd s) from n) in
      let le : w * to ≤ w * from = mul-le-mul_left {m = to} {n = from} w h in
      let front : take (w * to) (p ++ drop (length p) s) ≡ p = take_at p (drop (length p) s) (w * to) lp in
      let run : take (w * n) (drop (w * from) (p ++ drop (length p) s)) ≡ m =
      ap (take (w * n)) (drop_over p s (w * from) (omega arith)) ∙ run_numbers s from n fits in
      ap₂ (λ (a b : List ℕ). a ++ b ++ drop (w * to + w * n) (p ++ drop (length p) s)) front run
      ∙ ap (λ (l : List ℕ). p ++ m ++ l) (drop_over p s (w * to + w * n) (omega arith))
      ∙ ap₂ (λ (a : List ℕ) (k : ℕ). a ++ drop k s) (sym (flat_append wr xs (listed (record_at w rd s) from n)))
      (let q : w * to + w * n ≡ length (flat wr (xs ++ listed (record_at w rd s) from n)) =
      omega (arith, lp, lm, length-append p m, ap length (flat_append wr xs (listed (record_at w rd s) from n))) in q)

-- ---- one number of a record written

set_past : (p q : List ℕ) (j v : ℕ) → set (p ++ q) (length p + j) v ≡ p ++ set q j v
set_past [] q j v = ap (λ (n : ℕ). set q n v) (zero-add j)
set_past (x ∷ p) q j v = ap (λ (n : ℕ). set (x ∷ p ++ q) n v) (suc-add (length p) j) ∙ ap (λ (l : List ℕ). x ∷ l) (set_past p q j v)

-- a texture's record with another number of spares
abbrev pub with_count : ℕ → TextureRecord → TextureRecord
with_count n t = record {
  id = t.id;
  shape = t.shape;
  epoch = t.epoch;
  history = t.history;
  birth = t.birth;
  rename = t.rename;
  due = t.due;
  spares = n;
  bytes = t.bytes;
  grid = t.grid;
  stamp = t.stamp;
}

count_front : (q : List ℕ) (v : ℕ) → texture_stride ≤ length q → set q texture_spares_at v ≡ over (flat write_texture (with_count v (read_texture q) ∷ [])) q
unfolding write_texture over flat
count_front q v h = ap (λ (l : List ℕ). set l texture_spares_at v) (sym (take-append-drop texture_stride q) ∙ ap (λ (l : List ℕ). l ++ drop texture_stride q) (sym (texture_codec.back q h)))

-- the number of spares of the record after those written
pub count_set : (xs : List TextureRecord) (s : List ℕ) (i v : ℕ) → length xs ≡ i → texture_stride * i + texture_stride ≤ length s
    → set (over (flat write_texture xs) s) (texture_stride * i + texture_spares_at) v ≡ over (flat write_texture (xs ++ (with_count v (texture_in s i) ∷ []))) s
unfolding over record_at
count_set xs s i v e h =
    let p = flat write_texture xs in
    let lp : length p ≡ texture_stride * i = length_flat texture_codec xs ∙ ap (λ (k : ℕ). texture_stride * k) e in
    ap (λ (k : ℕ). set (p ++ drop (length p) s) (k + 18) v) (sym lp)
    ∙ set_past p (drop (length p) s) 18 v
    ∙ ap (λ (l : List ℕ). p ++ l) (count_front (drop (length p) s) v (omega (arith, length-drop (length p) s, lp)))
    ∙ sym (over_append p (flat write_texture (with_count v (read_texture (drop (length p) s)) ∷ [])) s)
    ∙ ap (λ (l : List ℕ). over l s) (sym (flat_append write_texture xs (with_count v (read_texture (drop (length p) s)) ∷ [])))
    ∙ ap (λ (k : ℕ). over (flat write_texture (xs ++ (with_count v (read_texture (drop k s)) ∷ []))) s) lp
