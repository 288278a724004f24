-- Laws of starts that move: record by record as code moves them, and of records that were just written. Assumes nothing.
use mathlib.Core.Path.{◌≡◌, refl, sym, ap, ap₂, ◌∙◌, subst}
use mathlib.Core.List.{List, [], ◌∷◌, ◌++◌, map, append-nil}
use Prim.Native.Nat.{ℕ, zero, suc, ◌+◌, ◌*◌, ◌≤◌, ◌<◌}
use native.Mathlib.Nat.{zero-add, suc-add}
use native.Mathlib.Numerals.{add-one}
use native.Mathlib.Omega.{arith}
use lib.ListN.{length, take, drop, get_or, set, length-append, length-drop, length-map, take-append-drop, drop_of_length-le}
use lib.Seq.{sets, take_all, length-take-le, get_or-drop}
use Rattle.base_blocks.specs.Lists.{over}
use Rattle.base_blocks.proofs.Lists.{drop_over}
use Rattle.base_blocks.proofs.Blocks.{stored_at}
use Rattle.base_tables.specs.Records.{flat, record_at}
use Rattle.base_tables.proofs.Records.{length_table, get_or_table, length_flat, reread, over_table, replaced_record, table_replaced, read_other}
use Rattle.pool_records.specs.declared.texture.TextureRecord.{TextureRecord}
use Rattle.pool_records.specs.declared.shift.Shift.{Shift}
use Rattle.pool_records.specs.Texture.{read_texture, write_texture, texture_in, textures_in}
use Rattle.pool_records.specs.Starts.{shifted_by, moved_start, starts_moved, StartMoves, StartsMove}
use Rattle.pool_records.specs.RecordConstants.{texture_stride, texture_grid_at, texture_stamp_at}
use Rattle.pool_records.specs.Codecs.{texture_codec}

-- ---- lists

set_behind : (a b : List ℕ) (k v : ℕ) → set (a ++ b) (length a + k) v ≡ a ++ set b k v
set_behind [] b k v = ap (λ (n : ℕ). set b n v) (zero-add k)
set_behind (x ∷ a) b k v = ap (λ (n : ℕ). set (x ∷ (a ++ b)) n v) (suc-add (length a) k) ∙ ap (λ (l : List ℕ). x ∷ l) (set_behind a b k v)

module _ {A : Type 0} (m : A → A) where
  -- those from k on changed
  abbrev changed_from : ℕ → List A → List A
  changed_from k xs = take k xs ++ map m (drop k xs)

  length_changed : (k : ℕ) (xs : List A) → length (changed_from k xs) ≡ length xs
  length_changed k xs =
      length-append (take k xs) (map m (drop k xs))
      ∙ ap (λ (n : ℕ). length (take k xs) + n) (length-map (drop k xs) m)
      ∙ sym (length-append (take k xs) (drop k xs))
      ∙ ap length (take-append-drop k xs)

  -- the one at k changed first
  change_one : (k : ℕ) (xs : List A) (d : A) → k < length xs → changed_from (suc k) (set xs k (m (get_or xs k d))) ≡ changed_from k xs
  change_one k [] d h = absurd (let y : ⊥ = omega arith in y)
  change_one zero (x ∷ xs) d h = refl
  change_one (suc k) (x ∷ xs) d h = ap (λ (l : List A). x ∷ l) (change_one k xs d (omega arith))

  change_none : (k : ℕ) (xs : List A) → length xs ≤ k → changed_from k xs ≡ xs
  change_none k xs h = ap₂ (λ (a b : List A). a ++ map m b) (take_all k xs h) (drop_of_length-le xs h) ∙ append-nil xs

-- ---- record k, by its last two numbers

module _ (s : List ℕ) (k : ℕ) where
  pub grid_number : get_or s (texture_stride * k + texture_grid_at) 0 ≡ (texture_in s k).grid
  unfolding record_at read_texture
  grid_number = sym (get_or-drop (texture_stride * k) s texture_grid_at 0)

  pub stamp_number : get_or s (texture_stride * k + texture_stamp_at) 0 ≡ (texture_in s k).stamp
  unfolding record_at read_texture
  stamp_number = sym (get_or-drop (texture_stride * k) s texture_stamp_at 0)

module _ (grids stamps : Shift) where
  -- both numbers written are the record written
  pub start_written : (n k : ℕ) (s : List ℕ) → texture_stride * n ≤ length s → k < n → (g t : ℕ)
      → g ≡ shifted_by grids (texture_in s k).grid → t ≡ shifted_by stamps (texture_in s k).stamp
      → set (set s (texture_stride * k + texture_grid_at) g) (texture_stride * k + texture_stamp_at) t
      ≡ sets s (texture_stride * k) (write_texture (moved_start grids stamps (texture_in s k)))
  unfolding record_at write_texture moved_start
  start_written n k s fits h g t e f =
      let at = texture_stride * k in
      let x = read_texture (drop at s) in
      let a = take at s in
      let rest = drop texture_stride (drop at s) in
      let la : length a ≡ at = length-take-le at s (omega arith) in
      let cut : s ≡ a ++ (write_texture x ++ rest) =
      sym (take-append-drop at s)
      ∙ ap (λ (l : List ℕ). a ++ l) (sym (take-append-drop texture_stride (drop at s))
      ∙ ap (λ (l : List ℕ). l ++ rest) (sym (texture_codec.back (drop at s) (omega (arith, length-drop at s))))) in
      ap₂ (λ (l : List ℕ) (i : ℕ). set (set l (i + texture_grid_at) g) (i + texture_stamp_at) t) cut (sym la)
      ∙ ap (λ (l : List ℕ). set l (length a + texture_stamp_at) t) (set_behind a (write_texture x ++ rest) texture_grid_at g)
      ∙ set_behind a (set (write_texture x ++ rest) texture_grid_at g) texture_stamp_at t
      ∙ ap₂ (λ (i j : ℕ). a ++ set (set (write_texture x ++ rest) texture_grid_at i) texture_stamp_at j) e f
      ∙ sym (ap (λ (i : ℕ). sets s i (write_texture (moved_start grids stamps x))) (sym la)
      ∙ stored_at s a (write_texture (moved_start grids stamps x)) (write_texture x) rest cut refl)

  -- one record moved, and then those behind it
  pub moved_step : (n k : ℕ) (s : List ℕ) → texture_stride * n ≤ length s → k < n
      → starts_moved grids stamps (k + 1) n (sets s (texture_stride * k) (write_texture (moved_start grids stamps (texture_in s k))))
      ≡ starts_moved grids stamps k n s
  unfolding starts_moved over
  moved_step n k s fits h =
      let m = moved_start grids stamps in
      let xs = textures_in n s in
      let y = m (texture_in s k) in
      let ys = set xs k y in
      let s' = sets s (texture_stride * k) (write_texture y) in
      let lx : length xs ≡ n = length_table texture_stride read_texture n s in
      let zs = changed_from m (suc k) ys in
      let same : zs ≡ changed_from m k xs =
      ap (λ (x : TextureRecord). changed_from m (suc k) (set xs k (m x))) (sym (get_or_table texture_stride read_texture n k s (read_texture []) h))
      ∙ change_one m k xs (read_texture []) (omega arith) in
      let past : length (flat write_texture ys) ≤ length (flat write_texture zs) =
      omega (arith, length_flat texture_codec ys, length_flat texture_codec zs, length_changed m (suc k) ys) in
      ap₂ (λ (i : ℕ) (l : List TextureRecord). over (flat write_texture (changed_from m i l)) s') (add-one k) (table_replaced texture_codec n s fits k y h)
      ∙ ap (λ (l : List ℕ). over (flat write_texture zs) l) (replaced_record texture_codec n s fits k y h)
      ∙ ap (λ (l : List ℕ). flat write_texture zs ++ l) (drop_over (flat write_texture ys) s (length (flat write_texture zs)) past)
      ∙ ap (λ (l : List TextureRecord). over (flat write_texture l) s) same

  pub moved_done : (n k : ℕ) (s : List ℕ) → texture_stride * n ≤ length s → n ≤ k → starts_moved grids stamps k n s ≡ s
  unfolding starts_moved
  moved_done n k s fits h =
      ap (λ (l : List TextureRecord). over (flat write_texture l) s)
      (change_none (moved_start grids stamps) k (textures_in n s) (omega (arith, length_table texture_stride read_texture n s)))
      ∙ over_table texture_codec n s fits

  -- those behind can still be moved
  pub moves_behind : (n k : ℕ) (s : List ℕ) → texture_stride * n ≤ length s → k < n → (x : TextureRecord) → StartsMove grids stamps k n s
      → StartsMove grids stamps (k + 1) n (sets s (texture_stride * k) (write_texture x))
  moves_behind n k s fits h x can j p q =
      subst (StartMoves grids stamps)
      (sym (read_other texture_codec n s fits k j x h q (λ e. let y : ⊥ = omega (arith, e) in y)))
      (can j (omega arith) q)

-- ---- records just written

module _ (grids stamps : Shift) (xs : List TextureRecord) (n : ℕ) (long : length xs ≡ n) (s : List ℕ) where
  pub written_moved : (i : ℕ)
      → starts_moved grids stamps i n (over (flat write_texture xs) s)
      ≡ over (flat write_texture (take i xs ++ map (moved_start grids stamps) (drop i xs))) s
  unfolding starts_moved over
  written_moved i =
      let m = moved_start grids stamps in
      let zs = changed_from m i xs in
      let past : length (flat write_texture xs) ≤ length (flat write_texture zs) =
      omega (arith, length_flat texture_codec xs, length_flat texture_codec zs, length_changed m i xs) in
      ap (λ (l : List TextureRecord). over (flat write_texture (changed_from m i l)) (over (flat write_texture xs) s)) (reread texture_codec xs n s long)
      ∙ ap (λ (l : List ℕ). flat write_texture zs ++ l) (drop_over (flat write_texture xs) s (length (flat write_texture zs)) past)

  pub written_moves : (i : ℕ) → ((j : ℕ) → i ≤ j → j < n → StartMoves grids stamps (get_or xs j (read_texture [])))
      → StartsMove grids stamps i n (over (flat write_texture xs) s)
  written_moves i can j p q =
      subst (StartMoves grids stamps)
      (sym (sym (get_or_table texture_stride read_texture n j (over (flat write_texture xs) s) (read_texture []) q)
      ∙ ap (λ (l : List TextureRecord). get_or l j (read_texture [])) (reread texture_codec xs n s long)))
      (can j p q)
