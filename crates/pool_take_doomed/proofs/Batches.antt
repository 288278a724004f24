-- Laws of the batch: the sum of the arrivals, the bytes of the first versions of the ring, and how many cover the excess. Assumes nothing.
use mathlib.Core.Path.{◌≡◌, refl, sym, ap, ap₂, ◌∙◌}
use mathlib.Core.List.{List, [], ◌∷◌}
use Prim.Native.Nat.{ℕ, suc, ◌+◌, ◌*◌, ◌≤◌, ◌<◌}
use native.Mathlib.Nat.{add-zero, zero-add, min-le_right}
use native.Mathlib.Numerals.{add-one}
use native.Mathlib.Omega.{arith}
use borrow.Author.Tests.{lt-ltb, le-ltb}
use lib.ListN.{get_or, length}
use lib.Seq.{get_or-drop}
use Rattle.std.specs.Prelude.{sum}
use Rattle.std.proofs.lemmas.List.Sums.{sum_by-cons}
use Rattle.base_blocks.specs.Lists.{listed, total}
use Rattle.base_blocks.proofs.Lists.{total_append}
use Rattle.base_blocks.proofs.Listed.{listed_more, left, left_step, left_none, left_split, take_listed, drop_left, listed_get_d}
use Rattle.base_tables.specs.Records.{record_at}
use Rattle.base_tables.specs.Rings.{place_of, along}
use Rattle.pool_records.specs.Doomed.{read_doomed}
use Rattle.pool_rules.specs.Model.{Doomed, doomed_bytes}
use Rattle.pool_rules.specs.TakeDoomed.{cover_more}
use Rattle.pool_rules.specs.RuleConstants.{destroy_spread_drains}
use Rattle.pool_take_doomed.specs.NextBatch.{doomed_entry, doomed_entries, paced_of, batch_of}
use Rattle.pool_records.specs.RecordConstants.{doomed_bytes_at, doomed_stride}

-- numbers added up
pub total_sum : (a : List ℕ) → total (λ (n : ℕ). n) a ≡ sum a
unfolding total
total_sum [] = refl
total_sum (x ∷ xs) = ap (λ (n : ℕ). x + n) (total_sum xs) ∙ sym (sum_by-cons (λ (n : ℕ). n) x xs)

-- the eight drains of a batch, one by one
pub eight_sum : (a : List ℕ) → length a ≡ destroy_spread_drains
    → total (λ (n : ℕ). n) a ≡ get_or a 0 0 + get_or a 1 0 + get_or a 2 0 + get_or a 3 0 + get_or a 4 0 + get_or a 5 0 + get_or a 6 0 + get_or a 7 0
unfolding total listed
eight_sum a e =
    let f : ℕ → ℕ = λ k. get_or a k 0 in
    ap (total (λ (n : ℕ). n)) (sym (listed_get_d 0 a) ∙ ap (listed f 0) e)
    ∙ (let q : f 0 + (f 1 + (f 2 + (f 3 + (f 4 + (f 5 + (f 6 + (f 7 + 0))))))) ≡ f 0 + f 1 + f 2 + f 3 + f 4 + f 5 + f 6 + f 7 = omega arith in q)

-- no more than there are
pub paced_most : (arrivals : List ℕ) (n : ℕ) → paced_of arrivals n ≤ n
unfolding paced_of
paced_most arrivals n = min-le_right _ n

-- how many more it takes, where the excess is covered
cover_stop : (covered excess : ℕ) (ds : List (Doomed ℕ)) → excess ≤ covered → cover_more covered excess ds ≡ 0
unfolding cover_more
cover_stop covered excess [] h = refl
cover_stop covered excess (d ∷ ds) h = rw (le-ltb covered excess h)

module _ (cap first : ℕ) (s : List ℕ) where
  abbrev bytes_at : ℕ → ℕ
  bytes_at j = get_or s (doomed_stride * place_of cap first j + doomed_bytes_at) 0

  abbrev first_bytes : ℕ → ℕ
  first_bytes n = doomed_bytes (doomed_entries cap first s n)

  -- a version's bytes are the second number of its record
  entry_bytes : (j : ℕ) → (doomed_entry cap first s j).bytes ≡ bytes_at j
  unfolding doomed_entry along record_at read_doomed
  entry_bytes j = get_or-drop (doomed_stride * place_of cap first j) s doomed_bytes_at 0

  pub bytes_none : 0 ≡ first_bytes 0
  unfolding total listed
  bytes_none = refl

  pub bytes_more : (i : ℕ) → first_bytes i + bytes_at i ≡ first_bytes (i + 1)
  unfolding total
  bytes_more i =
      let f = doomed_entry cap first s in
      let g : Doomed ℕ → ℕ = λ d. d.bytes in
      sym (ap (λ (n : ℕ). total g (listed f 0 n)) (add-one i)
      ∙ ap (total g) (listed_more f 0 i)
      ∙ total_append g (listed f 0 i) (f (0 + i) ∷ [])
      ∙ ap (λ (n : ℕ). total g (listed f 0 i) + n) (add-zero (f (0 + i)).bytes ∙ ap (λ (j : ℕ). (f j).bytes) (zero-add i) ∙ entry_bytes i))

  -- the first versions have no more bytes than all
  pub bytes_part : (k n : ℕ) → k ≤ n → first_bytes k ≤ first_bytes n
  bytes_part k n h =
      let f = doomed_entry cap first s in
      let g : Doomed ℕ → ℕ = λ d. d.bytes in
      omega (arith, ap (total g) (left_split f n k h), total_append g (listed f 0 k) (left f n k))

  module _ (n excess : ℕ) where
    -- a batch that has come to k versions with these bytes: those and what it takes more
    unfoldable pub batch_from : ℕ → ℕ → ℕ
    batch_from bytes k = k + cover_more bytes excess (left (doomed_entry cap first s) n k)

    pub batch_start : (least : ℕ) → least ≤ n → batch_from (first_bytes least) least ≡ batch_of least excess (doomed_entries cap first s n)
    unfolding batch_from batch_of
    batch_start least h =
        let f = doomed_entry cap first s in
        ap₂ (λ (a b : List (Doomed ℕ)). least + cover_more (doomed_bytes a) excess b) (sym (take_listed f least 0 n h)) (drop_left f n least h)

    pub batch_more : (bytes k : ℕ) → k < n → bytes < excess → batch_from (bytes + bytes_at k) (k + 1) ≡ batch_from bytes k
    unfolding batch_from cover_more
    batch_more bytes k h e =
        let f = doomed_entry cap first s in
        let ds = left f n (k + 1) in
        sym (ap (λ (ds : List (Doomed ℕ)). k + cover_more bytes excess ds) (left_step f n k h)
        ∙ (let q : k + cover_more bytes excess (f k ∷ ds) ≡ k + suc (cover_more (bytes + (f k).bytes) excess ds) = rw (lt-ltb bytes excess e) in q)
        ∙ ap (λ (b : ℕ). k + suc (cover_more (bytes + b) excess ds)) (entry_bytes k)
        ∙ (let q : k + suc (cover_more (bytes + bytes_at k) excess ds) ≡ k + 1 + cover_more (bytes + bytes_at k) excess ds = omega arith in q))

    pub batch_stop : (bytes k : ℕ) → excess ≤ bytes → batch_from bytes k ≡ k
    unfolding batch_from
    batch_stop bytes k h = ap (λ (m : ℕ). k + m) (cover_stop bytes excess (left (doomed_entry cap first s) n k) h) ∙ add-zero k

    pub batch_done : (bytes k : ℕ) → n ≤ k → batch_from bytes k ≡ k
    unfolding batch_from cover_more
    batch_done bytes k h = ap (λ (ds : List (Doomed ℕ)). k + cover_more bytes excess ds) (left_none (doomed_entry cap first s) n k h) ∙ add-zero k
