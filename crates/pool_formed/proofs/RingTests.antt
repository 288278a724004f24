-- What a pass learns along the two rings. Assumes nothing.
use mathlib.Core.Path.{◌≡◌, sym, ap, ◌∙◌}
use mathlib.Core.Bool.{Bool, true, false, ◌&&◌}
use mathlib.Core.List.{List}
use Prim.Native.Nat.{ℕ, zero, suc, ◌+◌, ◌*◌, ◌≤◌, ◌<◌}
use native.Mathlib.Nat.{zero-add}
use native.Mathlib.Omega.{arith}
use borrow.Author.Tests.{le-leb, lt-leb}
use lib.Dec.{eqb}
use lib.ListN.{take, drop, get_or}
use Rattle.base_blocks.specs.Lists.{all, listed, tests, after}
use Rattle.base_blocks.proofs.Listed.{left, all_done, total_done}
use Rattle.base_tables.specs.Rings.{place_of}
use Rattle.base_tables.proofs.Rings.{ring_part}
use Rattle.pool_rules.specs.Model.{Doomed, doomed_bytes}
use Rattle.pool_records.specs.Retiring.{read_retiring}
use Rattle.pool_records.specs.Doomed.{read_doomed}
use Rattle.pool_records.specs.Views.{retiring_of, doomed_of}
use Rattle.pool_records.specs.Codecs.{retiring_codec, doomed_codec}
use Rattle.pool_memory.specs.declared.pool.Pool.{Pool}
use Rattle.pool_memory.specs.Reading.{retiring_read, hand_read}
use Rattle.pool_memory.specs.IsPool.{is_doomed, is_retiring, is_hand}
use Rattle.pool_formed.specs.Parts.{retiring_at, retiring_fit, doomed_at, doomed_fit, rings_fit}
use Rattle.pool_memory.specs.Lent.{Lent}
use Rattle.pool_formed_textures.proofs.Tests.{fails}
use Rattle.grid_shapes.specs.ShapeConstants.{most_shape_bytes}
use Rattle.pool_records.specs.RecordConstants.{doomed_stride, retiring_stride}

-- ---- rings

pub retiring_read_lem : (cap head i : ℕ) (s p : List ℕ) → p ≡ take retiring_stride (drop (retiring_stride * place_of cap head i) s) → retiring_of (read_retiring p) ≡ retiring_at cap head s i
unfolding retiring_at
retiring_read_lem cap head i s p e = ap (λ l. retiring_of (read_retiring l)) e ∙ ap retiring_of (ring_part retiring_codec cap head s i)

pub doomed_read_lem : (cap first i : ℕ) (s p : List ℕ) → p ≡ take doomed_stride (drop (doomed_stride * place_of cap first i) s) → doomed_of (read_doomed p) ≡ doomed_at cap first s i
unfolding doomed_at
doomed_read_lem cap first i s p e = ap (λ l. doomed_of (read_doomed l)) e ∙ ap doomed_of (ring_part doomed_codec cap first s i)

module _ (cap first i : ℕ) (s p : List ℕ) (e : p ≡ take doomed_stride (drop (doomed_stride * place_of cap first i) s)) where
  pub doomed_bytes_lem : get_or p 1 0 ≡ (doomed_at cap first s i).bytes
  unfolding read_doomed
  doomed_bytes_lem = ap (λ d. d.bytes) (doomed_read_lem cap first i s p e)

  pub doomed_fits : get_or p 1 0 ≤ most_shape_bytes → is_doomed (doomed_at cap first s i) ≡ true
  unfolding is_doomed
  doomed_fits h = le-leb (doomed_at cap first s i).bytes most_shape_bytes (omega (arith, doomed_bytes_lem))

  pub doomed_large : most_shape_bytes < get_or p 1 0 → is_doomed (doomed_at cap first s i) ≡ false
  unfolding is_doomed
  doomed_large h = lt-leb (doomed_at cap first s i).bytes most_shape_bytes (omega (arith, doomed_bytes_lem))

-- ---- the destroy queue's end

pub doomed_done : (cap first n bytes i sum : ℕ) (s : List ℕ) → n ≤ i → all is_doomed (left (doomed_at cap first s) n i) ≡ all is_doomed (listed (doomed_at cap first s) 0 n)
    → sum + doomed_bytes (left (doomed_at cap first s) n i) ≡ doomed_bytes (listed (doomed_at cap first s) 0 n) → eqb bytes sum ≡ doomed_fit cap first n bytes s
unfolding doomed_fit tests after
doomed_done cap first n bytes i sum s h ea et =
    let f = doomed_at cap first s in
    let t : doomed_bytes (listed f 0 n) ≡ sum = sym et ∙ omega (arith, total_done f n (λ (d : Doomed ℕ). d.bytes) i h) in
    sym (rw (sym ea ∙ all_done f n is_doomed i h, t))

-- ---- both rings

module _ (pool : Pool) (versions : ℕ) (retiring doomed : List ℕ) (a : Bool) (e : a ≡ retiring_fit versions pool.head (pool.popped + pool.queued) retiring) where
  pub rings_stop : a ≡ false → false ≡ rings_fit pool versions retiring doomed
  unfolding rings_fit
  rings_stop f = sym (fails _ 0 (sym e ∙ f))

  pub rings_test : a ≡ true → doomed_fit versions pool.first pool.doomed pool.dooming doomed ≡ rings_fit pool versions retiring doomed
  unfolding rings_fit tests after
  rings_test t = sym (rw (sym e, t))

-- ---- the popped version, if there is one, and the queue

module _ (l : Lent) where
  pub hand_test : (popped n : ℕ) → popped ≤ 1 → all is_retiring (listed (retiring_read l) 0 (popped + n))
      ≡ is_hand (hand_read l popped) && all is_retiring (listed (retiring_read l) popped n)
  unfolding all listed
  hand_test zero n h = ap (λ (k : ℕ). all is_retiring (listed (retiring_read l) 0 k)) (zero-add n)
  hand_test (suc zero) n h = ap (λ (k : ℕ). all is_retiring (listed (retiring_read l) 0 k)) (let e : 1 + n ≡ suc n = omega arith in e)
  hand_test (suc (suc k)) n h = absurd (let y : ⊥ = omega arith in y)
