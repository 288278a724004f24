-- What the records claim together, as the passes add it up. Assumes nothing.
use mathlib.Core.Path.{◌≡◌, ap, ◌∙◌}
use mathlib.Core.Bool.{Bool, true, false}
use mathlib.Core.List.{List, [], ◌∷◌}
use Prim.Native.Nat.{ℕ, ◌+◌, ◌*◌, ◌-◌, ◌≤◌, ◌<◌}
use native.Mathlib.Nat.{mul-le-mul_right}
use native.Mathlib.Omega.{arith}
use borrow.Author.Tests.{eq-eqb, ne_eqb, eqb-true}
use lib.Dec.{eqb}
use Rattle.base_blocks.specs.Lists.{all, total}
use Rattle.base_blocks.proofs.Lists.{and_both}
use Rattle.base_blocks.proofs.Listed.{left, total_more, total_done}
use Rattle.grid_shapes.specs.Shapes.{bytes_of}
use Rattle.grid_shapes.proofs.ShapeBytes.{bytes_bound}
use Rattle.pool_records.specs.declared.texture.TextureRecord.{TextureRecord}
use Rattle.pool_formed_textures.specs.Textures.{is_record}
use Rattle.pool_formed_textures.proofs.Tests.{same_test}
use Rattle.pool_formed_textures.proofs.RecordTests.{record_shape}
use Rattle.grid_shapes.specs.ShapeConstants.{most_shape_bytes}
use Rattle.pool_rules.specs.RuleConstants.{most_places}
use Rattle.pool_records.specs.Texture.{texture_in, record_spares, record_bytes, textures_in}

-- ---- spares claimed: what is left of them

taken_off : (a k c r : ℕ) → k ≡ c → k ≤ a → eqb a (c + r) ≡ eqb (a - k) r
taken_off a k c r e h =
    same_test (eqb a (c + r)) (eqb (a - k) r) (λ p. eq-eqb (a - k) r (omega (arith, e, eqb-true a (c + r) p))) (λ p. eq-eqb a (c + r) (omega (arith, e, h, eqb-true (a - k) r p)))

module _ (s : List ℕ) (n i a : ℕ) where
  abbrev claim_from : ℕ → ℕ → Bool
  claim_from j b = eqb b (total record_spares (left (texture_in s) n j))

  pub claim_done : n ≤ i → claim_from i a ≡ eqb a 0
  claim_done h = ap (eqb a) (total_done (texture_in s) n record_spares i h)

  module _ (h : i < n) (k : ℕ) (e : k ≡ (texture_in s i).spares) where
    pub claim_more : k ≤ a → claim_from i a ≡ claim_from (i + 1) (a - k)
    claim_more q =
        ap (eqb a) (total_more (texture_in s) n record_spares i h) ∙ taken_off a k (texture_in s i).spares (total record_spares (left (texture_in s) n (i + 1))) e q

    pub claim_short : a < k → claim_from i a ≡ false
    claim_short q =
        ne_eqb a (total record_spares (left (texture_in s) n i)) (λ z. let y : ⊥ = omega (arith, z, e, total_more (texture_in s) n record_spares i h) in y)

-- ---- parked bytes

-- no texture's spares have more than 2^44 bytes each
pub parked_bound : (ts : List TextureRecord) → all is_record ts ≡ true → total record_bytes ts ≤ most_shape_bytes * total record_spares ts
unfolding all total record_bytes
parked_bound [] e = omega arith
parked_bound (t ∷ ts) e =
    let q = and_both (is_record t) (all is_record ts) e in
    let one = mul-le-mul_right {m = bytes_of t.shape} {n = most_shape_bytes} t.spares (bytes_bound t.shape (record_shape t q.0)) in
    omega (arith, one, parked_bound ts q.1)

-- ---- a running sum of the bytes

module _ (s : List ℕ) (n i sum b : ℕ) (h : i < n) (so_far : sum + total record_bytes (left (texture_in s) n i) ≡ total record_bytes (textures_in n s)) (e : b ≡ record_bytes (texture_in s i)) where
  pub parked_more : sum + b + total record_bytes (left (texture_in s) n (i + 1)) ≡ total record_bytes (textures_in n s)
  parked_more = omega (arith, so_far, e, total_more (texture_in s) n record_bytes i h)

  pub parked_room : all is_record (textures_in n s) ≡ true → total record_spares (textures_in n s) ≤ most_places → sum + b ≤ 72057594037927936
  parked_room ok q = omega (arith, parked_more, parked_bound (textures_in n s) ok, q)
