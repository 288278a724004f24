-- Laws of the test of an id where a search ended. Assumes nothing.
use mathlib.Core.Path.{◌≡◌, sym, ap, ap₂, ◌∙◌}
use mathlib.Core.Bool.{Bool, true, false, ◌&&◌, true≢false}
use mathlib.Core.List.{List, []}
use Prim.Native.Nat.{ℕ, ◌*◌, ◌≤◌, ◌<◌}
use native.Mathlib.Omega.{arith}
use borrow.Author.Tests.{lt-ltb, le-ltb, ltb-true, eq-eqb, eqb-true}
use lib.Dec.{ltb, eqb}
use lib.ListN.{get_or}
use Rattle.base_blocks.specs.Lists.{ascending}
use Rattle.base_blocks.proofs.Lists.{and_both}
use Rattle.base_tables.proofs.Records.{length_table, get_or_table}
use Rattle.pool_records.specs.Texture.{read_texture, texture_in, textures_in}
use Rattle.pool_records.specs.Find.{id_of, below, has_id}
use Rattle.pool_records.proofs.Places.{id_at, below_found}
use Rattle.pool_records.specs.RecordConstants.{texture_stride}

module _ (s : List ℕ) (n i id : ℕ) where
  pub no_record : n ≤ i → false ≡ has_id s n i id
  no_record h = sym (ap (λ (b : Bool). b && eqb (id_of (texture_in s i)) id) (le-ltb i n h))

  first_number : i < n → id_of (texture_in s i) ≡ get_or s (texture_stride * i) 0
  first_number h = sym (ap id_of (get_or_table texture_stride read_texture n i s (read_texture []) h)) ∙ id_at n i s h

  pub by_number : i < n → eqb (get_or s (texture_stride * i) 0) id ≡ has_id s n i id
  by_number h = sym (ap₂ (λ (b : Bool) (k : ℕ). b && eqb k id) (lt-ltb i n h) (first_number h))

  -- the test passes: the texture is record i
  pub found : has_id s n i id ≡ true → (i < n) × (id_of (texture_in s i) ≡ id)
  found e =
      let q = and_both (ltb i n) (eqb (id_of (texture_in s i)) id) e in
      (ltb-true i n q.0, eqb-true (id_of (texture_in s i)) id q.1)

  has : i < n → id_of (texture_in s i) ≡ id → has_id s n i id ≡ true
  has h e = ap₂ (λ (a b : Bool). a && b) (lt-ltb i n h) (eq-eqb (id_of (texture_in s i)) id e)

-- it fails at the place of the id: no record has it
pub not_found : (s : List ℕ) (n i id : ℕ) → ascending id_of (textures_in n s) ≡ true → i ≡ below id (textures_in n s) → has_id s n i id ≡ false
    → (j : ℕ) → j < n → id_of (texture_in s j) ≡ id → ⊥
not_found s n i id up place fails j h e =
    let d = read_texture [] in
    let same : i ≡ j =
    place ∙ below_found id (textures_in n s) j d (omega (arith, length_table texture_stride read_texture n s)) up (ap id_of (get_or_table texture_stride read_texture n j s d h) ∙ e) in
    let passes : has_id s n i id ≡ true = ap (λ (k : ℕ). has_id s n k id) same ∙ has s n j id h e in
    true≢false (sym passes ∙ fails)
