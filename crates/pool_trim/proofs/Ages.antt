-- Laws of ages: a spare idle past the bound, the oldest of them counted, and a texture looked at. Assumes nothing.
use mathlib.Core.Path.{◌≡◌, sym, ap, ap₂, ◌∙◌}
use mathlib.Core.Bool.{Bool, true, false, cond, ◌&&◌}
use mathlib.Core.List.{List, [], ◌∷◌}
use Prim.Native.Nat.{ℕ, suc, ◌+◌, ◌-◌, ◌*◌, ◌≤◌, ◌<◌}
use native.Mathlib.Nat.{add-zero, zero-add, sub-zero}
use native.Mathlib.Decide.{dec_lt}
use native.Mathlib.Omega.{arith}
use borrow.Author.Tests.{lt-ltb, le-ltb}
use lib.Dec.{ltb, eqb}
use lib.ListN.{length, get_or}
use lib.Seq.{get_or-drop}
use Rattle.base_blocks.specs.Lists.{listed}
use Rattle.base_tables.specs.Records.{record_at}
use Rattle.pool_records.specs.declared.texture.TextureRecord.{TextureRecord}
use Rattle.pool_records.specs.Spare.{read_spare}
use Rattle.pool_records.specs.Texture.{read_texture, texture_in}
use Rattle.pool_rules.specs.Model.{Spare}
use Rattle.pool_rules.specs.Trim.{aged, aged_count}
use Rattle.pool_trim.specs.LookAt.{spare_in, is_idle, due_after}
use Rattle.pool_records.specs.RecordConstants.{spare_parked_at, spare_stride, texture_bytes_at, texture_due_at, texture_grid_at, texture_rename_at, texture_stamp_at, texture_stride}
use Rattle.pool_rules.specs.RuleConstants.{spare_max_idle_submits, state_max_idle_submits}

-- no sum is needed to test an age
pub by_difference : (seq k now : ℕ) → ltb seq (now - k) ≡ ltb (seq + k) now
by_difference seq k now = go (dec_lt seq (now - k))
  where
    go : Dec (seq < now - k) → ltb seq (now - k) ≡ ltb (seq + k) now
    go (yes q) = lt-ltb seq (now - k) q ∙ sym (lt-ltb (seq + k) now (omega arith))
    go (no q) = le-ltb seq (now - k) (omega arith) ∙ sym (le-ltb (seq + k) now (omega arith))

-- ---- the oldest spares counted

module _ (now : ℕ) where
  pub aged_most : (ss : List (Spare ℕ)) → aged_count now ss ≤ length ss
  unfolding aged_count
  aged_most [] = omega arith
  aged_most (s ∷ ss) = go (ltb (s.parked + spare_max_idle_submits) now) (aged_most ss)
    where
      go : (b : Bool) → aged_count now ss ≤ length ss → cond b (suc (aged_count now ss)) 0 ≤ suc (length ss)
      go true h = omega arith
      go false h = omega arith

  module _ (f : ℕ → Spare ℕ) (first n : ℕ) where
    -- of those from the k-th on
    abbrev pub aged_from : ℕ → ℕ
    aged_from k = aged_count now (listed f (first + k) (n - k))

    pub aged_start : 0 + aged_from 0 ≡ aged_count now (listed f first n)
    aged_start = zero-add _ ∙ ap₂ (λ (i m : ℕ). aged_count now (listed f i m)) (add-zero first) (sub-zero n)

    one_more : (k : ℕ) → k < n → listed f (first + k) (n - k) ≡ f (first + k) ∷ listed f (first + (k + 1)) (n - (k + 1))
    unfolding listed
    one_more k h =
        ap (listed f (first + k)) (let e : n - k ≡ suc (n - (k + 1)) = omega arith in e)
        ∙ ap (λ (i : ℕ). f (first + k) ∷ listed f i (n - (k + 1))) (let e : suc (first + k) ≡ first + (k + 1) = omega arith in e)

    pub aged_more : (k : ℕ) → k < n → (f (first + k)).parked < now - spare_max_idle_submits → k + aged_from k ≡ k + 1 + aged_from (k + 1)
    unfolding aged_count
    aged_more k h q =
        let test : ltb ((f (first + k)).parked + spare_max_idle_submits) now ≡ true = lt-ltb ((f (first + k)).parked + spare_max_idle_submits) now (omega arith) in
        let e : aged_from k ≡ suc (aged_from (k + 1)) =
        ap (aged_count now) (one_more k h) ∙ ap (λ (b : Bool). cond b (suc (aged_from (k + 1))) 0) test in
        omega arith

    pub aged_stop : (k : ℕ) → k < n → now - spare_max_idle_submits ≤ (f (first + k)).parked → aged_from k ≡ 0
    unfolding aged_count
    aged_stop k h q =
        let test : ltb ((f (first + k)).parked + spare_max_idle_submits) now ≡ false = le-ltb ((f (first + k)).parked + spare_max_idle_submits) now (omega arith) in
        ap (aged_count now) (one_more k h) ∙ ap (λ (b : Bool). cond b (suc (aged_from (k + 1))) 0) test

    pub aged_end : (k : ℕ) → n ≤ k → aged_from k ≡ 0
    unfolding aged_count listed
    aged_end k h = ap (λ (m : ℕ). aged_count now (listed f (first + k) m)) (let e : n - k ≡ 0 = omega arith in e)

-- a spare's parking is the third number of its record
pub parked_at_lem : (spares : List ℕ) (j : ℕ) → (spare_in spares j).parked ≡ get_or spares (spare_stride * j + spare_parked_at) 0
unfolding record_at read_spare
parked_at_lem spares j = get_or-drop (spare_stride * j) spares spare_parked_at 0

-- ---- a texture's numbers

module _ (textures : List ℕ) (i : ℕ) where
  abbrev texture : TextureRecord
  texture = texture_in textures i

  pub rename_at : texture.rename ≡ get_or textures (texture_stride * i + texture_rename_at) 0
  unfolding record_at read_texture
  rename_at = get_or-drop (texture_stride * i) textures texture_rename_at 0

  pub bytes_read : get_or textures (texture_stride * i + texture_bytes_at) 0 ≡ texture.bytes
  unfolding record_at read_texture
  bytes_read = sym (get_or-drop (texture_stride * i) textures texture_bytes_at 0)

  pub grid_number : get_or textures (texture_stride * i + texture_grid_at) 0 ≡ texture.grid
  unfolding record_at read_texture
  grid_number = sym (get_or-drop (texture_stride * i) textures texture_grid_at 0)

  pub stamp_number : get_or textures (texture_stride * i + texture_stamp_at) 0 ≡ texture.stamp
  unfolding record_at read_texture
  stamp_number = sym (get_or-drop (texture_stride * i) textures texture_stamp_at 0)

  pub due_at : texture.due ≡ get_or textures (texture_stride * i + texture_due_at) 0
  unfolding record_at read_texture
  due_at = get_or-drop (texture_stride * i) textures texture_due_at 0

  module _ (now bound : ℕ) (e : bound ≡ now - state_max_idle_submits) where
    age : (seq n : ℕ) → seq ≡ n → ltb n bound ≡ aged now seq
    age seq n q = ap₂ ltb (sym q) e ∙ by_difference seq state_max_idle_submits now

    pub idle_test : (left : ℕ)
        → ltb (get_or textures (texture_stride * i + texture_due_at) 0) bound && (ltb (get_or textures (texture_stride * i + texture_rename_at) 0) bound && eqb left 0) ≡ is_idle now texture left
    unfolding is_idle
    idle_test left = ap₂ (λ (a b : Bool). a && (b && eqb left 0)) (age texture.due _ due_at) (age texture.rename _ rename_at)

    -- the due number after a look
    pub due_young : bound ≤ get_or textures (texture_stride * i + texture_due_at) 0 → get_or textures (texture_stride * i + texture_due_at) 0 ≡ due_after now texture
    unfolding due_after
    due_young h =
        sym (ap (λ (b : Bool). cond b (cond (aged now texture.rename) now texture.rename) texture.due)
        (sym (age texture.due _ due_at) ∙ le-ltb (get_or textures (texture_stride * i + texture_due_at) 0) bound h) ∙ due_at)

    pub due_renamed : get_or textures (texture_stride * i + texture_due_at) 0 < bound → bound ≤ get_or textures (texture_stride * i + texture_rename_at) 0
        → get_or textures (texture_stride * i + texture_rename_at) 0 ≡ due_after now texture
    unfolding due_after
    due_renamed d h =
        sym (ap₂ (λ (a b : Bool). cond a (cond b now texture.rename) texture.due)
        (sym (age texture.due _ due_at) ∙ lt-ltb (get_or textures (texture_stride * i + texture_due_at) 0) bound d)
        (sym (age texture.rename _ rename_at) ∙ le-ltb (get_or textures (texture_stride * i + texture_rename_at) 0) bound h) ∙ rename_at)

    pub due_now : get_or textures (texture_stride * i + texture_due_at) 0 < bound → get_or textures (texture_stride * i + texture_rename_at) 0 < bound → now ≡ due_after now texture
    unfolding due_after
    due_now d h =
        sym (ap₂ (λ (a b : Bool). cond a (cond b now texture.rename) texture.due)
        (sym (age texture.due _ due_at) ∙ lt-ltb (get_or textures (texture_stride * i + texture_due_at) 0) bound d)
        (sym (age texture.rename _ rename_at) ∙ lt-ltb (get_or textures (texture_stride * i + texture_rename_at) 0) bound h))
