-- What `park` refuses, decides and notes, on the records that the code reads. Assumes nothing.
use mathlib.Core.Path.{◌≡◌, refl, sym, ap, ap₂, ◌∙◌, subst}
use mathlib.Core.Bool.{Bool, true, false, cond, not, ◌&&◌, ◌||◌, true≢false}
use mathlib.Core.List.{List}
use Prim.Native.Nat.{ℕ, ◌+◌, ◌-◌, ◌≤◌, ◌<◌, ◌^◌}
use native.Mathlib.Decide.{dec_lt}
use native.Mathlib.Omega.{arith}
use borrow.Author.Tests.{lt-ltb, le-ltb, ltb-false, eq-eqb, ne_eqb}
use lib.Dec.{leb, ltb, eqb}
use Rattle.pool_rules.specs.declared.held.Held.TheVariants.{Known, Unknown}
use Rattle.pool_rules.specs.Model.{limit}
use Rattle.pool_rules.specs.RuleConstants.{most_places}
use Rattle.pool_records.specs.declared.texture.TextureRecord.{TextureRecord}
use Rattle.pool_records.specs.declared.retiring.RetiringRecord.{RetiringRecord}
use Rattle.pool_records.specs.Held.{HeldFits, held_number}
use Rattle.pool_records.specs.Recorded.{RecordedFits}
use Rattle.pool_records.specs.Texture.{texture_in, textures_in}
use Rattle.pool_memory.specs.declared.pool.Pool.{Pool}
use Rattle.pool_park.specs.declared.park_or_destroy.Parking.{Parking}
use Rattle.pool_park.specs.declared.park_or_destroy.Parking.TheVariants.{Destroyed, Kept}
use Rattle.pool_park.specs.Park.{park_refusal, parking_of, held_parked, one_more, spares_end}
use Rattle.grid_shapes.specs.ShapeConstants.{most_shape_bytes}
use Rattle.base_blocks.specs.Lists.{total}

-- ---- the code's refusals, in order

module _ (p : Pool) (failed current : ℕ) where
  pub refused_late : (ltb limit failed || ltb limit current) ≡ true → 3 ≡ park_refusal p failed current
  unfolding park_refusal
  refused_late e = sym (ap (λ (b : Bool). cond b 3 (cond (eqb p.popped 0) 10 0)) e)

  module _ (e : (ltb limit failed || ltb limit current) ≡ false) where
    by_hand : park_refusal p failed current ≡ cond (eqb p.popped 0) 10 0
    unfolding park_refusal
    by_hand = ap (λ (b : Bool). cond b 3 (cond (eqb p.popped 0) 10 0)) e

    pub refused_empty : p.popped ≡ 0 → 10 ≡ park_refusal p failed current
    refused_empty q = sym (by_hand ∙ ap (λ (b : Bool). cond b 10 0) (eq-eqb p.popped 0 q))

    pub hand_there : (p.popped ≡ 0 → ⊥) → 0 ≡ park_refusal p failed current
    hand_there q = sym (by_hand ∙ ap (λ (b : Bool). cond b 10 0) (ne_eqb p.popped 0 q))

-- ---- the code's decision, test by test

-- what is left of the cap
cap_left : (cap parked bytes : ℕ) → parked ≤ cap → ltb (cap - parked) bytes ≡ ltb cap (parked + bytes)
cap_left cap parked bytes h = go (dec_lt (cap - parked) bytes)
  where
    go : Dec (cap - parked < bytes) → ltb (cap - parked) bytes ≡ ltb cap (parked + bytes)
    go (yes q) = lt-ltb (cap - parked) bytes q ∙ sym (lt-ltb cap (parked + bytes) (omega (arith, q)))
    go (no q) = le-ltb (cap - parked) bytes (omega (arith, q)) ∙ sym (le-ltb cap (parked + bytes) (omega (arith, q, h)))

module _ (p : Pool) (pressed here : Bool) (t : TextureRecord) (v : RetiringRecord) where
  abbrev full : Bool
  full = pressed || ltb p.cap (p.parked + t.bytes)

  abbrev decision : Bool → Bool → Parking
  decision same b = cond same (cond b (Destroyed t.bytes) (Kept t.bytes)) (Destroyed v.bytes)

  pub decide_untracked : here ≡ false → Destroyed v.bytes ≡ parking_of p pressed here t v
  unfolding parking_of
  decide_untracked e = sym (ap (λ (b : Bool). decision (b && eqb t.epoch v.epoch) full) e)

  -- u is the record that was read
  module _ (e : here ≡ true) (u : TextureRecord) (read : u ≡ t) where
    pub decide_renewed : (u.epoch ≡ v.epoch → ⊥) → Destroyed v.bytes ≡ parking_of p pressed here t v
    unfolding parking_of
    decide_renewed ne =
        sym (ap₂ (λ (a b : Bool). decision (a && b) full) e
        (ap (λ (w : TextureRecord). eqb w.epoch v.epoch) (sym read) ∙ ne_eqb u.epoch v.epoch ne))

    module _ (same : u.epoch ≡ v.epoch) (within : p.parked ≤ p.cap) where
      abbrev bytes : ℕ
      bytes = u.bytes

      bytes_are : bytes ≡ t.bytes
      bytes_are = ap (λ (w : TextureRecord). w.bytes) read

      full_by : (pressed || ltb (p.cap - p.parked) bytes) ≡ full
      full_by = ap (λ (b : Bool). pressed || b) (cap_left p.cap p.parked bytes within ∙ ap (λ (n : ℕ). ltb p.cap (p.parked + n)) bytes_are)

      by_room : (b : Bool) → (pressed || ltb (p.cap - p.parked) bytes) ≡ b → decision true b ≡ parking_of p pressed here t v
      unfolding parking_of
      by_room b q =
          sym (ap₂ (λ (a c : Bool). decision (a && c) full) e
          (ap (λ (w : TextureRecord). eqb w.epoch v.epoch) (sym read) ∙ eq-eqb u.epoch v.epoch same)
          ∙ ap (decision true) (sym full_by ∙ q))

      pub decide_full : (pressed || ltb (p.cap - p.parked) bytes) ≡ true → Destroyed bytes ≡ parking_of p pressed here t v
      decide_full q = ap Destroyed bytes_are ∙ by_room true q

      pub decide_kept : (pressed || ltb (p.cap - p.parked) bytes) ≡ false → Kept bytes ≡ parking_of p pressed here t v
      decide_kept q = ap Kept bytes_are ∙ by_room false q

  -- ---- what a decision says: no version's bytes pass 2^44; a kept one's texture is tracked, and the parked bytes with it are within the cap

  abbrev pub Says : Parking → Type 0
  Says (Destroyed bytes) = bytes ≤ most_shape_bytes
  Says (Kept bytes) = (here ≡ true) × (p.parked + bytes ≤ p.cap)

  pub decision_says : v.bytes ≤ most_shape_bytes → (here ≡ true → t.bytes ≤ most_shape_bytes) → Says (parking_of p pressed here t v)
  unfolding parking_of
  decision_says few own = go here refl (eqb t.epoch v.epoch) full refl
    where
      within : (a : Bool) → a || ltb p.cap (p.parked + t.bytes) ≡ false → p.parked + t.bytes ≤ p.cap
      within true q = absurd (true≢false q)
      within false q = ltb-false p.cap (p.parked + t.bytes) q

      go : (h : Bool) → here ≡ h → (a b : Bool) → full ≡ b → Says (decision (h && a) b)
      go false q a b k = few
      go true q false b k = few
      go true q true true k = own q
      go true q true false k = (q, within pressed k)

-- ---- what is noted

-- a number that is at most 2^48, or unknown, fits
pub held_fits : (failed : ℕ) (v : RetiringRecord) → v.held ≤ limit → HeldFits (held_parked failed v)
held_fits failed v h = go (not (eqb failed 0) && leb v.birth failed)
  where
    go : (b : Bool) → held_number (cond b Unknown (Known v.held)) < 2 ^ 64
    go true = omega arith
    go false = omega (arith, h)

-- a texture with one spare more: its history fits as before, and its spares end where those of the textures before it and its own do
module _ (a : List ℕ) (i : ℕ) (u : TextureRecord) (read : u ≡ texture_in a i) where
  pub keep_history : (w : TextureRecord) → w ≡ one_more u → RecordedFits (texture_in a i).history → RecordedFits w.history
  keep_history w more h = subst (λ (t : TextureRecord). RecordedFits t.history) (sym (more ∙ ap one_more read)) h

  module _ (m : ℕ) (before : m ≡ total (λ (t : TextureRecord). t.spares) (textures_in i a)) where
    end_is : m + u.spares ≡ spares_end a i
    end_is = ap₂ (λ (n : ℕ) (t : TextureRecord). n + t.spares) before read

    pub end_fits : (kept : ℕ) → spares_end a i ≤ kept → kept ≤ most_places → (m + u.spares ≤ kept) × (u.spares ≤ most_places)
    end_fits kept h k = (omega (arith, end_is, h), omega (arith, end_is, h, k))
