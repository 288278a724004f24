-- The first refusal of `retire`, as the code works it out and as the model's rule does. Assumes nothing.
use mathlib.Core.Path.{◌≡◌, refl, sym, ap, ◌∙◌}
use mathlib.Core.Bool.{Bool, true, false, cond}
use mathlib.Core.List.{List}
use Prim.Native.Nat.{ℕ, zero, suc, ◌+◌, ◌-◌, ◌/◌, ◌≤◌, ◌<◌}
use native.Mathlib.Nat.{add-zero}
use native.Mathlib.Omega.{arith}
use borrow.Author.Tests.{lt-ltb, le-ltb, le-leb, lt-leb, leb-false, eq-eqb, ne_eqb}
use lib.Dec.{leb, ltb, eqb}
use lib.ListN.{length}
use Rattle.base_blocks.specs.Lists.{listed}
use Rattle.base_tables.specs.Rings.{along}
use Rattle.pool_records.specs.declared.retiring.RetiringRecord.{RetiringRecord}
use Rattle.pool_records.specs.Retiring.{read_retiring}
use Rattle.pool_rules.specs.Model.{Retiring, Out, refused, guard, limit, versions_used}
use Rattle.pool_rules.specs.Retire.{last_seq}
use Rattle.pool_memory.specs.declared.pool.Pool.{Pool}
use Rattle.pool_memory.specs.Lent.{Lent, version_places}
use Rattle.pool_memory.specs.Reading.{retiring_read, model_of}
use Rattle.pool_memory.proofs.Fits.{Fits}
use Rattle.pool_memory.proofs.FromPool.{versions_read}
use Rattle.pool_retire.specs.Counts.{ring_count}
use Rattle.pool_retire.specs.Noted.{last_queued, retire_refusal}
use Rattle.pool_records.specs.RecordConstants.{retiring_stride}

-- the number of the first of three tests that holds
abbrev first_of : Bool → Bool → Bool → ℕ
first_of a b c = cond a 3 (cond b 7 (cond c 8 0))

-- ---- the code's tests, in order

module _ (p : Pool) (retiring : List ℕ) (places seq : ℕ) where
  pub refused_late : limit < seq → 3 ≡ retire_refusal p retiring places seq
  unfolding retire_refusal
  refused_late h = sym (rw (lt-ltb limit seq h) refl)

  module _ (h : seq ≤ limit) (n : ℕ) (e : n ≡ ring_count p) where
    pub refused_full : places ≤ n + p.kept + p.doomed → 7 ≡ retire_refusal p retiring places seq
    unfolding retire_refusal
    refused_full q = sym (rw (le-ltb limit seq h, le-leb places (ring_count p + p.kept + p.doomed) (omega (arith, e, q))) refl)

    module _ (room : n + p.kept + p.doomed < places) where
      by_last : retire_refusal p retiring places seq ≡ cond (ltb seq (last_queued p retiring places)) 8 0
      unfolding retire_refusal
      by_last = rw (le-ltb limit seq h, lt-leb places (ring_count p + p.kept + p.doomed) (omega (arith, e, room))) refl

      pub nothing_queued : p.queued ≡ 0 → 0 ≡ retire_refusal p retiring places seq
      unfolding last_queued
      nothing_queued q =
          sym (by_last ∙ ap (λ (b : Bool). cond (ltb seq (cond b 0 (along retiring_stride read_retiring places p.head retiring (ring_count p - 1)).seq)) 8 0)
          (eq-eqb p.queued 0 q)
          ∙ ap (λ (b : Bool). cond b 8 0) (le-ltb seq 0 (omega arith)))

      -- x is the last of the ring
      module _ (some-queued : p.queued ≡ 0 → ⊥) (x : RetiringRecord) (read : x ≡ along retiring_stride read_retiring places p.head retiring (n - 1)) where
        last_read : last_queued p retiring places ≡ x.seq
        unfolding last_queued
        last_read =
            ap (λ (b : Bool). cond b 0 (along retiring_stride read_retiring places p.head retiring (ring_count p - 1)).seq) (ne_eqb p.queued 0 some-queued)
            ∙ ap (λ (k : ℕ). (along retiring_stride read_retiring places p.head retiring (k - 1)).seq) (sym e)
            ∙ ap (λ (v : RetiringRecord). v.seq) (sym read)

        pub refused_behind : seq < x.seq → 8 ≡ retire_refusal p retiring places seq
        refused_behind q = sym (by_last ∙ ap (λ (b : Bool). cond b 8 0) (lt-ltb seq (last_queued p retiring places) (omega (arith, last_read, q))))

        pub in_order : x.seq ≤ seq → 0 ≡ retire_refusal p retiring places seq
        in_order q = sym (by_last ∙ ap (λ (b : Bool). cond b 8 0) (le-ltb seq (last_queued p retiring places) (omega (arith, last_read, q))))

  -- where nothing is refused there is a place left
  pub place_left : retire_refusal p retiring places seq ≡ 0 → ring_count p + p.kept + p.doomed < places
  unfolding retire_refusal
  place_left e = go (ltb limit seq) (leb places (ring_count p + p.kept + p.doomed)) refl e
    where
      go : (a b : Bool) → leb places (ring_count p + p.kept + p.doomed) ≡ b → first_of a b (ltb seq (last_queued p retiring places)) ≡ 0
          → ring_count p + p.kept + p.doomed < places
      go true b q k = absurd (let y : ⊥ = omega (arith, k) in y)
      go false true q k = absurd (let y : ⊥ = omega (arith, k) in y)
      go false false q k = leb-false places (ring_count p + p.kept + p.doomed) q

-- ---- the model's guards, in order

module _ {A : Type 0} (out : Out ℕ A) where
  pub guards_refused : (a b c : Bool) (n : ℕ) → n ≡ first_of a b c → (n ≡ 0 → ⊥) → guard a 3 (guard b 7 (guard c 8 out)) ≡ refused n
  unfolding guard
  guards_refused true b c n e h = ap refused (sym e)
  guards_refused false true c n e h = ap refused (sym e)
  guards_refused false false true n e h = ap refused (sym e)
  guards_refused false false false n e h = absurd (h e)

  pub guards_passed : (a b c : Bool) → first_of a b c ≡ 0 → guard a 3 (guard b 7 (guard c 8 out)) ≡ out
  unfolding guard
  guards_passed true b c e = absurd (let y : ⊥ = omega (arith, e) in y)
  guards_passed false true c e = absurd (let y : ⊥ = omega (arith, e) in y)
  guards_passed false false true e = absurd (let y : ⊥ = omega (arith, e) in y)
  guards_passed false false false e = refl

last_listed : (f : ℕ → Retiring ℕ) (at n : ℕ) → last_seq (listed f at (suc n)) ≡ (f (at + n)).seq
unfolding listed
last_listed f at zero = ap (λ (k : ℕ). (f k).seq) (sym (add-zero at))
last_listed f at (suc n) = last_listed f (suc at) n ∙ ap (λ (k : ℕ). (f k).seq) (let e : suc at + n ≡ at + suc n = omega arith in e)

module _ (l : Lent) where
  none_last : last_seq (listed (retiring_read l) l.pool.popped 0) ≡ 0
  unfolding listed
  none_last = refl

  abbrev last_at : ℕ → ℕ
  last_at k = (along retiring_stride read_retiring (length l.retiring / retiring_stride) l.pool.head l.retiring k).seq

  read_last : (k : ℕ) → (retiring_read l k).seq ≡ last_at k
  unfolding retiring_read version_places
  read_last k = refl

  -- the last of the model's queue is the last of the ring
  pub last_model : last_seq (model_of l).retiring ≡ last_queued l.pool l.retiring (length l.retiring / retiring_stride)
  unfolding model_of last_queued
  last_model = go l.pool.queued
    where
      go : (q : ℕ) → last_seq (listed (retiring_read l) l.pool.popped q)
          ≡ cond (eqb q 0) 0 (last_at (l.pool.popped + q - 1))
      go zero = none_last
      go (suc n) =
          last_listed (retiring_read l) l.pool.popped n ∙ read_last (l.pool.popped + n)
          ∙ ap last_at (let e : l.pool.popped + n ≡ l.pool.popped + suc n - 1 = omega arith in e)
          ∙ sym (ap (λ (b : Bool). cond b 0 (last_at (l.pool.popped + suc n - 1)))
          (ne_eqb (suc n) 0 (λ q. let y : ⊥ = omega (arith, q) in y)))

  pub used_model : Fits l → versions_used (model_of l) ≡ ring_count l.pool + l.pool.kept + l.pool.doomed
  used_model f = omega (arith, versions_read l f.hand, f.kept)
