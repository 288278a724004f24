-- The rings after a call: what left at the front moves the head on and leaves the slice as it was, and what was pushed stands behind the others.
-- Assumes nothing.
use mathlib.Core.Path.{◌≡◌, refl, sym, ap, ap₂, ◌∙◌}
use mathlib.Core.Option.{Option, none, some}
use mathlib.Core.List.{List, [], ◌∷◌, ◌++◌, map, map-append, append_assoc, append-nil}
use Prim.Native.Nat.{ℕ, zero, suc, ◌+◌, ◌*◌, ◌-◌, ◌≤◌, ◌<◌}
use native.Mathlib.Nat.{add-zero, zero-add}
use native.Mathlib.Omega.{arith}
use lib.ListN.{length, drop, length-append, length-drop}
use lib.Seq.{sets}
use Rattle.base_blocks.specs.Lists.{listed}
use Rattle.base_blocks.proofs.Listed.{length_listed, listed_split, listed_same, drop_listed, map_listed}
use Rattle.base_tables.specs.Records.{record_at}
use Rattle.base_tables.specs.Rings.{place_of, along, ring, laid}
use Rattle.base_tables.proofs.Records.{Codec}
use Rattle.base_tables.proofs.Rings.{place_in, place_head, place_place, laid_ring}
use Rattle.pool_rules.specs.Model.{Retiring, Doomed, PoolModel, hand_count}
use Rattle.pool_records.specs.declared.retiring.RetiringRecord.{RetiringRecord}
use Rattle.pool_records.specs.declared.doomed.DoomedRecord.{DoomedRecord}
use Rattle.pool_records.specs.Retiring.{read_retiring, write_retiring}
use Rattle.pool_records.specs.Doomed.{read_doomed, write_doomed}
use Rattle.pool_records.specs.Codecs.{retiring_codec, doomed_codec}
use Rattle.pool_memory.specs.Lent.{Lent, version_places}
use Rattle.pool_memory.specs.Reading.{hand_read, retiring_read, doomed_read, model_of}
use Rattle.pool_memory.specs.Writing.{retiring_record, doomed_record, hand_list, head_after, retiring_after, first_after, doomed_after}
use Rattle.pool_records.specs.RecordConstants.{doomed_stride, retiring_stride}

-- ---- any ring

module _ {ℓ} {A : Type ℓ} (w : ℕ) (wr : A → List ℕ) (cap head : ℕ) where
  pub laid_append : (xs ys : List A) (i : ℕ) (s : List ℕ)
      → laid w wr cap head i (xs ++ ys) s ≡ laid w wr cap head (i + length xs) ys (laid w wr cap head i xs s)
  unfolding laid
  laid_append [] ys i s = ap (λ (k : ℕ). laid w wr cap head k ys s) (sym (add-zero i))
  laid_append (x ∷ xs) ys i s =
      let t = sets s (w * place_of cap head i) (wr x) in
      laid_append xs ys (suc i) t
      ∙ ap (λ (k : ℕ). laid w wr cap head k ys (laid w wr cap head (suc i) xs t)) (let e : suc i + length xs ≡ i + suc (length xs) = omega arith in e)

module _ {ℓ} {A : Type ℓ} {w : ℕ} {rd : List ℕ → A} {wr : A → List ℕ} (C : Codec w rd wr) (cap head : ℕ) (h : head < cap) (s : List ℕ)
    (fits : w * cap ≤ length s) where
  -- the n records from the k-th on, written where they stand
  pub laid_standing : (k n : ℕ) → k + n ≤ cap → laid w wr cap (place_of cap head k) 0 (listed (along w rd cap head s) k n) s ≡ s
  unfolding ring along
  laid_standing k n b =
      let p = place_of cap head k in
      ap (λ (xs : List A). laid w wr cap p 0 xs s)
      (listed_same (along w rd cap head s) (along w rd cap p s) n k 0
      (λ j q. ap (record_at w rd s) (sym (place_place cap head k (0 + j) h (omega arith) ∙ ap (λ (m : ℕ). place_of cap head (k + m)) (zero-add j)))))
      ∙ laid_ring C cap p (place_in cap head k h (omega arith)) s fits n (omega arith)

  -- more pushed behind the n that stand there
  pub laid_behind : (n : ℕ) (ys : List A) → n ≤ cap
      → laid w wr cap head 0 (listed (along w rd cap head s) 0 n ++ ys) s ≡ laid w wr cap head n ys s
  laid_behind n ys b =
      laid_append w wr cap head (listed (along w rd cap head s) 0 n) ys 0 s
      ∙ ap₂ (λ (m : ℕ) (t : List ℕ). laid w wr cap head m ys t) (zero-add _ ∙ length_listed (along w rd cap head s) 0 n)
      (ap (λ (p : ℕ). laid w wr cap p 0 (listed (along w rd cap head s) 0 n) s) (sym (place_head cap head h)) ∙ laid_standing 0 n (omega arith))

-- ---- the retiring ring

module _ (l : Lent) where
  -- the hand is the ring's front, and the queue follows it
  hand_front : l.pool.popped ≤ 1 → hand_list (model_of l).hand ≡ listed (retiring_read l) 0 l.pool.popped
  unfolding model_of listed
  hand_front = go l.pool.popped
    where
      go : (n : ℕ) → n ≤ 1 → hand_list (hand_read l n) ≡ listed (retiring_read l) 0 n
      go zero h = refl
      go (suc zero) h = refl
      go (suc (suc n)) h = absurd (let y : ⊥ = omega arith in y)

  -- the hand and the queue of the model are the ring
  pub ring_model : l.pool.popped ≤ 1
      → hand_list (model_of l).hand ++ (model_of l).retiring ≡ listed (retiring_read l) 0 (l.pool.popped + l.pool.queued)
  unfolding model_of
  ring_model h =
      let n = l.pool.popped in
      ap₂ (λ (vs ws : List (Retiring ℕ)). vs ++ ws) (hand_front h) (ap (λ (k : ℕ). listed (retiring_read l) k l.pool.queued) (sym (zero-add n)))
      ∙ sym (listed_split (retiring_read l) 0 n l.pool.queued)

  retiring_records : (k n : ℕ)
      → map retiring_record (listed (retiring_read l) k n) ≡ listed (along retiring_stride read_retiring (version_places l) l.pool.head l.retiring) k n
  unfolding retiring_read
  retiring_records k n = map_listed retiring_record (retiring_read l) k n

  pub hand_model : l.pool.popped ≤ 1 → hand_count (model_of l).hand ≡ l.pool.popped
  unfolding model_of
  hand_model = go l.pool.popped
    where
      go : (n : ℕ) → n ≤ 1 → hand_count (hand_read l n) ≡ n
      go zero h = refl
      go (suc n) h = omega arith

  hand_empty : l.pool.popped ≡ 0 → (model_of l).hand ≡ none
  unfolding model_of
  hand_empty e = ap (hand_read l) e

  queue_behind : l.pool.popped ≡ 1 → (model_of l).retiring ≡ listed (retiring_read l) 1 l.pool.queued
  unfolding model_of
  queue_behind e = ap (λ (n : ℕ). listed (retiring_read l) n l.pool.queued) e

  module _ (p : PoolModel ℕ) where
    abbrev popped : ℕ
    popped = l.pool.popped

    module _ (inside : l.pool.head < version_places l) where
      -- a hand that is full as it was leaves the head where it is, and one that is filled too
      pub head_stays : popped ≤ hand_count p.hand → head_after p l ≡ l.pool.head
      unfolding head_after
      head_stays h =
          ap (place_of (version_places l) l.pool.head) (let e : popped - hand_count p.hand ≡ 0 = omega arith in e)
          ∙ place_head (version_places l) l.pool.head inside

      -- parked: the head moves on by one
      pub head_parked : l.pool.popped ≡ 1 → p.hand ≡ none → head_after p l ≡ place_of (version_places l) l.pool.head 1
      unfolding head_after
      head_parked e f = ap₂ (λ (n : ℕ) (o : Option (Retiring ℕ)). place_of (version_places l) l.pool.head (n - hand_count o)) e f

      module _ (fits : retiring_stride * version_places l ≤ length l.retiring) (few : popped ≤ 1) where
        -- the hand and the queue are n of the ring's from the k-th on: nothing is written
        pub retiring_stays : (k n : ℕ) → head_after p l ≡ place_of (version_places l) l.pool.head k
            → hand_list p.hand ++ p.retiring ≡ listed (retiring_read l) k n → k + n ≤ version_places l → retiring_after p l ≡ l.retiring
        unfolding retiring_after
        retiring_stays k n e f b =
            ap₂ (λ (m : ℕ) (vs : List (Retiring ℕ)). laid retiring_stride write_retiring (version_places l) m 0 (map retiring_record vs) l.retiring) e f
            ∙ ap (λ (xs : List RetiringRecord). laid retiring_stride write_retiring (version_places l) (place_of (version_places l) l.pool.head k) 0 xs
            l.retiring) (retiring_records k n)
            ∙ laid_standing retiring_codec (version_places l) l.pool.head inside l.retiring fits k n b

        module _ (room : popped + l.pool.queued ≤ version_places l) where
          pub retiring_same : p.hand ≡ (model_of l).hand → p.retiring ≡ (model_of l).retiring → retiring_after p l ≡ l.retiring
          retiring_same e f =
              retiring_stays 0 (popped + l.pool.queued)
              (head_stays (omega (arith, hand_model few, ap hand_count e)) ∙ sym (place_head (version_places l) l.pool.head inside))
              (ap₂ (λ (o : Option (Retiring ℕ)) (vs : List (Retiring ℕ)). hand_list o ++ vs) e f ∙ ring_model few) (omega arith)

          -- the queue's front goes into the hand
          pub retiring_popped : (v : Retiring ℕ) → l.pool.popped ≡ 0 → (model_of l).retiring ≡ v ∷ p.retiring → p.hand ≡ some v
              → retiring_after p l ≡ l.retiring
          retiring_popped v e f g =
              retiring_stays 0 (popped + l.pool.queued)
              (head_stays (omega (arith, e)) ∙ sym (place_head (version_places l) l.pool.head inside))
              (ap (λ (o : Option (Retiring ℕ)). hand_list o ++ p.retiring) g ∙ sym f
              ∙ sym (ap (λ (o : Option (Retiring ℕ)). hand_list o ++ (model_of l).retiring) (hand_empty e)) ∙ ring_model few)
              (omega arith)

          -- the hand is parked or given up
          pub retiring_parked : l.pool.popped ≡ 1 → p.hand ≡ none → p.retiring ≡ (model_of l).retiring → retiring_after p l ≡ l.retiring
          retiring_parked e f g =
              retiring_stays 1 l.pool.queued (head_parked e f)
              (ap₂ (λ (o : Option (Retiring ℕ)) (vs : List (Retiring ℕ)). hand_list o ++ vs) f g ∙ queue_behind e) (omega (arith, e))

          -- the queue is handed out, and the hand stays
          pub retiring_drained : p.hand ≡ (model_of l).hand → p.retiring ≡ [] → retiring_after p l ≡ l.retiring
          retiring_drained e f =
              retiring_stays 0 popped
              (head_stays (omega (arith, hand_model few, ap hand_count e)) ∙ sym (place_head (version_places l) l.pool.head inside))
              (ap₂ (λ (o : Option (Retiring ℕ)) (vs : List (Retiring ℕ)). hand_list o ++ vs) e f ∙ append-nil (hand_list (model_of l).hand) ∙ hand_front few)
              (omega arith)

        -- one more is queued
        pub retiring_pushed : (v : Retiring ℕ) → popped + l.pool.queued < version_places l → p.hand ≡ (model_of l).hand
            → p.retiring ≡ (model_of l).retiring ++ (v ∷ [])
            → sets l.retiring (retiring_stride * place_of (version_places l) l.pool.head (popped + l.pool.queued)) (write_retiring (retiring_record v))
            ≡ retiring_after p l
        unfolding retiring_after laid
        retiring_pushed v room e f =
            let n = popped + l.pool.queued in
            let whole : map retiring_record (hand_list p.hand ++ p.retiring)
            ≡ listed (along retiring_stride read_retiring (version_places l) l.pool.head l.retiring) 0 n ++ (retiring_record v ∷ []) =
            ap (map retiring_record)
            (ap₂ (λ (o : Option (Retiring ℕ)) (vs : List (Retiring ℕ)). hand_list o ++ vs) e f
            ∙ sym (append_assoc (hand_list (model_of l).hand) (model_of l).retiring (v ∷ []))
            ∙ ap (λ (vs : List (Retiring ℕ)). vs ++ (v ∷ [])) (ring_model few))
            ∙ map-append retiring_record (listed (retiring_read l) 0 n) (v ∷ [])
            ∙ ap (λ (xs : List RetiringRecord). xs ++ (retiring_record v ∷ [])) (retiring_records 0 n) in
            sym (ap₂ (λ (m : ℕ) (xs : List RetiringRecord). laid retiring_stride write_retiring (version_places l) m 0 xs l.retiring)
            (head_stays (omega (arith, hand_model few, ap hand_count e))) whole
            ∙ laid_behind retiring_codec (version_places l) l.pool.head inside l.retiring fits n (retiring_record v ∷ []) (omega arith))

-- ---- the destroy ring

module _ (l : Lent) (p : PoolModel ℕ) where
  doomed_records : (k n : ℕ)
      → map doomed_record (listed (doomed_read l) k n) ≡ listed (along doomed_stride read_doomed (version_places l) l.pool.first l.doomed) k n
  unfolding doomed_read
  doomed_records k n = map_listed doomed_record (doomed_read l) k n

  -- the first k are handed out
  pub first_taken : (k : ℕ) → k ≤ l.pool.doomed → p.doomed ≡ drop k (model_of l).doomed
      → first_after p l ≡ place_of (version_places l) l.pool.first k
  unfolding first_after model_of
  first_taken k h e =
      let n : length p.doomed ≡ l.pool.doomed - k =
      ap length e ∙ length-drop k (listed (doomed_read l) 0 l.pool.doomed)
      ∙ ap (λ (m : ℕ). m - k) (length_listed (doomed_read l) 0 l.pool.doomed) in
      ap (place_of (version_places l) l.pool.first) (let q : l.pool.doomed - length p.doomed ≡ k = omega arith in q)

  module _ (inside : l.pool.first < version_places l) where
    -- the head of the ring stays where no version left it
    pub first_stays : l.pool.doomed ≤ length p.doomed → first_after p l ≡ l.pool.first
    unfolding first_after
    first_stays h =
        ap (place_of (version_places l) l.pool.first) (let e : l.pool.doomed - length p.doomed ≡ 0 = omega arith in e)
        ∙ place_head (version_places l) l.pool.first inside

    module _ (fits : doomed_stride * version_places l ≤ length l.doomed) (room : l.pool.doomed ≤ version_places l) where
      pub doomed_taken : (k : ℕ) → k ≤ l.pool.doomed → p.doomed ≡ drop k (model_of l).doomed → doomed_after p l ≡ l.doomed
      unfolding doomed_after model_of
      doomed_taken k h e =
          ap₂ (λ (m : ℕ) (xs : List DoomedRecord). laid doomed_stride write_doomed (version_places l) m 0 xs l.doomed) (first_taken k h e)
          (ap (map doomed_record)
          (e ∙ drop_listed (doomed_read l) k 0 l.pool.doomed h ∙ ap (λ (m : ℕ). listed (doomed_read l) m (l.pool.doomed - k)) (zero-add k))
          ∙ doomed_records k (l.pool.doomed - k))
          ∙ laid_standing doomed_codec (version_places l) l.pool.first inside l.doomed fits k (l.pool.doomed - k) (omega arith)

      pub doomed_same : p.doomed ≡ (model_of l).doomed → doomed_after p l ≡ l.doomed
      doomed_same e = doomed_taken 0 (omega arith) e

      -- more are queued behind those that wait
      pub doomed_pushed : (ds : List (Doomed ℕ)) → p.doomed ≡ (model_of l).doomed ++ ds
          → laid doomed_stride write_doomed (version_places l) l.pool.first l.pool.doomed (map doomed_record ds) l.doomed ≡ doomed_after p l
      unfolding doomed_after model_of
      doomed_pushed ds e =
          let n = l.pool.doomed in
          let more : n ≤ length p.doomed =
          omega (arith, ap length e, length-append (listed (doomed_read l) 0 n) ds, length_listed (doomed_read l) 0 n) in
          let whole : map doomed_record p.doomed ≡ listed
          (along doomed_stride read_doomed (version_places l) l.pool.first l.doomed) 0 n ++ map doomed_record ds =
          ap (map doomed_record) e
          ∙ map-append doomed_record (listed (doomed_read l) 0 n) ds
          ∙ ap (λ (xs : List DoomedRecord). xs ++ map doomed_record ds) (doomed_records 0 n) in
          sym (ap₂ (λ (m : ℕ) (xs : List DoomedRecord). laid doomed_stride write_doomed (version_places l) m 0 xs l.doomed) (first_stays more) whole
          ∙ laid_behind doomed_codec (version_places l) l.pool.first inside l.doomed fits n (map doomed_record ds) room)
