-- What is picked, by the line: all that is parked before it, and of those at it as many as it takes, texture by texture. Assumes nothing.
use mathlib.Core.Path.{◌≡◌, refl, sym, ap, ap₂, ◌∙◌, subst}
use mathlib.Core.Bool.{Bool, true, false, cond}
use mathlib.Core.List.{List, [], ◌∷◌, ◌++◌, map, flat_map, append_assoc, append-nil}
use mathlib.Core.Logic.{⊎_elim}
use Prim.Native.Nat.{ℕ, suc, ◌+◌, ◌≤◌, ◌<◌}
use native.Mathlib.Omega.{arith}
use lib.Dec.{ltb, leb, eqb}
use lib.ListN.{length}
use borrow.Author.Tests.{leb-true}
use Rattle.base_blocks.specs.Lists.{keep, total}
use Rattle.base_blocks.specs.All.{All, nil, cons}
use Rattle.base_blocks.proofs.Lists.{keep_append}
use Rattle.base_blocks.proofs.All.{all_mono, all_keep, all_map, all_flat_map}
use Rattle.grid_shapes.specs.Shapes.{bytes_of}
use Rattle.pool_rules.specs.Model.{Spare, VersionState, limit}
use Rattle.pool_rules.specs.NoteAllocated.{Aged, picked, by_age, count_of, aged_of}
use Rattle.pool_rules.specs.Formed.{StateFormed, Ascending, end, more}
use Rattle.pool_rules.proofs.States.{ascending_above}
use Rattle.pool_relief_line.specs.Line.{bytes_of_aged, is_before, is_at, bytes_before, IsLine, freed_with, parked_of, count_before, taken_at, gives}
use Rattle.pool_relief_line.proofs.Picked.{picked_none, picked_all, picked_covers, picked_append, all_picked, count_append, count_all, count_none}
use Rattle.pool_relief_line.proofs.Sorted.{total_sorted, count_sorted, sorted_parted, is_after, none_after, bytes_next, Rising, level, rising_both, rising_same, sorted_at}

module _ (dooming excess : ℕ) (xs : List Aged) (line : ℕ) (L : IsLine dooming excess (λ n. bytes_before n xs) line) (rising : Rising xs) (parked : All (λ (a : Aged). a.parked ≤ limit) xs) where
  abbrev freed : ℕ
  freed = dooming + bytes_before line xs

  abbrev low : List Aged
  low = by_age (keep (is_before line) xs)

  abbrev middle : List Aged
  middle = keep (is_at line) xs

  low_bytes : total bytes_of_aged low ≡ bytes_before line xs
  unfolding bytes_before
  low_bytes = total_sorted bytes_of_aged (keep (is_before line) xs)

  low_picked : picked dooming excess low ≡ low
  low_picked = picked_all dooming excess low (omega (arith, low_bytes, L.short))

  low_freed : freed_with dooming excess low ≡ freed
  unfolding freed_with
  low_freed = ap (λ (l : List Aged). dooming + total bytes_of_aged l) low_picked ∙ ap (λ (n : ℕ). dooming + n) low_bytes

  -- past the line nothing is picked
  high_picked : picked (freed_with freed excess middle) excess (by_age (keep (is_after line) xs)) ≡ []
  unfolding by_age picked
  high_picked =
      ⊎_elim (λ h. picked_none (freed_with freed excess middle) excess (by_age (keep (is_after line) xs))
      (picked_covers freed excess middle (omega (arith, h, bytes_next line xs))))
      (λ h. ap (λ (l : List Aged). picked (freed_with freed excess middle) excess (by_age l)) (none_after line limit xs parked (omega arith)))
      L.last

  pub picked_line : picked dooming excess (by_age xs) ≡ low ++ picked freed excess middle
  picked_line =
      ap (picked dooming excess) (sorted_parted line xs ∙ ap (λ (l : List Aged). low ++ (l ++ by_age (keep (is_after line) xs))) (sorted_at line xs rising))
      ∙ picked_append dooming excess low (middle ++ by_age (keep (is_after line) xs))
      ∙ ap₂ (λ (l : List Aged) (f : ℕ). l ++ picked f excess (middle ++ by_age (keep (is_after line) xs))) low_picked low_freed
      ∙ ap (λ (l : List Aged). low ++ l)
      (picked_append freed excess middle (by_age (keep (is_after line) xs))
      ∙ ap (λ (l : List Aged). picked freed excess middle ++ l) high_picked
      ∙ append-nil (picked freed excess middle))

  pub count_line : (id : ℕ) → count_of id (picked dooming excess (by_age xs)) ≡ count_of id (keep (is_before line) xs) + count_of id (picked freed excess middle)
  count_line id =
      ap (count_of id) picked_line ∙ count_append id low (picked freed excess middle)
      ∙ ap (λ (n : ℕ). n + count_of id (picked freed excess middle)) (count_sorted id (keep (is_before line) xs))

-- ---- one texture's spares, by their parking numbers

module _ {W : Type 0} where
  abbrev aged : ℕ → ℕ → Spare W → Aged
  aged id bytes s = record { parked = s.parked; id = id; bytes = bytes }

  before_spares : (id bytes line : ℕ) (ss : List (Spare W)) → length (keep (is_before line) (map (aged id bytes) ss)) ≡ count_before line (map parked_of ss)
  unfolding keep count_before total
  before_spares id bytes line [] = refl
  before_spares id bytes line (s ∷ ss) = go (ltb s.parked line) (before_spares id bytes line ss)
    where
      go : (b : Bool) → length (keep (is_before line) (map (aged id bytes) ss)) ≡ count_before line (map parked_of ss)
          → length (cond b (aged id bytes s ∷ keep (is_before line) (map (aged id bytes) ss)) (keep (is_before line) (map (aged id bytes) ss)))
          ≡ cond b 1 0 + count_before line (map parked_of ss)
      go true e = omega (arith, e)
      go false e = omega (arith, e)

  at_spares : (id bytes line freed excess : ℕ) (ss : List (Spare W))
      → length (picked freed excess (keep (is_at line) (map (aged id bytes) ss))) ≡ taken_at freed excess bytes line (map parked_of ss)
  unfolding keep picked taken_at
  at_spares id bytes line freed excess [] = refl
  at_spares id bytes line freed excess (s ∷ ss) =
      go (eqb s.parked line) (leb excess freed) refl refl (at_spares id bytes line (freed + bytes) excess ss) (at_spares id bytes line freed excess ss)
    where
      go : (b c : Bool) → eqb s.parked line ≡ b → leb excess freed ≡ c
          → length (picked (freed + bytes) excess (keep (is_at line) (map (aged id bytes) ss))) ≡ taken_at (freed + bytes) excess bytes line (map parked_of ss)
          → length (picked freed excess (keep (is_at line) (map (aged id bytes) ss))) ≡ taken_at freed excess bytes line (map parked_of ss)
          → length (picked freed excess (keep (is_at line) (map (aged id bytes) (s ∷ ss)))) ≡ taken_at freed excess bytes line (map parked_of (s ∷ ss))
      go b true e f next same =
          rw f (ap length (picked_none freed excess (keep (is_at line) (map (aged id bytes) (s ∷ ss))) (leb-true excess freed f)))
      go true false e f next same = rw (e, f) (ap suc next)
      go false false e f next same = rw (e, f) same

  pub before_run : (t : VersionState W) (line : ℕ) → length (keep (is_before line) (aged_of t)) ≡ count_before line (map parked_of t.spares)
  before_run t line = before_spares t.id (bytes_of t.shape) line t.spares

  pub at_run : (t : VersionState W) (line freed excess : ℕ)
      → length (picked freed excess (keep (is_at line) (aged_of t))) ≡ taken_at freed excess (bytes_of t.shape) line (map parked_of t.spares)
  at_run t line freed excess = at_spares t.id (bytes_of t.shape) line freed excess t.spares

-- ---- texture by texture

module _ {W : Type 0} where
  abbrev pub aged_all : List (VersionState W) → List Aged
  aged_all ts = flat_map aged_of ts

  pub aged_append : (ts us : List (VersionState W)) → aged_all (ts ++ us) ≡ aged_all ts ++ aged_all us
  unfolding flat_map
  aged_append [] us = refl
  aged_append (t ∷ ts) us = ap (λ (l : List Aged). aged_of t ++ l) (aged_append ts us) ∙ sym (append_assoc (aged_of t) (aged_all ts) (aged_all us))

  all_any : {P : Spare W → Type 0} → ((s : Spare W) → P s) → (ss : List (Spare W)) → All P ss
  all_any f [] = nil
  all_any f (s ∷ ss) = cons (f s) (all_any f ss)

  -- a texture's spares have its id, its bytes and, in a formed pool, a submission as their parking number
  aged_id : (t : VersionState W) → All (λ (a : Aged). a.id ≡ t.id) (aged_of t)
  aged_id t = all_map (aged t.id (bytes_of t.shape)) (λ s q. q) (all_any {P = λ s. t.id ≡ t.id} (λ s. refl) t.spares)

  pub aged_bytes : (t : VersionState W) → All (λ (a : Aged). a.bytes ≡ bytes_of t.shape) (aged_of t)
  aged_bytes t = all_map (aged t.id (bytes_of t.shape)) (λ s q. q) (all_any {P = λ s. bytes_of t.shape ≡ bytes_of t.shape} (λ s. refl) t.spares)

  pub aged_parked : {ts : List (VersionState W)} → All StateFormed ts → All (λ (a : Aged). a.parked ≤ limit) (aged_all ts)
  aged_parked fs = all_flat_map aged_of (λ t f. all_map (λ (s : Spare W). record { parked = s.parked; id = t.id; bytes = bytes_of t.shape }) (λ s q. q.parked) f.spares) fs

  -- those of other textures have other ids
  aged_above : {lo : ℕ} {ts : List (VersionState W)} → Ascending lo ts → All (λ (a : Aged). lo ≤ a.id) (aged_all ts)
  aged_above {lo} asc = all_flat_map aged_of (λ t q. all_mono (λ a e. let i : lo ≤ t.id = q in omega (arith, i, e)) (aged_id t)) (ascending_above asc)

  pub aged_rising : {lo : ℕ} {ts : List (VersionState W)} → Ascending lo ts → Rising (aged_all ts)
  unfolding flat_map
  aged_rising end = level
  aged_rising (more {t = t} {ts = ts} h asc) =
      rising_both t.id (rising_same t.id (aged_id t)) (all_mono (λ a e. omega (arith, e)) (aged_id t)) (aged_rising asc)
      (all_mono (λ a e. omega (arith, e)) (aged_above asc))

  -- one texture among the others: the ids before it are below its own, those after it above
  ascending_parts : (us : List (VersionState W)) (t : VersionState W) (vs : List (VersionState W)) {lo : ℕ} → Ascending lo (us ++ (t ∷ vs))
      → (lo ≤ t.id) × (All (λ (u : VersionState W). u.id < t.id) us × Ascending (suc t.id) vs)
  ascending_parts [] t vs (more h asc) = (h, (nil, asc))
  ascending_parts (u ∷ us) t vs (more h asc) =
      let r = ascending_parts us t vs asc in (omega (arith, h, r.0), (cons r.0 r.1.0, r.1.1))

  module _ (us : List (VersionState W)) (t : VersionState W) (vs : List (VersionState W)) {lo : ℕ} (asc : Ascending lo (us ++ (t ∷ vs))) where
    abbrev others : Aged → Type 0
    others a = a.id ≡ t.id → ⊥

    others_before : All others (aged_all us)
    others_before =
        all_flat_map aged_of (λ u q. all_mono (λ a e. let i : u.id < t.id = q in λ z. omega (arith, i, e, z)) (aged_id u)) (ascending_parts us t vs asc).1.0

    others_behind : All others (aged_all vs)
    others_behind = all_mono (λ a e. λ z. omega (arith, e, z)) (aged_above (ascending_parts us t vs asc).1.1)

    kept_parts : (p : Aged → Bool) → keep p (aged_all (us ++ (t ∷ vs))) ≡ keep p (aged_all us) ++ (keep p (aged_of t) ++ keep p (aged_all vs))
    unfolding flat_map
    kept_parts p =
        ap (keep p) (aged_append us (t ∷ vs)) ∙ keep_append p (aged_all us) (aged_of t ++ aged_all vs)
        ∙ ap (λ (l : List Aged). keep p (aged_all us) ++ l) (keep_append p (aged_of t) (aged_all vs))

    count_kept : (p : Aged → Bool) → count_of t.id (keep p (aged_all (us ++ (t ∷ vs)))) ≡ length (keep p (aged_of t))
    count_kept p =
        let a = keep p (aged_all us) in
        let b = keep p (aged_of t) in
        let c = keep p (aged_all vs) in
        ap (count_of t.id) (kept_parts p)
        ∙ (let q : count_of t.id (a ++ (b ++ c)) ≡ length b =
        omega (
          arith,
          count_append t.id a (b ++ c),
          count_append t.id b c,
          count_none t.id (all_keep p others_before),
          count_none t.id (all_keep p others_behind),
          count_all t.id (all_keep p (aged_id t)),
        ) in q)

    count_picked : (p : Aged → Bool) (freed excess : ℕ)
        → count_of t.id (picked freed excess (keep p (aged_all (us ++ (t ∷ vs)))))
        ≡ length (picked (freed_with freed excess (keep p (aged_all us))) excess (keep p (aged_of t)))
    count_picked p freed excess =
        let a = keep p (aged_all us) in
        let b = keep p (aged_of t) in
        let c = keep p (aged_all vs) in
        let f = freed_with freed excess a in
        let x = picked freed excess a in
        let y = picked f excess b in
        let z = picked (freed_with f excess b) excess c in
        ap (count_of t.id)
        (ap (picked freed excess) (kept_parts p) ∙ picked_append freed excess a (b ++ c) ∙ ap (λ (l : List Aged). x ++ l) (picked_append f excess b c))
        ∙ (let q : count_of t.id (x ++ (y ++ z)) ≡ length y =
        omega (
          arith,
          count_append t.id x (y ++ z),
          count_append t.id y z,
          count_none t.id (all_picked freed excess (all_keep p others_before)),
          count_none t.id (all_picked (freed_with f excess b) excess (all_keep p others_behind)),
          count_all t.id (all_picked f excess (all_keep p (aged_id t))),
        ) in q)

    -- what the texture gives
    pub texture_gives : (dooming excess line : ℕ) → IsLine dooming excess (λ n. bytes_before n (aged_all (us ++ (t ∷ vs)))) line → All StateFormed (us ++ (t ∷ vs))
        → count_of t.id (picked dooming excess (by_age (aged_all (us ++ (t ∷ vs)))))
        ≡ gives (freed_with (dooming + bytes_before line (aged_all (us ++ (t ∷ vs)))) excess (keep (is_at line) (aged_all us))) excess (bytes_of t.shape) line
        (map parked_of t.spares)
    unfolding gives
    texture_gives dooming excess line L formed =
        count_line dooming excess (aged_all (us ++ (t ∷ vs))) line L (aged_rising asc) (aged_parked formed) t.id
        ∙ ap₂ (λ (a b : ℕ). a + b) (count_kept (is_before line) ∙ before_run t line)
        (count_picked (is_at line) (dooming + bytes_before line (aged_all (us ++ (t ∷ vs)))) excess ∙ at_run t line _ excess)

  -- the same, of textures known to part so
  pub gives_among : (us : List (VersionState W)) (t : VersionState W) (vs ts : List (VersionState W)) → us ++ (t ∷ vs) ≡ ts → {lo : ℕ} → Ascending lo ts
      → All StateFormed ts → (dooming excess line : ℕ) → IsLine dooming excess (λ n. bytes_before n (aged_all ts)) line
      → count_of t.id (picked dooming excess (by_age (aged_all ts)))
      ≡ gives (freed_with (dooming + bytes_before line (aged_all ts)) excess (keep (is_at line) (aged_all us))) excess (bytes_of t.shape) line (map parked_of t.spares)
  gives_among us t vs ts e {lo} =
      subst
      (λ (xs : List (VersionState W)). Ascending lo xs → All StateFormed xs → (dooming excess line : ℕ)
      → IsLine dooming excess (λ n. bytes_before n (aged_all xs)) line
      → count_of t.id (picked dooming excess (by_age (aged_all xs)))
      ≡ gives (freed_with (dooming + bytes_before line (aged_all xs)) excess (keep (is_at line) (aged_all us))) excess (bytes_of t.shape) line (map parked_of t.spares))
      e (λ asc formed dooming excess line L. texture_gives us t vs asc dooming excess line L formed)
