-- Laws of blocks of numbers moved, copied, filled and turned within one list. Assumes nothing.
use Rattle.std.proofs.Common.{◌≡◌, ℕ, ◌+◌, ◌-◌, ◌<◌, ◌≤◌, List, ◌++◌, reverse, length, replicate, get_or, take, drop, sym, refl, ap, ◌∙◌, ap₂, append_assoc, arith, length-append, length-drop, take-append-drop, length-take-le, get_or-drop, get_or-take, take-take, drop-drop, take_at, get_or-append-add, drop_at, zero, suc, [], ◌∷◌, set, drop-cons, add-one}
use mathlib.Core.List.{reverse-append, reverse-reverse, reverse-cons}
use lib.ListN.{length-replicate, length-reverse, get_or-append}
use borrow.Rule.Slice.PartMut.{put_mid}
use Rattle.std.proofs.lemmas.Slice.{put_mid-paste}
use Rattle.std.proofs.lemmas.List.Edits.{paste_all}
use lib.Seq.{paste, paste-zero, sets, sets-eq, take-append_seam, drop-append_seam, drop-append-add, take-append-le, append_snoc, set_at}
use Rattle.base_blocks.specs.Lists.{over}
use Rattle.base_blocks.specs.Blocks.{moved, turned, rotated}
use Rattle.base_blocks.proofs.Lists.{drop_over}

-- ---- moved down and up

pub moved_none : (s : List ℕ) (to from : ℕ) → s ≡ moved s to from 0
unfolding moved
moved_none s to from = paste-zero s to (drop from s)

-- what stands between a and b replaced by y, and the r numbers from b on moved to just after it: past them the list stays
pub repacked : (s y : List ℕ) (a b r : ℕ) → a ≤ b → b + r ≤ length s → a + length y + r ≤ length s
    → sets (moved s (a + length y) b r) a y ≡ over (take a s ++ (y ++ take r (drop b s))) s
unfolding moved over
repacked s y a b r h k room =
    let n = length y in
    let z = drop (a + n + r) s in
    let m = take r (drop b s) in
    let front = take (a + n) s in
    let lf : length front ≡ a + n = length-take-le (a + n) s (omega arith) in
    let lm : length m ≡ r = length-take-le r (drop b s) (omega (arith, length-drop b s)) in
    let la : length (take a s) ≡ a = length-take-le a s (omega arith) in
    let form : front ++ m ++ z ≡ front ++ (m ++ z) = append_assoc front m z in
    let long : length (front ++ (m ++ z)) ≡ length s =
    length-append front (m ++ z) ∙ ap (λ (i : ℕ). length front + i) (length-append m z)
    ∙ (let e : length front + (length m + length z) ≡ length s = omega (arith, length-drop (a + n + r) s) in e) in
    let whole : length (take a s ++ (y ++ m)) ≡ a + n + r =
    length-append (take a s) (y ++ m) ∙ ap (λ (i : ℕ). length (take a s) + i) (length-append y m)
    ∙ (let e : length (take a s) + (length y + length m) ≡ a + n + r = omega arith in e) in
    ap (λ (l : List ℕ). sets l a y) form
    ∙ sets-eq y (front ++ (m ++ z)) a (omega arith)
    ∙ ap₂ (λ (l q : List ℕ). l ++ y ++ q)
    (take-append-le a front (m ++ z) (omega arith) ∙ take-take a (a + n) s (omega arith))
    (drop_at front (m ++ z) (a + n) lf)
    ∙ (let e : (take a s ++ y) ++ (m ++ z) ≡ (take a s ++ (y ++ m)) ++ z = simp append_assoc in e)
    ∙ ap (λ (i : ℕ). (take a s ++ (y ++ m)) ++ drop i s) (sym whole)

-- xs laid over the front, and the m numbers from r on, which lie past it, moved to just after it
pub over_moved : (xs s : List ℕ) (r m : ℕ) → length xs ≤ r → r + m ≤ length s → moved (over xs s) (length xs) r m ≡ over (xs ++ take m (drop r s)) s
unfolding moved over
over_moved xs s r m h k =
    let b = take m (drop r s) in
    let lb : length b ≡ m = length-take-le m (drop r s) (omega (arith, length-drop r s)) in
    ap₂ (λ (p q : List ℕ). p ++ take m q ++ drop (length xs + m) (xs ++ drop (length xs) s)) (take-append_seam xs (drop (length xs) s))
    (drop_over xs s r h)
    ∙ ap (λ (q : List ℕ). (xs ++ b) ++ q) (drop_over xs s (length xs + m) (omega arith))
    ∙ ap (λ (n : ℕ). (xs ++ b) ++ drop n s) (sym (length-append xs b ∙ ap (λ (n : ℕ). length xs + n) lb))

-- ---- copied and filled

-- a block written over another of its length
pub stored_at : (s a x y t : List ℕ) → s ≡ a ++ (y ++ t) → length x ≡ length y → sets s (length a) x ≡ a ++ (x ++ t)
stored_at s a x y t e h =
    let ls : length s ≡ length a + (length y + length t) = ap length e ∙ simp length-append in
    sets-eq x s (length a) (omega arith)
    ∙ ap₂ (λ (l r : List ℕ). l ++ x ++ r)
    (ap (take (length a)) e ∙ take-append_seam a (y ++ t))
    (ap (λ (k : ℕ). drop (length a + k) s) h ∙ ap (drop (length a + length y)) e ∙ drop-append-add a (y ++ t) (length y) ∙ drop-append_seam y t)
    ∙ append_assoc a x t

-- a list with some of its elements overwritten, read before them, among them and past them
module _ {ℓ} {A : Type ℓ} (s : List A) (at : ℕ) (vs : List A) (fits : at + length vs ≤ length s) where
  pub get_d_sets_before : (i : ℕ) (d : A) → i < at → get_or (sets s at vs) i d ≡ get_or s i d
  get_d_sets_before i d h =
      let n = length-take-le at s (omega arith) in
      ap (λ (l : List A). get_or l i d) (sets-eq vs s at fits ∙ append_assoc (take at s) vs (drop (at + length vs) s))
      ∙ get_or-append (take at s) (vs ++ drop (at + length vs) s) d i (omega arith)
      ∙ get_or-take at s i d h

  pub get_or_sets_in : (j : ℕ) (d : A) → j < length vs → get_or (sets s at vs) (at + j) d ≡ get_or vs j d
  get_or_sets_in j d h =
      let n : length (take at s) ≡ at = length-take-le at s (omega arith) in
      ap₂ (λ (l : List A) (i : ℕ). get_or l (i + j) d) (sets-eq vs s at fits ∙ append_assoc (take at s) vs (drop (at + length vs) s)) (sym n)
      ∙ get_or-append-add (take at s) (vs ++ drop (at + length vs) s) j d
      ∙ get_or-append vs (drop (at + length vs) s) d j h

  pub get_or_sets_past : (i : ℕ) (d : A) → at + length vs ≤ i → get_or (sets s at vs) i d ≡ get_or s i d
  get_or_sets_past i d h =
      let n = length-take-le at s (omega arith) in
      let front : length (take at s ++ vs) ≡ at + length vs = length-append (take at s) vs ∙ ap (λ (m : ℕ). m + length vs) n in
      let e : i ≡ length (take at s ++ vs) + (i - (at + length vs)) = omega arith in
      ap₂ (λ (l : List A) (m : ℕ). get_or l m d) (sets-eq vs s at fits) e
      ∙ get_or-append-add (take at s ++ vs) (drop (at + length vs) s) (i - (at + length vs)) d
      ∙ get_or-drop (at + length vs) s (i - (at + length vs)) d
      ∙ ap (λ (m : ℕ). get_or s m d) (let q : at + length vs + (i - (at + length vs)) ≡ i = omega arith in q)

-- ---- pasted, and a part written

module _ {A : Type 0} (xs : List A) (at : ℕ) (ys : List A) (fits : at + length ys ≤ length xs) where
  -- a whole list pasted
  pub paste_sets : paste xs at ys (length ys) ≡ sets xs at ys
  paste_sets = paste_all xs at ys (length ys) refl ∙ sym (append_assoc (take at xs) ys (drop (at + length ys) xs)) ∙ sym (sets-eq ys xs at fits)

  -- the part of length k from at on, which holds ys now
  pub put_mid_sets : (k : ℕ) (zs : List A) → k ≡ length ys → zs ≡ ys → put_mid at k xs zs ≡ sets xs at ys
  put_mid_sets k zs e f = put_mid-paste at k xs zs ys (length ys) f (sym e) refl ∙ paste_sets

-- a run of one number, as long as the loop has come, at its end
pub filled : {A : Type 0} (xs : List A) (at n : ℕ) (x : A) (fits : at + n ≤ length xs) (l : List A) (j : ℕ) → j ≡ n → l ≡ paste xs at (replicate j x) j → l ≡ sets xs at (replicate n x)
filled xs at n x fits l j e was =
    let long = length-replicate n x in
    was
    ∙ ap (λ m. paste xs at (replicate m x) m) e
    ∙ ap (paste xs at (replicate n x)) (sym long)
    ∙ paste_sets xs at (replicate n x) (omega arith)

-- ---- turned and rotated

module _ {ℓ} {A : Type ℓ} where
  -- the block between p and t turned
  pub turned_parts : (p a t : List A) (at n : ℕ) → length p ≡ at → length a ≡ n → turned at n (p ++ (a ++ t)) ≡ p ++ (reverse a ++ t)
  unfolding turned
  turned_parts p a t at n hp ha =
      let d : drop at (p ++ (a ++ t)) ≡ a ++ t = drop_at p (a ++ t) at hp in
      let z : drop (at + n) (p ++ (a ++ t)) ≡ t = sym (drop-drop n at (p ++ (a ++ t))) ∙ ap (drop n) d ∙ drop_at a t n ha in
      ap₂ (λ (l r : List A). l ++ (reverse (take n r) ++ drop (at + n) (p ++ (a ++ t)))) (take_at p (a ++ t) at hp) d
      ∙ ap₂ (λ (l r : List A). p ++ (reverse l ++ r)) (take_at a t n ha) z

  -- a list in three parts
  thirds : (at n : ℕ) (s : List A) → s ≡ take at s ++ (take n (drop at s) ++ drop (at + n) s)
  thirds at n s =
      sym (ap (λ (l : List A). take at s ++ (take n (drop at s) ++ l)) (sym (drop-drop n at s))
      ∙ ap (λ (l : List A). take at s ++ l) (take-append-drop n (drop at s))
      ∙ take-append-drop at s)

  -- of no element and of one, nothing changes
  pub turned_none : (at n : ℕ) (s : List A) → at + n ≤ length s → n ≤ 1 → turned at n s ≡ s
  unfolding turned
  turned_none at zero s h k = sym (thirds at 0 s)
  turned_none at (suc zero) s h k =
      ap (λ (l : List A). take at s ++ (l ++ drop (at + 1) s)) (one (take 1 (drop at s)) (length-take-le 1 (drop at s) (omega (arith, length-drop at s)))) ∙ sym (thirds at 1 s)
    where
      one : (l : List A) → length l ≡ 1 → reverse l ≡ l
      one [] e = refl
      one (x ∷ []) e = refl
      one (x ∷ y ∷ l) e = absurd (let y : ⊥ = omega arith in y)
  turned_none at (suc (suc n)) s h k = absurd (let y : ⊥ = omega arith in y)

  -- a block between two ends that change places
  turned_ends : (p : List A) (x : A) (m : List A) (y : A) (t : List A) (at n : ℕ) → length p ≡ at → length m ≡ n
      → turned at (suc (suc n)) (p ++ (x ∷ (m ++ (y ∷ t)))) ≡ turned (suc at) n (p ++ (y ∷ (m ++ (x ∷ t))))
  turned_ends p x m y t at n hp hm =
      let la : length (x ∷ (m ++ (y ∷ []))) ≡ suc (suc n) = ap suc (length-append m (y ∷ []) ∙ (let q : length m + 1 ≡ suc n = omega arith in q)) in
      let lq : length (p ++ (y ∷ [])) ≡ suc at = length-append p (y ∷ []) ∙ (let q : length p + 1 ≡ suc at = omega arith in q) in
      let whole : x ∷ (m ++ (y ∷ t)) ≡ (x ∷ (m ++ (y ∷ []))) ++ t = ap (λ (l : List A). x ∷ l) (sym (append_snoc m y t)) in
      let back : reverse (x ∷ (m ++ (y ∷ []))) ≡ y ∷ (reverse m ++ (x ∷ [])) =
      reverse-cons x (m ++ (y ∷ [])) ∙ ap (λ (l : List A). l ++ (x ∷ [])) (reverse-append m (y ∷ [])) in
      ap (λ (l : List A). turned at (suc (suc n)) (p ++ l)) whole
      ∙ turned_parts p (x ∷ (m ++ (y ∷ []))) t at (suc (suc n)) hp la
      ∙ ap (λ (l : List A). p ++ (l ++ t)) back
      ∙ ap (λ (l : List A). p ++ (y ∷ l)) (append_snoc (reverse m) x t)
      ∙ sym (append_snoc p y (reverse m ++ (x ∷ t)))
      ∙ sym (turned_parts (p ++ (y ∷ [])) m (x ∷ t) (suc at) n lq hm)
      ∙ ap (turned (suc at) n) (append_snoc p y (m ++ (x ∷ t)))

-- the outermost two have changed places: what lies between is still to be turned
pub turn_step : (s : List ℕ) (lo hi : ℕ) → lo + 1 < hi → hi ≤ length s
    → turned lo (hi - lo) s ≡ turned (lo + 1) (hi - 1 - (lo + 1)) (set (set s lo (get_or s (hi - 1) 0)) (hi - 1) (get_or s lo 0))
turn_step s lo hi h k =
    let n = hi - 1 - (lo + 1) in
    let p = take lo s in
    let x = get_or s lo 0 in
    let y = get_or s (hi - 1) 0 in
    let m = take n (drop (suc lo) s) in
    let t = drop (suc (hi - 1)) s in
    let lp : length p ≡ lo = length-take-le lo s (omega arith) in
    let lm : length m ≡ n = length-take-le n (drop (suc lo) s) (omega (arith, length-drop (suc lo) s)) in
    let hi-is : suc lo + n ≡ hi - 1 = omega arith in
    let inner : drop (suc lo) s ≡ m ++ (y ∷ t) =
    sym (take-append-drop n (drop (suc lo) s)) ∙ ap (λ (l : List ℕ). m ++ l) (drop-drop n (suc lo) s ∙ ap (λ (i : ℕ). drop i s) hi-is ∙ drop-cons s (hi - 1) 0 (omega arith)) in
    let cut : s ≡ p ++ (x ∷ (m ++ (y ∷ t))) = sym (take-append-drop lo s) ∙ ap (λ (l : List ℕ). p ++ l) (drop-cons s lo 0 (omega arith) ∙ ap (λ (l : List ℕ). x ∷ l) inner) in
    let mid : length (p ++ (y ∷ m)) ≡ hi - 1 = length-append p (y ∷ m) ∙ (let q : length p + suc (length m) ≡ hi - 1 = omega arith in q) in
    let stored : set (set s lo y) (hi - 1) x ≡ p ++ (y ∷ (m ++ (x ∷ t))) =
    ap (λ (l : List ℕ). set (set l lo y) (hi - 1) x) cut
    ∙ ap (λ (l : List ℕ). set l (hi - 1) x) (set_at p x (m ++ (y ∷ t)) y lo lp ∙ sym (append_assoc p (y ∷ m) (y ∷ t)))
    ∙ set_at (p ++ (y ∷ m)) y t x (hi - 1) mid
    ∙ append_assoc p (y ∷ m) (x ∷ t) in
    ap (λ (i : ℕ). turned lo i s) (let q : hi - lo ≡ suc (suc n) = omega arith in q)
    ∙ ap (turned lo (suc (suc n))) cut
    ∙ turned_ends p x m y t lo n lp lm
    ∙ ap₂ (λ (i : ℕ) (l : List ℕ). turned i n l) (sym (add-one lo)) (sym stored)

-- the part of length k from at on, which is turned now
pub put_mid_turned : {A : Type 0} (at n k : ℕ) (xs zs : List A) → k ≡ n → zs ≡ reverse (take k (drop at xs)) → put_mid at k xs zs ≡ turned at n xs
unfolding turned
put_mid_turned at n k xs zs e f =
    ap₂ (λ l m. take at xs ++ (l ++ drop m (drop at xs))) (f ∙ ap (λ m. reverse (take m (drop at xs))) e) e
    ∙ ap (λ l. take at xs ++ (reverse (take n (drop at xs)) ++ l)) (drop-drop n at xs)

module _ {ℓ} {A : Type ℓ} where
  pub rotated_parts : (p a b t : List A) (at n k : ℕ) → length p ≡ at → length a ≡ n → length b ≡ k
      → rotated at n k (p ++ (a ++ (b ++ t))) ≡ p ++ (b ++ (a ++ t))
  unfolding rotated
  rotated_parts p a b t at n k hp ha hb =
      let s = p ++ (a ++ (b ++ t)) in
      let d0 : drop at s ≡ a ++ (b ++ t) = drop_at p (a ++ (b ++ t)) at hp in
      let d1 : drop (at + n) s ≡ b ++ t = sym (drop-drop n at s) ∙ ap (drop n) d0 ∙ drop_at a (b ++ t) n ha in
      let d2 : drop (at + n + k) s ≡ t = sym (drop-drop k (at + n) s) ∙ ap (drop k) d1 ∙ drop_at b t k hb in
      let e1 : take n (drop at s) ≡ a = ap (take n) d0 ∙ take_at a (b ++ t) n ha in
      let e2 : take k (drop (at + n) s) ≡ b = ap (take k) d1 ∙ take_at b t k hb in
      ap₂ (λ (x y : List A). x ++ (y ++ (take n (drop at s) ++ drop (at + n + k) s))) (take_at p (a ++ (b ++ t)) at hp) e2
      ∙ ap₂ (λ (x y : List A). p ++ (b ++ (x ++ y))) e1 d2

  -- a list in four parts
  pub quarters : (at n k : ℕ) (s : List A) → s ≡ take at s ++ (take n (drop at s) ++ (take k (drop (at + n) s) ++ drop (at + n + k) s))
  quarters at n k s =
      thirds at n s ∙ sym (ap (λ (l : List A). take at s ++ (take n (drop at s) ++ l)) (ap (λ (l : List A). take k (drop (at + n) s) ++ l) (sym (drop-drop k (at + n) s)) ∙ take-append-drop k (drop (at + n) s)))

  -- both blocks turned, and then the two together: the blocks change places
  pub turned_rotated : (at n k : ℕ) (s : List A) → at + n + k ≤ length s
      → turned at (n + k) (turned (at + n) k (turned at n s)) ≡ rotated at n k s
  turned_rotated at n k s h =
      let p = take at s in
      let a = take n (drop at s) in
      let b = take k (drop (at + n) s) in
      let t = drop (at + n + k) s in
      let lp : length p ≡ at = length-take-le at s (omega arith) in
      let la : length a ≡ n = length-take-le n (drop at s) (omega (arith, length-drop at s)) in
      let lb : length b ≡ k = length-take-le k (drop (at + n) s) (omega (arith, length-drop (at + n) s)) in
      let ra : length (reverse a) ≡ n = length-reverse a ∙ la in
      let rb : length (reverse b) ≡ k = length-reverse b ∙ lb in
      let cut = quarters at n k s in
      let one : turned at n s ≡ p ++ (reverse a ++ (b ++ t)) = ap (turned at n) cut ∙ turned_parts p a (b ++ t) at n lp la in
      let two : turned (at + n) k (p ++ (reverse a ++ (b ++ t))) ≡ p ++ (reverse a ++ (reverse b ++ t)) =
      ap (turned (at + n) k) (sym (append_assoc p (reverse a) (b ++ t)))
      ∙ turned_parts (p ++ reverse a) b t (at + n) k (length-append p (reverse a) ∙ ap₂ (λ (i j : ℕ). i + j) lp ra) lb
      ∙ append_assoc p (reverse a) (reverse b ++ t) in
      let back : reverse (reverse a ++ reverse b) ≡ b ++ a = reverse-append (reverse a) (reverse b) ∙ ap₂ (λ (l r : List A). l ++ r) (reverse-reverse b) (reverse-reverse a) in
      let three : turned at (n + k) (p ++ (reverse a ++ (reverse b ++ t))) ≡ p ++ (b ++ (a ++ t)) =
      ap (λ (l : List A). turned at (n + k) (p ++ l)) (sym (append_assoc (reverse a) (reverse b) t))
      ∙ turned_parts p (reverse a ++ reverse b) t at (n + k) lp (length-append (reverse a) (reverse b) ∙ ap₂ (λ (i j : ℕ). i + j) ra rb)
      ∙ ap (λ (l : List A). p ++ (l ++ t)) back
      ∙ ap (λ (l : List A). p ++ l) (append_assoc b a t) in
      ap (λ (l : List A). turned at (n + k) (turned (at + n) k l)) one
      ∙ ap (turned at (n + k)) two
      ∙ three
      ∙ sym (ap (rotated at n k) cut ∙ rotated_parts p a b t at n k lp la lb)
