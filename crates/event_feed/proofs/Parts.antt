-- Laws of the parts of a buffer. Assumes nothing.
use mathlib.Core.Path.{◌≡◌, refl, sym, ap, ◌∙◌}
use mathlib.Core.List.{List, [], ◌∷◌}
use Prim.Native.Nat.{ℕ, zero, suc, ◌+◌, ◌-◌, ◌≤◌}
use native.Mathlib.Omega.{arith}
use lib.ListN.{length, take, drop, length-take, length-drop}
use lib.Seq.{take-take, length-take-le}
use Rattle.event_feed.specs.Places.{part}

pub drop_part : (m n : ℕ) (l : List ℕ) → drop m (take n l) ≡ take (n - m) (drop m l)
drop_part zero n l = ap (λ (k : ℕ). take k l) (let e : n ≡ n - 0 = omega arith in e)
drop_part (suc m) zero l = ap (λ (k : ℕ). take k (drop (suc m) l)) (let e : 0 ≡ 0 - suc m = omega arith in e)
drop_part (suc m) (suc n) [] = go (suc n - suc m)
  where
    go : (k : ℕ) → [] ≡ take {A = ℕ} k []
    go zero = refl
    go (suc k) = refl
drop_part (suc m) (suc n) (b ∷ l) = drop_part m n l ∙ ap (λ (k : ℕ). take k (drop m l)) (let e : n - m ≡ suc n - suc m = omega arith in e)

pub part_short : (from size : ℕ) (l : List ℕ) → length (part from size l) ≤ length l
part_short from size l = omega (arith, length-take size (drop from l), length-drop from l)

pub part_length : (from size : ℕ) (buf : List ℕ) → from + size ≤ length buf → length (part from size buf) ≡ size
part_length from size buf h = length-take-le size (drop from buf) (omega (arith, length-drop from buf))

-- a part of what stays is as it was
pub part_same : (from size end : ℕ) (buf now : List ℕ) → from + size ≤ end → take end now ≡ take end buf → part from size now ≡ part from size buf
part_same from size end buf now h e =
    let n : from + size - from ≡ size = omega arith in
    ap (λ (k : ℕ). take k (drop from now)) (sym n) ∙ sym (drop_part from (from + size) now)
    ∙ ap (drop from) (sym (take-take (from + size) end now h) ∙ ap (take (from + size)) e ∙ take-take (from + size) end buf h)
    ∙ drop_part from (from + size) buf ∙ ap (λ (k : ℕ). take k (drop from buf)) n
