-- Laws of a line moved to the front of its buffer. Assumes nothing.
use mathlib.Core.Path.{◌≡◌, sym, ap, ◌∙◌}
use mathlib.Core.List.{List}
use Prim.Native.Nat.{ℕ, ◌+◌, ◌-◌, ◌≤◌, ◌<◌, min}
use native.Mathlib.Nat.{zero-add, min-eq_left, min-eq_right}
use native.Mathlib.Decide.{dec_lt}
use native.Mathlib.Omega.{arith}
use lib.ListN.{length, take, drop, length-take, length-drop}
use lib.Seq.{paste, take_all, take-take, take-paste}
use Rattle.event_feed.specs.FeedConstants.{kept_bytes}

-- the bytes that are kept of a line of n bytes
first_bytes_lem : (l : List ℕ) (n : ℕ) → take (min n kept_bytes) l ≡ take kept_bytes (take n l)
first_bytes_lem l n = go (dec_lt n kept_bytes)
  where
    go : Dec (n < kept_bytes) → take (min n kept_bytes) l ≡ take kept_bytes (take n l)
    go (yes p) = ap (λ (k : ℕ). take k l) (min-eq_left {n = n} {m = kept_bytes} (omega arith)) ∙ sym (take_all kept_bytes (take n l) (omega (arith, length-take n l)))
    go (no p) = ap (λ (k : ℕ). take k l) (min-eq_right {n = kept_bytes} {m = n} (omega arith)) ∙ sym (take-take kept_bytes n l (omega arith))

pub line_kept : (from bytes kept : ℕ) (buf now : List ℕ) → kept ≡ min bytes kept_bytes → from + kept ≤ length buf → now ≡ paste buf 0 (drop from buf) (from + kept - from)
    → take kept now ≡ take kept_bytes (take bytes (drop from buf))
line_kept from bytes kept buf now e fits q =
    let k : from + kept - from ≡ kept = omega arith in
    let long : kept ≤ length (drop from buf) = omega (arith, length-drop from buf) in
    ap (take kept) (q ∙ ap (paste buf 0 (drop from buf)) k) ∙ ap (λ (n : ℕ). take n (paste buf 0 (drop from buf) kept)) (sym (zero-add kept))
    ∙ take-paste buf 0 (drop from buf) kept (omega arith) long ∙ ap (λ (n : ℕ). take n (drop from buf)) e ∙ first_bytes_lem (drop from buf) bytes
