-- A version's numbers against the plain book: what a write, a regeneration and a plan do to them.
use Prim.Native.Nat.{ℕ, suc, ◌+◌, ◌≤◌, ◌<◌}
use mathlib.Core.Path.{◌≡◌, refl, sym, ap, subst}
use mathlib.Core.Bool.{Bool, true, false, not, ◌&&◌}
use mathlib.Core.Option.{Option, none, some}
use mathlib.Core.List.{List, [], ◌∷◌}
use native.Mathlib.Omega.{arith}
use lib.Dec.{leb, ltb, eqb}
use borrow.Author.Tests.{ltb-true, leb-true, eqb-true, lt-ltb, le-ltb, le-leb, eq-eqb}
use Rattle.base_blocks.specs.All.{All, nil, cons}
use Rattle.base_blocks.proofs.Lists.{either, not_passed}
use Rattle.base_blocks.proofs.All.{all_mono}
use Rattle.grid_shapes.specs.declared.shape.VersionShape.{VersionShape}
use Rattle.grid_shapes.specs.Shapes.{slices_of, level_width, level_height}
use Rattle.grid_rects.specs.declared.rect.TexelRect.{TexelRect}
use Rattle.grid_rects.specs.declared.rect.Region.{Region}
use Rattle.grid_rects.specs.declared.rect.Region.TheVariants.{Whole, Part}
use Rattle.grid_stamps.proofs.Stamps.{InRect}
use Rattle.pool_rules.specs.declared.held.Held.{Held}
use Rattle.pool_rules.specs.declared.held.Held.TheVariants.{Known, Unknown}
use Rattle.pool_rules.specs.Model.{WriteHistory, PreserveCopy, UploadFootprint}
use Rattle.pool_rules.specs.Formed.{Given}
use Rattle.pool_rules.specs.Histories.{in_shape, stamp_write, stamp_regeneration}
use Rattle.pool_rules.specs.PreservePlan.{covers, copies}
use Rattle.pool_rules.proofs.Histories.{HistoryOk, stamp_in, write_below, regenerate_below}
use Rattle.pool_rules.proofs.Plans.{InRegion, InCopy, Uncopied, missed_uncopied, covers_named, none_covered}
use Rattle.pool_books.specs.Texels.{Texel, Inside, is_of, in_rect, in_write, is_whole}
use Rattle.pool_books.specs.VersionBook.{Numbers, Book, writes_whole, book_write, book_regeneration, in_region, in_copy, copied, not_copied, skipped}
use Rattle.pool_books.proofs.Laws.{and_left, and_right, and_true, clash, given_mono}

-- the stamp of a texel's tile
abbrev pub stamp_of : VersionShape → WriteHistory → Texel → ℕ
stamp_of s h t = stamp_in s h t.slice t.level t.x t.y

-- a version that holds m writes has the plain book's number wherever the tile has no later stamp and nothing is left out; of one that holds
-- nobody knows which, nothing is claimed
abbrev pub Good : VersionShape → WriteHistory → Book → Held → Numbers → Type 0
Good s h b Unknown nums = Unit {0}
Good s h b (Known m) nums =
    (m ≤ h.writes) × ((t : Texel) → Inside s t → b.left t.slice t.level ≡ false → stamp_of s h t ≤ m → nums t ≡ some (b.plain t))

up : {a c : ℕ} → a ≤ c → a ≤ suc c
up h = omega arith

-- ---- rectangles

rect_holds : (slice level : ℕ) (r : TexelRect) (t : Texel) → in_rect slice level r t ≡ true → (t.slice ≡ slice) × ((t.level ≡ level) × InRect r t.x t.y)
unfolding in_rect
rect_holds slice level r t e =
    let o = and_left (is_of slice level t) _ e in
    let q = and_right (is_of slice level t) _ e in
    let qx = and_left (leb r.x t.x && ltb t.x (r.x + r.width)) _ q in
    let qy = and_right (leb r.x t.x && ltb t.x (r.x + r.width)) _ q in (
      eqb-true _ _ (and_left (eqb t.slice slice) _ o),
      (
        eqb-true _ _ (and_right (eqb t.slice slice) _ o),
        record {
          left = leb-true _ _ (and_left (leb r.x t.x) _ qx);
          right = ltb-true _ _ (and_right (leb r.x t.x) _ qx);
          top = leb-true _ _ (and_left (leb r.y t.y) _ qy);
          bottom = ltb-true _ _ (and_right (leb r.y t.y) _ qy);
        },
      ),
    )

rect_true : (slice level : ℕ) (r : TexelRect) (t : Texel) → t.slice ≡ slice → t.level ≡ level → InRect r t.x t.y → in_rect slice level r t ≡ true
unfolding in_rect
rect_true slice level r t a b k =
    and_true (and_true (eq-eqb _ _ a) (eq-eqb _ _ b))
    (and_true (and_true (le-leb _ _ k.left) (lt-ltb _ _ k.right)) (and_true (le-leb _ _ k.top) (lt-ltb _ _ k.bottom)))

-- a texel outside the rectangle is not written
not_written : (s : VersionShape) (slice level : ℕ) (r : TexelRect) (t : Texel) → (t.slice ≡ slice → t.level ≡ level → InRect r t.x t.y → ⊥)
    → in_write s slice level r t ≡ false
unfolding in_write
not_written s slice level r t out =
    not_passed _ (λ e. let k = rect_holds slice level r t (and_right (in_shape s slice level) _ e) in out k.0 k.1.0 k.1.1)

-- a write of the whole level takes in each of its texels
whole_holds : (s : VersionShape) (level : ℕ) (r : TexelRect) (t : Texel) → is_whole s level r ≡ true → t.level ≡ level → Inside s t → InRect r t.x t.y
unfolding is_whole
whole_holds s level r t e l i =
    let o = and_left (eqb r.x 0 && eqb r.y 0) _ e in
    let f = and_right (eqb r.x 0 && eqb r.y 0) _ e in
    let x0 : r.x ≡ 0 = eqb-true _ _ (and_left (eqb r.x 0) _ o) in
    let y0 : r.y ≡ 0 = eqb-true _ _ (and_right (eqb r.x 0) _ o) in
    let w : level_width s level ≤ r.x + r.width = leb-true _ _ (and_left (leb (level_width s level) (r.x + r.width)) _ f) in
    let h : level_height s level ≤ r.y + r.height = leb-true _ _ (and_right (leb (level_width s level) (r.x + r.width)) _ f) in
    let ix : t.x < level_width s level = rw l at i.x in
    let iy : t.y < level_height s level = rw l at i.y in
    record { left = omega arith; right = omega arith; top = omega arith; bottom = omega arith }

-- what is not left out after a write was not before, if the write did not cover it
pub still_left : (b : Book) (slice level : ℕ) (r : TexelRect) (t : Texel) → Inside b.shape t → in_write b.shape slice level r t ≡ false
    → not (writes_whole b.shape slice level r t.slice t.level) && b.left t.slice t.level ≡ false → b.left t.slice t.level ≡ false
unfolding in_write
still_left b slice level r t i out left = go (writes_whole b.shape slice level r t.slice t.level) refl
  where
    go : (c : Bool) → writes_whole b.shape slice level r t.slice t.level ≡ c → b.left t.slice t.level ≡ false
    go true e =
        let a = and_left (in_shape b.shape slice level) _ e in
        let c = and_right (in_shape b.shape slice level) _ e in
        let w = and_left (is_whole b.shape level r) _ c in
        let q = and_right (is_whole b.shape level r) _ c in
        let on : t.slice ≡ slice = eqb-true _ _ (and_left (eqb t.slice slice) _ q) in
        let at : t.level ≡ level = eqb-true _ _ (and_right (eqb t.slice slice) _ q) in
        absurd (clash _ (and_true a (rect_true slice level r t on at (whole_holds b.shape level r t w at i))) out)
    go false e = rw e at left

-- ---- writes and regenerations

-- a write leaves every version good: what it changes in the plain book has a later stamp
pub write_good : (s : VersionShape) (h : WriteHistory) (ok : HistoryOk s h) (slice level : ℕ) → slice < slices_of s → level < s.levels → (r : TexelRect) (b : Book)
    → b.shape ≡ s → (n : ℕ) (held : Held) (nums : Numbers) → Good s h b held nums → Good s (stamp_write s slice level r h) (book_write n slice level r b) held nums
unfolding book_write stamp_write
write_good s h ok slice level p q r b es n Unknown nums g = tt
write_good s h ok slice level p q r b es n (Known m) nums g = (
  up g.0,
  λ t i left st.
      let wb = write_below s h ok slice level p q r t.slice t.level t.x t.y m i.level i.x i.y g.0 st in
      let out = not_written b.shape slice level r t wb.1 in
      rw out (g.1 t i (still_left b slice level r t (subst (λ (z : VersionShape). Inside z t) (sym es) i) out left) wb.0),
)

pub regenerate_good : (s : VersionShape) (h : WriteHistory) (ok : HistoryOk s h) (b : Book) (n : ℕ) (held : Held) (nums : Numbers)
    → Good s h b held nums → Good s (stamp_regeneration s h) (book_regeneration n b) held nums
unfolding book_regeneration stamp_regeneration
regenerate_good s h ok b n Unknown nums g = tt
regenerate_good s h ok b n (Known m) nums g = (
  up g.0,
  λ t i left st.
      let rb = regenerate_below s h ok t.slice t.level t.x t.y m i.slice i.level i.x i.y g.0 st in
      rw (le-ltb 0 t.level (omega (arith, rb.1))) (g.1 t i left rb.0),
)

-- ---- plans

-- what a new version holds after the copies: the live number, or what it held where no copy lies
copied_cases : (P : Option ℕ → Type 0) (cs : List PreserveCopy) (live new : Numbers) (t : Texel) → P (live t)
    → (All (λ (c : PreserveCopy). in_copy c t ≡ false) cs → P (new t)) → P (copied cs live new t)
unfolding copied
copied_cases P [] live new t p q = q nil
copied_cases P (c ∷ cs) live new t p q =
    either P (in_copy c t) (live t) (copied cs live new t) (λ e. p) (λ e. copied_cases P cs live new t p (λ r. q (cons e r)))

not_in_copy : (c : PreserveCopy) (t : Texel) → in_copy c t ≡ false → InCopy t.slice t.level t.x t.y c → ⊥
unfolding in_copy
not_in_copy c t e k = go c.region e k.within
  where
    go : (z : Region) → in_region z c.slice c.level t ≡ false → InRegion z t.x t.y → ⊥
    go Whole f i = clash _ (and_true (eq-eqb _ _ (sym k.on)) (eq-eqb _ _ (sym k.at))) f
    go (Part r) f i = clash _ (rect_true c.slice c.level r t (sym k.on) (sym k.at) i) f

-- a new version is good after the copies: it has the plain book's number at each texel that is neither left out nor covered
pub rename_good : (s : VersionShape) (b : Book) (ho : Option WriteHistory) (held : Held) (u : UploadFootprint) (new : Numbers)
    → Given (λ h. HistoryOk s h × Good s h b held new) ho → (t : Texel) → Inside s t → b.left t.slice t.level ≡ false
    → covers u t.slice t.level ≡ false → b.live t ≡ some (b.plain t) → copied (copies s ho held u) b.live new t ≡ some (b.plain t)
rename_good s b ho held u new g t i left nc live =
    copied_cases (λ z. z ≡ some (b.plain t)) (copies s ho held u) b.live new t live
    (λ all. go ho held g (missed_uncopied s ho held u t.slice t.level t.x t.y i.slice i.level i.x i.y (given_mono _ _ ho (λ h k. k.0) g) nc
    (all_mono (λ c e. not_in_copy c t e) all)))
  where
    go : (ho : Option WriteHistory) (held : Held) → Given (λ h. HistoryOk s h × Good s h b held new) ho
        → Uncopied s ho held t.slice t.level t.x t.y → new t ≡ some (b.plain t)
    go none held g k = absurd k
    go (some h) Unknown g k = absurd k
    go (some h) (Known n) g k = g.1.1 t i left k

-- what the plan's answer shows as not skipped is not covered
away : (u : UploadFootprint) (cs : List PreserveCopy) (slice level : ℕ) → covers u slice level ≡ true
    → All (λ (c : PreserveCopy). covers u c.slice c.level ≡ false) cs → not_copied cs slice level ≡ true
unfolding not_copied
away u [] slice level e all = refl
away u (c ∷ cs) slice level e (cons k ks) = and_true (ap not (not_passed _ meets)) (away u cs slice level e ks)
  where
    meets : (eqb c.slice slice && eqb c.level level) ≡ true → ⊥
    meets q =
        let a : c.slice ≡ slice = eqb-true _ _ (and_left (eqb c.slice slice) _ q) in
        let b : c.level ≡ level = eqb-true _ _ (and_right (eqb c.slice slice) _ q) in
        clash (covers u slice level) e (rw (a, b) at k)

pub uncovered : (s : VersionShape) (ho : Option WriteHistory) (held : Held) (u : UploadFootprint) (slice level : ℕ)
    → skipped u (copies s ho held u) slice level ≡ false → covers u slice level ≡ false
unfolding skipped
uncovered s ho held u slice level e = not_passed _ (λ q.
    let n = covers_named u slice level q in
    clash _ (and_true (and_true n.0 (and_true (eq-eqb _ _ n.1.0) (eq-eqb _ _ n.1.1))) (away u (copies s ho held u) slice level q (none_covered s ho held u))) e)
