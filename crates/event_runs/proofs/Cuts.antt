-- Laws of the lines of an input that comes in two parts. Assumes nothing.
use mathlib.Core.Path.{◌≡◌, refl, sym, ap, ap₂, ◌∙◌}
use mathlib.Core.Bool.{Bool, true, false, cond}
use mathlib.Core.List.{List, [], ◌∷◌, ◌++◌, append-nil}
use Prim.Native.Nat.{ℕ, zero, suc}
use native.Mathlib.Omega.{arith}
use borrow.Author.Tests.{eqb-true}
use lib.Dec.{eqb}
use lib.ListN.{take}
use Rattle.event_runs.specs.Lines.{in_first_line, whole_lines}
use Rattle.event_runs.specs.Texts.{in_last_line, last_line}
use Rattle.base_digits.specs.Characters.{line_feed}

-- ---- an input in two parts

-- the lines of two parts are those of the first, and those of what it leaves with the second after it
pub lines_append : (xs ys : List ℕ) → whole_lines (xs ++ ys) ≡ whole_lines xs ++ whole_lines (last_line xs ++ ys)
unfolding whole_lines last_line in_first_line in_last_line
lines_append [] ys = refl
lines_append (b ∷ bs) ys = go (eqb b line_feed) refl (lines_append bs ys)
  where
    first : (ls : List (List ℕ)) → eqb b line_feed ≡ false → whole_lines (bs ++ ys) ≡ ls ++ whole_lines (last_line bs ++ ys)
        → in_first_line b (whole_lines (bs ++ ys)) ≡ in_first_line b ls ++ whole_lines (in_last_line b ls (last_line bs) ++ ys)
    first [] q e = ap (in_first_line b) e ∙ ap (λ (t : Bool). cond t ([] ∷ whole_lines (last_line bs ++ ys)) (in_first_line b (whole_lines (last_line bs ++ ys)))) (sym q)
    first (l ∷ ls) q e = ap (in_first_line b) e

    go : (t : Bool) → eqb b line_feed ≡ t → whole_lines (bs ++ ys) ≡ whole_lines bs ++ whole_lines (last_line bs ++ ys)
        → cond t ([] ∷ whole_lines (bs ++ ys)) (in_first_line b (whole_lines (bs ++ ys)))
        ≡ cond t ([] ∷ whole_lines bs) (in_first_line b (whole_lines bs)) ++ whole_lines (cond t (last_line bs) (in_last_line b (whole_lines bs) (last_line bs)) ++ ys)
    go true q e = ap (λ (l : List (List ℕ)). [] ∷ l) e
    go false q e = first (whole_lines bs) q e

pub last_append : (xs ys : List ℕ) → last_line (xs ++ ys) ≡ last_line (last_line xs ++ ys)
unfolding whole_lines last_line in_first_line in_last_line
last_append [] ys = refl
last_append (b ∷ bs) ys = go (eqb b line_feed) refl (lines_append bs ys) (last_append bs ys)
  where
    first : (ls : List (List ℕ)) → eqb b line_feed ≡ false → whole_lines (bs ++ ys) ≡ ls ++ whole_lines (last_line bs ++ ys) → last_line (bs ++ ys) ≡ last_line (last_line bs ++ ys)
        → in_last_line b (whole_lines (bs ++ ys)) (last_line (bs ++ ys)) ≡ last_line (in_last_line b ls (last_line bs) ++ ys)
    first [] q e f =
        ap₂ (in_last_line b) e f
        ∙ ap (λ (t : Bool). cond t (last_line (last_line bs ++ ys)) (in_last_line b (whole_lines (last_line bs ++ ys)) (last_line (last_line bs ++ ys)))) (sym q)
    first (l ∷ ls) q e f = ap (λ (x : List (List ℕ)). in_last_line b x (last_line (bs ++ ys))) e ∙ f

    go : (t : Bool) → eqb b line_feed ≡ t → whole_lines (bs ++ ys) ≡ whole_lines bs ++ whole_lines (last_line bs ++ ys) → last_line (bs ++ ys) ≡ last_line (last_line bs ++ ys)
        → cond t (last_line (bs ++ ys)) (in_last_line b (whole_lines (bs ++ ys)) (last_line (bs ++ ys)))
        ≡ last_line (cond t (last_line bs) (in_last_line b (whole_lines bs) (last_line bs)) ++ ys)
    go true q e f = f
    go false q e f = first (whole_lines bs) q e f

-- ---- bytes with no line feed

abbrev pub Unfinished : List ℕ → Type 0
Unfinished x = whole_lines x ≡ []

-- they are the front of the first line after them, if there is one
unfoldable pub in_front : List ℕ → List (List ℕ) → List (List ℕ)
in_front x [] = []
in_front x (line ∷ lines) = (x ++ line) ∷ lines

-- or of the last line, if there is none
unfoldable pub last_after : List ℕ → List (List ℕ) → List ℕ → List ℕ
last_after x [] last = x ++ last
last_after x (line ∷ lines) last = last

none_first : (b : ℕ) (ls : List (List ℕ)) → in_first_line b ls ≡ [] → ls ≡ []
unfolding in_first_line
none_first b [] e = refl
none_first b (l ∷ ls) e = absurd (let z : ◌≡◌ {A = ℕ} 0 1 = cc in let y : ⊥ = omega arith in y)

pub unfinished_tail : (b : ℕ) (x : List ℕ) → Unfinished (b ∷ x) → (eqb b line_feed ≡ false) × Unfinished x
unfolding whole_lines
unfinished_tail b x e = go (eqb b line_feed) refl e
  where
    go : (t : Bool) → eqb b line_feed ≡ t → cond t ([] ∷ whole_lines x) (in_first_line b (whole_lines x)) ≡ [] → (eqb b line_feed ≡ false) × Unfinished x
    go true q e = absurd (let z : ◌≡◌ {A = ℕ} 0 1 = cc in let y : ⊥ = omega arith in y)
    go false q e = (q, none_first b (whole_lines x) e)

pub front_lines : (x ys : List ℕ) → Unfinished x → whole_lines (x ++ ys) ≡ in_front x (whole_lines ys)
unfolding whole_lines in_first_line in_front
front_lines [] ys h = go (whole_lines ys)
  where
    go : (ls : List (List ℕ)) → ls ≡ in_front [] ls
    go [] = refl
    go (l ∷ ls) = refl
front_lines (b ∷ x) ys h =
    let u = unfinished_tail b x h in
    ap (λ (t : Bool). cond t ([] ∷ whole_lines (x ++ ys)) (in_first_line b (whole_lines (x ++ ys)))) u.0 ∙ ap (in_first_line b) (front_lines x ys u.1) ∙ go (whole_lines ys)
  where
    go : (ls : List (List ℕ)) → in_first_line b (in_front x ls) ≡ in_front (b ∷ x) ls
    go [] = refl
    go (l ∷ ls) = refl

pub front_last : (x ys : List ℕ) → Unfinished x → last_line (x ++ ys) ≡ last_after x (whole_lines ys) (last_line ys)
unfolding last_line in_last_line last_after in_front
front_last [] ys h = go (whole_lines ys)
  where
    go : (ls : List (List ℕ)) → last_line ys ≡ last_after [] ls (last_line ys)
    go [] = refl
    go (l ∷ ls) = refl
front_last (b ∷ x) ys h =
    let u = unfinished_tail b x h in
    ap (λ (t : Bool). cond t (last_line (x ++ ys)) (in_last_line b (whole_lines (x ++ ys)) (last_line (x ++ ys)))) u.0
    ∙ ap₂ (in_last_line b) (front_lines x ys u.1) (front_last x ys u.1) ∙ go (whole_lines ys)
  where
    go : (ls : List (List ℕ)) → in_last_line b (in_front x ls) (last_after x ls (last_line ys)) ≡ last_after (b ∷ x) ls (last_line ys)
    go [] = refl
    go (l ∷ ls) = refl

-- what stands after the last line feed has none
pub last_unfinished : (xs : List ℕ) → Unfinished (last_line xs)
unfolding whole_lines last_line in_first_line in_last_line
last_unfinished [] = refl
last_unfinished (b ∷ bs) = go (eqb b line_feed) refl (last_unfinished bs)
  where
    first : (ls : List (List ℕ)) → eqb b line_feed ≡ false → Unfinished (last_line bs) → Unfinished (in_last_line b ls (last_line bs))
    first [] q h = ap (λ (t : Bool). cond t ([] ∷ whole_lines (last_line bs)) (in_first_line b (whole_lines (last_line bs)))) q ∙ ap (in_first_line b) h
    first (l ∷ ls) q h = h

    go : (t : Bool) → eqb b line_feed ≡ t → Unfinished (last_line bs) → Unfinished (cond t (last_line bs) (in_last_line b (whole_lines bs) (last_line bs)))
    go true q h = h
    go false q h = first (whole_lines bs) q h

-- nor has its front
pub take_unfinished : (k : ℕ) (x : List ℕ) → Unfinished x → Unfinished (take k x)
unfolding whole_lines in_first_line
take_unfinished zero x h = refl
take_unfinished (suc k) [] h = refl
take_unfinished (suc k) (b ∷ x) h =
    let u = unfinished_tail b x h in
    ap (λ (t : Bool). cond t ([] ∷ whole_lines (take k x)) (in_first_line b (whole_lines (take k x)))) u.0 ∙ ap (in_first_line b) (take_unfinished k x u.1)

-- bytes with no line feed are their own last line
pub unfinished_last : (x : List ℕ) → Unfinished x → last_line x ≡ x
unfolding last_line in_last_line
unfinished_last [] h = refl
unfinished_last (b ∷ x) h =
    let u = unfinished_tail b x h in
    ap (λ (t : Bool). cond t (last_line x) (in_last_line b (whole_lines x) (last_line x))) u.0
    ∙ ap₂ (in_last_line b) u.1 (unfinished_last x u.1)

-- ---- the first line of an input

pub record First (input line : List ℕ) (lines : List (List ℕ)) : Type 0 where
  pub rest : List ℕ
  pub bytes : input ≡ line ++ (line_feed ∷ rest)
  pub others : whole_lines rest ≡ lines
  pub plain : Unfinished line

-- where an input's lines have a first, the input begins with it
pub first_of : (input line : List ℕ) (lines : List (List ℕ)) → whole_lines input ≡ line ∷ lines → First input line lines
unfolding whole_lines in_first_line
first_of [] line lines e = absurd (let z : ◌≡◌ {A = ℕ} 0 1 = cc in let y : ⊥ = omega arith in y)
first_of (b ∷ bs) line lines e = go (eqb b line_feed) refl e (first_of bs)
  where
    more : (ls : List (List ℕ)) → eqb b line_feed ≡ false → in_first_line b ls ≡ line ∷ lines → ((l : List ℕ) (ks : List (List ℕ)) → ls ≡ l ∷ ks → First bs l ks)
        → First (b ∷ bs) line lines
    more [] q e r = absurd (let z : ◌≡◌ {A = ℕ} 0 1 = cc in let y : ⊥ = omega arith in y)
    more (l ∷ ks) q e r =
        let f = r l ks refl in
        let a : b ∷ l ≡ line = cc in
        let d : ks ≡ lines = cc in
        record {
          rest = f.rest;
          bytes = ap (λ (x : List ℕ). b ∷ x) f.bytes ∙ ap (λ (x : List ℕ). x ++ (line_feed ∷ f.rest)) a;
          others = f.others ∙ d;
          plain = ap whole_lines (sym a) ∙ ap (λ (t : Bool). cond t ([] ∷ whole_lines l) (in_first_line b (whole_lines l))) q ∙ ap (in_first_line b) f.plain;
        }

    go : (t : Bool) → eqb b line_feed ≡ t → cond t ([] ∷ whole_lines bs) (in_first_line b (whole_lines bs)) ≡ line ∷ lines
        → ((l : List ℕ) (ks : List (List ℕ)) → whole_lines bs ≡ l ∷ ks → First bs l ks) → First (b ∷ bs) line lines
    go true q e r =
        let a : [] ≡ line = cc in
        record {
          rest = bs;
          bytes = ap (λ (x : ℕ). x ∷ bs) (eqb-true b line_feed q) ∙ ap (λ (x : List ℕ). x ++ (line_feed ∷ bs)) a;
          others = let d : whole_lines bs ≡ lines = cc in d;
          plain = ap whole_lines (sym a);
        }
    go false q e r = more (whole_lines bs) q e r

-- a line and its feed in front of an input
pub line_more : (line rest : List ℕ) → Unfinished line → whole_lines (line ++ (line_feed ∷ rest)) ≡ line ∷ whole_lines rest
unfolding whole_lines in_front
line_more line rest h = front_lines line (line_feed ∷ rest) h ∙ ap (λ (l : List ℕ). l ∷ whole_lines rest) (append-nil line)

pub line_last : (line rest : List ℕ) → Unfinished line → last_line (line ++ (line_feed ∷ rest)) ≡ last_line rest
unfolding whole_lines last_line last_after
line_last line rest h = front_last line (line_feed ∷ rest) h
