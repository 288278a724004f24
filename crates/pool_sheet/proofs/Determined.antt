-- A sheet determines what is printed: equal lines have equal fields, equal sheets the same textures. Assumes nothing.
use mathlib.Core.Path.{◌≡◌, refl, sym, ap, ap₂, ◌∙◌}
use mathlib.Core.List.{List, [], ◌∷◌, ◌++◌, flat_map}
use Prim.Native.Nat.{ℕ, ◌+◌, ◌*◌, ◌^◌, ◌≤◌, ◌<◌}
use native.Mathlib.Omega.{arith}
use lib.ListN.{length, length-append}
use Rattle.base_blocks.specs.All.{All, nil, cons}
use Rattle.base_digits.specs.Aligned.{right}
use Rattle.base_digits.specs.Characters.{blank}
use Rattle.base_digits.specs.Digits.{digits_of}
use Rattle.base_digits.proofs.Aligned.{right_length, right_same, same_front}
use Rattle.base_digits.proofs.Printing.{digits_room}
use Rattle.pool_sheet.specs.declared.fields.SheetFields.{SheetFields}
use Rattle.pool_sheet.specs.Sheet.{line, head_texts, texture_texts, total_texts, all_spares, all_parked, sheet}
use Rattle.pool_sheet.specs.Records.{line_bytes, FieldsFit, column}
use Rattle.pool_sheet.proofs.Columns.{ending}
use Rattle.pool_sheet.proofs.Widths.{kind_wide, levels_wide, spares_wide, parked_wide, last_wide, fields_columns, fields_length}
use Rattle.pool_sheet.proofs.Pages.{texture_lines, sheet_parts, lines_length, sheet_length}

-- fields that fit, with an id of 64 bits
pub record Printable (f : SheetFields) : Type 0 where
  pub fit : FieldsFit f
  pub word : f.id < 2 ^ 64

-- ---- a column

column_length : (w n : ℕ) → length (digits_of n) ≤ w → length (column w (digits_of n)) ≡ w + 1
unfolding column
column_length w n h =
    let l = length-append (right w (digits_of n)) (blank ∷ []) in
    omega (arith, l, right_length w (digits_of n) h)

-- the first of several columns, and those behind it
column_same : (w m n : ℕ) (us vs : List ℕ) → length (digits_of m) ≤ w → length (digits_of n) ≤ w → m < 2 ^ 64 → n < 2 ^ 64
    → column w (digits_of m) ++ us ≡ column w (digits_of n) ++ vs → (m ≡ n) × (us ≡ vs)
unfolding column
column_same w m n us vs hm hn km kn e =
    let p = same_front (column w (digits_of m)) (column w (digits_of n)) us vs (column_length w m hm ∙ sym (column_length w n hn)) e in
    let q = same_front (right w (digits_of m)) (right w (digits_of n)) (blank ∷ []) (blank ∷ []) (right_length w (digits_of m) hm ∙ sym (right_length w (digits_of n) hn)) p.0 in
    (right_same w m n km kn q.0, p.1)

-- ---- a line

pub line_same : (f g : SheetFields) → Printable f → Printable g → line (texture_texts f) ≡ line (texture_texts g) → f ≡ g
line_same f g p q e =
    let pf = p.fit in
    let qf = q.fit in
    let a = column_same 20 f.id g.id _ _ (digits_room f.id) (digits_room g.id) p.word q.word (fields_columns f pf ∙ e ∙ sym (fields_columns g qf)) in
    let b = column_same 1 f.kind g.kind _ _ (kind_wide f pf) (kind_wide g qf) (omega (arith, pf.kind)) (omega (arith, qf.kind)) a.1 in
    let c = column_same 2 f.levels g.levels _ _ (levels_wide f pf) (levels_wide g qf) (omega (arith, pf.levels)) (omega (arith, qf.levels)) b.1 in
    let d = column_same 4 f.spares g.spares _ _ (spares_wide f pf) (spares_wide g qf) (omega (arith, pf.spares)) (omega (arith, qf.spares)) c.1 in
    let h = column_same 19 f.parked g.parked _ _ (parked_wide f pf) (parked_wide g qf) (omega (arith, pf.parked)) (omega (arith, qf.parked)) d.1 in
    let k = column_same 15 f.last g.last ending ending (last_wide f pf) (last_wide g qf) (omega (arith, pf.last)) (omega (arith, qf.last)) h.1 in
    λ i. record { id = a.0 i; kind = b.0 i; levels = c.0 i; spares = d.0 i; parked = h.0 i; last = k.0 i }

-- ---- the textures' lines, and the sheet

lines_same : {fs gs : List SheetFields} → All Printable fs → All Printable gs → texture_lines fs ≡ texture_lines gs → fs ≡ gs
unfolding flat_map
lines_same nil nil e = refl
lines_same nil (cons {x = g} {xs = gs} q qs) e =
    absurd (let y : ⊥ = omega (arith, ap length e, length-append (line (texture_texts g)) (texture_lines gs), fields_length g q.fit) in y)
lines_same (cons {x = f} {xs = fs} p ps) nil e =
    absurd (let y : ⊥ = omega (arith, ap length e, length-append (line (texture_texts f)) (texture_lines fs), fields_length f p.fit) in y)
lines_same (cons {x = f} {xs = fs} p ps) (cons {x = g} {xs = gs} q qs) e =
    let r = same_front (line (texture_texts f)) (line (texture_texts g)) (texture_lines fs) (texture_lines gs) (fields_length f p.fit ∙ sym (fields_length g q.fit)) e in
    ap₂ (λ (x : SheetFields) (xs : List SheetFields). x ∷ xs) (line_same f g p q r.0) (lines_same ps qs r.1)

all_fit : {fs : List SheetFields} → All Printable fs → All FieldsFit fs
all_fit nil = nil
all_fit (cons p ps) = cons p.fit (all_fit ps)

-- totals that fit too
pub record Prints (fs : List SheetFields) : Type 0 where
  pub each : All Printable fs
  pub spares : all_spares fs < 10 ^ 4
  pub parked : all_parked fs < 10 ^ 19

pub sheet_same : (fs gs : List SheetFields) → Prints fs → Prints gs → sheet fs ≡ sheet gs → fs ≡ gs
sheet_same fs gs p q e =
    let last : List SheetFields → List ℕ = λ (hs : List SheetFields). line (total_texts (all_spares hs) (all_parked hs)) in
    let lf = sheet_length fs (all_fit p.each) p.spares p.parked in
    let lg = sheet_length gs (all_fit q.each) q.spares q.parked in
    let n : length fs ≡ length gs = omega (arith, ap length e, lf, lg) in
    let r = same_front (line head_texts) (line head_texts) (texture_lines fs ++ last fs) (texture_lines gs ++ last gs) refl (sym (sheet_parts fs) ∙ e ∙ sheet_parts gs) in
    let long = lines_length (all_fit p.each) ∙ ap (λ (k : ℕ). line_bytes * k) n ∙ sym (lines_length (all_fit q.each)) in
    lines_same p.each q.each (same_front (texture_lines fs) (texture_lines gs) (last fs) (last gs) long r.1).0
