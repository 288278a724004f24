-- Laws of the words that are told by the first four bytes. Assumes nothing.
use mathlib.Core.Path.{◌≡◌, refl, sym, ap, ◌∙◌}
use mathlib.Core.Bool.{true, ◌&&◌}
use mathlib.Core.List.{List, ◌∷◌}
use Prim.Native.Nat.{ℕ, ◌+◌, ◌*◌, ◌/◌, ◌%◌, ◌≤◌, ◌<◌}
use native.Mathlib.Omega.{arith}
use borrow.Author.Tests.{eqb-true}
use lib.Dec.{eqb}
use lib.ListN.{length, get_or, take, drop}
use lib.Seq.{drop-cons}
use Rattle.base_blocks.proofs.Lists.{and_both}
use Rattle.base_digits.specs.Packed.{packed}
use Rattle.event_text.specs.Fields.{comma, first_field, first_line, same}
use Rattle.event_text.proofs.EightRead.{four_packed}
use Rattle.event_text.proofs.FirstLines.{stops, line_until, take_until, until_length}
use Rattle.event_lines.specs.declared.event.Word.{Word}
use Rattle.event_lines.specs.Words.{word_of, later_word, four_of, Starts}

-- ---- the first four bytes

byte_low : (x m : ℕ) → x < 256 → (x + m * 256) % 256 ≡ x
byte_low x m h = omega arith

byte_rest : (x m : ℕ) → x < 256 → (x + m * 256) / 256 ≡ m
byte_rest x m h = omega arith

four_read : (line : List ℕ) → 4 ≤ length line → (get_or line 0 0 < 256) → (get_or line 1 0 < 256) → (get_or line 2 0 < 256) → (get_or line 3 0 < 256)
    → (n : ℕ) → n ≡ get_or line 0 0 + get_or line 1 0 * 256 + get_or line 2 0 * 65536 + get_or line 3 0 * 16777216 → line ≡ four_of n (drop 4 line)
unfolding four_of
four_read line h p q r s n e =
    let w : ℕ = get_or line 0 0 in
    let x : ℕ = get_or line 1 0 in
    let y : ℕ = get_or line 2 0 in
    let z : ℕ = get_or line 3 0 in
    let k : n ≡ w + (x + (y + z * 256) * 256) * 256 = omega arith in
    let k₁ : n / 256 ≡ x + (y + z * 256) * 256 = ap (λ (m : ℕ). m / 256) k ∙ byte_rest w (x + (y + z * 256) * 256) p in
    let k₂ : n / 256 / 256 ≡ y + z * 256 = ap (λ (m : ℕ). m / 256) k₁ ∙ byte_rest x (y + z * 256) q in
    let a : w ≡ n % 256 = sym (ap (λ (m : ℕ). m % 256) k ∙ byte_low w (x + (y + z * 256) * 256) p) in
    let b : x ≡ n / 256 % 256 = sym (ap (λ (m : ℕ). m % 256) k₁ ∙ byte_low x (y + z * 256) q) in
    let c : y ≡ n / 256 / 256 % 256 = sym (ap (λ (m : ℕ). m % 256) k₂ ∙ byte_low y z r) in
    let d : z ≡ n / 256 / 256 / 256 = sym (ap (λ (m : ℕ). m / 256) k₂ ∙ byte_rest y z r) in
    drop-cons line 0 0 (omega arith)
    ∙ ap (λ (l : List ℕ). get_or line 0 0 ∷ l) (drop-cons line 1 0 (omega arith))
    ∙ ap (λ (l : List ℕ). get_or line 0 0 ∷ get_or line 1 0 ∷ l) (drop-cons line 2 0 (omega arith))
    ∙ ap (λ (l : List ℕ). get_or line 0 0 ∷ get_or line 1 0 ∷ get_or line 2 0 ∷ l) (drop-cons line 3 0 (omega arith))
    ∙ (λ i. a i ∷ b i ∷ c i ∷ d i ∷ drop 4 line)

-- the four bytes as they are loaded
pub four_loaded : (line : List ℕ) → 4 ≤ length line → ((i : ℕ) → get_or line i 0 < 256) → (n : ℕ) → n ≡ packed 8 (take 4 (drop 0 line)) → line ≡ four_of n (drop 4 line)
four_loaded line h bytes n e = four_read line h (bytes 0) (bytes 1) (bytes 2) (bytes 3) n (e ∙ sym (four_packed line 0 _ _ _ _ h refl refl refl refl))

-- ---- the words

-- a line that is another
started : (line other : List ℕ) (end : ℕ) (w : Word) → line ≡ other → Starts other end w → Starts line end w
started line other end w e s = (s.0 ∙ sym (ap (λ (l : List ℕ). length (first_field (first_line l))) e), s.1 ∙ sym (ap (λ (l : List ℕ). word_of (first_field (first_line l))) e))

module _ (line : List ℕ) (code : ℕ) (read : line ≡ four_of code (drop 4 line)) where
  known : (k : ℕ) → code ≡ k → line ≡ four_of k (drop 4 line)
  known k e = read ∙ ap (λ (n : ℕ). four_of n (drop 4 line)) e

  module _ (room : 5 ≤ length line) where
    four_comma : (k : ℕ) → code ≡ k → get_or line 4 0 ≡ comma → line ≡ four_of k (comma ∷ drop 5 line)
    four_comma k e c = known k e ∙ ap (four_of k) (drop-cons line 4 0 (omega arith) ∙ ap (λ (b : ℕ). b ∷ drop 5 line) c)

    pub take_starts : code ≡ 1701536116 → get_or line 4 0 ≡ comma → Starts line 4 Word.Take
    unfolding four_of first_field first_line word_of same
    take_starts e c = started line (four_of 1701536116 (comma ∷ drop 5 line)) 4 Word.Take (four_comma 1701536116 e c) (refl, refl)

    pub plan_starts : code ≡ 1851878512 → get_or line 4 0 ≡ comma → Starts line 4 Word.Plan
    unfolding four_of first_field first_line word_of same
    plan_starts e c = started line (four_of 1851878512 (comma ∷ drop 5 line)) 4 Word.Plan (four_comma 1851878512 e c) (refl, refl)

    pub park_starts : code ≡ 1802658160 → get_or line 4 0 ≡ comma → Starts line 4 Word.Park
    unfolding four_of first_field first_line word_of same
    park_starts e c = started line (four_of 1802658160 (comma ∷ drop 5 line)) 4 Word.Park (four_comma 1802658160 e c) (refl, refl)

    pub trim_starts : code ≡ 1835627124 → get_or line 4 0 ≡ comma → Starts line 4 Word.Trim
    unfolding four_of first_field first_line word_of later_word same
    trim_starts e c = started line (four_of 1835627124 (comma ∷ drop 5 line)) 4 Word.Trim (four_comma 1835627124 e c) (refl, refl)

    pub note_starts : code ≡ 1702129518 → get_or line 4 0 ≡ comma → Starts line 4 Word.Note
    unfolding four_of first_field first_line word_of later_word same
    note_starts e c = started line (four_of 1702129518 (comma ∷ drop 5 line)) 4 Word.Note (four_comma 1702129518 e c) (refl, refl)

  pub pop_starts : code ≡ 745566064 → Starts line 3 Word.Pop
  unfolding four_of first_field first_line word_of same
  pop_starts e = started line (four_of 745566064 (drop 4 line)) 3 Word.Pop (known 745566064 e) (refl, refl)

  module _ (room : 7 ≤ length line) where
    -- the four bytes and the two after them are known
    two_more : (k a b : ℕ) → eqb code k && eqb (get_or line 4 0) a && eqb (get_or line 5 0) b ≡ true → line ≡ four_of k (a ∷ b ∷ drop 6 line)
    two_more k a b t =
        let p = and_both (eqb code k && eqb (get_or line 4 0) a) (eqb (get_or line 5 0) b) t in
        let q = and_both (eqb code k) (eqb (get_or line 4 0) a) p.0 in
        known k (eqb-true code k q.0)
        ∙ ap (four_of k)
        (drop-cons line 4 0 (omega arith)
        ∙ ap (λ (l : List ℕ). get_or line 4 0 ∷ l) (drop-cons line 5 0 (omega arith))
        ∙ (λ i. eqb-true (get_or line 4 0) a q.1 i ∷ eqb-true (get_or line 5 0) b p.1 i ∷ drop 6 line))

    -- and the third
    three_more : (k a b d : ℕ) → eqb code k && eqb (get_or line 4 0) a && eqb (get_or line 5 0) b && eqb (get_or line 6 0) d ≡ true → line ≡ four_of k (a ∷ b ∷ d ∷ drop 7 line)
    three_more k a b d t =
        let p = and_both (eqb code k && eqb (get_or line 4 0) a && eqb (get_or line 5 0) b) (eqb (get_or line 6 0) d) t in
        two_more k a b p.0
        ∙ ap (λ (l : List ℕ). four_of k (a ∷ b ∷ l)) (drop-cons line 6 0 (omega arith) ∙ ap (λ (c : ℕ). c ∷ drop 7 line) (eqb-true (get_or line 6 0) d p.1))

    pub retire_starts : eqb code 1769235826 && eqb (get_or line 4 0) 114 && eqb (get_or line 5 0) 101 && eqb (get_or line 6 0) comma ≡ true → Starts line 6 Word.Retire
    unfolding four_of first_field first_line word_of same
    retire_starts t = started line (four_of 1769235826 (114 ∷ 101 ∷ comma ∷ drop 7 line)) 6 Word.Retire (three_more 1769235826 114 101 comma t) (refl, refl)

    -- a line feed ends the word
    pub doomed_starts : eqb code 1836019556 && eqb (get_or line 4 0) 101 && eqb (get_or line 5 0) 100 && eqb (get_or line 6 0) 10 ≡ true → Starts line 6 Word.Doomed
    unfolding four_of first_field first_line word_of later_word same
    doomed_starts t = started line (four_of 1836019556 (101 ∷ 100 ∷ 10 ∷ drop 7 line)) 6 Word.Doomed (three_more 1836019556 101 100 10 t) (refl, refl)

    pub regen_starts : eqb code 1701274994 && eqb (get_or line 4 0) 110 && eqb (get_or line 5 0) comma ≡ true → Starts line 5 Word.Regen
    unfolding four_of first_field first_line word_of same
    regen_starts t = started line (four_of 1701274994 (110 ∷ comma ∷ drop 6 line)) 5 Word.Regen (two_more 1701274994 110 comma t) (refl, refl)

    pub write_starts : eqb code 1953067639 && eqb (get_or line 4 0) 101 && eqb (get_or line 5 0) comma ≡ true → Starts line 5 Word.Write
    unfolding four_of first_field first_line word_of same
    write_starts t = started line (four_of 1953067639 (101 ∷ comma ∷ drop 6 line)) 5 Word.Write (two_more 1953067639 101 comma t) (refl, refl)

-- ---- any word

pub word_room : (text : List ℕ) → length (first_field (first_line text)) ≤ length text
word_room text = let e = ap length (line_until text) in let h = until_length stops text in omega (arith, e, h)

pub any_starts : (text : List ℕ) (end : ℕ) (w : Word) → end ≡ length (first_field (first_line text)) → w ≡ word_of (take end text) → Starts text end w
any_starts text end w e q =
    (e, q ∙ ap word_of (ap (λ (k : ℕ). take k text) (e ∙ ap length (line_until text)) ∙ take_until stops text ∙ sym (line_until text)))
