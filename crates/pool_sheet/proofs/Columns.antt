-- Laws of a line: its columns, put one after the other, are the line, which has 73 bytes. Assumes nothing.
use mathlib.Core.Path.{◌≡◌, refl, sym, ap, ◌∙◌}
use mathlib.Core.List.{List, [], ◌∷◌, ◌++◌, append_assoc}
use Prim.Native.Nat.{ℕ, ◌+◌, ◌-◌, ◌≤◌}
use native.Mathlib.Omega.{arith}
use lib.ListN.{length, replicate, length-append}
use Rattle.base_digits.specs.Aligned.{right}
use Rattle.base_digits.specs.Characters.{blank, line_feed}
use Rattle.base_digits.proofs.Aligned.{right_length}
use Rattle.pool_sheet.specs.Sheet.{line_width, column_widths, in_columns, characters, line, head_texts}
use Rattle.pool_sheet.specs.Records.{line_bytes, column}

-- the head line as it stands in the code
pub head_line : line head_texts
    ≡ 32 ∷ 32 ∷ 32 ∷ 32 ∷ 32 ∷ 32 ∷ 32 ∷ 32 ∷ 32 ∷ 32 ∷ 32 ∷ 32 ∷ 32 ∷ 32 ∷ 32 ∷ 32 ∷ 32 ∷ 32 ∷ 105 ∷ 100 ∷ 32 ∷ 107 ∷ 32 ∷ 108 ∷ 118 ∷ 32 ∷ 32 ∷ 32 ∷ 115 ∷ 112
    ∷ 32 ∷ 32 ∷ 32 ∷ 32 ∷ 32 ∷ 32 ∷ 32 ∷ 32 ∷ 32 ∷ 32 ∷ 32 ∷ 32 ∷ 32 ∷ 32 ∷ 112 ∷ 97 ∷ 114 ∷ 107 ∷ 101 ∷ 100
    ∷ 32 ∷ 32 ∷ 32 ∷ 32 ∷ 32 ∷ 32 ∷ 32 ∷ 32 ∷ 32 ∷ 32 ∷ 32 ∷ 32 ∷ 108 ∷ 97 ∷ 115 ∷ 116 ∷ 32 ∷ 32 ∷ 32 ∷ 32 ∷ 32 ∷ 32 ∷ 10 ∷ []
unfolding line characters in_columns right
head_line = refl

-- what stands behind the blank after the last column
abbrev pub ending : List ℕ
ending = blank ∷ blank ∷ blank ∷ blank ∷ blank ∷ line_feed ∷ []

-- six texts that are no wider than their columns
module _ (a b c d e f : List ℕ) (wa : length a ≤ 20) (wb : length b ≤ 1) (wc : length c ≤ 2) (wd : length d ≤ 4) (we : length e ≤ 19) (wf : length f ≤ 15) where
  abbrev texts : List (List ℕ)
  texts = a ∷ b ∷ c ∷ d ∷ e ∷ f ∷ []

  -- one text and the columns behind it
  length_next : (w : ℕ) (t rest : List ℕ) → length t ≤ w → length (right w t ++ (blank ∷ rest)) ≡ w + 1 + length rest
  length_next w t rest h =
      let l = length-append (right w t) (blank ∷ rest) in
      let r = right_length w t h in
      omega (arith, l, r)

  pub columns_length : length (in_columns column_widths texts) ≡ 66
  unfolding in_columns
  columns_length =
      let l6 = right_length 15 f wf in
      let l5 = length_next 19 e (right 15 f) we in
      let l4 = length_next 4 d (right 19 e ++ (blank ∷ right 15 f)) wd in
      let l3 = length_next 2 c (right 4 d ++ (blank ∷ (right 19 e ++ (blank ∷ right 15 f)))) wc in
      let l2 = length_next 1 b (right 2 c ++ (blank ∷ (right 4 d ++ (blank ∷ (right 19 e ++ (blank ∷ right 15 f)))))) wb in
      let l1 = length_next 20 a (right 1 b ++ (blank ∷ (right 2 c ++ (blank ∷ (right 4 d ++ (blank ∷ (right 19 e ++ (blank ∷ right 15 f)))))))) wa in
      omega (arith, l1, l2, l3, l4, l5, l6)

  characters_are : characters texts ≡ in_columns column_widths texts ++ replicate 6 blank
  unfolding characters
  characters_are = ap (λ (n : ℕ). in_columns column_widths texts ++ replicate (line_width - n) blank) columns_length

  pub characters_length : length (characters texts) ≡ 72
  characters_length =
      let l = ap length characters_are in
      let r = length-append (in_columns column_widths texts) (replicate 6 blank) in
      omega (arith, l, r, columns_length)

  pub line_length : length (line texts) ≡ line_bytes
  unfolding line
  line_length =
      let l = length-append (characters texts) (line_feed ∷ []) in
      omega (arith, l, characters_length)

  -- a column in front of the others
  before : (w : ℕ) (t rest tail : List ℕ) → (right w t ++ (blank ∷ rest)) ++ tail ≡ column w t ++ (rest ++ tail)
  unfolding column
  before w t rest tail = append_assoc (right w t) (blank ∷ rest) tail ∙ sym (append_assoc (right w t) (blank ∷ []) (rest ++ tail))

  pub line_columns : column 20 a ++ (column 1 b ++ (column 2 c ++ (column 4 d ++ (column 19 e ++ (column 15 f ++ ending))))) ≡ line texts
  unfolding line in_columns column
  line_columns =
      let tail : List ℕ = replicate 6 blank ++ (line_feed ∷ []) in
      sym (ap (λ (l : List ℕ). l ++ (line_feed ∷ [])) characters_are
      ∙ append_assoc (in_columns column_widths texts) (replicate 6 blank) (line_feed ∷ [])
      ∙ before 20 a (in_columns (1 ∷ 2 ∷ 4 ∷ 19 ∷ 15 ∷ []) (b ∷ c ∷ d ∷ e ∷ f ∷ [])) tail
      ∙ ap (λ (l : List ℕ). column 20 a ++ l) (before 1 b (in_columns (2 ∷ 4 ∷ 19 ∷ 15 ∷ []) (c ∷ d ∷ e ∷ f ∷ [])) tail
      ∙ ap (λ (l : List ℕ). column 1 b ++ l) (before 2 c (in_columns (4 ∷ 19 ∷ 15 ∷ []) (d ∷ e ∷ f ∷ [])) tail
      ∙ ap (λ (l : List ℕ). column 2 c ++ l) (before 4 d (in_columns (19 ∷ 15 ∷ []) (e ∷ f ∷ [])) tail
      ∙ ap (λ (l : List ℕ). column 4 d ++ l) (before 19 e (right 15 f) tail
      ∙ ap (λ (l : List ℕ). column 19 e ++ l) (sym (append_assoc (right 15 f) (blank ∷ []) ending)))))))

-- the line of totals: 26 blanks, two columns, and blanks to its end
pub totals_columns : (d e : List ℕ) → length d ≤ 4 → length e ≤ 19
    → replicate 26 blank ++ (column 4 d ++ (column 19 e ++ (replicate 21 blank ++ (line_feed ∷ [])))) ≡ line ([] ∷ [] ∷ [] ∷ d ∷ e ∷ [] ∷ [])
unfolding column right
totals_columns d e wd we = line_columns [] [] [] d e [] (omega arith) (omega arith) (omega arith) wd we (omega arith)
