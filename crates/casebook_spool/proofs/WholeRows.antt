-- Which rows of a text are whole, if it is rows with a newline after each, or is cut off.
use Rattle.std.proofs.Common.{◌≡◌, ◌∙◌, ℕ, suc, ◌+◌, ◌-◌, ◌<◌, ◌≤◌, ◌==◌, false, arith}
use Rattle.std.proofs.Common.{List, [], ◌∷◌, ◌++◌, All, ap, append-nil, append_assoc, flat_map}
use Rattle.std.proofs.Common.{inl, inr, length, length-append, refl, sym, take}
use Rattle.std.proofs.Math.Seq.{take-append-add}
use Rattle.std.proofs.lemmas.Bool.{cases_lt, ne_eqb}
use Rattle.std.proofs.lemmas.List.{take-append-le}
use Rattle.std.proofs.lemmas.List.Elements.{All-append, All-cons, All-head, All-nil, All-tail}
use Rattle.std.proofs.lemmas.List.Elements.{All-take, All-weaker}
use Rattle.std.proofs.lemmas.List.Splits.{length-slice_split, slice_split_at, slice_split_none}
use Rattle.casebook_rows.specs.Rows.{IsInRow, newline, row_text, rows_of, tabbed}
use Rattle.casebook_spool.specs.Lines.{front, rows_length, whole_rows}

-- a text without a newline
abbrev pub IsLine : List ℕ → Type 0
IsLine row = All (λ b. (b == newline) ≡ false) row

-- rows with a newline after each
abbrev pub ended : List (List ℕ) → List ℕ
ended rows = flat_map (λ row. row ++ newline ∷ []) rows

-- ---- the text of fields has no newline

field_is_line : (field : List ℕ) → All IsInRow field → IsLine field
field_is_line field h =
    All-weaker IsInRow (λ b. (b == newline) ≡ false) (λ b k. ne_eqb b newline k.1) field h

tabbed_is_line : (fields : List (List ℕ)) → All (All IsInRow) fields → IsLine (tabbed fields)
tabbed_is_line [] h = All-nil (λ b. (b == newline) ≡ false)
tabbed_is_line (field ∷ fields) h =
    All-cons (λ b. (b == newline) ≡ false) 9 (field ++ tabbed fields) refl
    (All-append (λ b. (b == newline) ≡ false) field (tabbed fields)
    (field_is_line field (All-head (All IsInRow) field fields h))
    (tabbed_is_line fields (All-tail (All IsInRow) field fields h)))

pub row_is_line : (word : List ℕ) (fields : List (List ℕ)) → All (All IsInRow) (word ∷ fields)
    → IsLine (row_text word fields)
row_is_line word fields h =
    All-append (λ b. (b == newline) ≡ false) word (tabbed fields)
    (field_is_line word (All-head (All IsInRow) word fields h))
    (tabbed_is_line fields (All-tail (All IsInRow) word fields h))

-- ---- rows that are whole

some_of_rows : (text : List ℕ) → 0 < length (rows_of text)
some_of_rows text =
    let all = length-slice_split (λ b. b == newline) text in omega (arith, all)

front_after : (row : List ℕ) (rows : List (List ℕ)) → 0 < length rows
    → front (row ∷ rows) ≡ row ∷ front rows
front_after row [] h = absurd (omega (arith, h))
front_after row (next ∷ rows) h =
    let one : length (row ∷ next ∷ rows) - 1 ≡ suc (length (next ∷ rows) - 1) = omega arith in
    ap (λ k. take k (row ∷ next ∷ rows)) one

whole_row : (row rest : List ℕ) → IsLine row
    → whole_rows (row ++ newline ∷ rest) ≡ row ∷ whole_rows rest
whole_row row rest h =
    ap front (slice_split_at (λ b. b == newline) row newline rest h refl)
    ∙ front_after row (rows_of rest) (some_of_rows rest)

regroup : (row text rest : List ℕ)
    → ((row ++ newline ∷ []) ++ text) ++ rest ≡ row ++ newline ∷ (text ++ rest)
regroup row text rest = simp append_assoc

-- rows that end are whole, whatever follows
pub whole_before : (rows : List (List ℕ)) (rest : List ℕ) → All IsLine rows
    → whole_rows (ended rows ++ rest) ≡ rows ++ whole_rows rest
whole_before [] rest h = refl
whole_before (row ∷ rows) rest h =
    ap whole_rows (regroup row (ended rows) rest)
    ∙ whole_row row (ended rows ++ rest) (All-head IsLine row rows h)
    ∙ ap (λ all. row ∷ all) (whole_before rows rest (All-tail IsLine row rows h))

pub whole_all : (rows : List (List ℕ)) → All IsLine rows → whole_rows (ended rows) ≡ rows
whole_all rows h =
    ap whole_rows (sym (append-nil (ended rows))) ∙ whole_before rows [] h ∙ append-nil rows

-- their length is that of their text
pub length_ended : (rows : List (List ℕ)) → rows_length rows ≡ length (ended rows)
length_ended [] = refl
length_ended (row ∷ rows) =
    let rest = length_ended rows in
    let one = length-append row (newline ∷ []) in
    let all = length-append (row ++ newline ∷ []) (ended rows) in
    omega (arith, rest, one, all)

-- ---- rows of which the end is cut off

-- no row is whole in a part of a row
none_whole : (n : ℕ) (row rest : List ℕ) → IsLine row → n ≤ length row
    → whole_rows (take n (row ++ rest)) ≡ []
none_whole n row rest h le =
    ap whole_rows (take-append-le n row rest le)
    ∙ ap front (slice_split_none (λ b. b == newline) (take n row)
    (All-take (λ b. (b == newline) ≡ false) n row h))

-- what is cut off after a row
one_whole : (m : ℕ) (row rest : List ℕ) → IsLine row
    → whole_rows (take (length row + suc m) (row ++ newline ∷ rest))
    ≡ row ∷ whole_rows (take m rest)
one_whole m row rest h =
    ap whole_rows (take-append-add row (newline ∷ rest) (suc m)) ∙ whole_row row (take m rest) h

-- the whole rows of a front are a front of the rows, and not all of them
abbrev pub IsCutAt : List (List ℕ) → ℕ → Type 0
IsCutAt rows n =
    (k : ℕ) × (k < length rows) × (whole_rows (take n (ended rows)) ≡ take k rows)

cut_after : (n m : ℕ) (row : List ℕ) (rows : List (List ℕ)) → IsLine row
    → n ≡ length row + suc m → IsCutAt rows m → IsCutAt (row ∷ rows) n
cut_after n m row rows h e cut = (
  suc cut.0,
  omega (arith, cut.1),
  ap (λ text. whole_rows (take n text)) (append_assoc row (newline ∷ []) (ended rows))
      ∙ ap (λ k. whole_rows (take k (row ++ newline ∷ ended rows))) e
      ∙ one_whole m row (ended rows) h
      ∙ ap (λ all. row ∷ all) cut.2,
)

cut_before : (n : ℕ) (row : List ℕ) (rows : List (List ℕ)) → IsLine row → n ≤ length row
    → IsCutAt (row ∷ rows) n
cut_before n row rows h le = (
  0,
  omega arith,
  ap (λ text. whole_rows (take n text)) (append_assoc row (newline ∷ []) (ended rows))
      ∙ none_whole n row (newline ∷ ended rows) h le,
)

pub cut_rows : (rows : List (List ℕ)) (n : ℕ) → All IsLine rows → n < length (ended rows)
    → IsCutAt rows n
cut_rows [] n h lt = absurd (omega (arith, lt))
cut_rows (row ∷ rows) n h lt =
    elim (cases_lt (length row) n) as (λ _. IsCutAt (row ∷ rows) n) [
      | inl more ↦
          let one = length-append row (newline ∷ []) in
          let all = length-append (row ++ newline ∷ []) (ended rows) in
          cut_after n (n - length row - 1) row rows (All-head IsLine row rows h)
          (omega (arith, more))
          (cut_rows rows (n - length row - 1) (All-tail IsLine row rows h)
          (omega (arith, more, one, all, lt)))
      | inr le ↦ cut_before n row rows (All-head IsLine row rows h) le
    ]
