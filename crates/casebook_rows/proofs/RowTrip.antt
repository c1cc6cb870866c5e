-- Rows, and the fields of a row, are read back from their texts.
use Rattle.std.proofs.Common.{◌≡◌, ◌∙◌, ℕ, ◌==◌, false, List, [], ◌∷◌, ◌++◌, All, ap, refl}
use Rattle.std.proofs.Common.{append-nil}
use Rattle.std.proofs.lemmas.Bool.{ne_eqb}
use Rattle.std.proofs.lemmas.List.Elements.{All-append, All-cons, All-head}
use Rattle.std.proofs.lemmas.List.Elements.{All-nil, All-tail, All-weaker}
use Rattle.std.proofs.lemmas.List.Splits.{slice_split_at, slice_split_none}
use Rattle.casebook_rows.specs.Rows.{IsInRow, fields_of, newline, row_text, rows_of, tab, tabbed}

no_tab : (xs : List ℕ) → All IsInRow xs → All (λ b. (b == tab) ≡ false) xs
no_tab xs h = All-weaker IsInRow (λ b. (b == tab) ≡ false) (λ b k. ne_eqb b tab k.0) xs h

no_newline : (xs : List ℕ) → All IsInRow xs → All (λ b. (b == newline) ≡ false) xs
no_newline xs h =
    All-weaker IsInRow (λ b. (b == newline) ≡ false) (λ b k. ne_eqb b newline k.1) xs h

pub fields_again : (word : List ℕ) (fields : List (List ℕ)) → All (All IsInRow) (word ∷ fields)
    → fields_of (row_text word fields) ≡ word ∷ fields
fields_again word [] h =
    ap fields_of (append-nil word)
    ∙ slice_split_none (λ b. b == tab) word (no_tab word (All-head (All IsInRow) word [] h))
fields_again word (field ∷ fields) h =
    slice_split_at (λ b. b == tab) word tab (row_text field fields)
    (no_tab word (All-head (All IsInRow) word (field ∷ fields) h)) refl
    ∙ ap (λ parts. word ∷ parts) (fields_again field fields
    (All-tail (All IsInRow) word (field ∷ fields) h))

tabbed_in_line : (fields : List (List ℕ)) → All (All IsInRow) fields
    → All (λ b. (b == newline) ≡ false) (tabbed fields)
tabbed_in_line [] h = All-nil (λ b. (b == newline) ≡ false)
tabbed_in_line (field ∷ fields) h =
    All-cons (λ b. (b == newline) ≡ false) tab (field ++ tabbed fields) refl
    (All-append (λ b. (b == newline) ≡ false) field (tabbed fields)
    (no_newline field (All-head (All IsInRow) field fields h))
    (tabbed_in_line fields (All-tail (All IsInRow) field fields h)))

row_in_line : (word : List ℕ) (fields : List (List ℕ)) → All (All IsInRow) (word ∷ fields)
    → All (λ b. (b == newline) ≡ false) (row_text word fields)
row_in_line word fields h =
    All-append (λ b. (b == newline) ≡ false) word (tabbed fields)
    (no_newline word (All-head (All IsInRow) word fields h))
    (tabbed_in_line fields (All-tail (All IsInRow) word fields h))

pub rows_again : (word : List ℕ) (fields : List (List ℕ)) (rest : List ℕ)
    → All (All IsInRow) (word ∷ fields)
    → rows_of (row_text word fields ++ newline ∷ rest) ≡ row_text word fields ∷ rows_of rest
rows_again word fields rest h =
    slice_split_at (λ b. b == newline) (row_text word fields) newline rest
    (row_in_line word fields h) refl
