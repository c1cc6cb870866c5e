-- Rows of fields, written one after another.
use Rattle.std.proofs.Common.{◌≡◌, ℕ, ◌+◌, ◌<◌, ◌≤◌, refl, sym, ap, ap₂, ◌∙◌, length, map, take, take_all}
use Rattle.std.proofs.Common.{List, [], ◌∷◌, ◌++◌, get_or, subst}
use Rattle.std.specs.Prelude.{◌==◌}
use Rattle.std.specs.List.{slice_split}
use Rattle.std.proofs.lemmas.List.{map-append, take_more}
use Rattle.casebook_text.specs.SafeLine.{AreSplit, line_end, row_of_fields, tab_stop, text_of_lines, text_of_rows}
use Rattle.casebook_text.specs.inner.Row.{IsRow}
use Rattle.casebook_text.proofs.ShownLines.{IsTextOf, next_row}

-- a text of rows, each with fields
pub record AreRowsOf {A : Type 0} (fields_of : A → List (List ℕ)) (text : List ℕ) (rows : List A) : Type 0 where
  pub text_is : IsTextOf text (map (λ row. row_of_fields (fields_of row)) rows)
  pub split : AreSplit (map fields_of rows)

pub no_rows : {A : Type 0} (fields_of : A → List (List ℕ)) (text : List ℕ) → text ≡ [] → AreRowsOf fields_of text []
no_rows fields_of text e = record { text_is = record { is = e; all = tt }; split = tt }

one_more_split : (rows : List (List (List ℕ))) (fields : List (List ℕ)) → AreSplit rows
    → (0 < length fields → slice_split (λ b. b == tab_stop) (row_of_fields fields) ≡ fields) → AreSplit (rows ++ fields ∷ [])
one_more_split [] fields all split = (split, tt)
one_more_split (first ∷ rows) fields all split = (all.0, one_more_split rows fields all.1 split)

pub next_fields : {A : Type 0} (fields_of : A → List (List ℕ)) (text mid new : List ℕ) (rows : List A) (i : ℕ) (row : A)
    → i < length rows → row ≡ get_or rows i row → AreRowsOf fields_of text (take i rows) → IsRow (row_of_fields (fields_of row))
    → (0 < length (fields_of row) → slice_split (λ b. b == tab_stop) (row_of_fields (fields_of row)) ≡ fields_of row)
    → mid ≡ text ++ row_of_fields (fields_of row) → new ≡ mid ++ line_end ∷ [] → AreRowsOf fields_of new (take (i + 1) rows)
next_fields fields_of text mid new rows i row lt at so_far is split front whole =
    subst (AreRowsOf fields_of new) (sym (take_more rows i row lt ∙ ap (λ t. take i rows ++ t ∷ []) (sym at)))
    (record {
      text_is =
          subst (IsTextOf new) (sym (map-append (λ r. row_of_fields (fields_of r)) (take i rows) (row ∷ [])))
          (next_row text mid new (row_of_fields (fields_of row)) (map (λ r. row_of_fields (fields_of r)) (take i rows)) so_far.text_is
          is front whole);
      split =
          subst AreSplit (sym (map-append fields_of (take i rows) (row ∷ [])))
          (one_more_split (map fields_of (take i rows)) (fields_of row) so_far.split split);
    })

pub all_rows : {A : Type 0} (fields_of : A → List (List ℕ)) (text : List ℕ) (rows : List A) (i : ℕ) → length rows ≤ i
    → AreRowsOf fields_of text (take i rows) → AreRowsOf fields_of text rows
all_rows fields_of text rows i le so_far = subst (AreRowsOf fields_of text) (take_all i rows le) so_far

rows_mapped : {A : Type 0} (fields_of : A → List (List ℕ)) (rows : List A)
    → map (λ row. row_of_fields (fields_of row)) rows ≡ map row_of_fields (map fields_of rows)
rows_mapped fields_of [] = refl
rows_mapped fields_of (row ∷ rows) = ap (λ t. row_of_fields (fields_of row) ∷ t) (rows_mapped fields_of rows)

pub text_value : {A : Type 0} (fields_of : A → List (List ℕ)) (text : List ℕ) (rows : List A)
    → AreRowsOf fields_of text rows → text ≡ text_of_rows (map fields_of rows)
text_value fields_of text rows whole = whole.text_is.is ∙ ap text_of_lines (rows_mapped fields_of rows)
