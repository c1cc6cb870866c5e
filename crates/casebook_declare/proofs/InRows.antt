-- Rows one after another, as a loop goes over them.
use Rattle.std.proofs.Common.{◌≡◌, ◌∙◌, ℕ, ◌+◌, ◌<◌, ◌≤◌, length, map, drop, get_or, drop-cons}
use Rattle.std.proofs.Common.{add-one, List, [], ◌∷◌, ◌++◌}
use Rattle.std.proofs.Common.{Some, None, Result, Ok, Err, refl, sym, ap, append_assoc}
use Rattle.std.proofs.Common.{append-nil}
use Rattle.std.proofs.Math.ListN.{drop_of_length-le}
use Rattle.casebook_declare.specs.Rows.{row_of}
use Rattle.casebook_declare.specs.Texts.{before, rows_from, said_or}
use Rattle.casebook_declare.specs.declared.declare_error.DeclareError.{DeclareError}
use Rattle.casebook_declare.specs.declared.declare_error.DeclareError.TheVariants.{NotPrinted}
use Rattle.casebook_declare.specs.declared.row.Row.TheVariants as rows
use Rattle.casebook_declare.specs.declared.variable.Variable.{Variable}

-- variables before those of the later rows
abbrev pub after_those : List Variable → Result (List Variable) DeclareError
    → Result (List Variable) DeclareError
after_those front (Ok variables) = Ok (front ++ variables)
after_those front (Err error) = Err error

-- a loop over rows, seen by `va`, that has read the first `i` rows
abbrev pub IsRead : {C : Type 0} → (C → List ℕ) → List Variable → List C → ℕ → Type 0
IsRead va so_far items i =
    after_those so_far (rows_from (i + 1) (map va (drop i items))) ≡ rows_from 1 (map va items)

-- the rows from an index on: the row at the index, and the rest
at_row : {C : Type 0} (va : C → List ℕ) (items : List C) (i : ℕ) (d x : C) → i < length items
    → x ≡ get_or items i d
    → map va (drop i items) ≡ va x ∷ map va (drop (i + 1) items)
at_row va items i d x lt is =
    let here : drop i items ≡ x ∷ drop (i + 1) items = drop-cons items i d lt
    ∙ rw (sym is, add-one i) refl in
    ap (map va) here

moved : (front : List Variable) (variable : Variable) (later : Result (List Variable) DeclareError)
    → after_those (front ++ variable ∷ []) later
    ≡ after_those front (before (rows.Says variable) later)
moved front variable (Ok variables) = ap Ok (append_assoc front (variable ∷ []) variables)
moved front variable (Err error) = refl

pub from_row : (n : ℕ) (row : List ℕ) (later : List (List ℕ))
    → rows_from n (row ∷ later) ≡ said_or n (row_of row) (rows_from (n + 1) later)
unfolding rows_from
from_row n row later = refl

pub from_none : (n : ℕ) → rows_from n [] ≡ Ok []
unfolding rows_from
from_none n = refl

pub row_says : {C : Type 0} (va : C → List ℕ) (so_far : List Variable) (items : List C) (i : ℕ)
    (d x : C)
    (variable : Variable) → i < length items → x ≡ get_or items i d
    → row_of (va x) ≡ Some (rows.Says variable)
    → IsRead va so_far items i → IsRead va (so_far ++ variable ∷ []) items (i + 1)
row_says va so_far items i d x variable lt is says h =
    moved so_far variable (rows_from (i + 1 + 1) (map va (drop (i + 1) items)))
    ∙ sym (ap (λ row. after_those so_far
    (said_or (i + 1) row (rows_from (i + 1 + 1) (map va (drop (i + 1) items))))) says)
    ∙ sym (ap (after_those so_far) (from_row (i + 1) (va x) (map va (drop (i + 1) items))))
    ∙ sym (ap (λ later. after_those so_far (rows_from (i + 1) later)) (at_row va items i d x lt is))
    ∙ h

pub row_says_nothing : {C : Type 0} (va : C → List ℕ) (so_far : List Variable) (items : List C)
    (i : ℕ) (d x : C)
    → i < length items → x ≡ get_or items i d → row_of (va x) ≡ Some rows.Nothing
    → IsRead va so_far items i → IsRead va so_far items (i + 1)
row_says_nothing va so_far items i d x lt is says h =
    sym (ap (λ row. after_those so_far
    (said_or (i + 1) row (rows_from (i + 1 + 1) (map va (drop (i + 1) items))))) says)
    ∙ sym (ap (after_those so_far) (from_row (i + 1) (va x) (map va (drop (i + 1) items))))
    ∙ sym (ap (λ later. after_those so_far (rows_from (i + 1) later)) (at_row va items i d x lt is))
    ∙ h

pub row_is_odd : {C : Type 0} (va : C → List ℕ) (so_far : List Variable) (items : List C) (i : ℕ)
    (d x : C)
    → i < length items → x ≡ get_or items i d → None ≡ row_of (va x)
    → IsRead va so_far items i → rows_from 1 (map va items) ≡ Err (NotPrinted (i + 1))
row_is_odd va so_far items i d x lt is odd h =
    sym h
    ∙ ap (λ later. after_those so_far (rows_from (i + 1) later)) (at_row va items i d x lt is)
    ∙ ap (after_those so_far) (from_row (i + 1) (va x) (map va (drop (i + 1) items)))
    ∙ sym (ap (λ row. after_those so_far
    (said_or (i + 1) row (rows_from (i + 1 + 1) (map va (drop (i + 1) items))))) odd)

pub rows_done : {C : Type 0} (va : C → List ℕ) (so_far : List Variable) (items : List C) (i : ℕ)
    → length items ≤ i
    → IsRead va so_far items i → rows_from 1 (map va items) ≡ Ok so_far
rows_done va so_far items i le h =
    let none : map va (drop i items) ≡ [] = ap (map va) (drop_of_length-le items le) in
    sym h ∙ ap (λ later. after_those so_far (rows_from (i + 1) later)) none
    ∙ ap (after_those so_far) (from_none (i + 1)) ∙ ap Ok (append-nil so_far)
