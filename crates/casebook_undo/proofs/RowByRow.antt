-- Rows one by one, as a loop reads them.
use Rattle.std.proofs.Common.{◌≡◌, ℕ, ◌+◌, ◌<◌, ◌≤◌, length, map, drop, get_or, drop-cons, add-one, List, [], ◌∷◌, ◌++◌}
use Rattle.std.proofs.Common.{Result, Ok, Err, refl, sym, ap, ◌∙◌, append_assoc}
use Rattle.std.specs.Prelude.{ok_or}
use Rattle.std.proofs.lemmas.List.{append-nil, length_push}
use Rattle.std.proofs.Math.ListN.{drop_of_length-le}
use Rattle.serde_json.specs.Data.{Data}
use Rattle.casebook_folder.specs.declared.row.Row.{Row}
use Rattle.casebook_undo.specs.Cells.{row_in}
use Rattle.casebook_undo.specs.Reading.{◌>>=◌, rows_from}
use Rattle.casebook_undo.specs.declared.undo_fault.UndoFault.{UndoFault}
use Rattle.casebook_undo.specs.declared.undo_fault.UndoFault.TheVariants as faults
use Rattle.casebook_undo.specs.declared.undo_fault.UndoFault.TheVariants.{BadRow}
use Rattle.casebook_undo.specs.inner.Faults.{refused}
use Rattle.retro_path.specs.OutOfMemory.{IsMeant}

-- what was read before, and what is still read
abbrev pub with_front : List Row → Result (List Row) UndoFault → Result (List Row) UndoFault
with_front front read = read >>= λ rows. Ok (front ++ rows)

regroup : (front : List Row) (row : Row) (read : Result (List Row) UndoFault)
    → with_front front (read >>= λ rows. Ok (row ∷ rows)) ≡ with_front (front ++ row ∷ []) read
regroup front row (Ok rows) = ap (λ (all : List Row). Ok all) (simp append_assoc)
regroup front row (Err fault) = refl

-- a loop over values that has read some of them as rows
abbrev pub IsReadTo : {V : Type 0} → (V → Data) → List Row → List V → ℕ → Type 0
IsReadTo va out items i =
    (length out ≡ i)
    × (with_front out (rows_from (i + 1) (map va (drop i items))) ≡ rows_from 1 (map va items))

at_item : {V : Type 0} (va : V → Data) (items : List V) (i : ℕ) (d x : V) → i < length items → x ≡ get_or items i d
    → map va (drop i items) ≡ va x ∷ map va (drop (i + 1) items)
at_item va items i d x lt is =
    let here : drop i items ≡ x ∷ drop (i + 1) items = drop-cons items i d lt ∙ rw (sym is, add-one i) refl in
    ap (map va) here

goes_on : (front : List Row) (place : ℕ) (d : Data) (ds : List Data) (row : Row) (total : Result (List Row) UndoFault)
    → ok_or (row_in d) (BadRow place) ≡ Ok row → with_front front (rows_from place (d ∷ ds)) ≡ total
    → with_front (front ++ row ∷ []) (rows_from (place + 1) ds) ≡ total
unfolding rows_from
goes_on front place d ds row total h so_far =
    let one : with_front front (rows_from place (d ∷ ds)) ≡ with_front (front ++ row ∷ []) (rows_from (place + 1) ds) =
    rw h (regroup front row (rows_from (place + 1) ds)) in
    sym one ∙ so_far

ends : (fault : UndoFault) (front : List Row) (place : ℕ) (d : Data) (ds : List Data) (total : Result (List Row) UndoFault)
    → ok_or (row_in d) (BadRow place) ≡ Err fault → with_front front (rows_from place (d ∷ ds)) ≡ total
    → total ≡ Err fault
unfolding rows_from
ends fault front place d ds total h so_far =
    let one : with_front front (rows_from place (d ∷ ds)) ≡ Err fault = rw h refl in
    sym so_far ∙ one

done : (front : List Row) (place : ℕ) (total : Result (List Row) UndoFault)
    → with_front front (rows_from place []) ≡ total → total ≡ Ok front
unfolding rows_from
done front place total so_far = sym so_far ∙ ap (λ (all : List Row). Ok all) (append-nil front)

pub loop_goes_on : {V : Type 0} (va : V → Data) (out new : List Row) (items : List V) (i : ℕ) (d x : V) (row : Row)
    (place : ℕ)
    → i < length items → x ≡ get_or items i d → new ≡ out ++ row ∷ [] → place ≡ length out + 1
    → ok_or (row_in (va x)) (BadRow place) ≡ Ok row → IsReadTo va out items i → IsReadTo va new items (i + 1)
loop_goes_on va out new items i d x row place lt is push at h so_far =
    let here : place ≡ i + 1 = at ∙ ap (λ n. n + 1) so_far.0 in
    let long : length new ≡ i + 1 = ap length push ∙ length_push out row ∙ rw so_far.0 refl in (
      long,
      rw push (goes_on out (i + 1) (va x) (map va (drop (i + 1) items)) row (rows_from 1 (map va items))
          (rw here at h)
          (rw (sym (at_item va items i d x lt is)) so_far.1)),
    )

pub loop_ends : {V : Type 0} (va : V → Data) (fault : UndoFault) (out : List Row) (items : List V) (i : ℕ) (d x : V)
    (place : ℕ)
    → i < length items → x ≡ get_or items i d → place ≡ length out + 1
    → IsMeant (refused fault) (ok_or (row_in (va x)) (BadRow place)) → IsReadTo va out items i
    → IsMeant (refused fault) (rows_from 1 (map va items))
loop_ends va faults.NoMem out items i d x place lt is at h so_far = tt
loop_ends va fault out items i d x place lt is at h so_far =
    let here : place ≡ i + 1 = at ∙ ap (λ n. n + 1) so_far.0 in
    ends fault out (i + 1) (va x) (map va (drop (i + 1) items)) (rows_from 1 (map va items)) (rw here at h)
    (rw (sym (at_item va items i d x lt is)) so_far.1)

pub loop_done : {V : Type 0} (va : V → Data) (out : List Row) (items : List V) (i : ℕ)
    → length items ≤ i → IsReadTo va out items i → rows_from 1 (map va items) ≡ Ok out
loop_done va out items i le so_far =
    let none : map va (drop i items) ≡ [] = ap (map va) (drop_of_length-le items le) in
    done out (i + 1) (rows_from 1 (map va items)) (rw (sym none) so_far.1)
