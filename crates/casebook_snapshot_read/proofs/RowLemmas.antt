-- Rows one by one, as a loop goes over them.
use Rattle.std.proofs.Common.{◌≡◌, ℕ, ◌+◌, ◌<◌, ◌≤◌, length, map, drop, get_or, drop-cons, add-one, List, [], ◌∷◌, ◌++◌}
use Rattle.std.proofs.Common.{Option, Some, None, Result, Ok, Err, refl, sym, ap, ◌∙◌, append_assoc}
use Rattle.std.proofs.lemmas.List.{append-nil, length_push, map_push}
use Rattle.std.proofs.Math.ListN.{drop_of_length-le}
use Rattle.serde_json.specs.Data.{Data}
use Rattle.casebook_snapshot_read.specs.Rows.{row_then, rows_from, rows_read}
use Rattle.casebook_snapshot_read.specs.declared.fault.SnapshotFault.{SnapshotFault}
use Rattle.casebook_snapshot_read.specs.declared.fault.SnapshotFault.TheVariants.{BadRow}
use Rattle.casebook_snapshot_read.specs.declared.fault.Part.{Part}

-- what was read before, and what is still read
abbrev pub with_front : {A : Type 0} → List A → Result (List A) SnapshotFault → Result (List A) SnapshotFault
with_front front (Ok xs) = Ok (front ++ xs)
with_front front (Err fault) = Err fault

regroup : {A : Type 0} (part : Part) (place : ℕ) (front : List A) (x : A) (read : Result (List A) SnapshotFault)
    → with_front front (row_then part place (Some x) read) ≡ with_front (front ++ x ∷ []) read
regroup {A = A} part place front x (Ok xs) = ap (λ (zs : List A). Ok zs) (simp append_assoc)
regroup part place front x (Err fault) = refl

-- a loop over rows that has read some of them
abbrev pub IsReadTo : {V C A : Type 0} → Part → (Data → Option A) → (V → Data) → (C → A) → List C → List V → ℕ → Type 0
IsReadTo part row va vc out items i =
    (length out ≡ i)
    × (with_front (map vc out) (rows_from part row i (map va (drop i items))) ≡ rows_read part row (map va items))

at_item : {V : Type 0} (va : V → Data) (items : List V) (i : ℕ) (d x : V) → i < length items → x ≡ get_or items i d
    → map va (drop i items) ≡ va x ∷ map va (drop (i + 1) items)
at_item va items i d x lt is =
    let here : drop i items ≡ x ∷ drop (i + 1) items = drop-cons items i d lt ∙ rw (sym is, add-one i) refl in
    ap (map va) here

goes_on : {A : Type 0} (part : Part) (row : Data → Option A) (front : List A) (place : ℕ) (x : Data) (xs : List Data)
    (y : A) (total : Result (List A) SnapshotFault)
    → row x ≡ Some y → with_front front (rows_from part row place (x ∷ xs)) ≡ total
    → with_front (front ++ y ∷ []) (rows_from part row (place + 1) xs) ≡ total
unfolding rows_from
goes_on part row front place x xs y total h so_far =
    let one : with_front front (rows_from part row place (x ∷ xs))
    ≡ with_front (front ++ y ∷ []) (rows_from part row (place + 1) xs) =
    rw h (regroup part place front y (rows_from part row (place + 1) xs)) in
    sym one ∙ so_far

ends : {A : Type 0} (part : Part) (row : Data → Option A) (front : List A) (place : ℕ) (x : Data) (xs : List Data)
    (total : Result (List A) SnapshotFault)
    → row x ≡ None → with_front front (rows_from part row place (x ∷ xs)) ≡ total → total ≡ Err (BadRow part (place + 1))
unfolding rows_from
ends part row front place x xs total h so_far =
    let one : with_front front (rows_from part row place (x ∷ xs)) ≡ Err (BadRow part (place + 1)) = rw h refl in
    sym so_far ∙ one

done : {A : Type 0} (part : Part) (row : Data → Option A) (front : List A) (place : ℕ) (total : Result (List A) SnapshotFault)
    → with_front front (rows_from part row place []) ≡ total → total ≡ Ok front
unfolding rows_from
done {A = A} part row front place total so_far = sym so_far ∙ ap (λ (zs : List A). Ok zs) (append-nil front)

pub loop_goes_on : {V C A : Type 0} (part : Part) (row : Data → Option A) (va : V → Data) (vc : C → A) (out new : List C)
    (items : List V) (i : ℕ) (d x : V) (y : C)
    → i < length items → x ≡ get_or items i d → new ≡ out ++ y ∷ [] → row (va x) ≡ Some (vc y)
    → IsReadTo part row va vc out items i → IsReadTo part row va vc new items (i + 1)
loop_goes_on part row va vc out new items i d x y lt is push h so_far =
    let e : map vc new ≡ map vc out ++ vc y ∷ [] = ap (map vc) push ∙ map_push vc out y in
    let long : length new ≡ i + 1 = ap length push ∙ length_push out y ∙ rw so_far.0 refl in (
      long,
      rw e (goes_on part row (map vc out) i (va x) (map va (drop (i + 1) items)) (vc y) (rows_read part row (map va items)) h
          (rw (sym (at_item va items i d x lt is)) so_far.1)),
    )

pub loop_ends : {V C A : Type 0} (part : Part) (row : Data → Option A) (va : V → Data) (vc : C → A) (out : List C)
    (items : List V) (i : ℕ) (d x : V) (place : ℕ)
    → i < length items → x ≡ get_or items i d → row (va x) ≡ None → place ≡ length out
    → IsReadTo part row va vc out items i → rows_read part row (map va items) ≡ Err (BadRow part (place + 1))
loop_ends part row va vc out items i d x place lt is h at so_far =
    let e : place ≡ i = at ∙ so_far.0 in
    rw e
    (ends part row (map vc out) i (va x) (map va (drop (i + 1) items)) (rows_read part row (map va items)) h
    (rw (sym (at_item va items i d x lt is)) so_far.1))

pub loop_done : {V C A : Type 0} (part : Part) (row : Data → Option A) (va : V → Data) (vc : C → A) (out : List C)
    (items : List V) (i : ℕ)
    → length items ≤ i → IsReadTo part row va vc out items i → rows_read part row (map va items) ≡ Ok (map vc out)
loop_done part row va vc out items i le so_far =
    let none : map va (drop i items) ≡ [] = ap (map va) (drop_of_length-le items le) in
    done part row (map vc out) i (rows_read part row (map va items)) (rw (sym none) so_far.1)
