-- Items one after another, as a loop goes over them.
use Rattle.std.proofs.Common.{◌≡◌, ◌∙◌, ℕ, ◌+◌, ◌<◌, ◌≤◌, length, map, drop, get_or, drop-cons, add-one, List, [], ◌∷◌, ◌++◌}
use Rattle.std.proofs.Common.{Result, Ok, Err, refl, sym, ap}
use Rattle.std.proofs.lemmas.List.{map_push}
use Rattle.std.proofs.Math.ListN.{drop_of_length-le}
use Rattle.casebook_script.specs.Reads.{FailsAs}
use Rattle.casebook_script.specs.Steps.{in_turn, with_item}
use Rattle.casebook_script.specs.declared.fault.RowFault.{RowFault}
use Rattle.casebook_script.specs.declared.fault.TableFault.{TableFault}
use Rattle.casebook_script.specs.declared.fault.TableFault.TheVariants as faults
use Rattle.casebook_script.specs.declared.row_error.RowError.{RowError}
use Rattle.casebook_script.specs.declared.row_error.RowError.TheVariants as errors
use Rattle.casebook_script.specs.inner.RowReads.{RowFailsAs}

-- a loop over items, seen by `va`, that has made `now` of the first value and the first `i` items
abbrev pub IsTurn : {A B C E : Type 0} → (A → B → Result A E) → (C → B) → A → A → List C → ℕ → Type 0
IsTurn f va first now items i = in_turn f now (map va (drop i items)) ≡ in_turn f first (map va items)

-- the items from an index on: the item at the index, and the rest
pub at_item : {B C : Type 0} (va : C → B) (items : List C) (i : ℕ) (d x : C) → i < length items → x ≡ get_or items i d
    → map va (drop i items) ≡ va x ∷ map va (drop (i + 1) items)
at_item va items i d x lt is =
    let here : drop i items ≡ x ∷ drop (i + 1) items = drop-cons items i d lt ∙ rw (sym is, add-one i) refl in
    ap (map va) here

one_more : {A B E : Type 0} (f : A → B → Result A E) (now next : A) (x : B) (xs : List B) → f now x ≡ Ok next
    → in_turn f now (x ∷ xs) ≡ in_turn f next xs
unfolding in_turn
one_more f now next x xs h = rw h refl

no_more : {A B E : Type 0} (f : A → B → Result A E) (now : A) (x : B) (xs : List B) (e : E) → f now x ≡ Err e
    → in_turn f now (x ∷ xs) ≡ Err e
unfolding in_turn
no_more f now x xs e h = rw h refl

pub turn_goes_on : {A B C E : Type 0} (f : A → B → Result A E) (va : C → B) (first now next : A) (items : List C) (i : ℕ)
    (d x : C)
    → i < length items → x ≡ get_or items i d → f now (va x) ≡ Ok next
    → IsTurn f va first now items i → IsTurn f va first next items (i + 1)
turn_goes_on f va first now next items i d x lt is h so_far =
    sym (one_more f now next (va x) (map va (drop (i + 1) items)) h)
    ∙ ap (in_turn f now) (sym (at_item va items i d x lt is)) ∙ so_far

pub turn_ends : {A B C E : Type 0} (f : A → B → Result A E) (va : C → B) (first now : A) (items : List C) (i : ℕ)
    (d x : C) (e : E)
    → i < length items → x ≡ get_or items i d → f now (va x) ≡ Err e
    → IsTurn f va first now items i → in_turn f first (map va items) ≡ Err e
turn_ends f va first now items i d x e lt is h so_far =
    sym so_far ∙ ap (in_turn f now) (at_item va items i d x lt is)
    ∙ no_more f now (va x) (map va (drop (i + 1) items)) e h

pub turn_done : {A B C E : Type 0} (f : A → B → Result A E) (va : C → B) (first now : A) (items : List C) (i : ℕ)
    → length items ≤ i → IsTurn f va first now items i → in_turn f first (map va items) ≡ Ok now
unfolding in_turn
turn_done f va first now items i le so_far =
    let none : map va (drop i items) ≡ [] = ap (map va) (drop_of_length-le items le) in
    sym so_far ∙ ap (in_turn f now) none

-- ---- errors

pub row_fails : {A B C : Type 0} (f : A → B → Result A RowFault) (va : C → B) (first now : A) (items : List C) (i : ℕ)
    (d x : C) (e : RowError)
    → i < length items → x ≡ get_or items i d → RowFailsAs e (f now (va x))
    → IsTurn f va first now items i → RowFailsAs e (in_turn f first (map va items))
row_fails f va first now items i d x errors.NoMem lt is h so_far = tt
row_fails f va first now items i d x (errors.Fault why) lt is h so_far =
    turn_ends f va first now items i d x why lt is h so_far

pub table_fails : {A B C : Type 0} (f : A → B → Result A TableFault) (va : C → B) (first now : A) (items : List C) (i : ℕ)
    (d x : C) (e : TableFault)
    → i < length items → x ≡ get_or items i d → FailsAs e (f now (va x))
    → IsTurn f va first now items i → FailsAs e (in_turn f first (map va items))
table_fails f va first now items i d x faults.NoMem lt is h so_far = tt
table_fails f va first now items i d x (faults.NotUtf8 table) lt is h so_far =
    turn_ends f va first now items i d x (faults.NotUtf8 table) lt is h so_far
table_fails f va first now items i d x (faults.BadRow table row why) lt is h so_far =
    turn_ends f va first now items i d x (faults.BadRow table row why) lt is h so_far

-- ---- lists of what items are read as

pub item_read : {A B E : Type 0} (f : B → Result A E) (read : List A) (x : B) (y : A) → f x ≡ Ok y
    → with_item f read x ≡ Ok (read ++ y ∷ [])
item_read f read x y h = rw h refl

item_fails : {A B E : Type 0} (f : B → Result A E) (read : List A) (x : B) (e : E) → f x ≡ Err e → with_item f read x ≡ Err e
item_fails f read x e h = rw h refl

pub row_item_fails : {A B : Type 0} (f : B → Result A RowFault) (read : List A) (x : B) (e : RowError)
    → RowFailsAs e (f x) → RowFailsAs e (with_item f read x)
row_item_fails f read x errors.NoMem h = tt
row_item_fails f read x (errors.Fault why) h = item_fails f read x why h

pub table_item_fails : {A B : Type 0} (f : B → Result A TableFault) (read : List A) (x : B) (e : TableFault)
    → FailsAs e (f x) → FailsAs e (with_item f read x)
table_item_fails f read x faults.NoMem h = tt
table_item_fails f read x (faults.NotUtf8 table) h = item_fails f read x (faults.NotUtf8 table) h
table_item_fails f read x (faults.BadRow table row why) h = item_fails f read x (faults.BadRow table row why) h

pub item_goes_on : {A B C D E : Type 0} (f : B → Result A E) (va : C → B) (vc : D → A) (out new : List D) (items : List C)
    (i : ℕ) (d x : C) (y : D)
    → i < length items → x ≡ get_or items i d → new ≡ out ++ y ∷ [] → f (va x) ≡ Ok (vc y)
    → IsTurn (with_item f) va [] (map vc out) items i → IsTurn (with_item f) va [] (map vc new) items (i + 1)
item_goes_on f va vc out new items i d x y lt is push h so_far =
    let e : map vc new ≡ map vc out ++ vc y ∷ [] = ap (map vc) push ∙ map_push vc out y in
    turn_goes_on (with_item f) va [] (map vc out) (map vc new) items i d x lt is
    (item_read f (map vc out) (va x) (vc y) h ∙ ap Ok (sym e)) so_far
