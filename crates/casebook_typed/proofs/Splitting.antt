-- Items up to a place, split at records.
use Rattle.std.proofs.Common.{◌≡◌, ◌∙◌, ℕ, suc, ◌+◌, ◌-◌, ◌<◌, ◌≤◌, List, [], ◌∷◌, ◌++◌, take, drop}
use Rattle.std.proofs.Common.{get_or, length, refl, sym, ap, arith}
use Rattle.std.proofs.Math.Numerals.{add-one}
use Rattle.std.proofs.Math.Seq.{drop-cons, take-suc}
use Rattle.std.proofs.lemmas.List.{append-nil, append_assoc, drop_all, get_or-drop, length-drop}
use Rattle.casebook_record.specs.declared.record.Record.{Record}
use Rattle.casebook_spool.specs.declared.item.Item.{Item}
use Rattle.casebook_spool.specs.declared.item.Item.TheVariants as items
use Rattle.casebook_spool.specs.declared.note.Note.{Note}
use Rattle.casebook_typed.specs.Observations.{Observed, notes_in, observations, with_note}

-- notes that belong to the first of some observations, if there is one
abbrev pub with_notes : List Note → List Observed → List Observed
with_notes [] os = os
with_notes (n ∷ ns) os = with_note n (with_notes ns os)

pub one_more_note : (ns : List Note) (n : Note) (os : List Observed)
    → with_notes (ns ++ n ∷ []) os ≡ with_notes ns (with_note n os)
one_more_note [] n os = refl
one_more_note (x ∷ ns) n os = ap (with_note x) (one_more_note ns n os)

pub all_notes : (ns : List Note) (r : Record) (os : List Observed)
    → with_notes ns (record { noted = []; said = r } ∷ os) ≡ record { noted = ns; said = r } ∷ os
all_notes [] r os = refl
all_notes (x ∷ ns) r os = ap (with_note x) (all_notes ns r os)

pub no_record : (ns : List Note) → with_notes ns [] ≡ []
no_record [] = refl
no_record (x ∷ ns) = ap (with_note x) (no_record ns)

pub notes_in-snoc : (xs : List Item) (n : Note) → notes_in (xs ++ items.Note n ∷ []) ≡ notes_in xs ++ n ∷ []
notes_in-snoc [] n = refl
notes_in-snoc (items.Note x ∷ xs) n = ap (λ ns. x ∷ ns) (notes_in-snoc xs n)
notes_in-snoc (items.Record r ∷ xs) n = notes_in-snoc xs n

-- ---- an item more

here : (xs : List Item) (i : ℕ) (x : Item) → i < length xs → x ≡ get_or xs i x → drop i xs ≡ x ∷ drop (i + 1) xs
here xs i x h is =
    drop-cons xs i x h ∙ ap (λ y. y ∷ drop (suc i) xs) (sym is) ∙ ap (λ n. x ∷ drop n xs) (sym (add-one i))

since : (xs : List Item) (from i : ℕ) (x : Item) → from ≤ i → i < length xs → x ≡ get_or xs i x
    → take (i + 1 - from) (drop from xs) ≡ take (i - from) (drop from xs) ++ x ∷ []
since xs from i x le h is =
    let within : i - from < length (drop from xs) = simp length-drop (omega arith) in
    let place : from + (i - from) ≡ i = omega arith in
    let next : i + 1 - from ≡ suc (i - from) = omega arith in
    ap (λ n. take n (drop from xs)) next
    ∙ take-suc (drop from xs) (i - from) x within
    ∙ ap (λ y. take (i - from) (drop from xs) ++ y ∷ []) (get_or-drop from xs (i - from) x
    ∙ ap (λ n. get_or xs n x) place ∙ sym is)

pub a_note : (done wanted : List Observed) (xs : List Item) (from i : ℕ) (x : Item) (n : Note)
    → from ≤ i → i < length xs → x ≡ get_or xs i x → x ≡ items.Note n
    → done ++ with_notes (notes_in (take (i - from) (drop from xs))) (observations (drop i xs)) ≡ wanted
    → done ++ with_notes (notes_in (take (i + 1 - from) (drop from xs))) (observations (drop (i + 1) xs)) ≡ wanted
a_note done wanted xs from i x n le h is note so =
    ap (λ ys. done ++ with_notes (notes_in ys) (observations (drop (i + 1) xs)))
    (since xs from i x le h is ∙ ap (λ y. take (i - from) (drop from xs) ++ y ∷ []) note)
    ∙ ap (λ ns. done ++ with_notes ns (observations (drop (i + 1) xs)))
    (notes_in-snoc (take (i - from) (drop from xs)) n)
    ∙ ap (λ os. done ++ os) (one_more_note (notes_in (take (i - from) (drop from xs))) n (observations (drop (i + 1) xs)))
    ∙ ap (λ ys. done ++ with_notes (notes_in (take (i - from) (drop from xs))) (observations ys))
    (sym (here xs i x h is ∙ ap (λ y. y ∷ drop (i + 1) xs) note))
    ∙ so

pub a_record : (done wanted : List Observed) (xs : List Item) (from i : ℕ) (x : Item) (r : Record)
    → from ≤ i → i < length xs → x ≡ get_or xs i x → x ≡ items.Record r
    → done ++ with_notes (notes_in (take (i - from) (drop from xs))) (observations (drop i xs)) ≡ wanted
    → (done ++ record { noted = notes_in (take (i - from) (drop from xs)); said = r } ∷ [])
    ++ with_notes (notes_in (take (i + 1 - (i + 1)) (drop (i + 1) xs))) (observations (drop (i + 1) xs)) ≡ wanted
a_record done wanted xs from i x r le h is found so =
    let none : i + 1 - (i + 1) ≡ 0 = omega arith in
    ap (λ n. (done ++ record { noted = notes_in (take (i - from) (drop from xs)); said = r } ∷ [])
    ++ with_notes (notes_in (take n (drop (i + 1) xs))) (observations (drop (i + 1) xs))) none
    ∙ append_assoc done _ _
    ∙ ap (λ os. done ++ os) (sym (all_notes (notes_in (take (i - from) (drop from xs))) r (observations (drop (i + 1) xs))))
    ∙ ap (λ ys. done ++ with_notes (notes_in (take (i - from) (drop from xs))) (observations ys))
    (sym (here xs i x h is ∙ ap (λ y. y ∷ drop (i + 1) xs) found))
    ∙ so

pub no_more : (done wanted : List Observed) (xs : List Item) (from i : ℕ) → length xs ≤ i
    → done ++ with_notes (notes_in (take (i - from) (drop from xs))) (observations (drop i xs)) ≡ wanted
    → done ≡ wanted
no_more done wanted xs from i h so =
    sym (append-nil done)
    ∙ ap (λ os. done ++ os) (sym (no_record (notes_in (take (i - from) (drop from xs)))))
    ∙ ap (λ ys. done ++ with_notes (notes_in (take (i - from) (drop from xs))) (observations ys)) (sym (drop_all i xs h))
    ∙ so
