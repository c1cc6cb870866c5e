-- A loop that reads texts.
use Rattle.std.proofs.Common.{◌≡◌, ℕ, ◌+◌, ◌<◌, ◌≤◌, List, [], ◌∷◌, ◌++◌, length, map, drop}
use Rattle.std.proofs.Common.{drop-cons, get_or, add-one, Option, Some, None, option_map, refl, sym, ap, ◌∙◌, append_assoc}
use Rattle.std.proofs.Math.ListN.{drop_of_length-le}
use Rattle.std.proofs.lemmas.List.{append-nil}
use Rattle.retro_edge.specs.Reads.{all_read}

at_item : {A D : Type 0} (va : A → D) (items : List A) (i : ℕ) (d : A) → i < length items
    → map va (drop i items) ≡ va (get_or items i d) ∷ map va (drop (i + 1) items)
at_item va items i d lt =
    let here : drop i items ≡ get_or items i d ∷ drop (i + 1) items =
    drop-cons items i d lt ∙ rw (add-one i) refl in
    ap (map va) here

abbrev pub with_front : {N : Type 0} → List N → Option (List N) → Option (List N)
with_front front read = option_map (λ ns. front ++ ns) read

regroup : {N : Type 0} (front : List N) (n : N) (o : Option (List N))
    → with_front front (option_map (λ ns. n ∷ ns) o) ≡ with_front (front ++ n ∷ []) o
regroup {N} front n (Some ns) = ap (λ (zs : List N). Some zs) (simp append_assoc)
regroup front n None = refl

goes_on : {N : Type 0} (read : List ℕ → Option N) (front : List N) (text : List ℕ) (texts : List (List ℕ)) (n : N)
    (total : Option (List N)) → Some n ≡ read text → with_front front (all_read read (text ∷ texts)) ≡ total
    → with_front (front ++ n ∷ []) (all_read read texts) ≡ total
unfolding all_read
goes_on read front text texts n total h so_far =
    let one : with_front front (all_read read (text ∷ texts))
    ≡ with_front (front ++ n ∷ []) (all_read read texts) =
    rw (sym h) (regroup front n (all_read read texts)) in
    sym one ∙ so_far

ends : {N : Type 0} (read : List ℕ → Option N) (front : List N) (text : List ℕ) (texts : List (List ℕ))
    (total : Option (List N)) → None ≡ read text → with_front front (all_read read (text ∷ texts)) ≡ total
    → total ≡ None
unfolding all_read
ends read front text texts total h so_far =
    let one : with_front front (all_read read (text ∷ texts)) ≡ None = rw (sym h) refl in
    sym so_far ∙ one

is_done : {N : Type 0} (read : List ℕ → Option N) (front : List N) (total : Option (List N))
    → with_front front (all_read read []) ≡ total → total ≡ Some front
unfolding all_read
is_done {N} read front total so_far = sym so_far ∙ ap (λ (zs : List N). Some zs) (append-nil front)

abbrev pub IsReadTo : {A N : Type 0} → (List ℕ → Option N) → (A → List ℕ) → List N → List A → ℕ → Type 0
IsReadTo read va out items i =
    with_front out (all_read read (map va (drop i items))) ≡ all_read read (map va items)

pub loop_goes_on : {A N : Type 0} (read : List ℕ → Option N) (va : A → List ℕ) (out new : List N) (items : List A)
    (i : ℕ) (d : A) (n : N) → i < length items → new ≡ out ++ n ∷ [] → Some n ≡ read (va (get_or items i d))
    → IsReadTo read va out items i → IsReadTo read va new items (i + 1)
loop_goes_on read va out new items i d n lt push h so_far =
    rw push
    (goes_on read out (va (get_or items i d)) (map va (drop (i + 1) items)) n
    (all_read read (map va items)) h (rw (sym (at_item va items i d lt)) so_far))

pub loop_ends : {A N : Type 0} (read : List ℕ → Option N) (va : A → List ℕ) (out : List N) (items : List A) (i : ℕ)
    (d : A) → i < length items → None ≡ read (va (get_or items i d)) → IsReadTo read va out items i
    → all_read read (map va items) ≡ None
loop_ends read va out items i d lt h so_far =
    ends read out (va (get_or items i d)) (map va (drop (i + 1) items)) (all_read read (map va items)) h
    (rw (sym (at_item va items i d lt)) so_far)

pub loop_done : {A N : Type 0} (read : List ℕ → Option N) (va : A → List ℕ) (out : List N) (items : List A) (i : ℕ)
    → length items ≤ i → IsReadTo read va out items i → all_read read (map va items) ≡ Some out
loop_done read va out items i le so_far =
    let none : map va (drop i items) ≡ [] = ap (map va) (drop_of_length-le items le) in
    is_done read out (all_read read (map va items)) (rw (sym none) so_far)
