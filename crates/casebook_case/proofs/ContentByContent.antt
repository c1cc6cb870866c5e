-- Contents one by one, as a loop reads them.
use Rattle.std.proofs.Common.{◌≡◌, ℕ, ◌+◌, ◌<◌, ◌≤◌, length, map, drop, get_or, drop-cons, add-one, List, [], ◌∷◌, ◌++◌}
use Rattle.std.proofs.Common.{Result, Ok, Err, refl, sym, ap, ◌∙◌, append_assoc}
use Rattle.std.specs.Prelude.{ok_or}
use Rattle.std.proofs.lemmas.List.{append-nil, length_push}
use Rattle.std.proofs.Math.ListN.{drop_of_length-le}
use Rattle.serde_json.specs.Data.{Data}
use Rattle.casebook_case.specs.Cases.{◌>>=◌}
use Rattle.casebook_case.specs.Reading.{content_in, contents_from}
use Rattle.casebook_case.specs.declared.case_fault.CaseFault.{CaseFault}
use Rattle.casebook_case.specs.declared.case_fault.CaseFault.TheVariants as faults
use Rattle.casebook_case.specs.declared.case_fault.CaseFault.TheVariants.{BadContent}
use Rattle.casebook_case.specs.Reads.{refused}
use Rattle.retro_path.specs.OutOfMemory.{IsMeant}

-- what was read before, and what is still read
abbrev pub with_front : List (List ℕ) → Result (List (List ℕ)) CaseFault → Result (List (List ℕ)) CaseFault
with_front front read = read >>= λ contents. Ok (front ++ contents)

regroup : (front : List (List ℕ)) (bytes : List ℕ) (read : Result (List (List ℕ)) CaseFault)
    → with_front front (read >>= λ contents. Ok (bytes ∷ contents)) ≡ with_front (front ++ bytes ∷ []) read
regroup front bytes (Ok contents) = ap (λ (all : List (List ℕ)). Ok all) (simp append_assoc)
regroup front bytes (Err fault) = refl

-- a loop over values that has read some of them
abbrev pub IsReadTo : {V : Type 0} → (V → Data) → List (List ℕ) → List V → ℕ → Type 0
IsReadTo va out items i =
    (length out ≡ i)
    × (with_front out (contents_from (i + 1) (map va (drop i items))) ≡ contents_from 1 (map va items))

at_item : {V : Type 0} (va : V → Data) (items : List V) (i : ℕ) (d x : V) → i < length items → x ≡ get_or items i d
    → map va (drop i items) ≡ va x ∷ map va (drop (i + 1) items)
at_item va items i d x lt is =
    let here : drop i items ≡ x ∷ drop (i + 1) items = drop-cons items i d lt ∙ rw (sym is, add-one i) refl in
    ap (map va) here

goes_on : (front : List (List ℕ)) (place : ℕ) (d : Data) (ds : List Data) (bytes : List ℕ) (total : Result (List (List ℕ)) CaseFault)
    → ok_or (content_in d) (BadContent place) ≡ Ok bytes → with_front front (contents_from place (d ∷ ds)) ≡ total
    → with_front (front ++ bytes ∷ []) (contents_from (place + 1) ds) ≡ total
unfolding contents_from
goes_on front place d ds bytes total h so_far =
    let one : with_front front (contents_from place (d ∷ ds)) ≡ with_front (front ++ bytes ∷ []) (contents_from (place + 1) ds) =
    rw h (regroup front bytes (contents_from (place + 1) ds)) in
    sym one ∙ so_far

ends : (fault : CaseFault) (front : List (List ℕ)) (place : ℕ) (d : Data) (ds : List Data) (total : Result (List (List ℕ)) CaseFault)
    → ok_or (content_in d) (BadContent place) ≡ Err fault → with_front front (contents_from place (d ∷ ds)) ≡ total
    → total ≡ Err fault
unfolding contents_from
ends fault front place d ds total h so_far =
    let one : with_front front (contents_from place (d ∷ ds)) ≡ Err fault = rw h refl in
    sym so_far ∙ one

done : (front : List (List ℕ)) (place : ℕ) (total : Result (List (List ℕ)) CaseFault)
    → with_front front (contents_from place []) ≡ total → total ≡ Ok front
unfolding contents_from
done front place total so_far = sym so_far ∙ ap (λ (all : List (List ℕ)). Ok all) (append-nil front)

pub loop_goes_on : {V : Type 0} (va : V → Data) (out new : List (List ℕ)) (items : List V) (i : ℕ) (d x : V) (bytes : List ℕ)
    (place : ℕ)
    → i < length items → x ≡ get_or items i d → new ≡ out ++ bytes ∷ [] → place ≡ length out + 1
    → ok_or (content_in (va x)) (BadContent place) ≡ Ok bytes → IsReadTo va out items i → IsReadTo va new items (i + 1)
loop_goes_on va out new items i d x bytes place lt is push at h so_far =
    let here : place ≡ i + 1 = at ∙ ap (λ n. n + 1) so_far.0 in
    let long : length new ≡ i + 1 = ap length push ∙ length_push out bytes ∙ rw so_far.0 refl in (
      long,
      rw push (goes_on out (i + 1) (va x) (map va (drop (i + 1) items)) bytes (contents_from 1 (map va items))
          (rw here at h)
          (rw (sym (at_item va items i d x lt is)) so_far.1)),
    )

pub loop_ends : {V : Type 0} (va : V → Data) (fault : CaseFault) (out : List (List ℕ)) (items : List V) (i : ℕ) (d x : V)
    (place : ℕ)
    → i < length items → x ≡ get_or items i d → place ≡ length out + 1
    → IsMeant (refused fault) (ok_or (content_in (va x)) (BadContent place)) → IsReadTo va out items i
    → IsMeant (refused fault) (contents_from 1 (map va items))
loop_ends va faults.NoMem out items i d x place lt is at h so_far = tt
loop_ends va fault out items i d x place lt is at h so_far =
    let here : place ≡ i + 1 = at ∙ ap (λ n. n + 1) so_far.0 in
    ends fault out (i + 1) (va x) (map va (drop (i + 1) items)) (contents_from 1 (map va items)) (rw here at h)
    (rw (sym (at_item va items i d x lt is)) so_far.1)

pub loop_done : {V : Type 0} (va : V → Data) (out : List (List ℕ)) (items : List V) (i : ℕ)
    → length items ≤ i → IsReadTo va out items i → contents_from 1 (map va items) ≡ Ok out
loop_done va out items i le so_far =
    let none : map va (drop i items) ≡ [] = ap (map va) (drop_of_length-le items le) in
    done out (i + 1) (contents_from 1 (map va items)) (rw (sym none) so_far.1)
