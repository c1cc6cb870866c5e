-- Items one by one, as a loop reads them.
use Rattle.std.proofs.Common.{◌≡◌, ℕ, ◌+◌, ◌<◌, ◌≤◌, length, map, drop, get_or, drop-cons, add-one, List, [], ◌∷◌, ◌++◌}
use Rattle.std.proofs.Common.{Result, Ok, Err, refl, sym, ap, ◌∙◌, append_assoc}
use Rattle.std.proofs.lemmas.List.{append-nil, length_push}
use Rattle.std.proofs.Math.ListN.{drop_of_length-le}
use Rattle.casebook_rows.specs.Rows.{fields_of}
use Rattle.casebook_spool.specs.Lines.{◌>>=◌, item_or, items_of}
use Rattle.casebook_spool.specs.Reading.{item_of}
use Rattle.casebook_spool.specs.declared.item.Item.{Item}
use Rattle.casebook_spool.specs.declared.lines.LinesError.{LinesError}
use Rattle.casebook_spool.specs.declared.lines.LinesError.TheVariants as errors
use Rattle.casebook_spool.specs.Reads.{refused}
use Rattle.retro_path.specs.OutOfMemory.{IsMeant}

-- what was read before, and what is still read
abbrev pub with_front : List Item → Result (List Item) ℕ → Result (List Item) ℕ
with_front front read = read >>= λ items. Ok (front ++ items)

regroup : (front : List Item) (item : Item) (read : Result (List Item) ℕ)
    → with_front front (read >>= λ items. Ok (item ∷ items)) ≡ with_front (front ++ item ∷ []) read
regroup front item (Ok items) = ap (λ (all : List Item). Ok all) (simp append_assoc)
regroup front item (Err n) = refl

-- a loop over values that has read some of them as rows
abbrev pub IsReadTo : {V : Type 0} → (V → List ℕ) → List Item → List V → ℕ → Type 0
IsReadTo va out items i =
    (length out ≡ i)
    × (with_front out (items_of (i + 1) (map va (drop i items))) ≡ items_of 1 (map va items))

at_item : {V : Type 0} (va : V → List ℕ) (items : List V) (i : ℕ) (d x : V) → i < length items → x ≡ get_or items i d
    → map va (drop i items) ≡ va x ∷ map va (drop (i + 1) items)
at_item va items i d x lt is =
    let here : drop i items ≡ x ∷ drop (i + 1) items = drop-cons items i d lt ∙ rw (sym is, add-one i) refl in
    ap (map va) here

goes_on : (front : List Item) (place : ℕ) (r : List ℕ) (rs : List (List ℕ)) (item : Item) (total : Result (List Item) ℕ)
    → item_or place (item_of (fields_of r)) ≡ Ok item → with_front front (items_of place (r ∷ rs)) ≡ total
    → with_front (front ++ item ∷ []) (items_of (place + 1) rs) ≡ total
unfolding items_of
goes_on front place r rs item total h so_far =
    let one : with_front front (items_of place (r ∷ rs)) ≡ with_front (front ++ item ∷ []) (items_of (place + 1) rs) =
    rw h (regroup front item (items_of (place + 1) rs)) in
    sym one ∙ so_far

ends : (n : ℕ) (front : List Item) (place : ℕ) (r : List ℕ) (rs : List (List ℕ)) (total : Result (List Item) ℕ)
    → item_or place (item_of (fields_of r)) ≡ Err n → with_front front (items_of place (r ∷ rs)) ≡ total
    → total ≡ Err n
unfolding items_of
ends n front place r rs total h so_far =
    let one : with_front front (items_of place (r ∷ rs)) ≡ Err n = rw h refl in
    sym so_far ∙ one

done : (front : List Item) (place : ℕ) (total : Result (List Item) ℕ)
    → with_front front (items_of place []) ≡ total → total ≡ Ok front
unfolding items_of
done front place total so_far = sym so_far ∙ ap (λ (all : List Item). Ok all) (append-nil front)

pub loop_goes_on : {V : Type 0} (va : V → List ℕ) (out new : List Item) (items : List V) (i : ℕ) (d x : V) (item : Item)
    (place : ℕ)
    → i < length items → x ≡ get_or items i d → new ≡ out ++ item ∷ [] → place ≡ length out + 1
    → item_or place (item_of (fields_of (va x))) ≡ Ok item → IsReadTo va out items i → IsReadTo va new items (i + 1)
loop_goes_on va out new items i d x item place lt is push at h so_far =
    let here : place ≡ i + 1 = at ∙ ap (λ n. n + 1) so_far.0 in
    let long : length new ≡ i + 1 = ap length push ∙ length_push out item ∙ rw so_far.0 refl in (
      long,
      rw push (goes_on out (i + 1) (va x) (map va (drop (i + 1) items)) item (items_of 1 (map va items))
          (rw here at h)
          (rw (sym (at_item va items i d x lt is)) so_far.1)),
    )

pub loop_ends : {V : Type 0} (va : V → List ℕ) (error : LinesError) (out : List Item) (items : List V) (i : ℕ) (d x : V)
    (place : ℕ)
    → i < length items → x ≡ get_or items i d → place ≡ length out + 1
    → IsMeant (refused error) (item_or place (item_of (fields_of (va x)))) → IsReadTo va out items i
    → IsMeant (refused error) (items_of 1 (map va items))
loop_ends va errors.NoMem out items i d x place lt is at h so_far = tt
loop_ends va (errors.Row n) out items i d x place lt is at h so_far =
    let here : place ≡ i + 1 = at ∙ ap (λ n. n + 1) so_far.0 in
    ends n out (i + 1) (va x) (map va (drop (i + 1) items)) (items_of 1 (map va items)) (rw here at h)
    (rw (sym (at_item va items i d x lt is)) so_far.1)

pub loop_done : {V : Type 0} (va : V → List ℕ) (out : List Item) (items : List V) (i : ℕ)
    → length items ≤ i → IsReadTo va out items i → items_of 1 (map va items) ≡ Ok out
loop_done va out items i le so_far =
    let none : map va (drop i items) ≡ [] = ap (map va) (drop_of_length-le items le) in
    done out (i + 1) (items_of 1 (map va items)) (rw (sym none) so_far.1)
