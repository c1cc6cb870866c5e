-- A list item by item, as a loop goes over it.
use Rattle.std.proofs.Common.{◌≡◌, ℕ, ◌+◌, ◌<◌, ◌≤◌, length, map, drop, get_or, drop-cons, add-one, List, [], ◌∷◌, ◌++◌}
use Rattle.std.proofs.Common.{Result, Ok, Err, refl, sym, ap, ◌∙◌, append_assoc}
use Rattle.std.proofs.lemmas.List.{append-nil, map_push}
use Rattle.std.proofs.Math.ListN.{drop_of_length-le}
use Rattle.retro_json.specs.declared.fault.Refusal.{Refusal}
use Rattle.retro_json.specs.declared.fault.LogFault.{LogFault}
use Rattle.retro_json.specs.declared.fault.LogFault.TheVariants as fault
use Rattle.retro_json.specs.Steps.{◌>>=◌, each}
use Rattle.retro_json.specs.ReadsAs.{FailsAs}

-- what was read before, and what is still read
abbrev pub with_front : {B : Type 0} → List B → Result (List B) Refusal → Result (List B) Refusal
with_front front read = read >>= λ ys. Ok (front ++ ys)

regroup : {B : Type 0} (front : List B) (y : B) (read : Result (List B) Refusal)
    → with_front front (read >>= λ ys. Ok (y ∷ ys)) ≡ with_front (front ++ y ∷ []) read
regroup {B = B} front y (Ok ys) = ap (λ (zs : List B). Ok zs) (simp append_assoc)
regroup front y (Err e) = refl

pub each_goes_on : {A B : Type 0} (f : A → Result B Refusal) (front : List B) (x : A) (xs : List A) (y : B)
    (total : Result (List B) Refusal)
    → f x ≡ Ok y → with_front front (each f (x ∷ xs)) ≡ total → with_front (front ++ y ∷ []) (each f xs) ≡ total
unfolding each
each_goes_on f front x xs y total h so_far =
    let one : with_front front (each f (x ∷ xs)) ≡ with_front (front ++ y ∷ []) (each f xs) =
    rw h (regroup front y (each f xs)) in
    sym one ∙ so_far

pub each_ends : {A B : Type 0} (f : A → Result B Refusal) (e : LogFault) (front : List B) (x : A) (xs : List A)
    (total : Result (List B) Refusal)
    → FailsAs e (f x) → with_front front (each f (x ∷ xs)) ≡ total → FailsAs e total
unfolding each
each_ends f fault.NoMem front x xs total h so_far = tt
each_ends f (fault.Refused r) front x xs total h so_far =
    let one : with_front front (each f (x ∷ xs)) ≡ Err r = rw h refl in
    sym so_far ∙ one

pub each_done : {A B : Type 0} (f : A → Result B Refusal) (front : List B) (total : Result (List B) Refusal)
    → with_front front (each f []) ≡ total → total ≡ Ok front
unfolding each
each_done {B = B} f front total so_far = sym so_far ∙ ap (λ (zs : List B). Ok zs) (append-nil front)

-- ---- a loop over a slice, whose items and results are seen by `va` and `vc`

abbrev pub IsReadTo : {A D C B : Type 0} → (D → Result B Refusal) → (A → D) → (C → B) → List C → List A → ℕ → Type 0
IsReadTo f va vc out items i = with_front (map vc out) (each f (map va (drop i items))) ≡ each f (map va items)

-- the items from an index on: the item at the index, and the rest
pub at_item : {A D : Type 0} (va : A → D) (items : List A) (i : ℕ) (d x : A) → i < length items → x ≡ get_or items i d
    → map va (drop i items) ≡ va x ∷ map va (drop (i + 1) items)
at_item va items i d x lt is =
    let here : drop i items ≡ x ∷ drop (i + 1) items = drop-cons items i d lt ∙ rw (sym is, add-one i) refl in
    ap (map va) here

pub loop_goes_on : {A D C B : Type 0} (f : D → Result B Refusal) (va : A → D) (vc : C → B) (out new : List C)
    (items : List A) (i : ℕ) (d x : A) (y : C)
    → i < length items → x ≡ get_or items i d → new ≡ out ++ y ∷ [] → f (va x) ≡ Ok (vc y)
    → IsReadTo f va vc out items i → IsReadTo f va vc new items (i + 1)
loop_goes_on f va vc out new items i d x y lt is push h so_far =
    let e : map vc new ≡ map vc out ++ vc y ∷ [] = ap (map vc) push ∙ map_push vc out y in
    rw e (each_goes_on f (map vc out) (va x) (map va (drop (i + 1) items)) (vc y) (each f (map va items)) h
    (rw (sym (at_item va items i d x lt is)) so_far))

pub loop_ends : {A D C B : Type 0} (f : D → Result B Refusal) (va : A → D) (vc : C → B) (e : LogFault) (out : List C)
    (items : List A) (i : ℕ) (d x : A)
    → i < length items → x ≡ get_or items i d → FailsAs e (f (va x)) → IsReadTo f va vc out items i
    → FailsAs e (each f (map va items))
loop_ends f va vc e out items i d x lt is h so_far =
    each_ends f e (map vc out) (va x) (map va (drop (i + 1) items)) (each f (map va items)) h
    (rw (sym (at_item va items i d x lt is)) so_far)

pub loop_done : {A D C B : Type 0} (f : D → Result B Refusal) (va : A → D) (vc : C → B) (out : List C) (items : List A)
    (i : ℕ)
    → length items ≤ i → IsReadTo f va vc out items i → each f (map va items) ≡ Ok (map vc out)
loop_done f va vc out items i le so_far =
    let none : map va (drop i items) ≡ [] = ap (map va) (drop_of_length-le items le) in
    each_done f (map vc out) (each f (map va items)) (rw (sym none) so_far)

-- ---- a loop over a slice that makes a value of each item

pub made_goes_on : {A D C : Type 0} (va : A → D) (vc : C → D) (out new : List C) (items : List A) (i : ℕ) (d x : A)
    (y : C)
    → i < length items → x ≡ get_or items i d → new ≡ out ++ y ∷ [] → vc y ≡ va x
    → map vc out ++ map va (drop i items) ≡ map va items → map vc new ++ map va (drop (i + 1) items) ≡ map va items
made_goes_on va vc out new items i d x y lt is push same so_far =
    let e : map vc new ≡ map vc out ++ va x ∷ [] = ap (map vc) push ∙ map_push vc out y ∙ rw same refl in
    rw e (simp append_assoc (rw (sym (at_item va items i d x lt is)) so_far))

pub made_done : {A D C : Type 0} (va : A → D) (vc : C → D) (out : List C) (items : List A) (i : ℕ)
    → length items ≤ i → map vc out ++ map va (drop i items) ≡ map va items → map vc out ≡ map va items
made_done va vc out items i le so_far =
    let none : map va (drop i items) ≡ [] = ap (map va) (drop_of_length-le items le) in
    sym (append-nil (map vc out)) ∙ ap (λ rest. map vc out ++ rest) (sym none) ∙ so_far
