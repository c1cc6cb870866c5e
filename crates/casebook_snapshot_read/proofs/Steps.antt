-- Entries one by one, as a loop goes over them.
use Rattle.std.proofs.Common.{◌≡◌, ◌∙◌, List, [], ◌∷◌, ◌++◌, Result, Ok, Err, refl, sym, ap, append_assoc}
use Rattle.std.proofs.lemmas.List.{append-nil}
use Rattle.casebook_snapshot_read.specs.Joined.{each}
use Rattle.casebook_snapshot_read.specs.Reads.{◌>>=◌, FailsAs}
use Rattle.casebook_snapshot_read.specs.declared.fault.SnapshotFault.{SnapshotFault}
use Rattle.casebook_snapshot_read.specs.declared.fault.SnapshotFault.TheVariants as faults

-- what was read before, and what is still read
abbrev pub in_front : {B : Type 0} → List B → Result (List B) SnapshotFault → Result (List B) SnapshotFault
in_front front read = read >>= λ ys. Ok (front ++ ys)

regroup : {B : Type 0} (front : List B) (y : B) (read : Result (List B) SnapshotFault)
    → in_front front (read >>= λ ys. Ok (y ∷ ys)) ≡ in_front (front ++ y ∷ []) read
regroup {B = B} front y (Ok ys) = ap (λ (zs : List B). Ok zs) (simp append_assoc)
regroup front y (Err e) = refl

pub each_goes_on : {A B : Type 0} (f : A → Result B SnapshotFault) (front new : List B) (x : A) (xs all : List A) (y : B)
    → f x ≡ Ok y → new ≡ front ++ y ∷ [] → in_front front (each f (x ∷ xs)) ≡ each f all
    → in_front new (each f xs) ≡ each f all
unfolding each
each_goes_on f front new x xs all y h push so_far =
    let one : in_front front (each f (x ∷ xs)) ≡ in_front (front ++ y ∷ []) (each f xs) =
    rw h (regroup front y (each f xs)) in
    ap (λ ys. in_front ys (each f xs)) push ∙ sym one ∙ so_far

pub each_ends : {A B : Type 0} (f : A → Result B SnapshotFault) (e : SnapshotFault) (front : List B) (x : A) (xs all : List A)
    → FailsAs e (f x) → in_front front (each f (x ∷ xs)) ≡ each f all → FailsAs e (each f all)
unfolding each
each_ends f faults.NoMem front x xs all h so_far = tt
each_ends f faults.NotJson front x xs all h so_far =
    let one : in_front front (each f (x ∷ xs)) ≡ Err faults.NotJson = rw h refl in sym so_far ∙ one
each_ends f faults.NotASnapshot front x xs all h so_far =
    let one : in_front front (each f (x ∷ xs)) ≡ Err faults.NotASnapshot = rw h refl in sym so_far ∙ one
each_ends f (faults.BadRow part place) front x xs all h so_far =
    let one : in_front front (each f (x ∷ xs)) ≡ Err (faults.BadRow part place) = rw h refl in sym so_far ∙ one
each_ends f faults.LawlessTree front x xs all h so_far =
    let one : in_front front (each f (x ∷ xs)) ≡ Err faults.LawlessTree = rw h refl in sym so_far ∙ one
each_ends f faults.OtherPaths front x xs all h so_far =
    let one : in_front front (each f (x ∷ xs)) ≡ Err faults.OtherPaths = rw h refl in sym so_far ∙ one

pub each_done : {A B : Type 0} (f : A → Result B SnapshotFault) (front : List B) (all : List A)
    → in_front front (each f []) ≡ each f all → each f all ≡ Ok front
unfolding each
each_done {B = B} f front all so_far = sym so_far ∙ ap (λ (zs : List B). Ok zs) (append-nil front)
