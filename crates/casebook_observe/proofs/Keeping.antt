-- Contents that are kept one after the other.
use Rattle.std.proofs.Common.{◌≡◌, ◌∙◌, ◌+◌, ◌<◌, ℕ, List, [], ◌∷◌, ◌++◌, Option, Some, None, add-one, ap, append_assoc, drop, drop-cons, get_or, length, map, refl, subst, sym}
use Rattle.std.specs.Prelude.{IfOk, IfSome, OnOk, Ok, Result, option_map}
use Rattle.casebook_observe.specs.declared.observe_error.ObserveError.{ObserveError}
use Rattle.casebook_watch.specs.declared.sight_change.SightChange.{SightChange}
use Rattle.casebook_spool.specs.declared.note.Note.{Note}
use Rattle.casebook_observe.specs.Files.{OnlyKeeps, SpoolFiles}
use Rattle.casebook_observe.specs.Notes.{holds_note, holds_notes, with_contents, with_found}
use Rattle.casebook_observe.specs.Worlds.{World}

pub keeps_itself : (now : Option SpoolFiles) → OnlyKeeps now now
keeps_itself None = tt
keeps_itself (Some files) = (refl, refl, refl, λ d bytes h. h)

pub keeps_on : (a b c : Option SpoolFiles) → OnlyKeeps a b → OnlyKeeps b c → OnlyKeeps a c
keeps_on None None None h k = tt
keeps_on None None (Some c) h k = absurd k
keeps_on None (Some b) c h k = absurd h
keeps_on (Some a) None c h k = absurd h
keeps_on (Some a) (Some b) None h k = absurd k
keeps_on (Some a) (Some b) (Some c) h k =
    (k.0 ∙ h.0, k.1 ∙ h.1, k.2 ∙ h.2, λ d bytes kept. k.3 d bytes (h.3 d bytes kept))

-- one more note, where watched folders find the same
pub noted_on : (before now : Option World) (result : Result Note ObserveError) (out new : List Note) (note : Note) (change : SightChange)
    (whole rest all : List SightChange)
    → result ≡ Ok note → now ≡ before → new ≡ out ++ note ∷ [] → whole ≡ change ∷ rest
    → IfSome now (λ world. IfOk result (λ n. n ≡ holds_note change.path (world.held change.path)))
    → IfSome before (λ world. out ++ holds_notes world whole ≡ holds_notes world all)
    → IfSome before (λ world. new ++ holds_notes world rest ≡ holds_notes world all)
noted_on before now result out new note change whole rest all ok e push here is so_far =
    one before
    (subst (λ f. IfSome f (λ world. IfOk result (λ n. n ≡ holds_note change.path (world.held change.path)))) e is)
    so_far
  where
    one : (f : Option World)
        → IfSome f (λ world. IfOk result (λ n. n ≡ holds_note change.path (world.held change.path)))
        → IfSome f (λ world. out ++ holds_notes world whole ≡ holds_notes world all)
        → IfSome f (λ world. new ++ holds_notes world rest ≡ holds_notes world all)
    one None h k = tt
    one (Some world) h k =
        ap (λ xs. xs ++ holds_notes world rest) push
        ∙ append_assoc out (note ∷ []) (holds_notes world rest)
        ∙ ap (λ n. out ++ n ∷ holds_notes world rest) (subst (λ r. IfOk r (λ n. n ≡ holds_note change.path (world.held change.path))) ok h)
        ∙ ap (λ cs. out ++ holds_notes world cs) (sym here) ∙ k

-- the bytes of one more file, where watched folders find the same
pub kept_on : (before now : Option World) (result : Result Note ObserveError) (note : Note) (first old new : Option SpoolFiles) (change : SightChange)
    (whole rest all : List SightChange)
    → result ≡ Ok note → now ≡ before → whole ≡ change ∷ rest
    → IfSome now (λ world. OnOk result (new ≡ option_map (λ files. with_found files (world.held change.path)) old))
    → IfSome before (λ world. option_map (with_contents world whole) old ≡ option_map (with_contents world all) first)
    → IfSome before (λ world. option_map (with_contents world rest) new ≡ option_map (with_contents world all) first)
kept_on before now result note first old new change whole rest all ok e here is so_far =
    one before
    (subst (λ f. IfSome f (λ world. OnOk result (new ≡ option_map (λ files. with_found files (world.held change.path)) old))) e is)
    so_far
  where
    both : (world : World) (files : Option SpoolFiles)
        → option_map (with_contents world rest) (option_map (λ f. with_found f (world.held change.path)) files)
        ≡ option_map (with_contents world (change ∷ rest)) files
    both world None = refl
    both world (Some files) = refl

    one : (f : Option World)
        → IfSome f (λ world. OnOk result (new ≡ option_map (λ files. with_found files (world.held change.path)) old))
        → IfSome f (λ world. option_map (with_contents world whole) old ≡ option_map (with_contents world all) first)
        → IfSome f (λ world. option_map (with_contents world rest) new ≡ option_map (with_contents world all) first)
    one None h k = tt
    one (Some world) h k =
        ap (option_map (with_contents world rest)) (subst (λ r. OnOk r (new ≡ option_map (λ files. with_found files (world.held change.path)) old)) ok h) ∙ both world old
        ∙ ap (λ cs. option_map (with_contents world cs) old) (sym here) ∙ k

-- the changes from an index on
pub from_index : {R : Type 0} (f : R → SightChange) (xs : List R) (i : ℕ) (d x : R) → i < length xs → x ≡ get_or xs i d
    → map f (drop i xs) ≡ f x ∷ map f (drop (i + 1) xs)
from_index f xs i d x lt is =
    let here : drop i xs ≡ x ∷ drop (i + 1) xs = drop-cons xs i d lt ∙ rw (sym is, add-one i) refl in
    ap (map f) here
