-- Failing notes, their queries and the causes of what they answer.
use Rattle.std.proofs.Common.{◌≡◌, ◌↔◌, ℕ, ◌+◌, ◌<◌, ◌≤◌, List, ◌∷◌, Option, Some, None, Result, Ok, Err}
use Rattle.std.proofs.Common.{refl, ap, sym, ◌∙◌, subst, drop, get_or, length}
use Rattle.std.specs.Prelude.{IfOk, IfSome}
use Rattle.std.proofs.lemmas.List.{drop_all, drop_more}
use Rattle.retro_tree.specs.Notes.{Holds}
use Rattle.retro_tree.specs.declared.answer.Answer.{Answer}
use Rattle.retro_tree.specs.declared.ask.Ask.{Ask}
use Rattle.retro_tree.specs.declared.change.Change.{Change}
use Rattle.retro_tree.specs.declared.note.Note.{Note}
use Rattle.retro_tree.specs.declared.note.Note.TheVariants.{Asked, Made}
use Rattle.retro_tree.specs.declared.state.State.{State}
use Rattle.retro_keep.specs.Recording.{RecordingValue}
use Rattle.retro_keep.specs.declared.noted.Noted.{Noted}
use Rattle.retro_redo.specs.declared.repair.Repair.{Repair}
use Rattle.casebook_cause.specs.Cause.{IsAlike, IsCause, notes_of}
use Rattle.casebook_cause.specs.FailingNote.{IsFirstFailing}
use Rattle.casebook_view.specs.Reasons.{IsCauseOf, IsFailing, first_query, query_at}

-- ---- the query of a note

module _ (notes : List Note) (i : ℕ) where
  found : (x d : Note) → i < length notes → x ≡ get_or notes i d → drop i notes ≡ x ∷ drop (i + 1) notes
  found x d lt at = drop_more notes i d lt ∙ ap (λ w. w ∷ drop (i + 1) notes) (sym at)

  pub query_there : (x d : Note) (q : Ask) (a : Answer) → i < length notes → x ≡ get_or notes i d → x ≡ Asked q a
      → query_at i notes ≡ Some q
  query_there x d q a lt at is = ap first_query (found x d lt at ∙ ap (λ w. w ∷ drop (i + 1) notes) is)

  pub query_made : (x d : Note) (c : Change) → i < length notes → x ≡ get_or notes i d → x ≡ Made c
      → query_at i notes ≡ None
  query_made x d c lt at is = ap first_query (found x d lt at ∙ ap (λ w. w ∷ drop (i + 1) notes) is)

  pub query_after : length notes ≤ i → query_at i notes ≡ None
  query_after le = ap first_query (drop_all i notes le)

-- ---- the first note that fails

one_failing : (found : Option ℕ) (notes : List Note) (s : State) → ((found ≡ None) ↔ Holds notes s)
    → IfSome found (λ i. IsFirstFailing i notes s) → IsFailing found notes s
one_failing None notes s none some = none.0 refl
one_failing (Some i) notes s none some = some

first_failing : {E : Type 0} (r : Result (Option ℕ) E) (notes : List Note) (s : State)
    → IfOk r (λ found. (found ≡ None) ↔ Holds notes s)
    → IfOk r (λ found. IfSome found (λ i. IsFirstFailing i notes s))
    → IfOk r (λ found. IsFailing found notes s)
first_failing (Ok found) notes s none some = one_failing found notes s none some
first_failing (Err e) notes s none some = tt

pub failing_at : {E : Type 0} (r : Result (Option ℕ) E) (notes line : List Note) (s t : State) → notes ≡ line → s ≡ t
    → IfOk r (λ found. (found ≡ None) ↔ Holds notes s)
    → IfOk r (λ found. IfSome found (λ i. IsFirstFailing i notes s))
    → IfOk r (λ found. IsFailing found line t)
failing_at r notes line s t same now none some =
    subst (λ u. IfOk r (λ found. IsFailing found line u)) now
    (subst (λ ns. IfOk r (λ found. IsFailing found ns s)) same (first_failing r notes s none some))

pub nothing_fails : (run : Option Noted) (s : State) → None ≡ run → Holds (notes_of run) s
nothing_fails run s is = subst (λ o. Holds (notes_of o) s) is tt

-- ---- causes

one_cause : (r : RecordingValue) (repair : Repair) (n : ℕ) (q : Ask) (cause : Option ℕ)
    → (cause ≡ None → (m : ℕ) → m < n → IsAlike q r repair.recording m)
    → IfSome cause (IsCause q n r repair.recording) → IsCauseOf r repair n (Some q) cause
one_cause r repair n q None none some = none refl
one_cause r repair n q (Some m) none some = some

-- the cause as it is found in recordings that are those of a case
pub cause_in_both : {E : Type 0} (r one two : RecordingValue) (repair : Repair) (n : ℕ) (q : Ask)
    (found : Result (Option ℕ) E) → one ≡ r → two ≡ repair.recording
    → IfOk found (λ cause. cause ≡ None → (m : ℕ) → m < n → IsAlike q one two m)
    → IfOk found (λ cause. IfSome cause (IsCause q n one two)) → IfOk found (IsCauseOf r repair n (Some q))
cause_in_both r one two repair n q (Ok cause) is_r is_repaired none some =
    one_cause r repair n q cause
    (subst (λ t. cause ≡ None → (m : ℕ) → m < n → IsAlike q r t m) is_repaired
    (subst (λ o. cause ≡ None → (m : ℕ) → m < n → IsAlike q o two m) is_r none))
    (subst (λ t. IfSome cause (IsCause q n r t)) is_repaired (subst (λ o. IfSome cause (IsCause q n o two)) is_r some))
cause_in_both r one two repair n q (Err e) is_r is_repaired none some = tt

pub cause_from : {E : Type 0} (r : RecordingValue) (repair : Repair) (n : ℕ) (q : Ask) (query : Option Ask)
    (found : Result (Option ℕ) E) → Some q ≡ query → IfOk found (IsCauseOf r repair n (Some q))
    → IfOk found (IsCauseOf r repair n query)
cause_from r repair n q query found is cause = subst (λ o. IfOk found (IsCauseOf r repair n o)) is cause

pub no_cause : (r : RecordingValue) (repair : Repair) (n : ℕ) (query : Option Ask)
    → None ≡ query → IsCauseOf r repair n query None
no_cause r repair n query is = subst (λ o. IsCauseOf r repair n o None) is refl
