-- What an edit makes of a line, by its cases.
use Rattle.std.proofs.Common.{◌≡◌, ◌∙◌, ℕ, Bool, false, Bor, List, Option, Some, None, MatchBool, refl, sym, ap}
use Rattle.std.specs.Option.{IsSome, is_some, option_copied, unwrap_or}
use Rattle.std.proofs.lemmas.Bool.{false≢true}
use Rattle.retro_tree.specs.Notes.{AgreeOn, Holds}
use Rattle.retro_tree.specs.declared.note.Note.{Note}
use Rattle.retro_tree.specs.declared.state.State.{State}
use Rattle.retro_difference.specs.Meeting.{Met}
use Rattle.retro_keep.specs.Edit.{text_run}
use Rattle.retro_keep.specs.declared.edit.Edit.{Edit}
use Rattle.retro_keep.specs.declared.edit.Edit.TheVariants.{Cancel, Replace}
use Rattle.retro_redo.specs.Moments.{IsMetBy, IsStaleBy, IsUnmetBy, new_text, text_now}
use Rattle.retro_redo.specs.inner.Meetings.{is_met_by}
use Rattle.retro_redo.proofs.Positions.{Line}

-- ---- edits that are found

pub none_there : {A : Type 0} (o : Option A) → is_some o ≡ false → o ≡ None
none_there None e = refl
none_there (Some x) e = absurd (false≢true (sym e))

-- what a reference points to, or else another one
pub unwrapped : {A : Type 0} (o : Option (Bor A)) (x : Bor A)
    → (unwrap_or o x).now ≡ unwrap_or (option_copied o) x.now
unwrapped None x = refl
unwrapped (Some y) x = refl

-- ---- texts

-- a line that isn't edited runs its own text
pub own_text : (edit : ℕ → Option Edit) (l : Line) → edit l.0 ≡ None → text_now edit l ≡ Some l.1.text
own_text edit l e = ap (λ (o : Option Edit). text_run o l.1.text) e

-- a stale line runs the text of its new runs
stale_runs : (o : Option Edit) (text : List ℕ) (notes : List Note) (t : State) → IsStaleBy o notes t
    → text_run o text ≡ Some (unwrap_or (text_run o text) text)
stale_runs None text notes t h = refl
stale_runs (Some (Cancel n)) text notes t h = absurd h
stale_runs (Some (Replace n new)) text notes t h = refl

pub stale_text : (edit : ℕ → Option Edit) (l : Line) (t : State) → IsStaleBy (edit l.0) l.1.notes t
    → text_now edit l ≡ Some (new_text edit l)
stale_text edit l t h = stale_runs (edit l.0) l.1.text l.1.notes t h

-- ---- met lines

-- a line is met by its edit, and by whether it uses a cell in which the states differ
pub met_by_edit : (o : Option Edit) (b : Bool) (notes : List Note) (s t : State)
    → MatchBool b (Met notes s t) (AgreeOn notes s t)
    → MatchBool (is_met_by o b) (IsMetBy o notes s t) (IsUnmetBy o notes s t)
met_by_edit None b notes s t h = h
met_by_edit (Some (Cancel n)) b notes s t h = tt
met_by_edit (Some (Replace n text)) b notes s t h = tt

pub not_used : (o : Option Edit) (b : Bool) → o ≡ None → is_met_by o b ≡ false → b ≡ false
not_used o b e h = ap (λ (x : Option Edit). is_met_by x b) (sym e) ∙ h

pub unmet_not_met : (o : Option Edit) (notes : List Note) (s t : State) → IsUnmetBy o notes s t
    → IsMetBy o notes s t → ⊥
unmet_not_met None notes s t agreed met = met.2 (agreed met.0 met.1)
unmet_not_met (Some (Cancel n)) notes s t unmet met = met
unmet_not_met (Some (Replace n text)) notes s t unmet met = unmet

-- ---- lines that aren't cancelled

-- one that isn't met isn't edited
pub unmet_unedited : (o : Option Edit) (text : List ℕ) (notes : List Note) (s t : State) → IsSome (text_run o text)
    → IsUnmetBy o notes s t → (o ≡ None) × AgreeOn notes s t
unmet_unedited None text notes s t runs agreed = (refl, agreed)
unmet_unedited (Some (Cancel n)) text notes s t runs unmet = absurd (false≢true runs)
unmet_unedited (Some (Replace n new)) text notes s t runs unmet = absurd unmet

-- one that can't be kept is stale
pub stale_unless_kept : (o : Option Edit) (text : List ℕ) (notes : List Note) (t : State) → IsSome (text_run o text)
    → ((o ≡ None) × Holds notes t → ⊥) → IsStaleBy o notes t
stale_unless_kept None text notes t runs other = λ holds. other (refl, holds)
stale_unless_kept (Some (Cancel n)) text notes t runs other = absurd (false≢true runs)
stale_unless_kept (Some (Replace n new)) text notes t runs other = tt
