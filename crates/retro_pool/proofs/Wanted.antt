-- Which lines get a job, by their edits.
use Rattle.std.proofs.Common.{◌≡◌, ◌∙◌, ◌↔◌, ℕ, Bool, true, false, not, IsTrue, MatchBool, List, Option, Some, None}
use Rattle.std.proofs.Common.{refl, sym, subst}
use Rattle.std.proofs.lemmas.Bool.{false≢true}
use Rattle.retro_tree.specs.Notes.{Holds}
use Rattle.retro_tree.proofs.Small.{some_same}
use Rattle.retro_keep.specs.Recording.{noted_at}
use Rattle.retro_keep.specs.declared.edit.Edit.{Edit}
use Rattle.retro_keep.specs.declared.edit.Edit.TheVariants.{Replace}
use Rattle.retro_keep.specs.declared.noted.Noted.{Noted}
use Rattle.retro_redo.specs.Ground.{GroundValue, edit_lent, shown_at}
use Rattle.retro_redo.specs.Moments.{IsStaleBy}
use Rattle.retro_pool.specs.Jobs.{IsWanted}

module _ (g : GroundValue) (n : ℕ) (noted : Noted) (here : noted_at n g.recording.lines ≡ Some noted) where
  abbrev IsStaleAs : Option Edit → Type 0
  IsStaleAs e = IsStaleBy e noted.notes (shown_at n g)

  as_stale : IsWanted g n → IsStaleAs (edit_lent g n)
  as_stale wanted =
      let same : wanted.0 ≡ noted = some_same wanted.0 noted (sym wanted.1 ∙ here) in
      subst (λ (x : Noted). IsStaleBy (edit_lent g n) x.notes (shown_at n g)) same wanted.2

  pub wanted_replaced : (m : ℕ) (text : List ℕ) → edit_lent g n ≡ Some (Replace m text) → IsWanted g n
  wanted_replaced m text e = (noted, here, subst IsStaleAs (sym e) tt)

  pub wanted_by_notes : (b : Bool) → edit_lent g n ≡ None → IsTrue b ↔ Holds noted.notes (shown_at n g)
      → MatchBool (not b) (IsWanted g n) (¬ (IsWanted g n))
  wanted_by_notes true e holds = λ wanted. subst IsStaleAs e (as_stale wanted) (holds.0 refl)
  wanted_by_notes false e holds = (noted, here, subst IsStaleAs (sym e) (λ h. false≢true (holds.1 h)))
