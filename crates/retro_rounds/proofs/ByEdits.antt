-- Met and stale lines, by cases of their edits.
use Rattle.std.proofs.Common.{◌≡◌, ◌⊎◌, inl, inr, ℕ, List, Option, Some, None, refl, subst}
use Rattle.std.specs.Option.{IsSome}
use Rattle.std.proofs.lemmas.Bool.{false≢true}
use Rattle.retro_tree.specs.Notes.{Holds}
use Rattle.retro_tree.specs.declared.note.Note.{Note}
use Rattle.retro_tree.specs.declared.state.State.{State}
use Rattle.retro_keep.specs.Edit.{text_run}
use Rattle.retro_keep.specs.declared.edit.Edit.{Edit}
use Rattle.retro_keep.specs.declared.edit.Edit.TheVariants.{Cancel, Replace}
use Rattle.retro_difference.specs.Meeting.{Met}
use Rattle.retro_redo.specs.Moments.{IsMetBy, IsStaleBy}

module _ (notes : List Note) where
  -- a line that two states meet is met by others, if its notes are
  pub met_along : (e : Option Edit) (s t u v : State) → (Met notes s t → Met notes u v) → IsMetBy e notes s t
      → IsMetBy e notes u v
  met_along None s t u v along met = along met
  met_along (Some (Cancel n)) s t u v along met = met
  met_along (Some (Replace n text)) s t u v along met = tt

  -- a line that is met and that nothing edits
  pub met_unedited : (e : Option Edit) (s t : State) → e ≡ None → IsMetBy e notes s t → Met notes s t
  met_unedited e s t none met = subst (λ x. IsMetBy x notes s t) none met

  -- a repair stops at a met line
  pub met_stop : (e : Option Edit) (s t : State) → IsMetBy e notes s t → IsSome e ⊎ Met notes s t
  met_stop None s t met = inr met
  met_stop (Some (Cancel n)) s t met = absurd met
  met_stop (Some (Replace n text)) s t met = inl refl

  -- a stale line at which a repair stops is met
  pub stop_met : (e : Option Edit) (s t u : State) → IsSome e ⊎ Met notes s t → IsStaleBy e notes u
      → IsMetBy e notes s t
  stop_met None s t u (inl edited) stale = absurd (false≢true edited)
  stop_met None s t u (inr met) stale = met
  stop_met (Some (Cancel n)) s t u stop stale = stale
  stop_met (Some (Replace n text)) s t u stop stale = tt

  -- a met line runs a text
  pub met_runs : (e : Option Edit) (s t : State) (text : List ℕ) → IsMetBy e notes s t → IsSome (text_run e text)
  met_runs None s t text met = refl
  met_runs (Some (Cancel n)) s t text met = absurd met
  met_runs (Some (Replace n new)) s t text met = refl

  -- a line that is stale in one state is so in another, if its notes don't hold there
  pub stale_along : (e : Option Edit) (u v : State) → (Holds notes v → Holds notes u) → IsStaleBy e notes u
      → IsStaleBy e notes v
  stale_along None u v back stale = λ holds. stale (back holds)
  stale_along (Some (Cancel n)) u v back stale = stale
  stale_along (Some (Replace n text)) u v back stale = tt

  -- no line is both kept and stale
  pub fresh_or_stale : (e : Option Edit) (t : State) → e ≡ None → Holds notes t → IsStaleBy e notes t → ⊥
  fresh_or_stale e t none holds stale = subst (λ x. IsStaleBy x notes t) none stale holds
