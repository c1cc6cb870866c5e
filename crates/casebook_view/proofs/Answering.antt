-- Answers after the changes of notes.
use Rattle.std.proofs.Common.{◌≡◌, ℕ, ◌+◌, ◌<◌, ◌≤◌, List, [], ◌∷◌, ◌++◌, Some, None, Result, Ok, Err}
use Rattle.std.proofs.Common.{ap, sym, ◌∙◌, drop, take, get_or, length}
use Rattle.std.specs.Prelude.{IfOk}
use Rattle.std.proofs.lemmas.List.{drop_all, drop_more, take_more}
use Rattle.retro_tree.specs.Ask.{answer}
use Rattle.retro_tree.specs.Notes.{after}
use Rattle.retro_tree.specs.Overlay.{OverlayMap, Overlays}
use Rattle.retro_tree.specs.declared.answer.Answer.{Answer}
use Rattle.retro_tree.specs.declared.ask.Ask.{Ask}
use Rattle.retro_tree.specs.declared.change.Change.{Change}
use Rattle.retro_tree.specs.declared.note.Note.{Note}
use Rattle.retro_tree.specs.declared.note.Note.TheVariants.{Asked, Made}
use Rattle.retro_tree.specs.declared.state.State.{State}
use Rattle.retro_tree.proofs.NoteLaws.{after_append}
use Rattle.casebook_view.specs.OtherAnswers.{answers_in, answers_to, first_answers}

-- one more note
pub after_more : (notes : List Note) (i : ℕ) (x : Note) (s : State) → i < length notes → x ≡ get_or notes i x
    → after (x ∷ []) (after (take i notes) s) ≡ after (take (i + 1) notes) s
after_more notes i x s lt at =
    sym (ap (λ ns. after ns s) (take_more notes i x lt ∙ ap (λ t. take i notes ++ t ∷ []) (sym at))
    ∙ after_append (take i notes) (x ∷ []) s)

-- the answer in the combined state
pub answered : {E : Type 0} (r : Result Answer E) (overlay : OverlayMap) (below now : State) (q : Ask)
    → IfOk r (λ a. (n : State) → Overlays overlay below n → a ≡ answer q n) → Overlays overlay below now
    → IfOk r (λ a. a ≡ answer q now)
answered (Ok a) overlay below now q is over = is now over
answered (Err e) overlay below now q is over = tt

-- ---- the note at an index

module _ (notes : List Note) (i : ℕ) (s : State) where
  at_note : (x : Note) → i < length notes → x ≡ get_or notes i x → drop i notes ≡ x ∷ drop (i + 1) notes
  at_note x lt at = drop_more notes i x lt ∙ ap (λ w. w ∷ drop (i + 1) notes) (sym at)

  pub answers_there : (x : Note) (q : Ask) (a : Answer) → i < length notes → x ≡ get_or notes i x → x ≡ Asked q a
      → answers_in i notes s ≡ Some (answers_to q a (after (take i notes) s))
  answers_there x q a lt at is =
      ap (λ ns. first_answers ns (after (take i notes) s)) (at_note x lt at ∙ ap (λ w. w ∷ drop (i + 1) notes) is)

  pub answers_made : (x : Note) (c : Change) → i < length notes → x ≡ get_or notes i x → x ≡ Made c
      → answers_in i notes s ≡ None
  answers_made x c lt at is =
      ap (λ ns. first_answers ns (after (take i notes) s)) (at_note x lt at ∙ ap (λ w. w ∷ drop (i + 1) notes) is)

  pub answers_after : length notes ≤ i → answers_in i notes s ≡ None
  answers_after le = ap (λ ns. first_answers ns (after (take i notes) s)) (drop_all i notes le)

pub ruleset at_index = (answers_there, answers_made, answers_after)
