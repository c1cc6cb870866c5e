-- Commits: writes and their undoing, and removals.
use Rattle.std.proofs.Common.{◌≡◌, true, List, [], ◌∷◌, ◌++◌, reverse, sym, ap, subst, ◌∙◌}
use Rattle.std.proofs.lemmas.List.{reverse-append}
use Rattle.retro_tree.specs.inner.CommitSteps.{undo, can_undo, undo_all, CanUndoAll}
use Rattle.retro_tree.specs.declared.undo.Undo.{Undo}
use Rattle.retro_tree.specs.declared.state.State.{State}

last_first : (us : List Undo) (u : Undo) → reverse (us ++ u ∷ []) ≡ u ∷ reverse us
last_first us u = reverse-append us (u ∷ [])

-- one more write
pub can_more : (us vs : List Undo) (u : Undo) (now before : State) → vs ≡ us ++ u ∷ [] → can_undo u now ≡ true
    → undo u now ≡ before → CanUndoAll (reverse us) before → CanUndoAll (reverse vs) now
can_more us vs u now before more can is rest =
    subst (λ ws. CanUndoAll ws now) (sym (ap reverse more ∙ last_first us u))
    (can, subst (CanUndoAll (reverse us)) (sym is) rest)

pub undo_more : (us vs : List Undo) (u : Undo) (now before : State) → vs ≡ us ++ u ∷ [] → undo u now ≡ before
    → undo_all (reverse vs) now ≡ undo_all (reverse us) before
undo_more us vs u now before more is =
    ap (λ ws. undo_all ws now) (ap reverse more ∙ last_first us u) ∙ ap (undo_all (reverse us)) is

-- the last write undone
pub can_first : (us vs : List Undo) (u : Undo) (now : State) → vs ≡ us ++ u ∷ [] → CanUndoAll (reverse vs) now
    → (can_undo u now ≡ true) × CanUndoAll (reverse us) (undo u now)
can_first us vs u now more can = subst (λ ws. CanUndoAll ws now) (ap reverse more ∙ last_first us u) can

pub ruleset unwinding = (can_more, undo_more, can_first)
