-- What a `Local` keeps when one more note is made.
use Rattle.std.proofs.Common.{◌≡◌, ℕ, true, List, [], ◌∷◌, ◌++◌, Option, Some, None, reverse, ap}
use Rattle.std.specs.Prelude.{◌==◌}
use Rattle.std.specs.List.{list_all}
use Rattle.std.proofs.lemmas.Bool.{eq-eqb}
use Rattle.std.proofs.lemmas.List.{reverse-append}
use Rattle.retro_tree.specs.Change.{apply, may_make}
use Rattle.retro_tree.specs.Lawful.{IsLawful}
use Rattle.retro_tree.specs.Overlay.{OverlayMap, Overlays}
use Rattle.retro_tree.specs.declared.answer.Answer.{Answer}
use Rattle.retro_tree.specs.declared.ask.Ask.{Ask}
use Rattle.retro_tree.specs.declared.change.Change.{Change}
use Rattle.retro_tree.specs.declared.note.Note.{Note}
use Rattle.retro_tree.specs.declared.note.Note.TheVariants.{Asked, Made}
use Rattle.retro_tree.specs.declared.state.State.{State}
use Rattle.retro_tree.proofs.Allowed.{kept}
use Rattle.retro_tree.proofs.Small.{and_true, some_same}
use Rattle.retro_local.specs.Trace.{reached, AllHold, AllPass, KeepsLaw, IsEarlier, later, IsOwn}
use Rattle.retro_local.specs.Trace.{asked_session, changed_session, named_sessions, with_session}

pub reverse_push : (notes : List Note) (n : Note) → reverse (notes ++ n ∷ []) ≡ n ∷ reverse notes
reverse_push notes n = reverse-append notes (n ∷ [])

pub later_pushed : (ns ms : List Note) (n : Note) → ms ≡ ns ++ n ∷ []
    → (base : List Note) → IsEarlier base (reverse ns) → IsEarlier base (reverse ms)
later_pushed ns ms n is base e = rw (is, reverse_push ns n) (later n e)

own_more : (sid : ℕ) (named : Option ℕ) (sids : List ℕ) → named ≡ Some sid
    → list_all (λ k. k == sid) sids ≡ true → list_all (λ k. k == sid) (with_session named sids) ≡ true
own_more sid None sids is own = own
own_more sid (Some k) sids is own = and_true _ _ (eq-eqb k sid (some_same k sid is)) own

tree_same : (named : Option ℕ) (sids : List ℕ) → named ≡ None → with_session named sids ≡ sids
tree_same named sids is = ap (λ n. with_session n sids) is

pub own_asked : (sid : ℕ) (ns ms : List Note) (a : Ask) (r : Answer) → ms ≡ ns ++ Asked a r ∷ []
    → asked_session a ≡ Some sid → IsOwn sid (reverse ns) → IsOwn sid (reverse ms)
unfolding named_sessions
own_asked sid ns ms a r is named own =
    rw (is, reverse_push ns (Asked a r)) (own_more sid (asked_session a) (named_sessions (reverse ns)) named own)

pub tree_asked : (ns ms : List Note) (a : Ask) (r : Answer) → ms ≡ ns ++ Asked a r ∷ []
    → asked_session a ≡ None → named_sessions (reverse ms) ≡ named_sessions (reverse ns)
unfolding named_sessions
tree_asked ns ms a r is named =
    rw (is, reverse_push ns (Asked a r)) (tree_same (asked_session a) (named_sessions (reverse ns)) named)

pub own_made : (sid : ℕ) (ns ms : List Note) (c : Change) → ms ≡ ns ++ Made c ∷ []
    → changed_session c ≡ Some sid → IsOwn sid (reverse ns) → IsOwn sid (reverse ms)
unfolding named_sessions
own_made sid ns ms c is named own =
    rw (is, reverse_push ns (Made c)) (own_more sid (changed_session c) (named_sessions (reverse ns)) named own)

pub tree_made : (ns ms : List Note) (c : Change) → ms ≡ ns ++ Made c ∷ []
    → changed_session c ≡ None → named_sessions (reverse ms) ≡ named_sessions (reverse ns)
unfolding named_sessions
tree_made ns ms c is named =
    rw (is, reverse_push ns (Made c)) (tree_same (changed_session c) (named_sessions (reverse ns)) named)

-- changes that pass keep a lawful state lawful
pub lawful_reached : (notes : List Note) (s : State) → IsLawful s → AllPass notes s → IsLawful (reached notes s)
lawful_reached [] s l a = l
lawful_reached (Asked q r ∷ notes) s l a = lawful_reached notes s l a
lawful_reached (Made c ∷ notes) s l a = kept c (reached notes s) (lawful_reached notes s l a.0) a.1

pub stays_lawful : (notes : List Note) → KeepsLaw notes → (s : State) → IsLawful s → AllHold notes s
    → IsLawful (reached notes s)
stays_lawful notes law s l h = lawful_reached notes s l (law s l h)

-- the invariant of a `Local` after a change
pub invariant_made : (ns ms : List Note) (c : Change) (o o' : OverlayMap) (below : State)
    → ms ≡ ns ++ Made c ∷ []
    → AllHold (reverse ns) below × KeepsLaw (reverse ns) × Overlays o below (reached (reverse ns) below)
    → ((s : State) → IsLawful s → AllHold (reverse ns) s → IsLawful (reached (reverse ns) s)
    → may_make c (reached (reverse ns) s) ≡ true)
    → ((under now : State) → Overlays o under now → Overlays o' under (apply c now))
    → AllHold (reverse ms) below × KeepsLaw (reverse ms) × Overlays o' below (reached (reverse ms) below)
invariant_made ns ms c o o' below is keeps may applied =
    rw (is, reverse_push ns (Made c)) (
      keeps.0,
      (λ s l h. (keeps.1 s l h, may s l h (stays_lawful (reverse ns) keeps.1 s l h))),
      applied below (reached (reverse ns) below) keeps.2,
    )

pub ruleset noting = (stays_lawful, later_pushed, own_asked, own_made, tree_asked, tree_made)
