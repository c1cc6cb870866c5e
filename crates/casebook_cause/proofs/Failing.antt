-- The first note that doesn't hold, by the notes before it.
use Rattle.std.proofs.Common.{◌≡◌, ◌≢◌, ◌∙◌, ◌↔◌, ℕ, zero, suc, List, [], ◌∷◌, ◌++◌, take, drop, length}
use Rattle.std.proofs.Common.{refl, sym, ap, subst, arith, add-one, ◌+◌, ◌<◌, get_or, Bool, false, IsTrue}
use Rattle.std.proofs.Common.{Option, Some, None}
use Rattle.std.proofs.lemmas.Bool.{true≢false}
use Rattle.std.proofs.lemmas.List.{drop_more, take-append-drop, take_all}
use Rattle.retro_tree.specs.Ask.{answer}
use Rattle.retro_tree.specs.Change.{apply}
use Rattle.retro_tree.specs.Commit.{committed}
use Rattle.retro_tree.specs.Notes.{after, Holds}
use Rattle.retro_tree.specs.Overlay.{OverlayMap, Overlays}
use Rattle.retro_tree.specs.declared.answer.Answer.{Answer}
use Rattle.retro_tree.specs.declared.ask.Ask.{Ask}
use Rattle.retro_tree.specs.declared.change.Change.{Change}
use Rattle.retro_tree.specs.declared.note.Note.{Note}
use Rattle.retro_tree.specs.declared.note.Note.TheVariants.{Asked, Made}
use Rattle.retro_tree.specs.declared.state.State.{State}
use Rattle.retro_tree.proofs.NoteLaws.{after_append, holds_append}
use Rattle.retro_tree.proofs.Small.{none_some}
use Rattle.casebook_cause.specs.FailingNote.{IsFirstFailing, StartsWrong}

take_next : (i : ℕ) (notes : List Note) (note : Note) (later : List Note) → drop i notes ≡ note ∷ later
    → take (suc i) notes ≡ take i notes ++ note ∷ []
take_next zero [] note later e = cc
take_next zero (first ∷ notes) note later e = let same : first ≡ note = cc in ap (λ n. n ∷ []) same
take_next (suc i) [] note later e = cc
take_next (suc i) (first ∷ notes) note later e = ap (λ ns. first ∷ ns) (take_next i notes note later e)

-- the notes before an index hold, and lead to a state
pub record IsHeld (i : ℕ) (notes : List Note) (s now : State) : Type 0 where
  pub before : Holds (take i notes) s
  pub reached : now ≡ after (take i notes) s

pub held_first : (notes : List Note) (s now : State) → now ≡ s → IsHeld 0 notes s now
held_first notes s now is = record { before = tt; reached = is }

-- a query with the noted answer
pub held_query : (i : ℕ) (notes : List Note) (s now : State) (a : Ask) (r : Answer) (later : List Note)
    → drop i notes ≡ Asked a r ∷ later → answer a now ≡ r → IsHeld i notes s now → IsHeld (i + 1) notes s now
held_query i notes s now a r later is same held =
    let next = ap (λ n. take n notes) (add-one i) ∙ take_next i notes (Asked a r) later is in
    record {
      before = subst (λ ns. Holds ns s) (sym next)
          ((holds_append (take i notes) (Asked a r ∷ []) s).1
          (held.before, (sym (ap (answer a) held.reached) ∙ same, tt)));
      reached = held.reached
          ∙ sym (ap (λ ns. after ns s) next ∙ after_append (take i notes) (Asked a r ∷ []) s);
    }

-- a change
pub held_change : (i : ℕ) (notes : List Note) (s now : State) (c : Change) (later : List Note)
    → drop i notes ≡ Made c ∷ later → IsHeld i notes s now → IsHeld (i + 1) notes s (apply c now)
held_change i notes s now c later is held =
    let next = ap (λ n. take n notes) (add-one i) ∙ take_next i notes (Made c) later is in
    record {
      before = subst (λ ns. Holds ns s) (sym next)
          ((holds_append (take i notes) (Made c ∷ []) s).1 (held.before, tt));
      reached = ap (apply c) held.reached
          ∙ sym (ap (λ ns. after ns s) next ∙ after_append (take i notes) (Made c ∷ []) s);
    }

-- a query with another answer
pub fails_at : (i : ℕ) (notes : List Note) (s now : State) (a : Ask) (r : Answer) (later : List Note)
    → drop i notes ≡ Asked a r ∷ later → ¬ (answer a now ≡ r) → IsHeld i notes s now → IsFirstFailing i notes s
fails_at i notes s now a r later is differs held = record {
  before = held.before;
  fails = subst (λ ns. StartsWrong ns (after (take i notes) s)) (sym is)
      (λ e. differs (ap (answer a) held.reached ∙ e));
}

-- notes that fail don't hold
pub failing_not_held : (i : ℕ) (notes : List Note) (s : State) → IsFirstFailing i notes s → ¬ (Holds notes s)
failing_not_held i notes s failing = λ held.
    starts_wrong (drop i notes) (after (take i notes) s) failing.fails
    ((holds_append (take i notes) (drop i notes) s).0
    (subst (λ ns. Holds ns s) (sym (take-append-drop i notes)) held)).1
  where
    starts_wrong : (rest : List Note) (t : State) → StartsWrong rest t → ¬ (Holds rest t)
    starts_wrong [] t wrong = λ h. wrong
    starts_wrong (Asked a r ∷ rest) t wrong = λ h. wrong h.0
    starts_wrong (Made c ∷ rest) t wrong = λ h. wrong

-- a query that fails first has another answer than where the notes hold
pub answers_differ : (i : ℕ) (notes later : List Note) (q : Ask) (a : Answer) (s t : State) → Holds notes s
    → IsFirstFailing i notes t → drop i notes ≡ Asked q a ∷ later
    → answer q (after (take i notes) s) ≢ answer q (after (take i notes) t)
answers_differ i notes later q a s t held failing is e =
    let wrong : answer q (after (take i notes) t) ≢ a
    = subst (λ ns. StartsWrong ns (after (take i notes) t)) is failing.fails in
    let rest : Holds (Asked q a ∷ later) (after (take i notes) s)
    = subst (λ ns. Holds ns (after (take i notes) s)) is
    ((holds_append (take i notes) (drop i notes) s).0
    (subst (λ ns. Holds ns s) (sym (take-append-drop i notes)) held)).1 in
    wrong (sym e ∙ rest.0)

pub some_fails : (i : ℕ) (notes : List Note) (s : State) → IsFirstFailing i notes s
    → (Some i ≡ None) ↔ Holds notes s
some_fails i notes s failing =
    (λ e. absurd (none_some i (sym e)), λ held. absurd (failing_not_held i notes s failing held))

pub all_held : (i : ℕ) (notes : List Note) (s now : State) → length notes ≡ i → IsHeld i notes s now → Holds notes s
all_held i notes s now all held =
    subst (λ ns. Holds ns s) (ap (λ n. take n notes) (sym all) ∙ take_all (length notes) notes (omega arith))
    held.before

pub none_fails : (i : ℕ) (notes : List Note) (s now : State) → length notes ≡ i → IsHeld i notes s now
    → (◌≡◌ {A = Option ℕ} None None) ↔ Holds notes s
none_fails i notes s now all held = (λ e. all_held i notes s now all held, λ h. refl)

-- ---- the steps of the code

-- the note at an index, and those after it
pub at_index : (i : ℕ) (notes items : List Note) (note given : Note) → items ≡ notes → i < length items
    → note ≡ get_or items i note → note ≡ given → drop i notes ≡ given ∷ drop (i + 1) notes
at_index i notes items note given same below is e =
    ap (drop i) (sym same) ∙ drop_more items i note below ∙ (λ j. (sym is ∙ e) j ∷ drop (i + 1) (same j))

-- a test of an answer that fails
pub differs_by : (test : Bool) (P : Type 0) → IsTrue test ↔ P → test ≡ false → ¬ P
differs_by test P decides e = λ p. true≢false (sym (decides.1 p) ∙ e)

-- a change that is made in the overlay
pub made_in : (s : State) (old new : OverlayMap) (c copy : Change) → copy ≡ c
    → ((below now : State) → Overlays old below now → committed old below ≡ now
    → committed new below ≡ apply copy now)
    → Overlays old s (committed old s) → committed new s ≡ apply c (committed old s)
made_in s old new c copy same made over =
    made s (committed old s) over refl ∙ ap (λ x. apply x (committed old s)) same

pub made_over : (s : State) (old new : OverlayMap) (c copy : Change) → copy ≡ c
    → ((below now : State) → Overlays old below now → Overlays new below (apply copy now))
    → ((below now : State) → Overlays old below now → committed old below ≡ now
    → committed new below ≡ apply copy now)
    → Overlays old s (committed old s) → Overlays new s (committed new s)
made_over s old new c copy same ok made over =
    subst (λ t. Overlays new s t) (sym (made s (committed old s) over refl)) (ok s (committed old s) over)
