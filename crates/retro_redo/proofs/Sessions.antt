-- The notes of a line leave the sessions, if the line's session exists.
use Rattle.std.proofs.Common.{◌≡◌, ◌∙◌, ◌==◌, ℕ, zero, suc, Bool, true, List, [], ◌∷◌, map, Option, Some, None}
use Rattle.std.proofs.Common.{refl, sym, ap}
use Rattle.std.specs.List.{list_all, slice_get}
use Rattle.std.specs.FinMap as finmap
use Rattle.std.proofs.lemmas.Bool.{eqb-true}
use Rattle.retro_tree.specs.Change.{apply, has_its_session}
use Rattle.retro_tree.specs.Notes.{after}
use Rattle.retro_tree.specs.State.{SameSessions}
use Rattle.retro_tree.specs.declared.change.Change.{Change}
use Rattle.retro_tree.specs.declared.change.Change.TheVariants as changes
use Rattle.retro_tree.specs.declared.note.Note.{Note}
use Rattle.retro_tree.specs.declared.note.Note.TheVariants.{Asked, Made}
use Rattle.retro_tree.specs.declared.state.State.{State}
use Rattle.retro_tree.proofs.KeptSessions.{change_keeps_sessions}
use Rattle.retro_tree.proofs.Small.{first_true, both_true}
use Rattle.retro_local.specs.Trace.{asked_session, changed_session, named_sessions, with_session}
use Rattle.retro_keep.specs.Recording.{are_own, sid_in}
use Rattle.retro_keep.specs.Script.{have_sessions}
use Rattle.retro_redo.proofs.Positions.{Line, not_none}

-- ---- lists

pub all_get : (p : Line → Bool) (lines : List Line) (k : ℕ) (l : Line) → list_all p lines ≡ true
    → slice_get lines k ≡ Some l → p l ≡ true
all_get p [] k l h e = absurd (not_none l e)
all_get p (x ∷ lines) zero l h e =
    let same : x ≡ l = cc in ap p (sym same) ∙ first_true (p x) (list_all p lines) h
all_get p (x ∷ lines) (suc k) l h e = all_get p lines k l (both_true (p x) (list_all p lines) h) e

pub session_get : (s : State) (lines : List Line) (k : ℕ) (l : Line) → have_sessions s (map sid_in lines) ≡ true
    → slice_get lines k ≡ Some l → finmap.contains_key s.sessions l.1.sid ≡ true
session_get s [] k l h e = absurd (not_none l e)
session_get s (x ∷ lines) zero l h e =
    let same : x ≡ l = cc in
    ap (λ (y : Line). finmap.contains_key s.sessions y.1.sid) (sym same)
    ∙ first_true (finmap.contains_key s.sessions x.1.sid) (have_sessions s (map sid_in lines)) h
session_get s (x ∷ lines) (suc k) l h e =
    session_get s lines k l
    (both_true (finmap.contains_key s.sessions x.1.sid) (have_sessions s (map sid_in lines)) h) e

-- ---- notes

rest_own : (sid : ℕ) (named : Option ℕ) (sids : List ℕ) → list_all (λ k. k == sid) (with_session named sids) ≡ true
    → list_all (λ k. k == sid) sids ≡ true
rest_own sid None sids h = h
rest_own sid (Some k) sids h = both_true (k == sid) _ h

has_own : (sid k : ℕ) (sids : List ℕ) (s : State) → list_all (λ n. n == sid) (k ∷ sids) ≡ true
    → finmap.contains_key s.sessions sid ≡ true → finmap.contains_key s.sessions k ≡ true
has_own sid k sids s h has =
    ap (finmap.contains_key s.sessions) (eqb-true k sid (first_true (k == sid) _ h)) ∙ has

has_session : (sid : ℕ) (c : Change) (sids : List ℕ) (s : State)
    → list_all (λ k. k == sid) (with_session (changed_session c) sids) ≡ true
    → finmap.contains_key s.sessions sid ≡ true → has_its_session c s ≡ true
has_session sid (changes.Put p node) sids s h has = refl
has_session sid (changes.Grow p bytes) sids s h has = refl
has_session sid (changes.SetVar k name text) sids s h has = has_own sid k sids s h has
has_session sid (changes.SetCwd k p) sids s h has = has_own sid k sids s h has
has_session sid (changes.SetStatus k status) sids s h has = has_own sid k sids s h has

pub own_notes_keep_sessions : (sid : ℕ) (notes : List Note) (s : State) → are_own sid notes ≡ true
    → finmap.contains_key s.sessions sid ≡ true → SameSessions (after notes s) s
unfolding named_sessions
own_notes_keep_sessions sid [] s h has k = refl
own_notes_keep_sessions sid (Asked a r ∷ notes) s h has k =
    own_notes_keep_sessions sid notes s (rest_own sid (asked_session a) (named_sessions notes) h) has k
own_notes_keep_sessions sid (Made c ∷ notes) s h has k =
    let one = change_keeps_sessions c s (has_session sid c (named_sessions notes) s h has) in
    own_notes_keep_sessions sid notes (apply c s) (rest_own sid (changed_session c) (named_sessions notes) h)
    (one sid ∙ has) k ∙ one k
