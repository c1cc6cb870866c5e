-- The lines as chosen make a recording, if no kept line changes a path near an altered one.
use Rattle.std.proofs.Common.{◌≡◌, ◌∙◌, ℕ, false, List, [], ◌∷◌, ◌++◌, Option, map, refl, sym, ap, IsTrue, nat_lt}
use Rattle.std.specs.BTreeMap.{is_at}
use Rattle.std.specs.FinMap as finmap
use Rattle.std.specs.List.{list_all, list_any}
use Rattle.std.proofs.lemmas.Bool.{ltb-true}
use Rattle.retro_tree.specs.Lawful.{IsLawful}
use Rattle.retro_tree.specs.Notes.{AllAllowed, after}
use Rattle.retro_tree.specs.Order.{path_cmp}
use Rattle.retro_tree.specs.Path.{PathValue}
use Rattle.retro_tree.specs.State.{SameSessions}
use Rattle.retro_tree.specs.declared.state.State.{State}
use Rattle.retro_tree.proofs.KeptSessions.{notes_keep_sessions}
use Rattle.retro_tree.proofs.NoteLaws.{lawful_after}
use Rattle.retro_tree.proofs.Small.{and_true, both_true, first_true}
use Rattle.retro_shell.specs.Runs.{RunValue}
use Rattle.retro_keep.specs.Recording.{AllLinesAllowed, IsWellFormed, RecordingValue}
use Rattle.retro_keep.specs.Recording.{is_line_of_kind, is_own_line, number_in, sid_in}
use Rattle.retro_keep.specs.Script.{have_sessions, rises_from}
use Rattle.retro_keep.specs.declared.edit.Edit.{Edit}
use Rattle.retro_keep.proofs.Recorded.{held_of_kind, known_after}
use Rattle.retro_redo.specs.inner.Altered.{altered_paths, changed_paths, has_path, is_near}
use Rattle.retro_redo.specs.inner.Altered.{kept_paths, keeps_near}
use Rattle.retro_redo.specs.Progress.{Settles, lines_chosen}
use Rattle.retro_redo.specs.Settled.{recording_chosen}
use Rattle.retro_redo.specs.declared.step.Step.{Step}
use Rattle.retro_redo.specs.declared.step.Step.TheVariants.{Cancel, Keep, Take}
use Rattle.retro_redo.proofs.Altered.{Agree, agree_after, allowed_too, node_unchanged}
use Rattle.retro_redo.proofs.AlteredPaths.{any_append, first_none, rest_none}
use Rattle.retro_redo.proofs.Choices.{chosen_from}
use Rattle.retro_redo.proofs.Finishing.{rises_from_less}
use Rattle.retro_redo.proofs.Positions.{Line}

-- ---- numbers, sessions and notes

chosen_rise : (n : ℕ) (lines : List Line) (steps : List Step) → IsTrue (rises_from n (map number_in lines))
    → IsTrue (rises_from n (map number_in (lines_chosen lines steps)))
chosen_rise n [] steps rising = refl
chosen_rise n (l ∷ lines) [] rising = refl
chosen_rise n (l ∷ lines) (Cancel ∷ steps) rising =
    rises_from_less n l.0 _ (ltb-true n l.0 (first_true (nat_lt n l.0) _ rising))
    (chosen_rise l.0 lines steps (both_true (nat_lt n l.0) _ rising))
chosen_rise n (l ∷ lines) (Keep ∷ steps) rising =
    and_true _ _ (first_true (nat_lt n l.0) _ rising) (chosen_rise l.0 lines steps (both_true (nat_lt n l.0) _ rising))
chosen_rise n (l ∷ lines) (Take run ∷ steps) rising =
    and_true _ _ (first_true (nat_lt n l.0) _ rising) (chosen_rise l.0 lines steps (both_true (nat_lt n l.0) _ rising))

-- each line as chosen is of a session that exists, and names no other
record AreOwn (first : State) (lines : List Line) : Type 0 where
  known : IsTrue (have_sessions first (map sid_in lines))
  own : IsTrue (list_all is_own_line lines)

rest_own : (first : State) (l : Line) (lines : List Line) → AreOwn first (l ∷ lines) → AreOwn first lines
rest_own first l lines h = record {
  known = both_true (finmap.contains_key first.sessions l.1.sid) _ h.known;
  own = both_true (is_own_line l) _ h.own;
}

chosen_own : (edit : ℕ → Option Edit) (first : State) (lines : List Line) (steps : List Step) (s t : State)
    → Settles edit lines steps s t → AreOwn first lines → AreOwn first (lines_chosen lines steps)
chosen_own edit first [] steps s t settles h = record { known = refl; own = refl }
chosen_own edit first (l ∷ lines) [] s t settles h = record { known = refl; own = refl }
chosen_own edit first (l ∷ lines) (Cancel ∷ steps) s t settles h =
    chosen_own edit first lines steps _ _ settles.2 (rest_own first l lines h)
chosen_own edit first (l ∷ lines) (Keep ∷ steps) s t settles h =
    let rest = chosen_own edit first lines steps _ _ settles.2 (rest_own first l lines h) in
    record {
      known = and_true _ _ (first_true (finmap.contains_key first.sessions l.1.sid) _ h.known) rest.known;
      own = and_true _ _ (first_true (is_own_line l) _ h.own) rest.own;
    }
chosen_own edit first (l ∷ lines) (Take run ∷ steps) s t settles h =
    let rest = chosen_own edit first lines steps _ _ settles.2 (rest_own first l lines h) in
    record {
      known = and_true _ _ (ap (finmap.contains_key first.sessions) settles.0.1.0
          ∙ first_true (finmap.contains_key first.sessions l.1.sid) _ h.known) rest.known;
      own = and_true _ _ settles.1.own rest.own;
    }

-- ---- changes

-- what holds before the lines from one on, of the paths that all lines alter
record IsAhead (altered : List PathValue) (lines : List Line) (steps : List Step) (s t : State) : Type 0 where
  agree : Agree altered s t
  sessions : SameSessions s t
  lawful : IsLawful t
  known : IsTrue (have_sessions t (map sid_in lines))
  allowed : AllLinesAllowed lines s
  of_kind : IsTrue (list_all is_line_of_kind lines)
  among : (p : PathValue) → has_path p altered ≡ false → has_path p (altered_paths lines steps) ≡ false
  far : list_any (is_near altered) (kept_paths lines steps) ≡ false

record IsAllowed (lines : List Line) (t : State) : Type 0 where
  allowed : AllLinesAllowed lines t
  of_kind : IsTrue (list_all is_line_of_kind lines)

-- a path that isn't altered is in neither of two parts of the altered paths
first_apart : (altered xs ys : List PathValue)
    → ((p : PathValue) → has_path p altered ≡ false → has_path p (xs ++ ys) ≡ false)
    → (p : PathValue) → has_path p altered ≡ false → has_path p xs ≡ false
first_apart altered xs ys among p e =
    first_none (has_path p xs) _ (sym (any_append (is_at (path_cmp p)) xs ys) ∙ among p e)

rest_apart : (altered xs ys : List PathValue)
    → ((p : PathValue) → has_path p altered ≡ false → has_path p (xs ++ ys) ≡ false)
    → (p : PathValue) → has_path p altered ≡ false → has_path p ys ≡ false
rest_apart altered xs ys among p e =
    rest_none (has_path p xs) _ (sym (any_append (is_at (path_cmp p)) xs ys) ∙ among p e)

after_cancelled : (altered : List PathValue) (l : Line) (lines : List Line) (steps : List Step) (s t : State)
    → IsAhead altered (l ∷ lines) (Cancel ∷ steps) s t → IsAhead altered lines steps (after l.1.notes s) t
after_cancelled altered l lines steps s t h =
    let apart = first_apart altered (changed_paths l.1.notes) (altered_paths lines steps) h.among in
    record {
      agree = λ p e. node_unchanged l.1.notes p s (apart p e) ∙ h.agree p e;
      sessions = λ k. notes_keep_sessions l.1.notes s h.allowed.0 k ∙ h.sessions k;
      lawful = h.lawful;
      known = both_true (finmap.contains_key t.sessions l.1.sid) _ h.known;
      allowed = h.allowed.1;
      of_kind = both_true (is_line_of_kind l) _ h.of_kind;
      among = rest_apart altered (changed_paths l.1.notes) (altered_paths lines steps) h.among;
      far = h.far;
    }

kept_allowed : (altered : List PathValue) (l : Line) (lines : List Line) (steps : List Step) (s t : State)
    → IsAhead altered (l ∷ lines) (Keep ∷ steps) s t → AllAllowed l.1.notes t
kept_allowed altered l lines steps s t h =
    allowed_too altered l.1.notes s t h.agree h.sessions h.lawful
    (first_none (list_any (is_near altered) (changed_paths l.1.notes)) _
    (sym (any_append (is_near altered) (changed_paths l.1.notes) (kept_paths lines steps)) ∙ h.far)) h.allowed.0

after_kept : (altered : List PathValue) (l : Line) (lines : List Line) (steps : List Step) (s t : State)
    → IsAhead altered (l ∷ lines) (Keep ∷ steps) s t → AllAllowed l.1.notes t
    → IsAhead altered lines steps (after l.1.notes s) (after l.1.notes t)
after_kept altered l lines steps s t h allowed = record {
  agree = agree_after altered l.1.notes s t h.agree;
  sessions = λ k. notes_keep_sessions l.1.notes s h.allowed.0 k ∙ h.sessions k
      ∙ sym (notes_keep_sessions l.1.notes t allowed k);
  lawful = lawful_after l.1.notes t h.lawful allowed;
  known = known_after l.1.notes t (map sid_in lines) allowed
      (both_true (finmap.contains_key t.sessions l.1.sid) _ h.known);
  allowed = h.allowed.1;
  of_kind = both_true (is_line_of_kind l) _ h.of_kind;
  among = h.among;
  far = rest_none (list_any (is_near altered) (changed_paths l.1.notes)) _
      (sym (any_append (is_near altered) (changed_paths l.1.notes) (kept_paths lines steps)) ∙ h.far);
}

after_taken : (altered : List PathValue) (l : Line) (run : RunValue) (lines : List Line) (steps : List Step)
    (s t : State) → IsAhead altered (l ∷ lines) (Take run ∷ steps) s t → AllAllowed run.notes t
    → IsAhead altered lines steps (after l.1.notes s) (after run.notes t)
after_taken altered l run lines steps s t h allowed =
    let old = changed_paths l.1.notes in
    let new = changed_paths run.notes in
    let both = first_apart altered (old ++ new) (altered_paths lines steps) h.among in
    record {
      agree = λ p e.
          node_unchanged l.1.notes p s (first_apart altered old new both p e)
          ∙ h.agree p e ∙ sym (node_unchanged run.notes p t (rest_apart altered old new both p e));
      sessions = λ k. notes_keep_sessions l.1.notes s h.allowed.0 k ∙ h.sessions k
          ∙ sym (notes_keep_sessions run.notes t allowed k);
      lawful = lawful_after run.notes t h.lawful allowed;
      known = known_after run.notes t (map sid_in lines) allowed
          (both_true (finmap.contains_key t.sessions l.1.sid) _ h.known);
      allowed = h.allowed.1;
      of_kind = both_true (is_line_of_kind l) _ h.of_kind;
      among = rest_apart altered (old ++ new) (altered_paths lines steps) h.among;
      far = h.far;
    }

chosen_allowed : (edit : ℕ → Option Edit) (altered : List PathValue) (lines : List Line) (steps : List Step) (s t : State)
    → Settles edit lines steps s t → IsAhead altered lines steps s t
    → IsAllowed (lines_chosen lines steps) t
chosen_allowed edit altered [] steps s t settles h = record { allowed = tt; of_kind = refl }
chosen_allowed edit altered (l ∷ lines) [] s t settles h = record { allowed = tt; of_kind = refl }
chosen_allowed edit altered (l ∷ lines) (Cancel ∷ steps) s t settles h =
    chosen_allowed edit altered lines steps (after l.1.notes s) t settles.2
    (after_cancelled altered l lines steps s t h)
chosen_allowed edit altered (l ∷ lines) (Keep ∷ steps) s t settles h =
    let allowed = kept_allowed altered l lines steps s t h in
    let rest = chosen_allowed edit altered lines steps (after l.1.notes s) (after l.1.notes t) settles.2
    (after_kept altered l lines steps s t h allowed) in
    record {
      allowed = (allowed, rest.allowed);
      of_kind = and_true _ _ (first_true (is_line_of_kind l) _ h.of_kind) rest.of_kind;
    }
chosen_allowed edit altered (l ∷ lines) (Take run ∷ steps) s t settles h =
    let has = ap (finmap.contains_key t.sessions) settles.0.1.0
    ∙ first_true (finmap.contains_key t.sessions l.1.sid) _ h.known in
    let allowed : AllAllowed run.notes t = settles.1.certified.allowed t h.lawful has settles.0.2 in
    let rest = chosen_allowed edit altered lines steps (after l.1.notes s) (after run.notes t) settles.2
    (after_taken altered l run lines steps s t h allowed) in
    record {
      allowed = (allowed, rest.allowed);
      of_kind = and_true _ _ (held_of_kind run.notes t settles.0.2) rest.of_kind;
    }

-- ---- the recording

pub recording_far : (edit : ℕ → Option Edit) (r : RecordingValue) (steps : List Step) → IsWellFormed r
    → Settles edit r.lines steps r.first r.first → keeps_near r.lines steps ≡ false
    → IsWellFormed (recording_chosen r steps)
recording_far edit r steps w settles far =
    let named = chosen_own edit r.first r.lines steps r.first r.first settles
    (record { known = w.known; own = w.own }) in
    let changes = chosen_allowed edit (altered_paths r.lines steps) r.lines steps r.first r.first settles (record {
      agree = λ p e. refl;
      sessions = λ k. refl;
      lawful = w.lawful;
      known = w.known;
      allowed = w.allowed;
      of_kind = w.of_kind;
      among = λ p e. e;
      far = far;
    }) in
    record {
      lawful = w.lawful;
      begins = w.begins;
      rising = chosen_rise 0 r.lines steps w.rising;
      not_before = chosen_from r.from r.lines steps w.not_before;
      known = named.known;
      own = named.own;
      of_kind = changes.of_kind;
      allowed = changes.allowed;
    }
