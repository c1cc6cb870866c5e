-- The texts of told lines are recorded, one after the other.
use Rattle.std.proofs.Common.{◌≡◌, ◌∙◌, ℕ, ◌+◌, Bool, true, refl, sym, ap, subst, List, [], ◌∷◌}
use Rattle.std.proofs.Common.{◌++◌, map, ◌==◌, Option, Some, None, lt-ltb, arith}
use Rattle.std.proofs.lemmas.List.Elements.{All-head, All-tail}
use Rattle.std.specs.Prelude.{All, IsTrue, flat_map}
use Rattle.std.specs.List.{list_all}
use Rattle.std.specs.FinMap as finmap
use Rattle.retro_tree.specs.Lawful.{IsLawful}
use Rattle.retro_tree.specs.Notes.{AllAllowed, Holds, after}
use Rattle.retro_tree.specs.declared.note.Note.{Note}
use Rattle.retro_tree.specs.declared.state.State.{State}
use Rattle.retro_tree.proofs.Small.{and_true, both_true, first_true}
use Rattle.retro_local.specs.Trace.{IsOwn, asked_session, named_sessions, with_session}
use Rattle.retro_shell.specs.Line.{line}
use Rattle.retro_shell.specs.Runs.{IsRun, RunValue}
use Rattle.retro_keep.specs.Recording.{AllRecorded, IsRecorded, IsWellFormed, last_state, noted_of}
use Rattle.retro_keep.specs.Recording.{script_line}
use Rattle.retro_keep.specs.Script.{have_sessions, number_of, rises_from, sid_of}
use Rattle.retro_keep.specs.declared.noted.Noted.{Noted}
use Rattle.retro_keep.proofs.Recorded.{whole_well_formed}
use Rattle.casebook_needs.specs.Needs.{note_of}
use Rattle.casebook_needs.specs.declared.need.Need.{Need}
use Rattle.casebook_stand_in.specs.Texts.{IsRunIn, Lead}
use Rattle.casebook_explain.specs.Noting.{first_with_needs, needs_noted, numbered, recorded_lines}
use Rattle.casebook_explain.specs.Noting.{texts_of, with_needs}
use Rattle.casebook_explain.specs.inner.Sound.{AreRuns, AreSound, HaveRuns, after_lines}
use Rattle.casebook_explain.specs.inner.Sound.{after_runs, sessions_of}
use Rattle.casebook_explain.specs.declared.noting.Noting.{Noting}
use Rattle.casebook_explain.specs.declared.noting.Noting.TheVariants.{RunsAlone, WithNeeds}
use Rattle.casebook_explain.specs.declared.told.ToldLine.{ToldLine}

-- ---- needs before notes

abbrev needing : List Need → List Note → List Note
needing needs notes = map note_of needs ++ notes

holds_with : (needs : List Need) (notes : List Note) (s : State) → Holds (map note_of needs) s
    → Holds notes s → Holds (needing needs notes) s
holds_with [] notes s h k = k
holds_with (need ∷ needs) notes s h k = (h.0, holds_with needs notes s h.1 k)

rest_holds : (needs : List Need) (notes : List Note) (s : State) → Holds (needing needs notes) s
    → Holds notes s
rest_holds [] notes s h = h
rest_holds (need ∷ needs) notes s h = rest_holds needs notes s h.1

same_after : (needs : List Need) (notes : List Note) (s : State)
    → after (needing needs notes) s ≡ after notes s
same_after [] notes s = refl
same_after (need ∷ needs) notes s = same_after needs notes s

same_allowed : (needs : List Need) (notes : List Note) (s : State) → AllAllowed notes s
    → AllAllowed (needing needs notes) s
same_allowed [] notes s h = h
same_allowed (need ∷ needs) notes s h = same_allowed needs notes s h

abbrev pub owns : ℕ → List ℕ → Bool
owns sid sids = list_all (λ k. k == sid) sids

pub owns_both : (sid : ℕ) (named : Option ℕ) (sids : List ℕ)
    → owns sid (with_session named sids) ≡ true → owns sid sids ≡ true
owns_both sid None sids h = h
owns_both sid (Some k) sids h = both_true (k == sid) _ h

pub owns_same : (sid : ℕ) (named : Option ℕ) (xs ys : List ℕ)
    → owns sid (with_session named xs) ≡ true → owns sid ys ≡ true
    → owns sid (with_session named ys) ≡ true
owns_same sid None xs ys h own = own
owns_same sid (Some k) xs ys h own = and_true _ _ (first_true (k == sid) _ h) own

own_with : (sid : ℕ) (needs : List Need) (notes : List Note) → IsOwn sid (map note_of needs)
    → IsOwn sid notes → IsOwn sid (needing needs notes)
unfolding named_sessions
own_with sid [] notes h k = k
own_with sid (need ∷ needs) notes h k =
    owns_same sid (asked_session need.ask) (named_sessions (map note_of needs))
    (named_sessions (needing needs notes)) h
    (own_with sid needs notes
    (owns_both sid (asked_session need.ask) (named_sessions (map note_of needs)) h) k)

abbrev run_with : List Need → RunValue → RunValue
run_with needs run =
    record { sid = run.sid; text = run.text; notes = needing needs run.notes; output = run.output }

run_needs : (needs : List Need) (run : RunValue) → IsOwn run.sid (map note_of needs) → IsRun run
    → IsRun (run_with needs run)
run_needs needs run own is = record {
  certified = record {
    allowed = λ s lawful has holds. same_allowed needs run.notes s
        (is.certified.allowed s lawful has (rest_holds needs run.notes s holds));
    means = λ s lawful has holds. is.certified.means s lawful has (rest_holds needs run.notes s holds)
        ∙ ap (λ (t : State). (t, run.output)) (sym (same_after needs run.notes s));
  };
  own = own_with run.sid needs run.notes own is.own;
}

-- ---- texts

abbrev AllTexts : List Noted → State → Type 0
AllTexts [] s = Unit {0}
AllTexts (text ∷ texts) s = IsRecorded text s × AllTexts texts (after text.notes s)

abbrev after_texts : List Noted → State → State
after_texts [] s = s
after_texts (text ∷ texts) s = after_texts texts (after text.notes s)

texts_in_turn : (xs ys : List Noted) (s : State) → AllTexts xs s → AllTexts ys (after_texts xs s)
    → AllTexts (xs ++ ys) s
texts_in_turn [] ys s h k = k
texts_in_turn (x ∷ xs) ys s h k = (h.0, texts_in_turn xs ys (after x.notes s) h.1 k)

after_in_turn : (xs ys : List Noted) (s : State)
    → after_texts (xs ++ ys) s ≡ after_texts ys (after_texts xs s)
after_in_turn [] ys s = refl
after_in_turn (x ∷ xs) ys s = after_in_turn xs ys (after x.notes s)

run_recorded : (sid : ℕ) (run : RunValue) (s : State) → IsRun run → IsRunIn sid s run
    → IsRecorded (noted_of run) s
run_recorded sid run s is here = record {
  run = is;
  holds = here.holds;
  means = ap (λ k. line k run.text s) here.session ∙ here.means;
}

needed_recorded : (sid : ℕ) (needs : List Need) (run : RunValue) (s : State) → IsRun run
    → IsRunIn sid s run → Holds (map note_of needs) s → IsOwn sid (map note_of needs)
    → IsRecorded (with_needs needs (noted_of run)) s
needed_recorded sid needs run s is here hold own = record {
  run =
      run_needs needs run (subst (λ k. IsOwn k (map note_of needs)) (sym here.session) own) is;
  holds = holds_with needs run.notes s hold here.holds;
  means = ap (λ k. line k run.text s) here.session ∙ here.means
      ∙ ap (λ (t : State). (t, run.output)) (sym (same_after needs run.notes s));
}

runs_recorded : (sid : ℕ) (runs : List RunValue) (s t : State) → All IsRun runs
    → Lead sid runs s t → AllTexts (map noted_of runs) s
runs_recorded sid [] s t are lead = tt
runs_recorded sid (run ∷ runs) s t are lead = (
  run_recorded sid run s (All-head IsRun run runs are) lead.0,
  runs_recorded sid runs (after run.notes s) t (All-tail IsRun run runs are) lead.1,
)

after_of_runs : (runs : List RunValue) (s : State)
    → after_texts (map noted_of runs) s ≡ after_runs runs s
after_of_runs [] s = refl
after_of_runs (run ∷ runs) s = after_of_runs runs (after run.notes s)

line_recorded : (sid : ℕ) (needs : List Need) (runs : List RunValue) (s t : State)
    → All IsRun runs → Lead sid runs s t → Holds (map note_of needs) s
    → IsOwn sid (map note_of needs)
    → AllTexts (first_with_needs needs (map noted_of runs)) s
line_recorded sid needs [] s t are lead hold own = tt
line_recorded sid needs (run ∷ runs) s t are lead hold own = (
  needed_recorded sid needs run s (All-head IsRun run runs are) lead.0 hold own,
  subst (AllTexts (map noted_of runs)) (sym (same_after needs run.notes s))
      (runs_recorded sid runs (after run.notes s) t (All-tail IsRun run runs are) lead.1),
)

after_line : (needs : List Need) (runs : List RunValue) (s : State)
    → after_texts (first_with_needs needs (map noted_of runs)) s ≡ after_runs runs s
after_line needs [] s = refl
after_line needs (run ∷ runs) s =
    ap (after_texts (map noted_of runs)) (same_after needs run.notes s)
    ∙ after_of_runs runs (after run.notes s)

-- ---- needs that are left out

noted_hold : (noting : Noting) (needs : List Need) (s : State) → Holds (map note_of needs) s
    → Holds (map note_of (needs_noted noting needs)) s
noted_hold WithNeeds needs s h = h
noted_hold RunsAlone needs s h = tt

noted_own : (noting : Noting) (sid : ℕ) (needs : List Need) → IsOwn sid (map note_of needs)
    → IsOwn sid (map note_of (needs_noted noting needs))
unfolding named_sessions
noted_own WithNeeds sid needs own = own
noted_own RunsAlone sid needs own = refl

-- ---- lines

abbrev LineRuns : ToldLine → Type 0
LineRuns told = AreRuns told.runs.items

all_recorded : (noting : Noting) (lines : List ToldLine) (s : State) → All LineRuns lines
    → AreSound lines s → AllTexts (flat_map (texts_of noting) lines) s
all_recorded noting [] s are sound = tt
all_recorded noting (told ∷ lines) s are sound =
    let needs = needs_noted noting told.needs.items in
    texts_in_turn (texts_of noting told) (flat_map (texts_of noting) lines) s
    (line_recorded told.session needs told.runs.items s _ (All-head LineRuns told lines are).are sound.0.leads
    (noted_hold noting told.needs.items s sound.0.hold)
    (noted_own noting told.session told.needs.items sound.0.own))
    (subst (AllTexts (flat_map (texts_of noting) lines)) (sym (after_line needs told.runs.items s))
    (all_recorded noting lines (after_runs told.runs.items s) (All-tail LineRuns told lines are)
    sound.1))

all_after : (noting : Noting) (lines : List ToldLine) (s : State)
    → after_texts (flat_map (texts_of noting) lines) s ≡ after_lines lines s
all_after noting [] s = refl
all_after noting (told ∷ lines) s =
    after_in_turn (texts_of noting told) (flat_map (texts_of noting) lines) s
    ∙ ap (after_texts (flat_map (texts_of noting) lines))
    (after_line (needs_noted noting told.needs.items) told.runs.items s)
    ∙ all_after noting lines (after_runs told.runs.items s)

-- ---- numbers

numbered_recorded : (n : ℕ) (texts : List Noted) (s : State) → AllTexts texts s
    → AllRecorded (numbered n texts) s
numbered_recorded n [] s h = tt
numbered_recorded n (text ∷ texts) s h =
    (h.0, numbered_recorded (n + 1) texts (after text.notes s) h.1)

numbered_last : (n : ℕ) (texts : List Noted) (s : State)
    → last_state (numbered n texts) s ≡ after_texts texts s
numbered_last n [] s = refl
numbered_last n (text ∷ texts) s = numbered_last (n + 1) texts (after text.notes s)

numbers_rise : (n : ℕ) (texts : List Noted)
    → rises_from n (map number_of (map script_line (numbered (n + 1) texts))) ≡ true
numbers_rise n [] = refl
numbers_rise n (text ∷ texts) =
    and_true _ _ (lt-ltb n (n + 1) (omega arith)) (numbers_rise (n + 1) texts)

-- ---- sessions

abbrev sids_of : List Noted → List ℕ
sids_of texts = map (λ text. text.sid) texts

numbered_sids : (n : ℕ) (texts : List Noted)
    → map sid_of (map script_line (numbered n texts)) ≡ sids_of texts
numbered_sids n [] = refl
numbered_sids n (text ∷ texts) = ap (λ sids. text.sid ∷ sids) (numbered_sids (n + 1) texts)

known_in_turn : (p : ℕ → Bool) (xs ys : List Noted) → list_all p (sids_of xs) ≡ true
    → list_all p (sids_of ys) ≡ true → list_all p (sids_of (xs ++ ys)) ≡ true
known_in_turn p [] ys h k = k
known_in_turn p (x ∷ xs) ys h k =
    and_true (p x.sid) _ (first_true (p x.sid) _ h)
    (known_in_turn p xs ys (both_true (p x.sid) _ h) k)

runs_known : (p : ℕ → Bool) (sid : ℕ) (runs : List RunValue) (s t : State) → p sid ≡ true
    → Lead sid runs s t → list_all p (sids_of (map noted_of runs)) ≡ true
runs_known p sid [] s t known lead = refl
runs_known p sid (run ∷ runs) s t known lead =
    and_true (p run.sid) _ (ap p lead.0.session ∙ known)
    (runs_known p sid runs (after run.notes s) t known lead.1)

first_sids : (needs : List Need) (texts : List Noted)
    → sids_of (first_with_needs needs texts) ≡ sids_of texts
first_sids needs [] = refl
first_sids needs (text ∷ texts) = refl

all_known : (noting : Noting) (p : ℕ → Bool) (lines : List ToldLine) (s : State)
    → list_all p (sessions_of lines) ≡ true → AreSound lines s
    → list_all p (sids_of (flat_map (texts_of noting) lines)) ≡ true
all_known noting p [] s known sound = refl
all_known noting p (told ∷ lines) s known sound =
    known_in_turn p (texts_of noting told) (flat_map (texts_of noting) lines)
    (ap (list_all p)
    (first_sids (needs_noted noting told.needs.items) (map noted_of told.runs.items))
    ∙ runs_known p told.session told.runs.items s _ (first_true (p told.session) _ known)
    sound.0.leads)
    (all_known noting p lines (after_runs told.runs.items s) (both_true (p told.session) _ known)
    sound.1)

-- ---- the recording

lines_recorded : (noting : Noting) (first : State) (lines : List ToldLine) → All LineRuns lines
    → AreSound lines first → AllRecorded (recorded_lines noting lines) first
unfolding recorded_lines
lines_recorded noting first lines are sound =
    numbered_recorded 1 (flat_map (texts_of noting) lines) first
    (all_recorded noting lines first are sound)

lines_last : (noting : Noting) (first : State) (lines : List ToldLine)
    → last_state (recorded_lines noting lines) first ≡ after_lines lines first
unfolding recorded_lines
lines_last noting first lines =
    numbered_last 1 (flat_map (texts_of noting) lines) first ∙ all_after noting lines first

lines_well_formed : (noting : Noting) (first : State) (lines : List ToldLine) → IsLawful first
    → IsTrue (have_sessions first (sessions_of lines)) → All LineRuns lines → AreSound lines first
    → IsWellFormed (record { first = first; from = 1; lines = recorded_lines noting lines })
unfolding recorded_lines
lines_well_formed noting first lines lawful known are sound =
    whole_well_formed
    (record { first = first; lines = map script_line (recorded_lines noting lines) })
    (recorded_lines noting lines)
    (record {
      lawful = lawful;
      rising = numbers_rise 0 (flat_map (texts_of noting) lines);
      known =
          ap (list_all (finmap.contains_key first.sessions))
          (numbered_sids 1 (flat_map (texts_of noting) lines))
          ∙ all_known noting (finmap.contains_key first.sessions) lines first known sound;
    })
    refl (lines_recorded noting first lines are sound)

-- what a recording's parts have to satisfy, and what is said of it
pub record IsRecordingOf (noting : Noting) (first end : State) (lines : List ToldLine) (rows : List (ℕ × Noted)) : Type 0 where
  pub well_formed : IsWellFormed (record { first = first; from = 1; lines = rows })
  pub last : end ≡ last_state rows first
  pub recorded : AllRecorded rows first
  pub value : rows ≡ recorded_lines noting lines

pub recording : (noting : Noting) (first end : State) (lines : List ToldLine) (texts : List Noted)
    (rows : List (ℕ × Noted)) → IsLawful first
    → IsTrue (have_sessions first (sessions_of lines)) → HaveRuns lines → AreSound lines first
    → end ≡ after_lines lines first → texts ≡ flat_map (texts_of noting) lines → rows ≡ numbered 1 texts
    → IsRecordingOf noting first end lines rows
unfolding recorded_lines
recording noting first end lines texts rows lawful known runs sound ends are_texts are_rows =
    let value : rows ≡ recorded_lines noting lines = are_rows ∙ ap (numbered 1) are_texts in
    record {
      well_formed =
          subst (λ r. IsWellFormed (record { first = first; from = 1; lines = r })) (sym value)
          (lines_well_formed noting first lines lawful known runs.have sound);
      last =
          ends ∙ sym (lines_last noting first lines) ∙ ap (λ r. last_state r first) (sym value);
      recorded =
          subst (λ r. AllRecorded r first) (sym value)
          (lines_recorded noting first lines runs.have sound);
      value = value;
    }
