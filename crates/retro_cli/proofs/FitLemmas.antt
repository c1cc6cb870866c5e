-- The notes of repaired and of trimmed recordings keep the limits that a log is read with. This
-- holds of forged logs too, whose notes need not be those of running their lines.
use Rattle.std.proofs.Common.{◌≡◌, ◌∙◌, ℕ, List, [], ◌∷◌, filter, Bool, true, false, cond, Option, refl, sym}
use Rattle.std.proofs.Common.{true≢false}
use Rattle.std.specs.List.{list_all}
use Rattle.std.proofs.lemmas.Bool.{and_from, and_parts}
use Rattle.retro_tree.specs.Lawful.{IsLawful}
use Rattle.retro_tree.specs.Notes.{after}
use Rattle.retro_tree.specs.declared.state.State.{State}
use Rattle.retro_tree.proofs.NoteLaws.{lawful_after}
use Rattle.retro_keep.specs.Recording.{AllLinesAllowed, IsRecordingOf, IsWellFormed, RecordingValue, script_in}
use Rattle.retro_keep.specs.Script.{ScriptValue}
use Rattle.retro_keep.specs.Trim.{trimmed}
use Rattle.retro_keep.specs.declared.edit.Edit.{Edit}
use Rattle.retro_keep.specs.declared.noted.Noted.{Noted}
use Rattle.retro_redo.specs.Progress.{Settles, lines_chosen}
use Rattle.retro_redo.specs.Settled.{AreSettled, IsSettled, recording_chosen}
use Rattle.retro_redo.specs.declared.repair.Repair.{Repair}
use Rattle.retro_redo.specs.declared.step.Step.{Step}
use Rattle.retro_redo.specs.declared.step.Step.TheVariants.{Cancel, Keep, Take}
use Rattle.retro_json.specs.NoteLimits.{line_fits, note_fits, notes_fit}
use Rattle.retro_json.proofs.RecordedLimits.{all_fit}

-- a recording of a script is one of its own lines
pub of_own_lines : {script : ScriptValue} {r : RecordingValue} → IsRecordingOf script r
    → IsRecordingOf (script_in r) r
of_own_lines is = record { first = refl; lines = refl; recorded = is.recorded }

-- ---- repaired

lines_fit : (edit : ℕ → Option Edit) (lines : List (ℕ × Noted)) (steps : List Step) (s t : State) → IsLawful t
    → list_all line_fits lines ≡ true → Settles edit lines steps s t → AllLinesAllowed (lines_chosen lines steps) t
    → list_all line_fits (lines_chosen lines steps) ≡ true
lines_fit edit [] steps s t lawful fit settles allowed = refl
lines_fit edit (l ∷ lines) [] s t lawful fit settles allowed = refl
lines_fit edit (l ∷ lines) (Cancel ∷ steps) s t lawful fit settles allowed =
    lines_fit edit lines steps (after l.1.notes s) t lawful (and_parts (line_fits l) _ fit).1 settles.2 allowed
lines_fit edit (l ∷ lines) (Keep ∷ steps) s t lawful fit settles allowed =
    let fits = and_parts (line_fits l) _ fit in
    and_from (line_fits l) _ fits.0
    (lines_fit edit lines steps (after l.1.notes s) (after l.1.notes t) (lawful_after l.1.notes t lawful allowed.0)
    fits.1 settles.2 allowed.1)
lines_fit edit (l ∷ lines) (Take run ∷ steps) s t lawful fit settles allowed =
    and_from (list_all note_fits run.notes) _ (all_fit run.notes t lawful settles.0.2 allowed.0)
    (lines_fit edit lines steps (after l.1.notes s) (after run.notes t) (lawful_after run.notes t lawful allowed.0)
    (and_parts (line_fits l) _ fit).1 settles.2 allowed.1)

chosen_fit : (edit : ℕ → Option Edit) (r : RecordingValue) (steps : List Step) (repair : Repair)
    → notes_fit r ≡ true → IsSettled edit r steps repair → IsWellFormed (recording_chosen r steps)
    → notes_fit repair.recording ≡ true
unfolding notes_fit
chosen_fit edit r steps repair fit settled well =
    rw (settled.chosen well).recording_is
    (lines_fit edit r.lines steps r.first r.first well.lawful fit settled.settles well.allowed)

unless_false : (b : Bool) → ¬ (b ≡ false) → b ≡ true
unless_false true h = refl
unless_false false h = absurd (h refl)

-- a repair of a recording that keeps the limits keeps them, if recordings of scripts do
pub repaired_fits : (edit : ℕ → Option Edit) (r : RecordingValue) (repair : Repair) → notes_fit r ≡ true
    → AreSettled edit r repair
    → (IsRecordingOf (script_in repair.recording) repair.recording → notes_fit repair.recording ≡ true)
    → notes_fit repair.recording ≡ true
repaired_fits edit r repair fit settled recorded =
    let by_choices : IsSettled edit r settled.0 repair = settled.1 in
    unless_false (notes_fit repair.recording) (λ no.
    let not_well : ¬ (IsWellFormed (recording_chosen r settled.0)) =
    λ well. true≢false (sym (chosen_fit edit r settled.0 repair fit by_choices well) ∙ no) in
    true≢false (sym (recorded (of_own_lines (by_choices.again not_well).recording_is)) ∙ no))

-- ---- trimmed

filter_fits : (kept : ℕ × Noted → Bool) (lines : List (ℕ × Noted)) → list_all line_fits lines ≡ true
    → list_all line_fits (filter kept lines) ≡ true
filter_fits kept [] fit = refl
filter_fits kept (l ∷ lines) fit =
    let fits = and_parts (line_fits l) (list_all line_fits lines) fit in
    by_test (kept l) fits.0 (filter_fits kept lines fits.1)
  where
    by_test : (b : Bool) → line_fits l ≡ true → list_all line_fits (filter kept lines) ≡ true
        → list_all line_fits (cond b (l ∷ filter kept lines) (filter kept lines)) ≡ true
    by_test true one rest = and_from (line_fits l) _ one rest
    by_test false one rest = rest

pub trimmed_fits : (number : ℕ) (r : RecordingValue) → notes_fit r ≡ true → notes_fit (trimmed number r) ≡ true
unfolding notes_fit trimmed
trimmed_fits number r fit = filter_fits _ r.lines fit
