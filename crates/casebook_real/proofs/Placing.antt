-- The repaired state before a line, and the state before its number in the repaired recording.
use Rattle.std.proofs.Common.{◌≡◌, ◌∙◌, ℕ, List, [], ◌∷◌, ◌++◌, Option, Some, refl, sym, ap, length, map}
use Rattle.std.specs.List.{slice_get}
use Rattle.retro_tree.specs.declared.state.State.{State}
use Rattle.retro_keep.specs.Edit.{edited}
use Rattle.retro_keep.specs.Recorded.{recorded_before}
use Rattle.retro_keep.specs.Recording.{RecordingValue, script_line}
use Rattle.retro_keep.specs.Runs.{outcome}
use Rattle.retro_keep.specs.declared.edit.Edit.{Edit}
use Rattle.retro_redo.specs.Repair.{IsRepair}
use Rattle.retro_redo.specs.declared.repair.Repair.{Repair}
use Rattle.casebook_real.specs.Lines.{Parts, TypedLine, placed, texts_now, texts_of}
use Rattle.casebook_real.proofs.Before.{before_is}
use Rattle.casebook_real.proofs.Law.{texts_parts}
use Rattle.casebook_real.proofs.Runs.{repaired_after}
use Rattle.casebook_real.proofs.Texts.{outcome_append, texts_append}

placed_at : (edit : ℕ → Option Edit) (lines : List TypedLine) (l : TypedLine) (rest : List TypedLine) (t : State)
    → slice_get (placed edit (lines ++ l ∷ rest) t) (length lines)
    ≡ Some (record { line = l; before = repaired_after edit lines t })
placed_at edit [] l rest t = refl
placed_at edit (k ∷ lines) l rest t =
    placed_at edit lines l rest (outcome (texts_now edit k) t).0
    ∙ ap (λ u. Some (record { line = l; before = u }))
    (sym (ap (λ ls. (outcome ls t).0) (texts_append edit k.texts (texts_of lines))
    ∙ outcome_append (texts_now edit k) (edited edit (map script_line (texts_of lines))) t))

pub state_before : (edit : ℕ → Option Edit) (r : RecordingValue) (repair : Repair) (n : ℕ) (lines : List TypedLine)
    (l : TypedLine) (rest : List TypedLine) → IsRepair edit r repair → texts_of (lines ++ l ∷ rest) ≡ r.lines
    → Parts n lines (l ∷ rest)
    → slice_get (placed edit (lines ++ l ∷ rest) r.first) (length lines)
    ≡ Some (record { line = l; before = recorded_before n repair.recording })
state_before edit r repair n lines l rest is are parts =
    let again = is.recording_is in
    placed_at edit lines l rest r.first
    ∙ ap (λ u. Some (record { line = l; before = u }))
    (sym (before_is edit n (texts_of lines) (texts_of (l ∷ rest)) repair.recording r.first
    (again.lines ∙ ap (λ ls. edited edit (map script_line ls)) (sym are ∙ texts_parts lines (l ∷ rest))) again.recorded
    again.first parts.before parts.from))
