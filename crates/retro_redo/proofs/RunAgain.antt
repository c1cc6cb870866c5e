-- The edited lines are run again, and their recording begins at the same number.
use Rattle.std.proofs.Common.{◌≡◌, ◌∙◌, ◌&&◌, ◌++◌, ℕ, true, List, [], ◌∷◌, Option, Some, None, IsTrue}
use Rattle.std.proofs.Common.{ap, map, nat_le, refl, subst, sym}
use Rattle.std.specs.List.{list_all}
use Rattle.retro_tree.specs.declared.state.State.{State}
use Rattle.retro_tree.proofs.Small.{and_true, both_true, first_true}
use Rattle.retro_keep.specs.Edit.{edited, line_run, text_run}
use Rattle.retro_keep.specs.Recording.{IsRecordingOf, IsWellFormed, RecordingValue, none_below, number_in, script_line}
use Rattle.retro_keep.specs.Script.{number_of}
use Rattle.retro_keep.specs.declared.edit.Edit.{Edit}
use Rattle.retro_keep.specs.declared.script.ScriptLine.{ScriptLine}
use Rattle.retro_redo.specs.Repair.{script_now}
use Rattle.retro_redo.proofs.Finishing.{numbers_are, numbers_of}
use Rattle.retro_redo.proofs.Positions.{Line}

-- ---- numbers that aren't below another one

numbers_from : (from : ℕ) (lines : List Line)
    → none_below from lines ≡ list_all (nat_le from) (map number_in lines)
numbers_from from [] = refl
numbers_from from (l ∷ lines) = ap (λ b. nat_le from l.0 && b) (numbers_from from lines)

edited_with : (from : ℕ) (l : ScriptLine) (text : Option (List ℕ)) (rest : List ScriptLine)
    → nat_le from l.number ≡ true → IsTrue (list_all (nat_le from) (map number_of rest))
    → IsTrue (list_all (nat_le from) (map number_of (line_run l text ++ rest)))
edited_with from l None rest here later = later
edited_with from l (Some text) rest here later = and_true _ _ here later

edited_from : (of : ℕ → Option Edit) (from : ℕ) (lines : List ScriptLine)
    → IsTrue (list_all (nat_le from) (map number_of lines))
    → IsTrue (list_all (nat_le from) (map number_of (edited of lines)))
edited_from of from [] h = refl
edited_from of from (l ∷ lines) h =
    edited_with from l (text_run (of l.number) l.text) (edited of lines) (first_true (nat_le from l.number) _ h)
    (edited_from of from lines (both_true (nat_le from l.number) _ h))

again_from : (edit : ℕ → Option Edit) (r again : RecordingValue) → IsWellFormed r
    → IsRecordingOf (script_now edit r) again → IsTrue (none_below r.from again.lines)
again_from edit r again w is =
    numbers_from r.from again.lines
    ∙ ap (list_all (nat_le r.from)) (numbers_of (script_now edit r) again is)
    ∙ edited_from edit r.from (map script_line r.lines)
    (ap (list_all (nat_le r.from)) (numbers_are r.lines) ∙ sym (numbers_from r.from r.lines) ∙ w.not_before)

-- ---- the parts of a recording of the edited lines, with another beginning

pub again_well_formed : (edit : ℕ → Option Edit) (r again : RecordingValue) (first : State) (from : ℕ)
    (lines : List Line) → IsWellFormed r → IsWellFormed again → IsRecordingOf (script_now edit r) again
    → first ≡ again.first → from ≡ r.from → lines ≡ again.lines
    → IsWellFormed (record { first = first; from = from; lines = lines })
again_well_formed edit r again first from lines w v is first_is from_is lines_are =
    let here : IsWellFormed (record { first = again.first; from = r.from; lines = again.lines }) = record {
      lawful = v.lawful;
      begins = w.begins;
      rising = v.rising;
      not_before = again_from edit r again w is;
      known = v.known;
      own = v.own;
      of_kind = v.of_kind;
      allowed = v.allowed;
    } in
    subst IsWellFormed (λ i. record { first = sym first_is i; from = sym from_is i; lines = sym lines_are i }) here

pub again_recorded : (edit : ℕ → Option Edit) (r again : RecordingValue) (first : State) (from : ℕ)
    (lines : List Line) → IsRecordingOf (script_now edit r) again → first ≡ again.first → lines ≡ again.lines
    → IsRecordingOf (script_now edit r) (record { first = first; from = from; lines = lines })
again_recorded edit r again first from lines is first_is lines_are =
    let here : IsRecordingOf (script_now edit r) (record { first = again.first; from = from; lines = again.lines }) =
    record { first = is.first; lines = is.lines; recorded = is.recorded } in
    subst (IsRecordingOf (script_now edit r))
    (λ i. record { first = sym first_is i; from = from; lines = sym lines_are i }) here
