-- The law: what a repair comes to, up to the next line that has to be run for real.
use Rattle.std.proofs.Common.{◌≡◌, ◌∙◌, ℕ, Bool, List, [], ◌∷◌, ◌++◌, Option, None, IsTrue}
use Rattle.std.proofs.Common.{refl, sym, ap, subst, map}
use Rattle.std.proofs.Common.{append-nil, append_assoc}
use Rattle.std.specs.FinMap as finmap
use Rattle.std.specs.List.{All, list_all}
use Rattle.retro_tree.specs.declared.state.State.{State}
use Rattle.retro_tree.proofs.Small.{and_true, both_true, first_true}
use Rattle.retro_keep.specs.Edit.{edited}
use Rattle.retro_keep.specs.Recording.{IsWellFormed, RecordingValue, script_line}
use Rattle.retro_keep.specs.Recorded.{recorded_before}
use Rattle.retro_keep.specs.Runs.{Output, outcome}
use Rattle.retro_keep.specs.Script.{have_sessions}
use Rattle.retro_keep.specs.declared.edit.Edit.{Edit}
use Rattle.retro_redo.specs.Moments.{AreSettledLines, moments}
use Rattle.retro_redo.specs.Repair.{IsRepair, repaired_state}
use Rattle.retro_redo.specs.declared.repair.Repair.{Repair}
use Rattle.casebook_real.specs.Lines.{AreLinesOf, Parts, TypedLine, are_named, remaining_lines, session_of, texts_of}
use Rattle.casebook_real.specs.Next.{IsUpTo, Stands, next_to_run}
use Rattle.casebook_real.specs.World.{Meaning, World, run_all}
use Rattle.casebook_real.proofs.Fits.{AreFit, repair_fit}
use Rattle.casebook_real.proofs.Lines.{all_right}
use Rattle.casebook_real.proofs.Before.{before_is}
use Rattle.casebook_real.proofs.Runs.{from_state, repaired_after}
use Rattle.casebook_real.proofs.Verdicts.{all_stand, first_stand}

first_known : (lines rest : List TypedLine) (s : State) → IsTrue (have_sessions s (map session_of (lines ++ rest)))
    → IsTrue (have_sessions s (map session_of lines))
first_known [] rest s known = refl
first_known (l ∷ lines) rest s known =
    and_true (finmap.contains_key s.sessions l.typed.sid) (have_sessions s (map session_of lines))
    (first_true (finmap.contains_key s.sessions l.typed.sid) (have_sessions s (map session_of (lines ++ rest))) known)
    (first_known lines rest s
    (both_true (finmap.contains_key s.sessions l.typed.sid) (have_sessions s (map session_of (lines ++ rest))) known))

abbrev is_named : (ℕ → Bool) → TypedLine → Bool
is_named observed l = are_named observed l.basis l.texts

first_named : (observed : ℕ → Bool) (lines rest : List TypedLine) → IsTrue (list_all (is_named observed) (lines ++ rest))
    → IsTrue (list_all (is_named observed) lines)
first_named observed [] rest named = refl
first_named observed (l ∷ lines) rest named =
    and_true (is_named observed l) (list_all (is_named observed) lines)
    (first_true (is_named observed l) (list_all (is_named observed) (lines ++ rest)) named)
    (first_named observed lines rest (both_true (is_named observed l) (list_all (is_named observed) (lines ++ rest)) named))

pub texts_parts : (lines rest : List TypedLine) → texts_of (lines ++ rest) ≡ texts_of lines ++ texts_of rest
texts_parts [] rest = refl
texts_parts (l ∷ lines) rest =
    ap (λ texts. l.texts ++ texts) (texts_parts lines rest) ∙ sym (append_assoc l.texts (texts_of lines) (texts_of rest))

-- the state after the first lines, if their texts stand
standing_for_real : (real : Meaning) (observed : ℕ → Bool) (edit : ℕ → Option Edit) (r : RecordingValue) (repair : Repair)
    (lines rest : List TypedLine) → IsWellFormed r → IsRepair edit r repair → AreLinesOf r observed (lines ++ rest)
    → World real edit lines r.first → All (Stands edit observed) (moments edit (texts_of lines) r.first r.first)
    → repaired_after edit lines r.first ≡ run_all real (remaining_lines edit lines) r.first
standing_for_real real observed edit r repair lines rest formed is are world stand =
    let sids = map session_of (lines ++ rest) in
    let fit = subst (λ ls. AreFit sids (edited edit (map script_line ls)) r.first) (sym are.texts)
    (repair_fit sids edit r repair formed is are.sessions) in
    from_state real edit sids lines rest r.first world.effects
    (all_right real edit observed lines r.first r.first (first_named observed lines rest are.named) stand world.modelled
    world.runs)
    (first_known lines rest) fit

pub first_for_real : (real : Meaning) (observed : ℕ → Bool) (edit : ℕ → Option Edit) (r : RecordingValue) (repair : Repair)
    (n : ℕ) (lines rest : List TypedLine) → IsWellFormed r → IsRepair edit r repair
    → AreLinesOf r observed (lines ++ rest) → Parts n lines rest → World real edit lines r.first
    → IsUpTo (next_to_run edit observed repair) n
    → recorded_before n repair.recording ≡ run_all real (remaining_lines edit lines) r.first
first_for_real real observed edit r repair n lines rest formed is are parts world up_to =
    let parted : r.lines ≡ texts_of lines ++ texts_of rest = sym are.texts ∙ texts_parts lines rest in
    let again = is.recording_is in
    let settled = subst (λ ls. AreSettledLines edit (moments edit ls r.first r.first) repair.lines.items) parted
    is.lines_are in
    let stand = first_stand edit observed n (texts_of lines) (texts_of rest) r.first r.first repair.lines.items settled
    up_to parts.before in
    before_is edit n (texts_of lines) (texts_of rest) repair.recording r.first
    (again.lines ∙ ap (λ ls. edited edit (map script_line ls)) parted) again.recorded again.first parts.before parts.from
    ∙ standing_for_real real observed edit r repair lines rest formed is are world stand

pub all_for_real : (real : Meaning) (observed : ℕ → Bool) (edit : ℕ → Option Edit) (r : RecordingValue) (repair : Repair)
    (lines : List TypedLine) → IsWellFormed r → IsRepair edit r repair → AreLinesOf r observed lines
    → World real edit lines r.first → next_to_run edit observed repair ≡ None
    → repaired_state repair ≡ run_all real (remaining_lines edit lines) r.first
all_for_real real observed edit r repair lines formed is are world none =
    let whole : lines ++ [] ≡ lines = append-nil lines in
    let settled = subst (λ ls. AreSettledLines edit (moments edit ls r.first r.first) repair.lines.items) (sym are.texts)
    is.lines_are in
    ap (λ (p : State × List Output). p.0) is.outcome_is
    ∙ ap (λ ls. (outcome (edited edit (map script_line ls)) r.first).0) (sym are.texts)
    ∙ standing_for_real real observed edit r repair lines [] formed is (subst (AreLinesOf r observed) (sym whole) are) world
    (all_stand edit observed (texts_of lines) r.first r.first repair.lines.items settled none)
