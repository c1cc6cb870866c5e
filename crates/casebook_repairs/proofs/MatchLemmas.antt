-- A repair has a verdict on each line of its recording, in order.
use Rattle.std.proofs.Common.{◌≡◌, ◌∙◌, ℕ, Bool, true, false, List, [], ◌∷◌, map, length}
use Rattle.std.proofs.Common.{Option, refl, sym, ap, ap₂, arith}
use Rattle.std.proofs.lemmas.Bool.{true≢false}
use Rattle.std.specs.Cmp.Lexicographic.{nat_list_eq_equiv}
use Rattle.retro_path.specs.Order.{text_eq}
use Rattle.retro_tree.specs.Notes.{after}
use Rattle.retro_tree.specs.declared.state.State.{State}
use Rattle.retro_keep.specs.Recording.{IsWellFormed, RecordingValue, number_in}
use Rattle.retro_keep.specs.declared.edit.Edit.{Edit}
use Rattle.retro_keep.specs.declared.noted.Noted.{Noted}
use Rattle.retro_redo.specs.Progress.{AreLinesBy, chosen, settled}
use Rattle.retro_redo.specs.Repair.{line_again}
use Rattle.retro_redo.specs.Settled.{AreSettled, IsSettled, recording_chosen}
use Rattle.retro_redo.specs.declared.repair.Repair.{Repair}
use Rattle.retro_redo.specs.declared.step.Step.{Step}
use Rattle.retro_redo.specs.declared.verdict.SettledLine.{SettledLine}
use Rattle.casebook_folder.proofs.Small.{same_text}
use Rattle.casebook_view.specs.Lines.{LinesMatch}

abbrev verdict_numbers : Repair → List ℕ
verdict_numbers repair = map (λ l. l.number) repair.lines.items

chosen_numbers : (edit : ℕ → Option Edit) (lines : List (ℕ × Noted)) (steps : List Step) (left : List SettledLine)
    (s t : State) → length steps ≡ length lines → AreLinesBy edit (settled lines steps s t) steps left
    → map (λ l. l.number) left ≡ map number_in lines
chosen_numbers edit [] [] left s t all by = ap (map (λ l. l.number)) by
chosen_numbers edit [] (step ∷ steps) left s t all by = absurd by
chosen_numbers edit (l ∷ lines) [] left s t all by = cc
chosen_numbers edit (l ∷ lines) (step ∷ steps) [] s t all by = absurd by
chosen_numbers edit (l ∷ lines) (step ∷ steps) (k ∷ left) s t all by =
    ap₂ (λ n ns. n ∷ ns) by.0.0
    (chosen_numbers edit lines steps left (after l.1.notes s) (after (chosen step l.1) t) (omega (arith, all)) by.1)

again_numbers : (edit : ℕ → Option Edit) (lines : List (ℕ × Noted))
    → map (λ l. l.number) (map (line_again edit) lines) ≡ map number_in lines
again_numbers edit [] = refl
again_numbers edit (l ∷ lines) = ap (λ ns. l.0 ∷ ns) (again_numbers edit lines)

pub lines_match : (edit : ℕ → Option Edit) (r : RecordingValue) (repair : Repair) → IsWellFormed r
    → AreSettled edit r repair → LinesMatch r repair
lines_match edit r repair w are = by_test (text_eq (verdict_numbers repair) (map number_in r.lines)) refl
  where
    refuted : text_eq (verdict_numbers repair) (map number_in r.lines) ≡ false
        → verdict_numbers repair ≡ map number_in r.lines → ⊥
    refuted e same =
        true≢false (sym (nat_list_eq_equiv.refl (verdict_numbers repair))
        ∙ ap (text_eq (verdict_numbers repair)) same ∙ e)

    by_test : (b : Bool) → text_eq (verdict_numbers repair) (map number_in r.lines) ≡ b → LinesMatch r repair
    by_test true e = same_text (verdict_numbers repair) (map number_in r.lines) e
    by_test false e =
        let steps = are.0 in
        let whole : IsSettled edit r steps repair = are.1 in
        let lawless : ¬ (IsWellFormed (recording_chosen r steps)) = λ v. refuted e
        (chosen_numbers edit r.lines steps repair.lines.items r.first r.first whole.all (whole.chosen v).lines_are) in
        absurd (refuted e (ap (map (λ l. l.number)) (whole.again lawless).lines_are ∙ again_numbers edit r.lines))
