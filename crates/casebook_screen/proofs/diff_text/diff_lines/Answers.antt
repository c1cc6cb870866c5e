use Rattle.std.proofs.Common.{ap, ap₂, rules, subst, ◌∙◌}
use Rattle.retro_keep.specs.Recording.{RecordingValue, last_state}
use Rattle.retro_redo.specs.Moments.{compensation_view}
use Rattle.retro_redo.specs.Repair.{compensations_in, repaired_state}
use Rattle.retro_redo.specs.declared.repair.Repair.{Repair}
use Rattle.retro_tree.specs.declared.state.State.{State}
use Rattle.casebook_screen.specs.Diffs.{AreParts, IsOutputDiff}
use Rattle.casebook_screen.proofs.Parting.{parts_map, same_trees}
use Rattle.casebook_screen.proofs.diff_text.diff_lines.Goals as goal

pub returns : goal.returns
returns c = record {
  files = c.in_ok-path_diffs.field-0.items;
  outputs = c.in_ok-output_diffs.field-0.items;
  of_paths = same_trees _ _ _ _ _ _
      (c.tree-before.ensures ∙ ap (λ (s : State). s.tree) c.last.ensures.value
      ∙ ap (λ (r : RecordingValue). (last_state r.lines r.first).tree) c.recording.ensures)
      (c.tree-after.ensures ∙ ap (λ (s : State). s.tree) c.state.ensures
      ∙ ap (λ (repair : Repair). (repaired_state repair).tree) c.repair-repair.ensures) c.in_ok-path_diffs.ensures;
  of_outputs = subst (λ cs. AreParts IsOutputDiff cs c.in_ok-output_diffs.field-0.items)
      (c.in_ok-compensations.ensures
      ∙ ap₂ compensations_in c.recording-2.ensures c.repair-repair.ensures)
      (parts_map compensation_view IsOutputDiff c.in_ok-compensations.compensations.items
      c.in_ok-output_diffs.field-0.items
      (subst (λ cs. AreParts (λ x. IsOutputDiff (compensation_view x)) cs c.in_ok-output_diffs.field-0.items)
      c.deref.ensures.value c.in_ok-output_diffs.ensures));
  shown = search rules;
}
