use Rattle.std.proofs.Common.{◌∙◌, ap, subst}
use Rattle.std.proofs.lemmas.Result.{IfOk-weaker}
use Rattle.retro_keep.specs.Recording.{RecordingValue, last_state}
use Rattle.retro_redo.specs.Repair.{repaired_state}
use Rattle.retro_redo.specs.declared.repair.Repair.{Repair}
use Rattle.retro_tree.specs.declared.state.State.{State}
use Rattle.casebook_changes.specs.ChangedPaths.{AreChangedPaths}
use Rattle.casebook_summary.specs.Restorations.{tree_after}
use Rattle.casebook_summary.specs.inner.Found.{AreFound}
use Rattle.casebook_summary.proofs.Restoring.{are_restorations}
use Rattle.casebook_summary.proofs.restoration.restorations.Goals as goal

pub returns : goal.returns
returns c =
    let r = c.args.case.now.recording in
    let repair = c.args.case.now.repair in
    let written = c.in_ok-written.written.paths.keys in
    let changed = c.in_ok-changed.changed.items in
    let first = c.tree-before.ensures ∙ ap (λ (s : State). s.tree) c.last.ensures.value
    ∙ ap (λ (o : RecordingValue). (last_state o.lines o.first).tree) c.recording.ensures in
    let second = c.tree-after.ensures ∙ ap (λ (s : State). s.tree) c.state.ensures
    ∙ ap (λ (p : Repair). (repaired_state p).tree) c.repair.ensures in
    IfOk-weaker c.restorations_at.result _ _
    (λ found are. are_restorations r repair c.args.unknown.now written changed found.items c.in_ok-written.ensures
    (subst (λ t. AreChangedPaths t (tree_after repair) changed) first
    (subst (λ t. AreChangedPaths c.tree-before.result.now t changed) second c.in_ok-changed.ensures))
    (subst (λ cs. AreFound r repair written cs found.items) c.as_slice.ensures.value are))
    c.restorations_at.ensures
