use Rattle.std.proofs.Common.{◌∙◌, ap, subst, sym}
use Rattle.std.specs.FinMap as finmap
use Rattle.retro_keep.specs.Recording.{IsRecordingOf, RecordingValue, last_state}
use Rattle.retro_keep.specs.Script.{ScriptValue}
use Rattle.retro_redo.specs.Repair.{script_now}
use Rattle.retro_redo.proofs.RunAgain.{again_recorded, again_well_formed}
use Rattle.retro_redo.proofs.edited.record_edited.Goals as goal

pub of_well_formed-requires-clause-well_formed : goal.of_well_formed-requires-clause-well_formed
of_well_formed-requires-clause-well_formed c =
    let parts = c.into_parts-first.ensures in
    again_well_formed (finmap.get c.args.edits.now) c.args.recording.now c.in_ok-kept.kept _ _ _
    c.from-from.ensures.well_formed parts.well_formed
    (subst (λ (s : ScriptValue). IsRecordingOf s c.in_ok-kept.kept) c.in_ok-script.ensures
    c.in_ok-kept.ensures.recording) parts.first c.from-from.ensures.value parts.lines

pub of_well_formed-requires-clause-last : goal.of_well_formed-requires-clause-last
of_well_formed-requires-clause-last c =
    let parts = c.into_parts-first.ensures in
    parts.last ∙ (λ i. last_state (sym parts.lines i) (sym parts.first i))

pub returns-clause-recording : goal.returns-clause-recording
returns-clause-recording c =
    let parts = c.into_parts-first.ensures in
    let edit = finmap.get c.args.edits.now in
    subst (IsRecordingOf (script_now edit c.args.recording.now)) (sym c.of_well_formed.ensures)
    (again_recorded edit c.args.recording.now c.in_ok-kept.kept _ _ _
    (subst (λ (s : ScriptValue). IsRecordingOf s c.in_ok-kept.kept) c.in_ok-script.ensures
    c.in_ok-kept.ensures.recording) parts.first parts.lines)

pub returns-clause-begins : goal.returns-clause-begins
returns-clause-begins c =
    ap (λ (r : RecordingValue). r.from) c.of_well_formed.ensures ∙ c.from-from.ensures.value
