use Rattle.std.proofs.Common.{◌∙◌, ap, map, sym}
use Rattle.std.specs.FinMap as finmap
use Rattle.retro_keep.specs.Recording.{IsRecordingOf}
use Rattle.retro_keep.proofs.Recorded.{recorded_runs}
use Rattle.retro_redo.specs.Repair.{line_again, script_now}
use Rattle.retro_redo.proofs.edited.run_edited.Goals as goal

pub returns-clause-again : goal.returns-clause-again
returns-clause-again c =
    let r = c.args.recording.now in
    let edit = finmap.get c.args.edits.now in
    let again = c.in_ok-again.again in
    let is : IsRecordingOf (script_now edit r) again = c.in_ok-again.ensures.recording in
    record {
      outcome_is = sym (recorded_runs (script_now edit r) again is);
      lines_are = c.in_ok-settled_again.ensures ∙ ap (map (line_again edit)) c.lines.ensures.value;
      recording_is = is;
      begins = c.in_ok-again.ensures.begins;
    }
