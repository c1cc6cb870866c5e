use Rattle.std.proofs.Common.{◌≡◌, ◌∙◌, Ok, ap, map, option_map, string_bytes, subst, sym}
use Rattle.std.proofs.lemmas.Result.{err_from_is_err_and}
use Rattle.retro_keep.specs.Edit.{edit_of}
use Rattle.retro_keep.specs.Recording.{IsRecordingOf, RecordingValue, number_in, script_in}
use Rattle.casebook_account.specs.Edits.{HasNoText, known_lines, text_edits}
use Rattle.casebook_account.specs.Shown.{shown_by}
use Rattle.casebook_account.proofs.Matching.{shown_match}
use Rattle.casebook_request.specs.Views.{repair_view, rounds_view}
use Rattle.casebook_repairs.specs.Attributes.{attributes_by}
use Rattle.casebook_repairs.specs.Repairs.{AreEdits, IsRepairBy}
use Rattle.casebook_repairs.specs.Stops.{StopsEdits, StopsNumbers, StopsRepair, StopsRepaired}
use Rattle.casebook_repairs.specs.Views.{document_view, inputs_view}
use Rattle.casebook_repairs.proofs.AccountLemmas.{not_shown}
use Rattle.casebook_repairs.proofs.MatchLemmas.{lines_match}
use Rattle.casebook_repairs.proofs.repairs.repaired.Goals as goal

pub returns-in_err-edits-clause-err : goal.returns-in_err-edits-clause-err
returns-in_err-edits-clause-err g c =
    let p = err_from_is_err_and c.from_residual-in_err-edits.result c.from_residual-in_err-edits.ensures.1 in
    rw (p.1, p.2)
    (StopsRepaired.no_numbers (string_bytes c.in_ok-list.list) c.in_ok-list.ensures.ok
    (subst (λ list. StopsNumbers (known_lines c.args.account) list c.in_err-edits.field-0.0) c.as_str.ensures.value
    c.in_err-edits.ensures.err))

pub returns-in_err-texts-clause-err : goal.returns-in_err-texts-clause-err
returns-in_err-texts-clause-err g c =
    let account = c.args.account in
    let request = c.args.task.request in
    let edits = c.in_ok-edits.edits.items in
    let p = err_from_is_err_and c.from_residual-in_err-texts.result c.from_residual-in_err-texts.ensures.1 in
    rw (p.1, p.2)
    (StopsRepaired.no_texts (string_bytes c.in_ok-list.list) edits c.in_ok-list.ensures.ok
    (subst (λ list. AreEdits list request.replacements.items (known_lines account) edits) c.as_str.ensures.value
    c.in_ok-edits.ensures.ok)
    (subst (λ es. StopsEdits (HasNoText account es) (document_view c.args.inputs.now.log) c.in_err-texts.field-0.0)
    c.as_slice.ensures.value c.in_err-texts.ensures.err))

pub returns-in_err-repair-clause-err : goal.returns-in_err-repair-clause-err
returns-in_err-repair-clause-err g c =
    let account = c.args.account in
    let request = c.args.task.request in
    let edits = c.in_ok-edits.edits.items in
    let texts = c.in_ok-texts.texts.items in
    let p = err_from_is_err_and c.from_residual-in_err-repair.result c.from_residual-in_err-repair.ensures.1 in
    rw (p.1, p.2)
    (StopsRepaired.no_repair (string_bytes c.in_ok-list.list) edits texts c.in_ok-list.ensures.ok
    (subst (λ list. AreEdits list request.replacements.items (known_lines account) edits) c.as_str.ensures.value
    c.in_ok-edits.ensures.ok)
    (subst (λ es. text_edits account es ≡ Ok texts) c.as_slice.ensures.value c.in_ok-texts.ensures.ok)
    (subst (λ es. StopsRepair (option_map rounds_view request.rounds) es account.recording c.in_err-repair.field-0.0)
    c.as_slice-2.ensures.value c.in_err-repair.ensures.err))

pub returns-in_err-labels-clause-err : goal.returns-in_err-labels-clause-err
returns-in_err-labels-clause-err g c =
    let p = err_from_is_err_and c.from_residual.result c.from_residual.ensures.1 in
    rw (p.1, p.2) (StopsRepaired.no_labels c.in_err-labels.ensures.err)

pub returns-in_err-recording-clause-err : goal.returns-in_err-recording-clause-err
returns-in_err-recording-clause-err g c =
    let p = err_from_is_err_and c.from_residual-in_err-recording.result c.from_residual-in_err-recording.ensures.1 in
    rw (p.1, p.2) (StopsRepaired.no_screen c.args.account.recording c.in_err-recording.ensures.err)

pub returns-in_err-shown-clause-err : goal.returns-in_err-shown-clause-err
returns-in_err-shown-clause-err g c =
    let p = err_from_is_err_and c.from_residual-in_err-shown.result c.from_residual-in_err-shown.ensures.1 in
    rw (p.1, p.2)
    (not_shown (inputs_view c.args.inputs.now) (repair_view c.args.task.request) c.args.account c.in_ok-repair.field-0.repair
    c.in_err-shown.field-0.0 c.in_err-shown.ensures.err)

pub returns-clause-ok : goal.returns-clause-ok
returns-clause-ok g c =
    let account = c.args.account in
    let request = c.args.task.request in
    let edits = c.in_ok-edits.edits.items in
    let texts = c.in_ok-texts.texts.items in
    let repair = c.in_ok-repair.field-0.repair in
    record {
      account = account;
      is_account = c.requires;
      list = string_bytes c.in_ok-list.list;
      is_list = c.in_ok-list.ensures.ok;
      are_edits = subst (λ list. AreEdits list request.replacements.items (known_lines account) edits)
          c.as_str.ensures.value c.in_ok-edits.ensures.ok;
      is_repair = record {
        texts = texts;
        are_texts = subst (λ es. text_edits account es ≡ Ok texts) c.as_slice.ensures.value c.in_ok-texts.ensures.ok;
        repair = repair;
        is_repair = subst (λ es. IsRepairBy (option_map rounds_view request.rounds) es account.recording repair)
            c.as_slice-2.ensures.value c.in_ok-repair.ensures.repair;
        is_shown = record {
          recording = c.in_ok-recording.ensures.ok;
          repaired_recording = c.in_ok-shown.ensures.recording;
          lines = c.in_ok-shown.ensures.lines;
          tally = c.in_ok-shown.ensures.tally;
        };
      };
      labels = c.in_ok-labels.ensures.ok;
      seen = c.in_ok-seen.ensures;
      attributes = c.attributes_by.ensures ∙ ap attributes_by c.in_ok-recording.ensures.machine;
      checked = λ yes. subst (λ r. IsRecordingOf (script_in r) r)
          (sym (c.in_ok-recording.ensures.ok
          ∙ ap (λ m. shown_by account.recording m account.recording) (c.in_ok-repair.ensures.machine yes)))
          (c.in_ok-repair.ensures.checked yes);
    }

pub returns-clause-lines : goal.returns-clause-lines
returns-clause-lines g c =
    let account = c.args.account in
    let repair = c.in_ok-repair.field-0.repair in
    ap (map (λ l. l.number)) c.in_ok-shown.ensures.lines
    ∙ shown_match account repair.lines.items account.recording
    (lines_match (edit_of c.as_slice-2.result.now) account.recording repair c.lines-count.ensures.well_formed
    c.in_ok-repair.ensures.repair.settled)
    ∙ ap (λ (r : RecordingValue). map number_in r.lines) (sym c.in_ok-recording.ensures.ok)
