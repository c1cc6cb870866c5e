use Rattle.std.proofs.Common.{ap, ap₂, subst, string_bytes, ◌≡◌, ◌∙◌}
use Rattle.casebook_snapshot_json.specs.Documents.{snapshot_text}
use Rattle.casebook_folder_cli.proofs.Known.{one}
use Rattle.casebook_folder_cli.proofs.answer.snapshot_answer.Goals as goal

pub returns-clause-ok : goal.returns-clause-ok
returns-clause-ok g c =
    let request = c.args.request.now in
    let snapshot = c.in_ok-snapshot.snapshot in
    one (g.F.Folders.holds c.args.folders.now) _ _ c.in_ok-snapshot.ensures.ok
    (λ at is. record {
      snapshot = snapshot;
      document = record {
        is_snapshot = is;
        taken = string_bytes c.in_ok-time.time;
        is_time = c.in_ok-time.ensures;
        document = c.in_ok-document.ensures
            ∙ ap₂ (snapshot_text snapshot request.at) c.name-name.ensures c.as_str.ensures.value;
      };
      remark = c.in_ok-remark.ensures;
    })
