use Rattle.std.proofs.Common.{refl, rules}
use Rattle.std.proofs.lemmas.Result.{err_from_is_err_and}
use Rattle.retro_log.specs.Document.{log_in}
use Rattle.retro_rounds.specs.Refusals.{IsAccepted}
use Rattle.retro_cli.specs.Words.{options_view}
use Rattle.retro_cli.proofs.RefusalLemmas.{fault_refuses}
use Rattle.retro_cli.proofs.answers.repair_log.Goals as goal

pub returns-clause-ok : goal.returns-clause-ok
returns-clause-ok g c =
    let options = options_view c.args.options.now in
    let accepted : IsAccepted options.workers options.cuts options.edits c.in_ok-recording.recording = search rules in (
      record {
        is_repair = record {
          recording = c.in_ok-recording.recording;
          is_log = search rules;
          accepted = accepted.edits_are;
          is_repair = search rules;
          settled = search rules;
        };
        accepted = accepted;
      },
      refl,
    )

pub returns-in_err-repair-clause-err : goal.returns-in_err-repair-clause-err
returns-in_err-repair-clause-err g c =
    let p =
    err_from_is_err_and c.from_residual-in_err-repair.result c.from_residual-in_err-repair.ensures.1 in
    rw p.1
    (fault_refuses (options_view c.args.options.now) (log_in c.args.input.items) c.in_ok-recording.recording
    c.in_err-repair.field-0.0 _ (search rules) (search rules) p.2)
