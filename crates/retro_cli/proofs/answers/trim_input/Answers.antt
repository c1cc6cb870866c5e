use Rattle.std.proofs.Common.{◌≡◌, Ok, rules}
use Rattle.std.proofs.lemmas.Result.{err_from_is_err_and}
use Rattle.retro_log.specs.Document.{log_in}
use Rattle.retro_log.proofs.ReadLimits.{read_fits}
use Rattle.retro_cli.proofs.TrimLemmas.{trim_answers, trim_refuses, trimmed_again}
use Rattle.retro_cli.proofs.answers.trim_input.Goals as goal

pub returns-in_err-trimmed-clause-answer : goal.returns-in_err-trimmed-clause-answer
returns-in_err-trimmed-clause-answer c =
    let p = err_from_is_err_and c.from_residual-in_err-trimmed.result c.from_residual-in_err-trimmed.ensures.1 in
    rw p.1
    (trim_refuses c.args.number c.in_ok-recording.recording c.args.input.items c.in_err-trimmed.field-0.0 _ (search rules)
    c.in_err-trimmed.ensures.trimmed p.2)

pub returns-clause-again : goal.returns-clause-again
returns-clause-again c =
    let number = c.args.number in
    let r = c.in_ok-recording.recording in
    let t = c.in_ok-trimmed.trimmed in
    let text = c.in_ok-write_log.field-0.items in
    let is : log_in c.args.input.items ≡ Ok r = search rules in
    let of_trimmed = c.in_ok-trimmed.ensures.trimmed in
    let written = c.in_ok-write_log.ensures in
    record {
      recording = r;
      is_log = is;
      is_answer = trim_answers number r t c.args.input.items text is of_trimmed written.text;
      again = trimmed_again number r t text (read_fits r (record { bytes = c.args.input.items; read = is })) of_trimmed
          written.again;
    }
