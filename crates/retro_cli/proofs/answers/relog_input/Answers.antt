use Rattle.std.proofs.Common.{inl, rules}
use Rattle.retro_keep.specs.Edit.{edit_of}
use Rattle.retro_log.proofs.ReadLimits.{read_fits}
use Rattle.retro_cli.proofs.FitLemmas.{repaired_fits}
use Rattle.retro_cli.proofs.answers.relog_input.Goals as goal

pub returns-clause-ok : goal.returns-clause-ok
returns-clause-ok g c =
    let repair = c.in_ok-recording.repair in
    let is = c.in_ok-recording.ensures.ok.0.is_repair in
    let written = c.in_ok-write_log.ensures in
    let read = read_fits is.recording (record { bytes = c.args.input.items; read = is.is_log }) in
    record {
      repair = repair;
      is_repair = is;
      is_log = search rules;
      again = written.again (repaired_fits (edit_of c.args.options.now.edits.items) is.recording repair read is.settled
          (λ recorded. written.fits (inl recorded)));
    }
