use Rattle.std.proofs.Common.{inl, rules}
use Rattle.retro_cli.proofs.FitLemmas.{of_own_lines}
use Rattle.retro_cli.proofs.answers.record_input.Goals as goal

pub returns-clause-ok : goal.returns-clause-ok
returns-clause-ok g c = record {
  script = c.in_ok-script.script;
  is_script = search rules;
  recording = c.in_ok-recording.recording;
  recorded = c.in_ok-recording.ensures.recording;
  begins = c.in_ok-recording.ensures.begins;
  is_log = c.in_ok-write_log.ensures.text;
  again = c.in_ok-write_log.ensures.again
      (c.in_ok-write_log.ensures.fits (inl (of_own_lines c.in_ok-recording.ensures.recording)));
}
