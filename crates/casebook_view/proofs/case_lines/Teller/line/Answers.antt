use Rattle.std.proofs.Common.{◌∙◌, ◌==◌, ap}
use Rattle.std.specs.List.{list_any}
use Rattle.retro_keep.specs.Recording.{noted_at}
use Rattle.casebook_view.specs.Fates.{session_in}
use Rattle.casebook_view.specs.Lines.{observed_in}
use Rattle.casebook_view.specs.Unknown.{obstacle_at}
use Rattle.casebook_view.proofs.case_lines.Teller.line.Goals as goal

pub returns-clause-line : goal.returns-clause-line
returns-clause-line c source edits unknown texts obstacles observed rise same = record {
  number = same;
  session = c.session_of.ensures ∙ ap (λ n. session_in (noted_at n c.args.self.now.case.now.recording.lines)) same;
  fate = c.fate_of.ensures;
  reason = c.in_ok-reason.ensures edits texts rise;
  obstacle = c.at.ensures ∙ obstacles c.args.number ∙ ap (λ n. obstacle_at n unknown) same;
  observed = c.has.ensures (observed_in source) observed ∙ ap (λ n. list_any (λ m. m == n) (observed_in source)) same;
}
