use Rattle.std.proofs.Common.{◌≡◌, Ok, map, rules, ap, sym, ◌∙◌}
use Rattle.retro_json.specs.Steps.{◌>>=◌}
use Rattle.retro_json.specs.Rows.{sessions_of_all}
use Rattle.retro_json.specs.Views.{row_view}
use Rattle.retro_json.proofs.InSteps.{sessions_in_steps}
use Rattle.retro_json.proofs.LawfulSessions.{lawful_as_read}
use Rattle.retro_json.proofs.reading.sessions.with_sessions.Goals as goal

pub returns-clause-lawful : goal.returns-clause-lawful
returns-clause-lawful c =
    let d = c.requires.read.0 in
    let sessions = c.in_ok-branch.field-0.sessions in
    let is : Ok sessions ≡ sessions_of_all (map row_view c.args.rows.items) = search rules in
    lawful_as_read d sessions
    (is ∙ ap (λ read. read >>= sessions_of_all) c.requires.read.1 ∙ sym (sessions_in_steps d))
