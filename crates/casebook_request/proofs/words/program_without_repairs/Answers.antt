use Rattle.std.proofs.Common.{ap, ap₂, codes, ◌≡◌, ◌∙◌}
use Rattle.std.proofs.lemmas.Result.{IfOk-weaker}
use Rattle.clap.specs.Words.{App, Shape, app_of, with_subcommand}
use Rattle.retro_edge.specs.Rules.{with_command}
use Rattle.casebook_request.specs.Words.{bare, help_rules, lines_rules}
use Rattle.casebook_request.proofs.words.program_without_repairs.Goals as goal

abbrev top : App → Shape
top a = a.top

pub returns : goal.returns
returns c =
    let one : app_of c.in_ok-subcommand.field-0 ≡ with_command bare (codes "help") help_rules =
    c.in_ok-subcommand.ensures.shape c.in_ok-help_command.ensures.local
    ∙ ap₂ with_subcommand c.in_ok-bare_program.ensures (ap top c.in_ok-help_command.ensures.shape) in
    let two : app_of c.in_ok-subcommand-2.field-0
    ≡ with_command (with_command bare (codes "help") help_rules) (codes "lines") lines_rules =
    c.in_ok-subcommand-2.ensures.shape c.in_ok-lines_command.ensures.local
    ∙ ap₂ with_subcommand one (ap top c.in_ok-lines_command.ensures.shape) in
    IfOk-weaker c.subcommand-3.result _ _
    (λ m h. h.shape c.in_ok-check_command.ensures.local
    ∙ ap₂ with_subcommand two (ap top c.in_ok-check_command.ensures.shape))
    c.subcommand-3.ensures
