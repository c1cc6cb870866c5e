use Rattle.std.proofs.Common.{ap, ap₂, codes, ◌≡◌, ◌∙◌}
use Rattle.std.proofs.lemmas.Result.{IfOk-weaker}
use Rattle.clap.specs.Words.{App, Shape, app_of, with_subcommand}
use Rattle.retro_cli.specs.Words.{bare, edit_options, script_program, with_command}
use Rattle.retro_cli.proofs.words.program_command.Goals as goal

abbrev top : App → Shape
top a = a.top

pub returns : goal.returns
returns c =
    let one : app_of c.in_ok-subcommand.field-0 ≡ with_command bare (codes "replay") edit_options =
    c.in_ok-subcommand.ensures.shape c.in_ok-editing_command.ensures.local
    ∙ ap₂ with_subcommand c.bare_command.ensures (ap top c.in_ok-editing_command.ensures.shape) in
    let two : app_of c.in_ok-subcommand-2.field-0 ≡ script_program =
    c.in_ok-subcommand-2.ensures.shape c.plain_command.ensures.local
    ∙ ap₂ with_subcommand one (ap top c.plain_command.ensures.shape) in
    let three =
    c.in_ok-subcommand-3.ensures.shape c.plain_command-2.ensures.local
    ∙ ap₂ with_subcommand two (ap top c.plain_command-2.ensures.shape) in
    let four =
    c.in_ok-subcommand-4.ensures.shape c.in_ok-repairing_command.ensures.local
    ∙ ap₂ with_subcommand three (ap top c.in_ok-repairing_command.ensures.shape) in
    let five =
    c.in_ok-subcommand-5.ensures.shape c.in_ok-repairing_command-2.ensures.local
    ∙ ap₂ with_subcommand four (ap top c.in_ok-repairing_command-2.ensures.shape) in
    IfOk-weaker c.subcommand-6.result _ _
    (λ m h. h.shape c.in_ok-trimming_command.ensures.local
    ∙ ap₂ with_subcommand five (ap top c.in_ok-trimming_command.ensures.shape))
    c.subcommand-6.ensures
