use Rattle.std.proofs.Common.{ap, ap₂, codes, ◌≡◌, ◌∙◌}
use Rattle.std.proofs.lemmas.Result.{IfOk-weaker}
use Rattle.clap.specs.Words.{App, Shape, app_of, with_subcommand}
use Rattle.retro_edge.specs.Rules.{with_command}
use Rattle.casebook_recorder_cli.specs.Words.{import_rules, observe_rules, status_rules}
use Rattle.casebook_request.specs.Words.{cat_rules, log_rules, without_recorder}
use Rattle.casebook_request.proofs.words.program_command.Goals as goal

abbrev top : App → Shape
top a = a.top

pub returns : goal.returns
returns c =
    let one : app_of c.in_ok-subcommand.field-0 ≡ with_command without_recorder (codes "observe") observe_rules =
    c.in_ok-subcommand.ensures.shape c.in_ok-observe_command.ensures.local
    ∙ ap₂ with_subcommand c.in_ok-program_without_recorder.ensures (ap top c.in_ok-observe_command.ensures.shape) in
    let two : app_of c.in_ok-subcommand-2.field-0
    ≡ with_command (with_command without_recorder (codes "observe") observe_rules) (codes "import") import_rules =
    c.in_ok-subcommand-2.ensures.shape c.in_ok-import_command.ensures.local
    ∙ ap₂ with_subcommand one (ap top c.in_ok-import_command.ensures.shape) in
    let three : app_of c.in_ok-subcommand-3.field-0
    ≡ with_command
    (with_command (with_command without_recorder (codes "observe") observe_rules) (codes "import") import_rules)
    (codes "status") status_rules =
    c.in_ok-subcommand-3.ensures.shape c.in_ok-status_command.ensures.local
    ∙ ap₂ with_subcommand two (ap top c.in_ok-status_command.ensures.shape) in
    let four : app_of c.in_ok-subcommand-4.field-0
    ≡ with_command
    (with_command
    (with_command (with_command without_recorder (codes "observe") observe_rules) (codes "import") import_rules)
    (codes "status") status_rules)
    (codes "log") log_rules =
    c.in_ok-subcommand-4.ensures.shape c.in_ok-log_command.ensures.local
    ∙ ap₂ with_subcommand three (ap top c.in_ok-log_command.ensures.shape) in
    let five : app_of c.in_ok-subcommand-5.field-0
    ≡ with_command
    (with_command
    (with_command
    (with_command (with_command without_recorder (codes "observe") observe_rules) (codes "import") import_rules)
    (codes "status") status_rules)
    (codes "log") log_rules)
    (codes "cat") cat_rules =
    c.in_ok-subcommand-5.ensures.shape c.in_ok-cat_command.ensures.local
    ∙ ap₂ with_subcommand four (ap top c.in_ok-cat_command.ensures.shape) in
    IfOk-weaker c.subcommand-6.result _ _
    (λ m h. h.shape c.in_ok-patch_command.ensures.local
    ∙ ap₂ with_subcommand five (ap top c.in_ok-patch_command.ensures.shape))
    c.subcommand-6.ensures
