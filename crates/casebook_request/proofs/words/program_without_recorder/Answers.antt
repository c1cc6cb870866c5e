use Rattle.std.proofs.Common.{ap, ap₂, codes, ◌≡◌, ◌∙◌}
use Rattle.std.proofs.lemmas.Result.{IfOk-weaker}
use Rattle.clap.specs.Words.{App, Shape, app_of, with_subcommand}
use Rattle.retro_edge.specs.Rules.{with_command}
use Rattle.casebook_request.specs.Words.{page_rules, show_rules, without_repairs}
use Rattle.casebook_folder_cli.specs.RestoreWords.{restore_rules}
use Rattle.casebook_folder_cli.specs.Words.{compare_rules, snapshot_rules}
use Rattle.casebook_request.proofs.words.program_without_recorder.Goals as goal

abbrev top : App → Shape
top a = a.top

pub returns : goal.returns
returns c =
    let one : app_of c.in_ok-subcommand.field-0 ≡ with_command without_repairs (codes "show") show_rules =
    c.in_ok-subcommand.ensures.shape c.in_ok-show_command.ensures.local
    ∙ ap₂ with_subcommand c.in_ok-program_without_repairs.ensures (ap top c.in_ok-show_command.ensures.shape) in
    let two : app_of c.in_ok-subcommand-2.field-0
    ≡ with_command (with_command without_repairs (codes "show") show_rules) (codes "page") page_rules =
    c.in_ok-subcommand-2.ensures.shape c.in_ok-page_command.ensures.local
    ∙ ap₂ with_subcommand one (ap top c.in_ok-page_command.ensures.shape) in
    let three : app_of c.in_ok-subcommand-3.field-0
    ≡ with_command
    (with_command (with_command without_repairs (codes "show") show_rules) (codes "page") page_rules)
    (codes "snapshot") snapshot_rules =
    c.in_ok-subcommand-3.ensures.shape c.in_ok-snapshot_command.ensures.local
    ∙ ap₂ with_subcommand two (ap top c.in_ok-snapshot_command.ensures.shape) in
    let four : app_of c.in_ok-subcommand-4.field-0
    ≡ with_command
    (with_command
    (with_command (with_command without_repairs (codes "show") show_rules) (codes "page") page_rules)
    (codes "snapshot") snapshot_rules)
    (codes "compare") compare_rules =
    c.in_ok-subcommand-4.ensures.shape c.in_ok-compare_command.ensures.local
    ∙ ap₂ with_subcommand three (ap top c.in_ok-compare_command.ensures.shape) in
    let five : app_of c.in_ok-subcommand-5.field-0
    ≡ with_command
    (with_command
    (with_command
    (with_command (with_command without_repairs (codes "show") show_rules) (codes "page") page_rules)
    (codes "snapshot") snapshot_rules)
    (codes "compare") compare_rules)
    (codes "restore") restore_rules =
    c.in_ok-subcommand-5.ensures.shape c.in_ok-restore_command.ensures.local
    ∙ ap₂ with_subcommand four (ap top c.in_ok-restore_command.ensures.shape) in
    IfOk-weaker c.subcommand-6.result _ _
    (λ m h. h.shape c.in_ok-script_command.ensures.local
    ∙ ap₂ with_subcommand five (ap top c.in_ok-script_command.ensures.shape))
    c.subcommand-6.ensures
