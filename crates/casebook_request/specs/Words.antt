-- The program's command line, as `clap` reads it.
use Rattle.std.specs.Prelude.{List, [], ◌∷◌, ◌++◌, true, codes}
use Rattle.clap.specs.Words.{App, Rule, new_app}
use Rattle.retro_edge.specs.Rules.{flag, help_flag, option, with_command, word}
use Rattle.casebook_folder_cli.specs.RestoreWords.{restore_rules}
use Rattle.casebook_folder_cli.specs.ScriptWords.{script_rules}
use Rattle.casebook_folder_cli.specs.Words.{compare_rules, snapshot_rules}
use Rattle.casebook_recorder_cli.specs.Words.{import_rules, observe_rules, status_rules}

-- ---- the command line

abbrev pub help_rules : List Rule
help_rules = help_flag ∷ word (codes "command") ∷ []

-- of `lines`: the log and the options of numbers, those of paths and of users, those of patterns,
-- and all
abbrev pub number_rules : List Rule
number_rules =
    help_flag ∷ word (codes "log") ∷ option (codes "session") ∷ option (codes "from") ∷ option (codes "to") ∷ []

abbrev pub path_rules : List Rule
path_rules =
    number_rules
    ++ (option (codes "reads") ∷ option (codes "writes") ∷ option (codes "touches") ∷ option (codes "user") ∷ [])

abbrev pub pattern_rules : List Rule
pattern_rules = path_rules ++ (option (codes "text") ∷ option (codes "shown") ∷ [])

abbrev pub lines_rules : List Rule
lines_rules =
    pattern_rules ++ (option (codes "about") ∷ option (codes "format") ∷ flag (codes "unknown") ∷ [])

-- of a command about a repair: what is repaired how, what all of them have, and all
abbrev pub edit_rules : List Rule
edit_rules =
    help_flag ∷ word (codes "log") ∷ option (codes "cancel") ∷ option (codes "replace") ∷ option (codes "about") ∷ []

abbrev pub repair_rules : List Rule
repair_rules = edit_rules ++ (option (codes "workers") ∷ option (codes "cuts") ∷ [])

abbrev pub show_rules : List Rule
show_rules =
    repair_rules
    ++ (flag (codes "why") ∷ flag (codes "diff") ∷ option (codes "line") ∷ option (codes "format") ∷ [])

abbrev pub page_rules : List Rule
page_rules = repair_rules ++ (option (codes "title") ∷ flag (codes "all") ∷ [])

abbrev pub cat_rules : List Rule
cat_rules = repair_rules ++ (word (codes "path") ∷ option (codes "line") ∷ [])

abbrev pub check_rules : List Rule
check_rules = help_flag ∷ word (codes "log") ∷ []

abbrev pub log_rules : List Rule
log_rules = help_flag ∷ word (codes "case") ∷ []

-- help is a command of the program's own, and no command is required
abbrev pub bare : App
bare = record {
  top = record (new_app (codes "casebook")).top {
    disable_help_flag = true;
    disable_help_subcommand = true;
    rules = help_flag ∷ [];
  };
  subs = [];
}

abbrev pub without_repairs : App
without_repairs =
    with_command
    (with_command (with_command bare (codes "help") help_rules) (codes "lines") lines_rules)
    (codes "check") check_rules

abbrev pub without_recorder : App
without_recorder =
    with_command
    (with_command
    (with_command
    (with_command
    (with_command (with_command without_repairs (codes "show") show_rules) (codes "page") page_rules)
    (codes "snapshot") snapshot_rules)
    (codes "compare") compare_rules)
    (codes "restore") restore_rules)
    (codes "script") script_rules

abbrev pub program : App
program =
    with_command
    (with_command
    (with_command
    (with_command
    (with_command (with_command without_recorder (codes "observe") observe_rules) (codes "import") import_rules)
    (codes "status") status_rules)
    (codes "log") log_rules)
    (codes "cat") cat_rules)
    (codes "patch") repair_rules
