-- What commands are made of, for `clap`.
use Rattle.std.specs.Prelude.{List, true, Some, codes}
use Rattle.clap.specs.Words.{App, Rule, Shape, Text, new_app, new_rule, with_subcommand}
use Rattle.clap.specs.declared.builder.action.ArgAction.TheVariants.{Append, Set, SetTrue}

-- an option of one value
abbrev pub option : Text → Rule
option name = record (new_rule name) { long = Some name; action = Some Set }

-- an option of one value each time that it is given
abbrev pub options : Text → Rule
options name = record (new_rule name) { long = Some name; action = Some Append }

-- an option without a value
abbrev pub flag : Text → Rule
flag name = record (new_rule name) { long = Some name; action = Some SetTrue }

-- a word that isn't an option
abbrev pub word : Text → Rule
word name = record (new_rule name) { action = Some Set }

-- words that aren't options, after all other such words
abbrev pub words : Text → Rule
words name = record (new_rule name) { action = Some Append }

-- the option that asks for help
abbrev pub help_flag : Rule
help_flag = record (new_rule (codes "help")) {
  long = Some (codes "help");
  short = Some 104;
  action = Some SetTrue;
}

-- a command with an own option for help
abbrev pub command : Text → List Rule → Shape
command name rules = record (new_app name).top { disable_help_flag = true; rules = rules }

abbrev pub with_command : App → Text → List Rule → App
with_command app name rules = with_subcommand app (command name rules)
