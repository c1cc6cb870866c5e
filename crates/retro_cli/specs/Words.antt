-- The program's command line, and what words ask for there, as `clap` reads them.
use Rattle.std.specs.Prelude.{ℕ, List, [], ◌∷◌, ◌++◌, true, Option, Some, None, Result, codes, map, option_map}
use Rattle.std.specs.Prelude.{option_and_then, nat_eq, if◌then◌else◌, length, ◌==◌}
use Rattle.std.specs.Cmp.Lexicographic.{pointwise}
use Rattle.clap.specs.Words.{App, Rule, Shape, Text, new_app, new_rule, with_subcommand}
use Rattle.clap.specs.declared.builder.action.ArgAction.TheVariants.{Set}
use Rattle.retro_tree.specs.OutOfMemory.{UnlessOutOfMemory}
use Rattle.retro_keep.specs.declared.edit.Edit.{Edit}
use Rattle.retro_keep.specs.declared.edit.Edit.TheVariants.{Cancel}
use Rattle.retro_json.specs.declared.fault.LogFault.{LogFault}
use Rattle.retro_json.specs.declared.fault.LogFault.TheVariants as documents
use Rattle.retro_json.specs.Replacements.{replacements_in}
use Rattle.retro_text.specs.Numbers.{number_in}
use Rattle.retro_edge.specs.Calls.{Call, Named, called, given, named_in, nothing, refused}
use Rattle.retro_edge.specs.Numbers.{numbers_in}
use Rattle.retro_cli.specs.declared.repair_options.RepairOptions.{RepairOptions as OptionsValue}
use Rattle.retro_cli.specs.declared.words.Request.{Request as RequestValue}
use Rattle.retro_cli.specs.declared.words.Request.TheVariants as requests
use Rattle.retro_cli.specs.declared.words.WordsFault.{WordsFault}
use Rattle.retro_cli.specs.declared.words.WordsFault.TheVariants as faults

-- ---- the command line

-- an option of one value, with its default
abbrev pub option : Text → Text → Rule
option name default = record (new_rule name) { long = Some name; action = Some Set; defaults = default ∷ [] }

-- an option of one value that has to be given
abbrev pub required_option : Text → Rule
required_option name = record (new_rule name) { long = Some name; action = Some Set; required = true }

-- the options that edit lines
abbrev pub edit_options : List Rule
edit_options = option (codes "cancel") [] ∷ option (codes "replace") (codes "[]") ∷ []

-- the options of a repair
abbrev pub repair_options : List Rule
repair_options =
    edit_options ++ (option (codes "workers") (codes "0") ∷ option (codes "cuts") (codes "64") ∷ [])

abbrev pub command : Text → List Rule → Shape
command name rules = record (new_app name).top { rules = rules }

-- a command is required, and help is no command
abbrev pub bare : App
bare = record {
  top = record (new_app (codes "retro")).top {
    disable_help_flag = true;
    disable_help_subcommand = true;
    subcommand_required = true;
  };
  subs = [];
}

-- a program with one more command
abbrev pub with_command : App → Text → List Rule → App
with_command app name rules = with_subcommand app (command name rules)

-- the commands that start from a script
abbrev pub script_program : App
script_program = with_command (with_command bare (codes "replay") edit_options) (codes "record") []

-- and those that repair a log
abbrev pub repair_program : App
repair_program =
    with_command
    (with_command (with_command script_program (codes "check") []) (codes "repair") repair_options) (codes "relog")
    repair_options

-- and the one that trims a log
abbrev pub program : App
program = with_command repair_program (codes "trim") (required_option (codes "at") ∷ [])

-- ---- what the words ask for

-- how a log is to be repaired: with which lines edited, by so many threads beside the first one,
-- and in pieces of so many lines
pub record RepairOptions : Type 0 where
  pub edits : List Edit
  pub workers : ℕ
  pub cuts : List ℕ

-- a request: to run a script's edited lines, to record the lines of a script, to check whether a
-- log is a recording, to repair a log and answer the report of the repair or the log of the
-- repaired recording, or to answer the log that begins at a number
pub data Request : Type 0 where
  replay : List Edit → Request
  record_script : Request
  check_log : Request
  repair : RepairOptions → Request
  relog : RepairOptions → Request
  trim : ℕ → Request

-- an empty text, or numbers separated by single commas
unfoldable pub list_in : List ℕ → Option (List ℕ)
list_in text = if length text == 0 then Some [] else numbers_in text

-- lines that are left out, and then lines whose text is replaced; or none if either is missing
abbrev pub edits_with : Option (List ℕ) → Option (List Edit) → Option (List Edit)
edits_with (Some numbers) (Some replacements) = Some (map Cancel numbers ++ replacements)
edits_with _ _ = None

-- the edits of lines, or none if the command has no such options or one is malformed
abbrev pub edits_of : Call → Option (List Edit)
edits_of call =
    edits_with (option_and_then list_in (given (codes "cancel") call))
    (option_and_then replacements_in (given (codes "replace") call))

-- the options with these values, or none if a value is missing
abbrev pub options_with : Option (List Edit) → Option ℕ → Option (List ℕ) → Option RepairOptions
options_with (Some edits) (Some count) (Some counts) =
    Some (record { edits = edits; workers = count; cuts = counts })
options_with _ _ _ = None

-- the options of a repair, or none if the command doesn't have them or one is malformed
abbrev pub options_of : Call → Option RepairOptions
options_of call =
    options_with (edits_of call) (option_and_then number_in (given (codes "workers") call))
    (option_and_then list_in (given (codes "cuts") call))

-- the request of a command, or none if the value of an option is malformed
unfoldable pub command_request : Call → Option Request
command_request call =
    if pointwise nat_eq call.name (codes "replay") then option_map replay (edits_of call)
    else if pointwise nat_eq call.name (codes "record") then Some record_script
    else if pointwise nat_eq call.name (codes "check") then Some check_log
    else if pointwise nat_eq call.name (codes "repair") then option_map repair (options_of call)
    else if pointwise nat_eq call.name (codes "relog") then option_map relog (options_of call)
    else if pointwise nat_eq call.name (codes "trim")
    then option_map trim (option_and_then number_in (given (codes "at") call)) else None

abbrev pub request_of : Named → Option Request
request_of (called call) = command_request call
request_of nothing = None
request_of refused = None

-- what the words ask for, or none if they are bad
unfoldable pub request_in : List Text → Option Request
request_in words = request_of (named_in program words)

-- ---- values of the code

abbrev pub options_view : OptionsValue → RepairOptions
options_view o = record { edits = o.edits.items; workers = o.workers; cuts = o.cuts.items }

abbrev pub request_view : RequestValue → Request
request_view (requests.Replay edits) = replay edits.items
request_view requests.Record = record_script
request_view requests.Check = check_log
request_view (requests.Repair options) = repair (options_view options)
request_view (requests.Relog options) = relog (options_view options)
request_view (requests.Trim at) = trim at

-- the fault of words of which a part can't be read
abbrev pub words_fault : LogFault → WordsFault
words_fault documents.NoMem = faults.NoMem
words_fault (documents.Refused refusal) = faults.BadWords

-- what a fault says of the words: that they are bad, or None if memory ran out
abbrev pub not_found : {Y : Type 0} → WordsFault → Option (Option Y)
not_found faults.NoMem = None
not_found faults.BadWords = Some None

-- the result is what the definition finds, or that it finds nothing, unless memory ran out
abbrev pub Means : {X Y : Type 0} → (X → Y) → Result X WordsFault → Option Y → Type 0
Means view result found = UnlessOutOfMemory (λ x. Some (view x)) not_found result found
