-- The command `restore`, as `clap` reads it, and what it asks for.
use Rattle.std.specs.Prelude.{Bool, true, false, ◌||◌, List, [], ◌∷◌, ◌++◌, Option, Some, None, Result, Ok, Err, codes}
use Rattle.std.specs.Prelude.{if◌then◌else◌, is_some, ok_or}
use Rattle.clap.specs.Words.{Rule, Text}
use Rattle.retro_path.specs.Path.{PathValue}
use Rattle.retro_edge.specs.Calls.{Call, all_given, given}
use Rattle.retro_edge.specs.Reads.{all_read}
use Rattle.retro_edge.specs.Rules.{flag, help_flag, option, options, word}
use Rattle.retro_edge.specs.Paths.{path_named}
use Rattle.casebook_folder_cli.specs.Words.{◌>>=◌, place_given}
use Rattle.casebook_folder_cli.specs.declared.request.FolderProblem.{FolderProblem}
use Rattle.casebook_folder_cli.specs.declared.request.FolderProblem.TheVariants as problems

-- the log and its edits, how the repair is made, the folder with the chosen paths, and what is done
abbrev pub edit_rules : List Rule
edit_rules = help_flag ∷ word (codes "log") ∷ option (codes "cancel") ∷ option (codes "replace") ∷ []

abbrev pub repair_rules : List Rule
repair_rules = edit_rules ++ (option (codes "workers") ∷ option (codes "cuts") ∷ [])

abbrev pub plan_rules : List Rule
plan_rules = repair_rules ++ (option (codes "root") ∷ option (codes "at") ∷ options (codes "only") ∷ [])

abbrev pub restore_rules : List Rule
restore_rules = plan_rules ++ (flag (codes "apply") ∷ option (codes "undo") ∷ [])

-- which folder is restored, where it is put, in which paths, and by which undo file it is carried
-- out, if it is
pub record RestoreValue : Type 0 where
  pub root : Text
  pub at : PathValue
  pub only : List PathValue
  pub undo : Option Text

-- in which folder which restore is taken back, and whether that is carried out
pub record UndoValue : Type 0 where
  pub root : Text
  pub undo : Text
  pub apply : Bool

abbrev pub root_given : Call → Result Text FolderProblem
root_given call = ok_or (given (codes "root") call) problems.NoRoot

-- all paths are chosen, unless some are given
abbrev pub only_given : Option (List Text) → Result (List PathValue) FolderProblem
only_given None = Ok []
only_given (Some texts) = ok_or (all_read path_named texts) problems.Only

-- what is carried out needs an undo file, and nothing else has one
abbrev pub undo_given : Bool → Option Text → Result (Option Text) FolderProblem
undo_given true None = Err problems.NoUndo
undo_given true (Some undo) = Ok (Some undo)
undo_given false None = Ok None
undo_given false (Some undo) = Err problems.NoApply

abbrev pub restore_with : Text → PathValue → List PathValue → Option Text → RestoreValue
restore_with root at only undo = record { root = root; at = at; only = only; undo = undo }

-- what `restore` asks for, by whether it is to be carried out
abbrev pub restore_in : Bool → Call → Result RestoreValue FolderProblem
restore_in apply call = do
  root ← root_given call
  at ← place_given (given (codes "at") call)
  only ← only_given (all_given (codes "only") call)
  undo ← undo_given apply (given (codes "undo") call)
  Ok (restore_with root at only undo)

-- whether something is given that only a restore of a log can have
abbrev pub is_mixed : Call → Bool
is_mixed call =
    is_some (given (codes "cancel") call)
    || (is_some (given (codes "replace") call)
    || (is_some (given (codes "workers") call)
    || (is_some (given (codes "cuts") call)
    || (is_some (given (codes "at") call) || is_some (all_given (codes "only") call)))))

abbrev pub undo_with : Text → Text → Bool → UndoValue
undo_with root undo apply = record { root = root; undo = undo; apply = apply }

abbrev pub undo_given_in : Bool → Call → Result UndoValue FolderProblem
undo_given_in apply call = do
  root ← root_given call
  undo ← ok_or (given (codes "undo") call) problems.NoUndo
  Ok (undo_with root undo apply)

-- which restore it takes back
abbrev pub undo_in : Bool → Call → Result UndoValue FolderProblem
undo_in apply call = if is_mixed call then Err problems.Mixed else undo_given_in apply call
