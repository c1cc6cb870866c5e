-- The commands of the recorder, as `clap` reads them, and what they ask for.
use Rattle.std.specs.Prelude.{List, [], ◌∷◌, Option, Some, None, Result, Ok, Err, codes}
use Rattle.std.specs.Prelude.{if◌then◌else◌, is_some, ok_or}
use Rattle.clap.specs.Words.{Rule, Text}
use Rattle.retro_path.specs.Path.{PathValue}
use Rattle.retro_edge.specs.Calls.{Call, all_given, given}
use Rattle.retro_edge.specs.Paths.{path_named}
use Rattle.retro_edge.specs.Reads.{all_read}
use Rattle.retro_edge.specs.Rules.{flag, help_flag, option, word, words}
use Rattle.casebook_recorder_cli.specs.declared.request.RecorderProblem.{RecorderProblem}
use Rattle.casebook_recorder_cli.specs.declared.request.RecorderProblem.TheVariants as problems

-- of `observe`: whether a spool is made, which one, and the folders that it watches
abbrev pub observe_rules : List Rule
observe_rules =
    help_flag ∷ flag (codes "start") ∷ word (codes "spool") ∷ words (codes "folder") ∷ []

-- of `import`: which spool
abbrev pub import_rules : List Rule
import_rules = help_flag ∷ word (codes "spool") ∷ []

-- of `status`: which spool, and the list of those who are logged in
abbrev pub status_rules : List Rule
status_rules = help_flag ∷ word (codes "spool") ∷ option (codes "who") ∷ []

-- the spool that takes a record
pub record ObserveValue : Type 0 where
  pub spool : Text

-- the spool that is made, and the folders that it watches
pub record StartValue : Type 0 where
  pub spool : Text
  pub folders : List PathValue

-- the spool of which the case is written
pub record ImportValue : Type 0 where
  pub spool : Text

-- the spool of which it is said what it has, and the name of the list of those who are logged in
pub record StatusValue : Type 0 where
  pub spool : Text
  pub who : Option Text

infixl 10 ◌>>=◌
abbrev pub ◌>>=◌ : {A B : Type 0} → Result A RecorderProblem → (A → Result B RecorderProblem) → Result B RecorderProblem
(Ok x) >>= f = f x
(Err problem) >>= f = Err problem

abbrev pub spool_given : Call → Result Text RecorderProblem
spool_given call = ok_or (given (codes "spool") call) problems.NoSpool

-- at least one folder, by its path from the root
abbrev pub folders_given : Option (List Text) → Result (List PathValue) RecorderProblem
folders_given None = Err problems.NoFolder
folders_given (Some texts) = ok_or (all_read path_named texts) problems.Folder

-- what takes a record has no folders
abbrev pub without_folders : Call → Text → Result ObserveValue RecorderProblem
without_folders call spool =
    if is_some (all_given (codes "folder") call) then Err problems.HasFolder
    else Ok (record { spool = spool })

-- which spool takes a record
abbrev pub observe_in : Call → Result ObserveValue RecorderProblem
observe_in call = spool_given call >>= without_folders call

abbrev pub start_with : Text → List PathValue → StartValue
start_with spool folders = record { spool = spool; folders = folders }

-- which spool is made
abbrev pub start_in : Call → Result StartValue RecorderProblem
start_in call = do
  spool ← spool_given call
  folders ← folders_given (all_given (codes "folder") call)
  Ok (start_with spool folders)

abbrev pub import_of : Text → Result ImportValue RecorderProblem
import_of spool = Ok (record { spool = spool })

-- of which spool the case is written
abbrev pub import_in : Call → Result ImportValue RecorderProblem
import_in call = spool_given call >>= import_of

abbrev pub status_of : Option Text → Text → Result StatusValue RecorderProblem
status_of who spool = Ok (record { spool = spool; who = who })

-- of which spool it is said what it has
abbrev pub status_in : Call → Result StatusValue RecorderProblem
status_in call = spool_given call >>= status_of (given (codes "who") call)
