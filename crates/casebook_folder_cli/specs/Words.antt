-- The commands about folders, as `clap` reads them, and what they ask for.
use Rattle.std.specs.Prelude.{Bool, false, ◌&&◌, ◌||◌, List, [], ◌∷◌, ◌++◌, Option, Some, None, Result, Ok, Err}
use Rattle.std.specs.Prelude.{codes, if◌then◌else◌, is_some, nat_eq, ok_or}
use Rattle.std.specs.Cmp.Lexicographic.{pointwise}
use Rattle.clap.specs.Words.{Rule, Text}
use Rattle.retro_path.specs.Path.{PathValue}
use Rattle.retro_edge.specs.Calls.{Call, all_given, given}
use Rattle.retro_edge.specs.Reads.{all_read}
use Rattle.retro_edge.specs.Rules.{flag, help_flag, option, options, word}
use Rattle.retro_edge.specs.Paths.{path_named}
use Rattle.casebook_folder_cli.specs.Sources.{SourceValue, source_name, source_of}
use Rattle.casebook_folder_cli.specs.declared.request.FolderProblem.{FolderProblem}
use Rattle.casebook_folder_cli.specs.declared.request.FolderProblem.TheVariants as problems

-- of `snapshot`: what it is taken of, where that is put, and what is skipped
abbrev pub source_rules : List Rule
source_rules = help_flag ∷ word (codes "folder") ∷ option (codes "tar") ∷ flag (codes "mounts") ∷ []

abbrev pub snapshot_rules : List Rule
snapshot_rules = source_rules ++ (option (codes "at") ∷ options (codes "skip") ∷ [])

-- of `compare`: the log, then as of `snapshot`, or the document of one
abbrev pub compared_rules : List Rule
compared_rules =
    help_flag ∷ word (codes "log") ∷ word (codes "folder") ∷ option (codes "tar") ∷ flag (codes "mounts") ∷ []

abbrev pub compare_rules : List Rule
compare_rules =
    compared_rules ++ (option (codes "at") ∷ options (codes "skip") ∷ option (codes "snapshot") ∷ [])

-- a snapshot of which source, which is put at a path, without which paths
pub record SnapshotValue : Type 0 where
  pub source : SourceValue
  pub at : PathValue
  pub skip : List PathValue

-- a snapshot that is taken now, or the one that is in the document with a name
pub data ComparedValue : Type 0 where
  taken : SnapshotValue → ComparedValue
  written : Text → ComparedValue

-- the name of the folder or of the file
abbrev pub compared_name : ComparedValue → Text
compared_name (taken request) = source_name request.source
compared_name (written name) = name

-- the root, unless another path is given
abbrev pub place_given : Option Text → Result PathValue FolderProblem
place_given None = Ok []
place_given (Some text) = ok_or (path_named text) problems.At

-- no path, unless some are given
abbrev pub paths_given : Option (List Text) → Result (List PathValue) FolderProblem
paths_given None = Ok []
paths_given (Some texts) = ok_or (all_read path_named texts) problems.Skip

infixl 10 ◌>>=◌
abbrev pub ◌>>=◌ : {A B : Type 0} → Result A FolderProblem → (A → Result B FolderProblem) → Result B FolderProblem
(Ok x) >>= f = f x
(Err problem) >>= f = Err problem

abbrev pub snapshot_with : SourceValue → PathValue → List PathValue → SnapshotValue
snapshot_with source at skip = record { source = source; at = at; skip = skip }

-- which snapshot is asked for, by whether other file systems are entered
abbrev pub snapshot_in : Bool → Call → Result SnapshotValue FolderProblem
snapshot_in is_entered call = do
  source ← source_of (given (codes "folder") call) (given (codes "tar") call) is_entered
  at ← place_given (given (codes "at") call)
  skip ← paths_given (all_given (codes "skip") call)
  Ok (snapshot_with source at skip)

-- whether something is said of how a snapshot is taken
abbrev pub takes_one : Bool → Call → Bool
takes_one is_entered call =
    is_entered
    || (is_some (given (codes "folder") call)
    || (is_some (given (codes "tar") call)
    || (is_some (given (codes "at") call) || is_some (all_given (codes "skip") call))))

abbrev pub compared_with : Bool → Call → Option Text → Result ComparedValue FolderProblem
compared_with is_entered call None = snapshot_in is_entered call >>= (λ request. Ok (taken request))
compared_with is_entered call (Some name) =
    if takes_one is_entered call then Err problems.TakenDocument else Ok (written name)

-- whether a file that is named is standard input
abbrev pub is_input : Option Text → Bool
is_input None = false
is_input (Some name) = pointwise nat_eq name (codes "-")

-- with which snapshot `compare` compares a recording; standard input isn't named twice
abbrev pub compared_in : Bool → Call → Result ComparedValue FolderProblem
compared_in is_entered call =
    if (is_input (given (codes "tar") call) || is_input (given (codes "snapshot") call))
    && is_input (given (codes "log") call)
    then Err problems.InputTwice
    else compared_with is_entered call (given (codes "snapshot") call)
