-- The reasons why an operation on a path fails, and how diagnostics say so.
use Rattle.std.specs.Prelude.{ℕ, List, ◌++◌, Option, Some, None, codes}
use Rattle.retro_tree.specs.declared.kind.Kind.{Kind}
use Rattle.retro_tree.specs.declared.kind.Kind.TheVariants as kinds
use Rattle.retro_tree.specs.declared.permit.Permit.{Permit}
use Rattle.retro_tree.specs.declared.permit.Permit.TheVariants as permits
use Rattle.retro_utils.specs.declared.reason.Reason.{Reason}
use Rattle.retro_utils.specs.declared.reason.Reason.TheVariants as reasons

-- the text of a reason
abbrev pub reason_text : Reason → List ℕ
reason_text reasons.NoSuchFile = codes "No such file or directory"
reason_text reasons.NotDirectory = codes "Not a directory"
reason_text reasons.IsDirectory = codes "Is a directory"
reason_text reasons.TooLarge = codes "File too large"
reason_text reasons.NameTooLong = codes "File name too long"
reason_text reasons.FileExists = codes "File exists"
reason_text reasons.NotPermitted = codes "Operation not permitted"
reason_text reasons.SameFile = codes "same file"
reason_text reasons.InvalidArgument = codes "Invalid argument"
reason_text reasons.NotEmpty = codes "Directory not empty"

-- `SPEAKER: WORD: REASON` and a newline
unfoldable pub fault_text : List ℕ → List ℕ → Reason → List ℕ
fault_text speaker word reason =
    speaker ++ codes ": " ++ word ++ codes ": " ++ reason_text reason ++ codes "\n"

-- the reason why a write isn't permitted, or None
abbrev pub refusal : Permit → Option Reason
refusal permits.Yes = None
refusal permits.NoParent = Some reasons.NoSuchFile
refusal permits.NotDir = Some reasons.NotDirectory
refusal permits.IsDir = Some reasons.IsDirectory
refusal permits.TooLarge = Some reasons.TooLarge

-- the reason why a node of a kind can't be used as a directory, or None
abbrev pub no_directory : Kind → Option Reason
no_directory kinds.Missing = Some reasons.NoSuchFile
no_directory kinds.Dir = None
no_directory kinds.File = Some reasons.NotDirectory
