-- The reasons to skip a path, by the names that documents have for them.
use Rattle.std.specs.Prelude.{ℕ, List, [], ◌∷◌, Option, Some, None, bytes_eq, if◌then◌else◌}
use Rattle.casebook_snapshot.specs.declared.reason.Reason.{Reason}
use Rattle.casebook_snapshot.specs.declared.reason.Reason.TheVariants as reasons
use Rattle.casebook_snapshot_json.specs.Reasons.{reason_text}

abbrev pub all_reasons : List Reason
all_reasons =
    reasons.Link ∷ reasons.Device ∷ reasons.Pipe ∷ reasons.Socket ∷ reasons.OtherFileSystem
    ∷ reasons.TooLarge ∷ reasons.OddName ∷ reasons.NameTooLong ∷ reasons.Unreadable
    ∷ reasons.Changing ∷ reasons.NullDevice ∷ reasons.Asked ∷ []

-- the first of some reasons that is written as a text
abbrev pub first_named : List ℕ → List Reason → Option Reason
first_named text [] = None
first_named text (r ∷ rs) =
    if bytes_eq text (reason_text r) then Some r else first_named text rs

-- the reason that is written as a text
abbrev pub reason_named : List ℕ → Option Reason
reason_named text = first_named text all_reasons
