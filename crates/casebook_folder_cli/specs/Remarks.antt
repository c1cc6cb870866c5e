-- What is said of a snapshot beside its document.
use Rattle.std.specs.Prelude.{ℕ, Bool, List, [], ◌∷◌, ◌++◌, codes, count_by, decimal, length, nat_eq, suc, zero}
use Rattle.std.specs.List.{flat_map}
use Rattle.std.specs.Cmp.Lexicographic.{pointwise}
use Rattle.casebook_snapshot.specs.declared.reason.Reason.{Reason}
use Rattle.casebook_snapshot.specs.declared.reason.Reason.TheVariants as reasons
use Rattle.casebook_snapshot.specs.declared.snapshot.SkippedPath.{SkippedPath}
use Rattle.casebook_snapshot.specs.declared.snapshot.Snapshot.{Snapshot}
use Rattle.casebook_snapshot_json.specs.Reasons.{reason_text}

-- all reasons, in the order in which they are told
abbrev pub all_reasons : List Reason
all_reasons =
    reasons.Link ∷ reasons.Device ∷ reasons.Pipe ∷ reasons.Socket ∷ reasons.OtherFileSystem ∷ reasons.TooLarge
    ∷ reasons.OddName ∷ reasons.NameTooLong ∷ reasons.Unreadable ∷ reasons.Changing ∷ reasons.NullDevice
    ∷ reasons.Asked ∷ []

-- a path is skipped for the reason that a document calls so
abbrev pub is_called : List ℕ → SkippedPath → Bool
is_called name s = pointwise nat_eq (reason_text s.reason) name

abbrev pub words_by : Reason → ℕ → List ℕ
words_by r zero = []
words_by r (suc n) = codes ", " ++ reason_text r ++ codes " " ++ decimal (suc n)

-- how many paths are skipped for a reason, if there are any
abbrev pub reason_words : List SkippedPath → Reason → List ℕ
reason_words skipped r = words_by r (count_by (is_called (reason_text r)) skipped)

-- how many paths a snapshot has, and how many were skipped for which reason
abbrev pub snapshot_words : Snapshot → List ℕ
snapshot_words s =
    codes "paths " ++ decimal (length s.rows.entries) ++ codes ", skipped " ++ decimal (length s.skipped.items)
    ++ flat_map (reason_words s.skipped.items) all_reasons
