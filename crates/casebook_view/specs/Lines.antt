-- What a repair does with each line of a recording.
use Rattle.std.specs.Prelude.{◌≡◌, ◌==◌, ℕ, List, [], ◌∷◌, ◌++◌, Option, Some, None, map}
use Rattle.std.specs.List.{list_any}
use Rattle.retro_keep.specs.Recording.{RecordingValue, noted_at, number_in}
use Rattle.retro_keep.specs.declared.edit.Edit.{Edit}
use Rattle.retro_redo.specs.declared.repair.Repair.{Repair}
use Rattle.retro_redo.specs.declared.verdict.SettledLine.{SettledLine}
use Rattle.retro_redo.specs.declared.verdict.Verdict.{Verdict}
use Rattle.retro_redo.specs.declared.verdict.Verdict.TheVariants.{Cancelled, Kept, Redone}
use Rattle.casebook_profile.specs.declared.unknown_line.UnknownLine.{UnknownLine}
use Rattle.casebook_view.specs.Fates.{IsFate, session_in}
use Rattle.casebook_view.specs.Reasons.{IsReason}
use Rattle.casebook_view.specs.Sources.{SourceValue, Played, Seen}
use Rattle.casebook_view.specs.Unknown.{obstacle_at}
use Rattle.casebook_view.specs.declared.case_line.CaseLine.{CaseLine}
use Rattle.casebook_view.specs.declared.reason.Reason.{Reason}

-- a repair has a verdict on each line of the recording, in order, and no other
abbrev pub LinesMatch : RecordingValue → Repair → Type 0
LinesMatch r repair = map (λ l. l.number) repair.lines.items ≡ map number_in r.lines

-- why the line with a number is run again if that is the verdict on it; else it has no reason
abbrev pub IsReasonBy : List Edit → RecordingValue → Repair → List CaseLine → ℕ → Verdict → Option Reason → Type 0
IsReasonBy edits r repair earlier n Cancelled reason = reason ≡ None
IsReasonBy edits r repair earlier n Kept reason = reason ≡ None
IsReasonBy edits r repair earlier n Redone None = ⊥
IsReasonBy edits r repair earlier n Redone (Some reason) = IsReason edits r repair earlier n reason

-- the lines that stand as they were observed, by their source
abbrev pub observed_in : SourceValue → List ℕ
observed_in Played = []
observed_in (Seen seen) = seen.observed

-- What a repair by edits does with a line after others, by the verdict on it; why the line isn't
-- understood, if it is among these lines; and whether it stands as it was observed.
pub record IsLine (source : SourceValue) (edits : List Edit) (r : RecordingValue) (repair : Repair)
    (unknown : List UnknownLine) (earlier : List CaseLine) (settled : SettledLine) (line : CaseLine) : Type 0 where
  pub number : line.number ≡ settled.number
  pub session : line.session ≡ session_in (noted_at settled.number r.lines)
  pub fate : IsFate r repair settled line.fate
  pub reason : IsReasonBy edits r repair earlier settled.number settled.verdict line.reason
  pub obstacle : line.obstacle ≡ obstacle_at settled.number unknown
  pub observed : line.is_observed ≡ list_any (λ m. m == settled.number) (observed_in source)

abbrev pub AreLinesAfter : SourceValue → List Edit → RecordingValue → Repair → List UnknownLine → List CaseLine → List SettledLine
    → List CaseLine → Type 0
AreLinesAfter source edits r repair unknown earlier [] [] = Unit {0}
AreLinesAfter source edits r repair unknown earlier [] (line ∷ lines) = ⊥
AreLinesAfter source edits r repair unknown earlier (settled ∷ more) [] = ⊥
AreLinesAfter source edits r repair unknown earlier (settled ∷ more) (line ∷ lines) =
    IsLine source edits r repair unknown earlier settled line
    × AreLinesAfter source edits r repair unknown (earlier ++ line ∷ []) more lines

-- what a repair by edits does with each line from a source, in order
abbrev pub AreLines : SourceValue → List Edit → RecordingValue → Repair → List UnknownLine → List CaseLine → Type 0
AreLines source edits r repair unknown lines = AreLinesAfter source edits r repair unknown [] repair.lines.items lines
