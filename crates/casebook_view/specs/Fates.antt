-- What a repair does with lines.
use Rattle.std.specs.Prelude.{◌≡◌, ℕ, Bool, true, false, Option, Some, None}
use Rattle.retro_keep.specs.Recording.{RecordingValue, noted_at}
use Rattle.retro_keep.specs.declared.noted.Noted.{Noted}
use Rattle.retro_redo.specs.declared.repair.Repair.{Repair}
use Rattle.retro_redo.specs.declared.verdict.SettledLine.{SettledLine}
use Rattle.retro_redo.specs.declared.verdict.Verdict.{Verdict}
use Rattle.retro_redo.specs.declared.verdict.Verdict.TheVariants as verdicts
use Rattle.casebook_cause.specs.LineResult.{HasSameResult}
use Rattle.casebook_view.specs.declared.fate.Fate.{Fate}
use Rattle.casebook_view.specs.declared.fate.Fate.TheVariants as fates

-- the fate of a line that is kept, by whether it is met
abbrev pub kept_fate : Bool → Fate
kept_fate true = fates.Kept
kept_fate false = fates.Untouched

-- the fate of a line that is run again, by both runs
abbrev pub IsFateOfRuns : Noted → Noted → Fate → Type 0
IsFateOfRuns old new fate =
    (HasSameResult old new → fate ≡ fates.Alike) × (¬ (HasSameResult old new) → fate ≡ fates.Changed)

-- the same of a line that one of the recordings may not have, which counts as changed
abbrev pub IsRedoneFate : Option Noted → Option Noted → Fate → Type 0
IsRedoneFate (Some old) (Some new) fate = IsFateOfRuns old new fate
IsRedoneFate (Some old) None fate = fate ≡ fates.Changed
IsRedoneFate None new fate = fate ≡ fates.Changed

-- the fate of a line by the verdict on it, in a recording and its repair
abbrev pub IsFateBy : RecordingValue → Repair → SettledLine → Verdict → Fate → Type 0
IsFateBy r repair l verdicts.Cancelled fate = fate ≡ fates.Cancelled
IsFateBy r repair l verdicts.Kept fate = fate ≡ kept_fate l.is_met
IsFateBy r repair l verdicts.Redone fate =
    IsRedoneFate (noted_at l.number r.lines) (noted_at l.number repair.recording.lines) fate

abbrev pub IsFate : RecordingValue → Repair → SettledLine → Fate → Type 0
IsFate r repair l fate = IsFateBy r repair l l.verdict fate

abbrev pub fate_eq : Fate → Fate → Bool
fate_eq fates.Cancelled fates.Cancelled = true
fate_eq fates.Changed fates.Changed = true
fate_eq fates.Alike fates.Alike = true
fate_eq fates.Kept fates.Kept = true
fate_eq fates.Untouched fates.Untouched = true
fate_eq _ _ = false

-- the session that ran a line, or 0 if there is no line
abbrev pub session_in : Option Noted → ℕ
session_in None = 0
session_in (Some noted) = noted.sid
