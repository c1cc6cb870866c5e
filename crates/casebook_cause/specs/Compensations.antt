-- The compensations of a repair: those of cancelled lines, and those of all other lines.
use Rattle.std.specs.Prelude.{◌≡◌, ◌⊎◌, ℕ, ◌==◌, Bool, true, false, not, ◌&&◌, List, [], ◌∷◌}
use Rattle.std.specs.List.{filter, list_any}
use Rattle.retro_keep.specs.Recording.{RecordingValue}
use Rattle.retro_redo.specs.Moments.{CompensationValue}
use Rattle.retro_redo.specs.Repair.{compensations_in}
use Rattle.retro_redo.specs.declared.repair.Repair.{Repair}
use Rattle.retro_redo.specs.declared.verdict.SettledLine.{SettledLine}
use Rattle.retro_redo.specs.declared.verdict.Verdict.{Verdict}
use Rattle.retro_redo.specs.declared.verdict.Verdict.TheVariants.{Cancelled, Redone, Kept}

abbrev pub is_cancellation : Verdict → Bool
is_cancellation Cancelled = true
is_cancellation Redone = false
is_cancellation Kept = false

-- whether a line has a number, and is cancelled
abbrev pub is_cancelled_line : ℕ → SettledLine → Bool
is_cancelled_line n l = (l.number == n) && is_cancellation l.verdict

-- whether the line with a number is a cancelled one of some lines
abbrev pub is_cancelled : List SettledLine → ℕ → Bool
is_cancelled lines n = list_any (is_cancelled_line n) lines

-- whether a compensation is that of a cancelled line
abbrev pub is_leak : Repair → CompensationValue → Bool
is_leak repair c = is_cancelled repair.lines.items c.number

-- the compensations of cancelled lines in the repair of a recording, and those of all other lines,
-- in order
abbrev pub leaks : RecordingValue → Repair → List CompensationValue
leaks r repair = filter (is_leak repair) (compensations_in r repair)

abbrev pub tellings : RecordingValue → Repair → List CompensationValue
tellings r repair = filter (λ c. not (is_leak repair c)) (compensations_in r repair)

-- A list is two lists merged: each of its items is the next one of the first or of the second.
abbrev pub AreParts : {A : Type 0} → List A → List A → List A → Type 0
AreParts {A} one two [] = (one ≡ []) × (two ≡ [])
AreParts {A} one two (x ∷ all) =
    ((rest : List A) × (one ≡ x ∷ rest) × AreParts rest two all)
    ⊎ ((rest : List A) × (two ≡ x ∷ rest) × AreParts one rest all)
