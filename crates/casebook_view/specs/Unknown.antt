-- Lines of a repair that aren't understood: as they were recorded, or since they run another text in
-- it that isn't.
use Rattle.std.specs.Prelude.{ℕ, ◌==◌, Bool, true, false, not, ◌&&◌, List, Option, Some, None}
use Rattle.std.specs.Prelude.{if◌then◌else◌, is_some, map, option_map}
use Rattle.std.specs.List.{filter, filter_map, list_any}
use Rattle.retro_tree.specs.Order.{text_eq}
use Rattle.retro_keep.specs.Recording.{RecordingValue, noted_at}
use Rattle.retro_keep.specs.declared.noted.Noted.{Noted}
use Rattle.retro_redo.specs.Moments.{CompensationValue}
use Rattle.retro_redo.specs.Repair.{numbers_with}
use Rattle.retro_redo.specs.declared.repair.Repair.{Repair}
use Rattle.retro_redo.specs.declared.verdict.Verdict.TheVariants.{Redone}
use Rattle.casebook_usage.specs.declared.obstacle.Obstacle.{Obstacle}
use Rattle.casebook_usage.specs.declared.obstacle.Obstacle.TheVariants.{Need}
use Rattle.casebook_profile.specs.UnknownLines.{unknown_lines_of}
use Rattle.casebook_profile.specs.declared.unknown_line.UnknownLine.{UnknownLine}
use Rattle.casebook_view.specs.ByNumber.{with_number}
use Rattle.casebook_view.specs.Sources.{SourceValue, Played, Seen}

-- ---- obstacles by number

abbrev pub unknown_number : UnknownLine → ℕ
unknown_number line = line.number

-- why the line with a number isn't understood, or None if it is understood
abbrev pub obstacle_at : ℕ → List UnknownLine → Option Obstacle
obstacle_at n unknown = option_map (λ line. line.obstacle) (with_number unknown_number n unknown)

abbrev pub is_unknown : List UnknownLine → ℕ → Bool
is_unknown unknown n = is_some (obstacle_at n unknown)

-- whether a compensation is that of a line that is understood
abbrev pub is_understood : List UnknownLine → CompensationValue → Bool
is_understood unknown c = not (is_unknown unknown c.number)

abbrev pub unknown_line : ℕ → Obstacle → UnknownLine
unknown_line n obstacle = record { number = n; obstacle = obstacle }

-- ---- the lines of a repair

-- whether a line has another text in its second run
abbrev pub has_other_text : Option Noted → Option Noted → Bool
has_other_text None new = false
has_other_text (Some old) None = false
has_other_text (Some old) (Some new) = not (text_eq old.text new.text)

-- whether the line with a number runs another text in the second recording
abbrev pub is_replaced : RecordingValue → RecordingValue → ℕ → Bool
is_replaced r repaired n = has_other_text (noted_at n r.lines) (noted_at n repaired.lines)

-- why the line with a number isn't understood in the second recording, if it runs another text
-- there
abbrev pub replaced_obstacle : RecordingValue → RecordingValue → ℕ → Option Obstacle
replaced_obstacle r repaired n =
    if is_replaced r repaired n then obstacle_at n (unknown_lines_of repaired) else None

-- whether a repair ran the line with a number again
abbrev pub is_redone : Repair → ℕ → Bool
is_redone repair n = list_any (λ m. m == n) (numbers_with Redone repair.lines.items)

-- whether it ran the line again with its own text
abbrev pub is_to_run : RecordingValue → Repair → ℕ → Bool
is_to_run r repair n = is_redone repair n && not (is_replaced r repair.recording n)

-- Of the lines that stand as they were observed, those that can't in a repair: it ran them again
-- with their own texts, since something that they depend on would be another.
abbrev pub lines_to_run : List ℕ → RecordingValue → Repair → List UnknownLine
lines_to_run observed r repair = map (λ n. unknown_line n Need) (filter (is_to_run r repair) observed)

-- The lines that aren't understood as they were recorded. Lines that were played are those whose
-- text isn't; lines that a recorder saw are those that it observed and that have to be run.
abbrev pub recorded_unknown : SourceValue → RecordingValue → Repair → List UnknownLine
recorded_unknown Played r repair = unknown_lines_of r
recorded_unknown (Seen seen) r repair = lines_to_run seen.observed r repair

abbrev pub first_obstacle : Option Obstacle → Option Obstacle → Option Obstacle
first_obstacle None other = other
first_obstacle (Some obstacle) other = Some obstacle

-- Why the line with a number isn't understood, or None if it is: as it was recorded first, then the
-- text that it runs in place of the recorded one.
abbrev pub obstacle_in : SourceValue → RecordingValue → Repair → ℕ → Option Obstacle
obstacle_in source r repair n =
    first_obstacle (obstacle_at n (recorded_unknown source r repair)) (replaced_obstacle r repair.recording n)

abbrev pub unknown_line_in : SourceValue → RecordingValue → Repair → ℕ → Option UnknownLine
unknown_line_in source r repair n = option_map (unknown_line n) (obstacle_in source r repair n)

abbrev pub is_need : Obstacle → Bool
is_need Need = true
is_need _ = false

-- the numbers of those of these lines that have to be run for real
abbrev pub numbers_to_run : List UnknownLine → List ℕ
numbers_to_run unknown = map unknown_number (filter (λ line. is_need line.obstacle) unknown)

-- the lines of a recording from a source that aren't understood in a repair of it, in order
abbrev pub unknown_in : SourceValue → RecordingValue → Repair → List UnknownLine
unknown_in source r repair = filter_map (λ line. unknown_line_in source r repair line.0) r.lines
