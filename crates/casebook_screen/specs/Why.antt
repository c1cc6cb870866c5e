-- What a terminal tells of why lines are run again, and of one line.
use Rattle.std.specs.Prelude.{ℕ, List, [], ◌∷◌, ◌++◌, Option, Some, None, codes, flat_map, if◌then◌else◌, map}
use Rattle.retro_keep.specs.Recording.{RecordingValue, noted_at}
use Rattle.retro_keep.specs.declared.noted.Noted.{Noted}
use Rattle.retro_redo.specs.declared.repair.Repair.{Repair}
use Rattle.casebook_text.specs.SafeLine.{safe_bytes}
use Rattle.casebook_view.specs.CaseLines.{line_at}
use Rattle.casebook_view.specs.Fates.{fate_eq}
use Rattle.casebook_view.specs.OtherAnswers.{answers_of}
use Rattle.casebook_view.specs.Reasons.{chain_of}
use Rattle.casebook_view.specs.declared.case_line.CaseLine.{CaseLine}
use Rattle.casebook_view.specs.declared.fate.Fate.TheVariants.{Changed}
use Rattle.casebook_view.specs.declared.reason.Reason.{Reason}
use Rattle.casebook_summary.specs.Words.{why_words}
use Rattle.casebook_summary.specs.declared.summary.Summary.{Summary}
use Rattle.casebook_words.specs.FileLines.{shown_lines}
use Rattle.casebook_about.specs.Labels.{time_words}
use Rattle.casebook_words.specs.Words.{note_words}
use Rattle.casebook_about.specs.declared.labels.Labels.{Labels}
use Rattle.casebook_screen.specs.Told.{command_told, fate_words, name_told, obstacle_told, time_told}
use Rattle.casebook_screen.specs.declared.piece.Piece.{Piece}
use Rattle.casebook_screen.specs.declared.piece.Piece.TheVariants.{Number, Text}

-- how many bytes of a line are told
abbrev pub why_limit : ℕ
why_limit = 57

-- why a line is run again, and the chain of lines that it comes from
abbrev pub reason_told : RecordingValue → Repair → List CaseLine → ℕ → Reason → List Piece
reason_told r repair lines n reason =
    Text (why_words reason.why (answers_of r repair n reason)) ∷ map Number (chain_of lines n)

abbrev pub reason_if : RecordingValue → Repair → List CaseLine → ℕ → Option Reason → List Piece
reason_if r repair lines n None = []
reason_if r repair lines n (Some reason) = reason_told r repair lines n reason

-- ---- all lines with another result

-- the number, the session and the text of a line that is run again, and why it is
abbrev pub why_told : RecordingValue → Repair → List CaseLine → Labels → CaseLine → Option Reason → List Piece
why_told r repair lines labels line None = []
why_told r repair lines labels line (Some reason) =
    Number line.number ∷ name_told labels line.session ∷ command_told why_limit r line.number
    ∷ reason_told r repair lines line.number reason

-- the same, if it has another result
abbrev pub changed_told : RecordingValue → Repair → List CaseLine → Labels → CaseLine → List Piece
changed_told r repair lines labels line =
    if fate_eq line.fate Changed then why_told r repair lines labels line line.reason else []

abbrev pub whys_told : RecordingValue → Repair → Summary → Labels → List Piece
whys_told r repair summary labels =
    Text (codes "WHY  ") ∷ flat_map (changed_told r repair summary.lines labels) summary.lines

-- ---- one line

-- number, time, name of the session and text
abbrev pub detail_head : Labels → ℕ → Noted → List Piece
detail_head labels n noted =
    Number n ∷ (time_told (time_words n labels) ++ name_told labels noted.sid ∷ Text (safe_bytes noted.text) ∷ [])

-- a title, each note in words, and each line of the output
unfoldable pub run_told : List ℕ → Noted → List Piece
run_told title noted =
    Text title ∷ (map (λ note. Text (note_words note)) noted.notes ++ map Text (shown_lines noted.output))

-- the repaired run of a line, if it is run again
abbrev pub repaired_told : Option Reason → Option Noted → List Piece
repaired_told None run = []
repaired_told (Some reason) None = []
repaired_told (Some reason) (Some noted) = run_told (codes "as repaired") noted

-- what becomes of a line, and why it is run again if it is
unfoldable pub outcome_told : RecordingValue → Repair → List CaseLine → CaseLine → List Piece
outcome_told r repair lines line =
    Text (fate_words line.fate) ∷ reason_if r repair lines line.number line.reason

-- the recorded run of a line, and the repaired one if it is run again
abbrev pub both_told : Repair → CaseLine → Noted → List Piece
both_told repair line noted =
    run_told (codes "as recorded") noted ++ repaired_told line.reason (noted_at line.number repair.recording.lines)

-- why a line isn't understood if it isn't, what becomes of it and why, and its runs
abbrev pub runs_told : RecordingValue → Repair → List CaseLine → CaseLine → Noted → List Piece
runs_told r repair lines line noted =
    obstacle_told line.obstacle ++ outcome_told r repair lines line ++ both_told repair line noted

abbrev pub line_told : RecordingValue → Repair → List CaseLine → Labels → CaseLine → Noted → List Piece
line_told r repair lines labels line noted =
    detail_head labels line.number noted ++ runs_told r repair lines line noted

-- a line, or nothing if there is none
abbrev pub line_if : RecordingValue → Repair → List CaseLine → Labels → Option CaseLine → Option Noted → List Piece
line_if r repair lines labels None run = []
line_if r repair lines labels (Some line) None = []
line_if r repair lines labels (Some line) (Some noted) = line_told r repair lines labels line noted

-- the line with a number
abbrev pub detail_told : RecordingValue → Repair → Summary → Labels → ℕ → List Piece
detail_told r repair summary labels n =
    line_if r repair summary.lines labels (line_at n summary.lines) (noted_at n r.lines)
