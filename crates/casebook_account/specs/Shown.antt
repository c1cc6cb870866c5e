-- How recordings are shown: each line of a case as one line, by its number and with the text that
-- was typed.
use Rattle.std.specs.Prelude.{⊤, ℕ, Bool, not, List, [], ◌∷◌, ◌++◌, Option, Some, None, drop, nat_lt}
use Rattle.std.specs.Prelude.{if◌then◌else◌}
use Rattle.std.specs.List.{filter, flat_map, list_any, prefix_len, take_while}
use Rattle.retro_path.specs.Order.{text_eq}
use Rattle.retro_tree.specs.declared.note.Note.{Note}
use Rattle.retro_keep.specs.Recording.{IsWellFormed, RecordingValue, noted_at}
use Rattle.retro_keep.specs.declared.noted.Noted.{Noted}
use Rattle.retro_redo.specs.Repair.{is_verdict}
use Rattle.retro_redo.specs.declared.verdict.SettledLine.{SettledLine}
use Rattle.retro_redo.specs.declared.verdict.Verdict.{Verdict}
use Rattle.retro_redo.specs.declared.verdict.Verdict.TheVariants.{Redone}
use Rattle.casebook_account.specs.Ours.{is_our_note, without_ours}
use Rattle.casebook_account.specs.declared.account.Account.{Account}
use Rattle.casebook_account.specs.declared.account.Machine.{Machine}
use Rattle.casebook_account.specs.declared.account_fault.AccountFault.{AccountFault}
use Rattle.casebook_account.specs.declared.account_fault.AccountFault.TheVariants as faults
use Rattle.casebook_account.specs.declared.machine_line.MachineLine.{MachineLine}

-- ---- the texts of a line

abbrev pub is_below : ℕ → ℕ × Noted → Bool
is_below end l = nat_lt l.0 end

-- lines from the front on with numbers below one, and those after them
abbrev pub front_below : ℕ → List (ℕ × Noted) → List (ℕ × Noted)
front_below end lines = take_while (is_below end) lines

abbrev pub rest_from : ℕ → List (ℕ × Noted) → List (ℕ × Noted)
rest_from end lines = drop (prefix_len (is_below end) lines) lines

-- ---- one line

-- the text that was typed, if the first text is the recorded one, and otherwise that text
abbrev pub text_shown : MachineLine → Option Noted → Noted → List ℕ
text_shown line None noted = noted.text
text_shown line (Some old) noted = if text_eq old.text noted.text then line.text else noted.text

abbrev pub notes_in : ℕ × Noted → List Note
notes_in l = l.1.notes

abbrev pub output_in : ℕ × Noted → List ℕ
output_in l = l.1.output

-- the notes of texts, one after the other, but for those of what only a recording has
abbrev pub machine_notes : List (ℕ × Noted) → List Note
machine_notes texts = filter (λ note. not (is_our_note note)) (flat_map notes_in texts)

-- a line with all that its texts did, by the recording of the case
abbrev pub line_shown : RecordingValue → MachineLine → ℕ × Noted → List (ℕ × Noted) → Noted
line_shown r line text texts = record {
  sid = text.1.sid;
  text = text_shown line (noted_at text.0 r.lines) text.1;
  notes = machine_notes (text ∷ texts);
  output = flat_map output_in (text ∷ texts);
}

-- a line of which no text ran isn't there
abbrev pub texts_shown : RecordingValue → MachineLine → List (ℕ × Noted) → List (ℕ × Noted)
texts_shown r line [] = []
texts_shown r line (text ∷ texts) = (line.number, line_shown r line text texts) ∷ []

-- ---- all lines

-- the lines of a machine, by texts of which the first is the first one of the first line
abbrev pub shown_from : RecordingValue → List MachineLine → List (ℕ × Noted) → List (ℕ × Noted)
shown_from r [] texts = []
shown_from r (line ∷ lines) texts =
    texts_shown r line (front_below line.end texts) ++ shown_from r lines (rest_from line.end texts)

-- a recording of texts as it is shown, by the recording of the case
abbrev pub recording_shown : RecordingValue → List MachineLine → RecordingValue → RecordingValue
recording_shown r lines some = record {
  first = without_ours some.first;
  from = 1;
  lines = shown_from r lines some.lines;
}

abbrev pub shown_by : RecordingValue → Option Machine → RecordingValue → RecordingValue
shown_by r None some = some
shown_by r (Some machine) some = recording_shown r machine.lines.items some

-- the recording of an account, or of a repair of it, as it is shown
abbrev pub shown : Account → RecordingValue → RecordingValue
shown account some = shown_by account.recording account.machine some

-- a recording isn't shown, for this reason: what would be shown is none
abbrev pub IsUnshown : RecordingValue → AccountFault → Type 0
IsUnshown r faults.NoMem = ⊤
IsUnshown r faults.Unshown = IsWellFormed r → ⊥
IsUnshown r fault = ⊥

abbrev pub HasNoShown : Account → RecordingValue → AccountFault → Type 0
HasNoShown account some fault = IsUnshown (shown account some) fault

-- ---- what a repair did

abbrev pub is_line_below : ℕ → SettledLine → Bool
is_line_below end l = nat_lt l.number end

-- a verdict on all texts of a line: the one on each of them, or Redone if they differ
abbrev pub verdict_on : Verdict → List SettledLine → Verdict
verdict_on verdict [] = verdict
verdict_on verdict (text ∷ texts) =
    if is_verdict verdict text.verdict then verdict_on verdict texts else Redone

abbrev pub settled_line : MachineLine → List SettledLine → List SettledLine
settled_line line [] = []
settled_line line (text ∷ texts) = record {
  number = line.number;
  verdict = verdict_on text.verdict texts;
  is_met = list_any (λ t. t.is_met) (text ∷ texts);
} ∷ []

-- what a repair did with each line, by what it did with each text
abbrev pub settled_from : List MachineLine → List SettledLine → List SettledLine
settled_from [] texts = []
settled_from (line ∷ lines) texts =
    settled_line line (take_while (is_line_below line.end) texts)
    ++ settled_from lines (drop (prefix_len (is_line_below line.end) texts) texts)

abbrev pub settled_by : Option Machine → List SettledLine → List SettledLine
settled_by None settled = settled
settled_by (Some machine) settled = settled_from machine.lines.items settled

abbrev pub shown_settled : Account → List SettledLine → List SettledLine
shown_settled account settled = settled_by account.machine settled
