-- Lines of accounts by their numbers, and edits of them as edits of texts.
use Rattle.std.specs.Prelude.{◌≡◌, ⊤, ℕ, zero, suc, ◌-◌, ◌==◌, List, [], ◌∷◌, ◌++◌, Option, Some, None, Result, Ok, Err, map}
use Rattle.std.specs.List.{filter, range_with_len, slice_get}
use Rattle.casebook_text.specs.Item.{Line}
use Rattle.retro_keep.specs.Recording.{RecordingValue}
use Rattle.retro_keep.specs.Edit.{edited_number}
use Rattle.retro_keep.specs.declared.edit.Edit.{Edit}
use Rattle.retro_keep.specs.declared.edit.Edit.TheVariants.{Cancel, Replace}
use Rattle.retro_keep.specs.declared.noted.Noted.{Noted}
use Rattle.casebook_account.specs.declared.account.Account.{Account}
use Rattle.casebook_account.specs.declared.account.Machine.{Machine}
use Rattle.casebook_account.specs.declared.account_fault.AccountFault.{AccountFault}
use Rattle.casebook_account.specs.declared.account_fault.AccountFault.TheVariants as faults
use Rattle.casebook_account.specs.declared.machine_line.MachineLine.{MachineLine}

-- ---- lines

-- the line with a number
abbrev pub line_at : ℕ → List MachineLine → Option MachineLine
line_at zero lines = None
line_at (suc n) lines = slice_get lines n

-- the number and the session of a line
abbrev pub noted_line : ℕ × Noted → Line
noted_line line = (line.0, line.1.sid)

abbrev pub seen_line : MachineLine → Line
seen_line line = (line.number, line.session)

-- those of the lines that people can name
abbrev pub lines_by : RecordingValue → Option Machine → List Line
lines_by r None = map noted_line r.lines
lines_by r (Some machine) = map seen_line machine.lines.items

abbrev pub known_lines : Account → List Line
known_lines account = lines_by account.recording account.machine

-- the numbers of the lines that stand as they were observed
abbrev pub observed_numbers : List MachineLine → List ℕ
observed_numbers lines = map (λ line. line.number) (filter (λ line. line.is_observed) lines)

-- the numbers of the lines while which others were open
abbrev pub overlapping_numbers : List MachineLine → List ℕ
overlapping_numbers lines = map (λ line. line.number) (filter (λ line. line.overlaps) lines)

-- the numbers of the changes that no line made
abbrev pub outside_numbers : List MachineLine → List ℕ
outside_numbers lines = map (λ line. line.number) (filter (λ line. line.session == 0) lines)

-- ---- edits

-- the numbers of a line's texts
abbrev pub text_numbers : MachineLine → List ℕ
text_numbers line = range_with_len line.first (line.end - line.first)

-- an edit of a line as one of the text with a number
abbrev pub edit_of_text : ℕ → Edit → Edit
edit_of_text number (Cancel n) = Cancel number
edit_of_text number (Replace n text) = Replace number text

-- A line that is left out leaves out all its texts. A new text of a line stands in place of its first
-- one, and the others are left out.
abbrev pub edits_of_texts : Edit → List ℕ → List Edit
edits_of_texts e [] = []
edits_of_texts e (first ∷ rest) = edit_of_text first e ∷ map Cancel rest

-- the edits of the texts of a line and then others, unless there is no such line
abbrev pub with_edit : Edit → Option MachineLine → Result (List Edit) ℕ → Result (List Edit) ℕ
with_edit e None rest = Err (edited_number e)
with_edit e (Some line) (Ok edits) = Ok (edits_of_texts e (text_numbers line) ++ edits)
with_edit e (Some line) (Err n) = Err n

-- edits of lines as edits of texts, or the number of the first one that no line has
unfoldable pub edits_in : List MachineLine → List Edit → Result (List Edit) ℕ
edits_in lines [] = Ok []
edits_in lines (e ∷ edits) =
    with_edit e (line_at (edited_number e) lines) (edits_in lines edits)

abbrev pub edits_by : Option Machine → List Edit → Result (List Edit) ℕ
edits_by None edits = Ok edits
edits_by (Some machine) edits = edits_in machine.lines.items edits

-- edits of an account's lines as edits of the lines of its recording
abbrev pub text_edits : Account → List Edit → Result (List Edit) ℕ
text_edits account edits = edits_by account.machine edits

-- ---- faults

-- edits aren't edits of texts, for this reason
abbrev pub IsNoEdit : Result (List Edit) ℕ → AccountFault → Type 0
IsNoEdit found faults.NoMem = ⊤
IsNoEdit found (faults.NoLine n) = found ≡ Err n
IsNoEdit found fault = ⊥

abbrev pub HasNoText : Account → List Edit → AccountFault → Type 0
HasNoText account edits fault = IsNoEdit (text_edits account edits) fault
