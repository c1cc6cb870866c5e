-- Edits of lines: a line is left out, or its text is replaced.
use Rattle.std.specs.Prelude.{◌≡◌, ℕ, ◌≤◌, ◌<◌, Bool, true, false, not, ◌==◌, List, [], ◌∷◌, map}
use Rattle.std.specs.Prelude.{filter, Option, Some, None, Result, Ok, Err, if◌then◌else◌, nat_lt, ⊤}
use Rattle.std.specs.Prelude.{◌&&◌, IsOk}
use Rattle.std.specs.List.{flat_map, list_any}
use Rattle.retro_tree.specs.Order.{text_eq}
use Rattle.retro_keep.specs.Script.{ScriptValue, number_of}
use Rattle.retro_keep.specs.declared.edit.Edit.{Edit}
use Rattle.retro_keep.specs.declared.edit.Edit.TheVariants.{Cancel, Replace}
use Rattle.retro_keep.specs.declared.edit_fault.EditFault.{EditFault}
use Rattle.retro_keep.specs.declared.edit_fault.EditFault.TheVariants as faults
use Rattle.retro_keep.specs.declared.edit_fault.EditRefusal.{EditRefusal}
use Rattle.retro_keep.specs.declared.edit_fault.EditRefusal.TheVariants.{BeforeCheckpoint, TwoEdits, NoSuchLine}
use Rattle.retro_keep.specs.declared.script.ScriptLine.{ScriptLine}

abbrev pub is_number : ℕ → ℕ → Bool
is_number n m = m == n

-- whether a number is among some
abbrev pub is_among : List ℕ → ℕ → Bool
is_among numbers n = list_any (is_number n) numbers

-- ---- what edits make of lines

-- the number of the line that an edit names
abbrev pub edited_number : Edit → ℕ
edited_number (Cancel n) = n
edited_number (Replace n text) = n

-- the first edit that names a line, or None if none does
abbrev pub edit_of : List Edit → ℕ → Option Edit
edit_of [] n = None
edit_of (e ∷ edits) n = if edited_number e == n then Some e else edit_of edits n

-- The text that a line runs: its own if nothing edits it, no text if it is left out, and the new
-- one if its text is replaced.
abbrev pub text_run : Option Edit → List ℕ → Option (List ℕ)
text_run None text = Some text
text_run (Some (Cancel n)) text = None
text_run (Some (Replace n new)) text = Some new

-- the line that runs a text in the place of another one, or no line
abbrev pub line_run : ScriptLine → Option (List ℕ) → List ScriptLine
line_run l None = []
line_run l (Some text) = record { number = l.number; sid = l.sid; text = text } ∷ []

-- The edited lines: each line with the text that it runs, without the lines that run none. Edits
-- are given by the numbers of lines.
abbrev pub edited : (ℕ → Option Edit) → List ScriptLine → List ScriptLine
edited edit = flat_map (λ l. line_run l (text_run (edit l.number) l.text))

-- ---- which edits are refused

abbrev pub edit_eq : Edit → Edit → Bool
edit_eq (Cancel n) (Cancel m) = n == m
edit_eq (Replace n one) (Replace m two) = n == m && text_eq one two
edit_eq _ _ = false

abbrev pub is_edit : Option Edit → Edit → Bool
is_edit None e = false
is_edit (Some first) e = edit_eq first e

-- the numbers of the edits that differ from the first one of their line
abbrev pub twice_edited : List Edit → List ℕ
twice_edited edits =
    map edited_number (filter (λ e. not (is_edit (edit_of edits (edited_number e)) e)) edits)

-- the edited numbers from 1 on that are below the number at which a recording begins
abbrev pub too_early : ℕ → List Edit → List ℕ
too_early from edits = filter (λ n. nat_lt 0 n && nat_lt n from) (map edited_number edits)

-- the edited numbers that no line has
abbrev pub not_lines : (ℕ → Bool) → List Edit → List ℕ
not_lines is_line edits = filter (λ n. not (is_line n)) (map edited_number edits)

-- the lesser of two numbers, each of which may be missing
abbrev pub sooner : Option ℕ → Option ℕ → Option ℕ
sooner None n = n
sooner (Some m) None = Some m
sooner (Some m) (Some n) = Some (if nat_lt m n then m else n)

-- the least of some numbers, or None if there are none
abbrev pub least : List ℕ → Option ℕ
least [] = None
least (n ∷ numbers) = sooner (Some n) (least numbers)

abbrev pub refusal_by : Option ℕ → Option ℕ → Option ℕ → Result ⊤ EditRefusal
refusal_by (Some n) early missing = Err (TwoEdits n)
refusal_by None (Some n) missing = Err (BeforeCheckpoint n)
refusal_by None None (Some n) = Err (NoSuchLine n)
refusal_by None None None = Ok tt

-- Whether edits can be made of the lines of a recording, or the first refusal: of the least number
-- that two different edits name, then of the least one, from 1 on, that is below the number at
-- which the recording begins, and then of the least one that no line has.
unfoldable pub edits_tested : ℕ → (ℕ → Bool) → List Edit → Result ⊤ EditRefusal
edits_tested from is_line edits =
    refusal_by (least (twice_edited edits)) (least (too_early from edits)) (least (not_lines is_line edits))

-- the same of the lines of a script, which has all lines that sessions ran
unfoldable pub script_edits_tested : (ℕ → Bool) → List Edit → Result ⊤ EditRefusal
script_edits_tested is_line edits =
    refusal_by (least (twice_edited edits)) None (least (not_lines is_line edits))

-- ---- edited scripts

-- a script with its edited lines
abbrev pub edited_script : (ℕ → Option Edit) → ScriptValue → ScriptValue
edited_script edit script = record { first = script.first; lines = edited edit script.lines }

-- whether a line of a script has a number
abbrev pub has_line : ScriptValue → ℕ → Bool
has_line script = is_among (map number_of script.lines)

abbrev pub unless_refused : {A : Type 0} → Result ⊤ EditRefusal → A → Result A EditRefusal
unless_refused (Ok _) a = Ok a
unless_refused (Err refusal) a = Err refusal

-- the edited script, or the first refusal
unfoldable pub edit : List Edit → ScriptValue → Result ScriptValue EditRefusal
edit edits script =
    unless_refused (script_edits_tested (has_line script) edits) (edited_script (edit_of edits) script)

-- The result is the edited script or the refusal that a definition says. Memory runs out only if no
-- edit is refused.
abbrev pub IsEdited : Result ScriptValue EditFault → Result ScriptValue EditRefusal → Type 0
IsEdited (Ok script) meant = meant ≡ Ok script
IsEdited (Err (faults.TwoEdits n)) meant = meant ≡ Err (TwoEdits n)
IsEdited (Err (faults.NoSuchLine n)) meant = meant ≡ Err (NoSuchLine n)
IsEdited (Err faults.NoMem) meant = IsOk meant

-- ---- for searches

-- the least number from another one on that satisfies a condition, or None if there is none
abbrev pub IsNextFrom : (ℕ → Bool) → ℕ → Option ℕ → Type 0
IsNextFrom p from None = (n : ℕ) → from ≤ n → p n ≡ false
IsNextFrom p from (Some n) = (from ≤ n) × (p n ≡ true) × ((m : ℕ) → from ≤ m → m < n → p m ≡ false)
