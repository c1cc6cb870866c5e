-- What text answers a request for rows of lines.
use Rattle.std.specs.Prelude.{◌≡◌, ◌≢◌, ℕ, ◌==◌, if◌then◌else◌, true, false, List, [], ◌∷◌, ◌++◌, Option, Some, None, decimal}
use Rattle.std.specs.Prelude.{fold, map}
use Rattle.std.specs.List.{filter, join_with_byte, list_any}
use Rattle.regex.specs.Bytes.{IsReadFromSource, regex_config, regex_pattern, regex_source}
use Rattle.regex.specs.Patterns.{Re}
use Rattle.regex.specs.declared.bytes.regex.Regex.{Regex}
use Rattle.regex_syntax.specs.Verdict.{default_config}
use Rattle.regex_syntax.specs.declared.Config.{Config}
use Rattle.retro_keep.specs.declared.noted.Noted.{Noted}
use Rattle.casebook_account.specs.Accounts.{IsShownAccount}
use Rattle.casebook_account.specs.declared.account.Account.{Account}
use Rattle.casebook_text.specs.Lists.{comma}
use Rattle.casebook_text.specs.SafeLine.{text_of_lines, text_of_rows}
use Rattle.casebook_view.specs.Filters.{FiltersValue}
use Rattle.casebook_view.specs.Rows.{RowValue, rows_of}
use Rattle.casebook_about.specs.Labels.{is_named}
use Rattle.casebook_about.specs.declared.labels.Labels.{Labels}
use Rattle.casebook_screen.specs.Fields.{fields_of}
use Rattle.casebook_screen.specs.Rows.{rows_told}
use Rattle.casebook_screen.specs.Screen.{IsScreen}
use Rattle.casebook_request.specs.Request.{LinesRequest}
use Rattle.casebook_request.specs.declared.format.Format.{Format}
use Rattle.casebook_request.specs.declared.format.Format.TheVariants as formats
use Rattle.casebook_repairs.specs.Inputs.{InputsValue}
use Rattle.casebook_repairs.specs.Labels.{AreLabels, seen_by, source_by, times_in}
use Rattle.casebook_cli.specs.Tests.{Test, of_sessions, test_view, tests_of}
use Rattle.casebook_cli.specs.Typed.{lacks_times, typed}

-- ---- filters

-- how regular expressions are read: ^ and $ are the ends of a line, and bytes need not be UTF-8
abbrev pub pattern_config : Config
pattern_config =
    record default_config { flags = record (default_config.flags) { multi_line = true }; utf8 = false }

-- A text is read as this regular expression.
pub record IsPattern (text : List ℕ) (pattern : Re) : Type 0 where
  pub regex : Regex
  pub source : regex_source regex ≡ text
  pub config : regex_config regex ≡ pattern_config
  pub read : IsReadFromSource regex
  pub is : regex_pattern regex ≡ pattern

-- a text that may be missing is read as a regular expression
abbrev pub AreRead : Option (List ℕ) → Option Re → Type 0
AreRead None None = Unit {0}
AreRead None (Some pattern) = ⊥
AreRead (Some text) None = ⊥
AreRead (Some text) (Some pattern) = IsPattern text pattern

abbrev pub session_of_line : ℕ × Noted → ℕ
session_of_line line = line.1.sid

-- a list with a number that it doesn't have at its end, and otherwise as it is
abbrev pub with_number : List ℕ → ℕ → List ℕ
with_number numbers n = if list_any (λ m. m == n) numbers then numbers else numbers ++ n ∷ []

-- each once
abbrev pub sessions_named : Labels → List (ℕ × Noted) → List ℕ → List ℕ
sessions_named labels lines name = fold with_number [] (filter (is_named labels name) (map session_of_line lines))

-- the test that a session has a name, if one is given
abbrev pub user_tests : Labels → List (ℕ × Noted) → Option (List ℕ) → List Test
user_tests labels lines None = []
user_tests labels lines (Some name) = of_sessions (sessions_named labels lines name) ∷ []

-- one of some lines is of a session with a name, if one is given
abbrev pub HasUser : Labels → List (ℕ × Noted) → Option (List ℕ) → Type 0
HasUser labels lines None = Unit {0}
HasUser labels lines (Some name) = sessions_named labels lines name ≢ []

-- The filters that a request asks for, of some lines with their names.
pub record AreFilters (request : LinesRequest) (labels : Labels) (lines : List (ℕ × Noted)) (filters : FiltersValue)
    : Type 0 where
  pub tests : map test_view filters.tests ≡ tests_of request ++ user_tests labels lines request.user
  pub user : HasUser labels lines request.user
  pub text : AreRead request.text filters.text
  pub shown : AreRead request.shown filters.shown
  pub unknown : filters.is_unknown ≡ request.is_unknown

-- ---- rows as text

-- rows as the lines that a terminal shows, as a table, and as a list of numbers in one line
pub record IsShownText (labels : Labels) (rows : List RowValue) (text : List ℕ) : Type 0 where
  pub lines : List (List ℕ)
  pub are_lines : IsScreen (rows_told labels rows) lines
  pub is_text : text ≡ text_of_lines lines

abbrev pub table_text : Labels → List RowValue → List ℕ
table_text labels rows = text_of_rows (map (fields_of labels) rows)

abbrev pub row_number : RowValue → ℕ
row_number row = row.number

abbrev pub numbers_text : List RowValue → List ℕ
numbers_text rows = text_of_lines (join_with_byte comma (map decimal (map row_number rows)) ∷ [])

-- rows in a format
abbrev pub IsRowsText : Format → Labels → List RowValue → List ℕ → Type 0
IsRowsText formats.Text labels rows text = IsShownText labels rows text
IsRowsText formats.Tsv labels rows text = text ≡ table_text labels rows
IsRowsText formats.Numbers labels rows text = text ≡ numbers_text rows

-- ---- the answer

-- the rows of an account's lines that pass filters
abbrev pub account_rows : Account → FiltersValue → List RowValue
account_rows account filters = rows_of (source_by (seen_by account.machine)) filters account.recording

-- The text shows exactly the lines of the log or of the case that pass the filters and were typed
-- between the bounds, in order. If a bound is a time, a line has one.
pub record AreLines (inputs : InputsValue) (request : LinesRequest) (text : List ℕ) : Type 0 where
  pub account : Account
  pub is_account : IsShownAccount inputs.log.bytes account
  pub labels : Labels
  pub are_labels : AreLabels account.machine inputs.about labels
  pub timed : lacks_times request.bounds (times_in account.machine inputs.about) ≡ false
  pub filters : FiltersValue
  pub are_filters : AreFilters request labels account.recording.lines filters
  pub shown : IsRowsText request.format labels
      (typed request.bounds (times_in account.machine inputs.about) (account_rows account filters)) text
