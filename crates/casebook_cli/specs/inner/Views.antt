-- The values of the code as the definitions have them.
use Rattle.std.specs.Prelude.{◌≡◌, ℕ, ℤ, ◌++◌, Bool, List, map}
use Rattle.std.specs.Prelude.{option_map}
use Rattle.regex.specs.Bytes.{regex_pattern}
use Rattle.retro_keep.specs.Recording.{RecordingValue}
use Rattle.casebook_view.specs.Filters.{FiltersValue}
use Rattle.casebook_view.specs.Rows.{RowValue, rows_of}
use Rattle.casebook_view.specs.Sources.{SourceValue}
use Rattle.casebook_view.specs.declared.line_test.LineTest.{LineTest}
use Rattle.casebook_about.specs.declared.labels.Labels.{Labels}
use Rattle.casebook_request.specs.Request.{LinesRequest}
use Rattle.casebook_repairs.specs.Views.{document_view}
use Rattle.casebook_cli.specs.Answers.{AnswerValue}
use Rattle.casebook_cli.specs.Typed.{typed}
use Rattle.casebook_cli.specs.Lines.{HasUser, user_tests}
use Rattle.casebook_cli.specs.Tests.{test_view, tests_of}
use Rattle.casebook_cli.specs.Screens.{ScreenValue}
use Rattle.casebook_cli.specs.Scripts.{ScriptInputs}
use Rattle.casebook_cli.specs.declared.answer.Answer.{Answer}
use Rattle.casebook_cli.specs.declared.patterns.Patterns.{Patterns}
use Rattle.casebook_cli.specs.declared.screens.Screen.{Screen}
use Rattle.casebook_cli.specs.declared.scripts.ScriptFiles.{ScriptFiles}

-- ---- documents

abbrev pub files_view : ScriptFiles → ScriptInputs
files_view files = record {
  document = document_view files.document;
  sessions = document_view files.sessions;
  lines = document_view files.lines;
}

-- ---- rows of lines

-- the filters of tests and patterns of the code
abbrev pub filters_by : List LineTest → Patterns → Bool → FiltersValue
filters_by tests patterns is_unknown = record {
  tests = tests;
  text = option_map regex_pattern patterns.text;
  shown = option_map regex_pattern patterns.shown;
  is_unknown = is_unknown;
}

-- The rows are those of the lines of a recording that pass the tests of a request, in which
-- patterns are found, that aren't understood if only such lines are asked for, and that were typed
-- between its bounds.
pub record AreAskedRows (request : LinesRequest) (labels : Labels) (times : List (ℕ × ℤ)) (r : RecordingValue)
    (source : SourceValue) (patterns : Patterns) (rows : List RowValue) : Type 0 where
  pub tests : List LineTest
  pub are_tests : map test_view tests ≡ tests_of request ++ user_tests labels r.lines request.user
  pub user : HasUser labels r.lines request.user
  pub are_rows : rows ≡ typed request.bounds times (rows_of source (filters_by tests patterns request.is_unknown) r)

-- ---- screens and answers

abbrev pub screen_view : Screen → ScreenValue
screen_view screen = record {
  source = screen.case.now.source;
  recording = screen.case.now.recording;
  repair = screen.case.now.repair;
  summary = screen.summary.now;
  labels = screen.names.labels.now;
  colours = screen.colours;
}

abbrev pub answer_view : Answer → AnswerValue
answer_view answer = record { text = answer.text.items; is_no = answer.is_no }
