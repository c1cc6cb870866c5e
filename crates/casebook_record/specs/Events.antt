-- What happens in sessions, by the fields of each kind.
use Rattle.std.specs.Prelude.{ℕ, List, [], ◌∷◌, Result, Ok, Err, ok_or}
use Rattle.casebook_record.specs.Fields.{wrong_count}
use Rattle.casebook_record.specs.Names.{parent_of}
use Rattle.casebook_record.specs.Numbers.{line_number_of, number_of, status_of, umask_of}
use Rattle.casebook_record.specs.Reads.{◌>>=◌}
use Rattle.casebook_record.specs.Statuses.{statuses_of}
use Rattle.casebook_record.specs.Texts.{change_of, line_of}
use Rattle.casebook_record.specs.declared.begin.Begin.{Begin}
use Rattle.casebook_record.specs.declared.end.End.{End}
use Rattle.casebook_record.specs.declared.exit.Exit.{Exit}
use Rattle.casebook_record.specs.declared.start.Start.{Start}
use Rattle.casebook_record.specs.declared.record_error.Field.TheVariants as fields
use Rattle.casebook_record.specs.declared.record_error.RecordError.{RecordError}
use Rattle.casebook_record.specs.declared.record_error.RecordError.TheVariants.{Wrong}

-- the start of a session
unfoldable pub start_of : List (List ℕ) → Result Start RecordError
start_of (parent ∷ terminal ∷ umask ∷ login ∷ link ∷ varied ∷ variables ∷ changed ∷ shell ∷ []) = do
  from ← ok_or (parent_of parent) (Wrong fields.Parent)
  mask ← ok_or (umask_of umask) (Wrong fields.Umask)
  vars ← ok_or (change_of varied variables) (Wrong fields.Variables)
  defined ← ok_or (change_of changed shell) (Wrong fields.Shell)
  Ok (record {
    parent = from;
    terminal = terminal;
    umask = mask;
    login = login;
    connection = link;
    variables = vars;
    shell = defined;
  })
start_of other = Err (wrong_count 9 other)

-- the beginning of a line
unfoldable pub begin_of : List (List ℕ) → Result Begin RecordError
begin_of (number ∷ shown ∷ text ∷ []) = do
  n ← ok_or (line_number_of number) (Wrong fields.Number)
  line ← ok_or (line_of shown text) (Wrong fields.Line)
  Ok (record { number = n; line = line })
begin_of other = Err (wrong_count 3 other)

-- the end of a line
unfoldable pub end_of : List (List ℕ) → Result End RecordError
end_of (number ∷ status ∷ statuses ∷ shown ∷ text ∷ varied ∷ variables ∷ changed ∷ shell ∷ []) = do
  n ← ok_or (line_number_of number) (Wrong fields.Number)
  last ← ok_or (status_of status) (Wrong fields.Status)
  ended ← ok_or (statuses_of statuses) (Wrong fields.Statuses)
  line ← ok_or (line_of shown text) (Wrong fields.Line)
  vars ← ok_or (change_of varied variables) (Wrong fields.Variables)
  defined ← ok_or (change_of changed shell) (Wrong fields.Shell)
  Ok (record {
    number = n;
    status = last;
    statuses = ended;
    line = line;
    variables = vars;
    shell = defined;
  })
end_of other = Err (wrong_count 9 other)

-- the end of a session
unfoldable pub exit_of : List (List ℕ) → Result Exit RecordError
exit_of (lines ∷ status ∷ []) = do
  n ← ok_or (number_of lines) (Wrong fields.Number)
  ended ← ok_or (status_of status) (Wrong fields.Status)
  Ok (record { lines = n; status = ended })
exit_of other = Err (wrong_count 2 other)
