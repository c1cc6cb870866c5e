-- A record: a list of fields, each ended by a NUL. The first five are the same for all kinds.
use Rattle.std.specs.Prelude.{ℕ, List, ◌∷◌, Result, Ok, Err, ok_or}
use Rattle.casebook_record.specs.Events.{begin_of, end_of, exit_of, start_of}
use Rattle.casebook_record.specs.Fields.{fields_of}
use Rattle.casebook_record.specs.Kinds.{kind_of}
use Rattle.casebook_record.specs.Names.{directory_of, session_of}
use Rattle.casebook_record.specs.Numbers.{decimal_of, number_of}
use Rattle.casebook_record.specs.Reads.{◌>>=◌}
use Rattle.casebook_record.specs.declared.event.Event.{Event}
use Rattle.casebook_record.specs.declared.event.Event.TheVariants as events
use Rattle.casebook_record.specs.declared.kind.Kind.{Kind}
use Rattle.casebook_record.specs.declared.kind.Kind.TheVariants as kinds
use Rattle.casebook_record.specs.declared.record.Record.{Record}
use Rattle.casebook_record.specs.declared.record_error.Field.TheVariants as fields
use Rattle.casebook_record.specs.declared.record_error.RecordError.{RecordError}
use Rattle.casebook_record.specs.declared.record_error.RecordError.TheVariants.{CutOff, UnknownKind}
use Rattle.casebook_record.specs.declared.record_error.RecordError.TheVariants.{Wrong}

-- what happened, by the kind and its own fields
abbrev pub event_of : Kind → List (List ℕ) → Result Event RecordError
event_of kinds.Start own = start_of own >>= λ start. Ok (events.Start start)
event_of kinds.Begin own = begin_of own >>= λ begin. Ok (events.Begin begin)
event_of kinds.End own = end_of own >>= λ end. Ok (events.End end)
event_of kinds.Exit own = exit_of own >>= λ exit. Ok (events.Exit exit)

-- the record of some fields
unfoldable pub record_in : List (List ℕ) → Result Record RecordError
record_in (kind ∷ session ∷ time ∷ user ∷ directory ∷ own) = do
  what ← ok_or (kind_of kind) UnknownKind
  name ← ok_or (session_of session) (Wrong fields.Session)
  at ← ok_or (decimal_of time) (Wrong fields.Time)
  uid ← ok_or (number_of user) (Wrong fields.User)
  dir ← ok_or (directory_of directory) (Wrong fields.Directory)
  event ← event_of what own
  Ok (record { session = name; at = at; user = uid; directory = dir; event = event })
record_in other = Err CutOff

-- the record of bytes
unfoldable pub record_of : List ℕ → Result Record RecordError
record_of bytes = fields_of bytes >>= record_in
