-- The sessions of records, in the order in which they first appear.
use Rattle.std.specs.Prelude.{ℕ, ◌+◌, not, List, [], ◌∷◌, map, Option, Some, None, if◌then◌else◌}
use Rattle.std.specs.Option.{option_or}
use Rattle.std.specs.List.{filter, position_from}
use Rattle.casebook_record.specs.declared.event.Event.{Event}
use Rattle.casebook_record.specs.declared.event.Event.TheVariants as events
use Rattle.casebook_record.specs.declared.record.Record.{Record}
use Rattle.casebook_record.specs.declared.start.Start.{Start}
use Rattle.retro_path.specs.Order.{text_eq}
use Rattle.casebook_typed.specs.Missing.{missing_in}
use Rattle.casebook_typed.specs.declared.step.Step.{Step}
use Rattle.casebook_typed.specs.declared.step.What.{What}
use Rattle.casebook_typed.specs.declared.step.What.TheVariants as whats

-- the names of a list, each where it appears first
abbrev pub first_names : List (List ℕ) → List (List ℕ)
first_names [] = []
first_names (x ∷ xs) = x ∷ filter (λ y. not (text_eq x y)) (first_names xs)

-- the names of the sessions, in the order in which they first appear in records
abbrev pub session_names : List Record → List (List ℕ)
session_names records = first_names (map (λ r. r.session) records)

abbrev pub after_place : Option ℕ → ℕ
after_place None = 0
after_place (Some i) = i + 1

-- the place of a session among names, counted from 1, or 0 if it isn't there
abbrev pub place_in : List (List ℕ) → List ℕ → ℕ
place_in names name = after_place (position_from (text_eq name) 0 names)

-- the place of the session that started another one, or 0 if none did, or one without a record
abbrev pub parent_in : List (List ℕ) → Option (List ℕ) → ℕ
parent_in names None = 0
parent_in names (Some name) = place_in names name

-- what happened, with the place of the parent in place of its name
abbrev pub what_in : List (List ℕ) → Event → What
what_in names (events.Start start) = whats.Start (parent_in names start.parent)
what_in names (events.Begin begin) = whats.Begin begin.number
what_in names (events.End end) = whats.End end.number
what_in names (events.Exit exit) = whats.Exit exit.lines

abbrev pub step_in : List (List ℕ) → Record → Step
step_in names r = record { session = place_in names r.session; what = what_in names r.event }

-- what happened at each record, with places of sessions in place of their names
abbrev pub steps_of : List Record → List Step
steps_of records = map (step_in (session_names records)) records

-- ---- sessions

-- the first record of a session, if it has one
abbrev pub first_record : List ℕ → List Record → Option Record
first_record name [] = None
first_record name (r ∷ rest) = if text_eq name r.session then Some r else first_record name rest

-- how a record says that a session started, if it does
abbrev pub start_in : Event → Option Start
start_in (events.Start start) = Some start
start_in (events.Begin begin) = None
start_in (events.End end) = None
start_in (events.Exit exit) = None

abbrev pub start_if : List ℕ → List ℕ → Event → Option Start
start_if name session event = if text_eq name session then start_in event else None

-- how a session started, by the first record that says so
abbrev pub first_start : List ℕ → List Record → Option Start
first_start name [] = None
first_start name (r ∷ rest) = option_or (start_if name r.session r.event) (first_start name rest)

abbrev pub parent_by : List (List ℕ) → Option Start → ℕ
parent_by names None = 0
parent_by names (Some start) = parent_in names start.parent

-- a session: its name, its first record, how it started, the place of the session that started it,
-- and how many of its lines have no record
pub record SessionValue : Type 0 where
  pub name : List ℕ
  pub first : Option Record
  pub start : Option Start
  pub parent : ℕ
  pub missing : ℕ

abbrev pub session_in : List (List ℕ) → List Record → List ℕ → SessionValue
session_in names records name = record {
  name = name;
  first = first_record name records;
  start = first_start name records;
  parent = parent_by names (first_start name records);
  missing = missing_in (steps_of records) (place_in names name);
}

-- the sessions, in the order in which they first appear in records
abbrev pub sessions_of : List Record → List SessionValue
sessions_of records = map (session_in (session_names records) records) (session_names records)
