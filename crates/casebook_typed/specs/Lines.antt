-- The lines that a recording is made of, in order.
use Rattle.std.specs.Prelude.{ℕ, ◌+◌, ◌==◌, ◌&&◌, ◌||◌, Bool, true, false, not, List, [], ◌∷◌, ◌++◌}
use Rattle.std.specs.Prelude.{flat_map, length, map}
use Rattle.std.specs.Prelude.{Option, Some, None, nat_lt, slice_index_or, take, if◌then◌else◌}
use Rattle.std.specs.List.{find}
use Rattle.casebook_record.specs.declared.event.Event.{Event}
use Rattle.casebook_record.specs.declared.event.Event.TheVariants as events
use Rattle.casebook_record.specs.declared.record.Record.{Record}
use Rattle.casebook_watch.specs.Sights.{Sights}
use Rattle.casebook_spool.specs.After.{after_notes}
use Rattle.casebook_typed.specs.Looks.{SeenValue, seen_by}
use Rattle.casebook_typed.specs.Observations.{Observed}
use Rattle.casebook_typed.specs.Sessions.{steps_of}
use Rattle.casebook_typed.specs.Spans.{active_at, spans_of}
use Rattle.casebook_typed.specs.declared.line.Extent.{Extent}
use Rattle.casebook_typed.specs.declared.line.Extent.TheVariants as extents
use Rattle.casebook_typed.specs.declared.line.LineName.{LineName}
use Rattle.casebook_typed.specs.declared.line.Owner.{Owner}
use Rattle.casebook_typed.specs.declared.line.Owner.TheVariants as owners
use Rattle.casebook_typed.specs.declared.span.Span.{Span}

-- a line, by what it stands for
pub record LineValue : Type 0 where
  pub owner : Owner
  pub extent : Extent
  pub shown : Record
  pub text : Option (List ℕ)
  pub seen : SeenValue
  pub overlapping : List LineName

-- the text that a record has of a line, unless it is hidden
abbrev pub text_of : Event → Option (List ℕ)
text_of (events.Start start) = None
text_of (events.Begin begin) = begin.line
text_of (events.End end) = end.line
text_of (events.Exit exit) = None

-- the text that the record of an observation has
abbrev pub text_at : List Record → ℕ → Option (List ℕ)
text_at records at = slice_index_or (map (λ r. text_of r.event) records) at None

-- whether nothing was changed, read or listed
abbrev pub is_nothing : SeenValue → Bool
is_nothing seen =
    length seen.changes == 0 && length seen.read == 0 && length seen.listed == 0

abbrev pub nothing_seen : SeenValue
nothing_seen = record { changes = []; read = []; listed = [] }

abbrev pub name_of : Span → LineName
name_of span = record { session = span.session; number = span.number }

-- The lines that may have done what was seen, if there are two or more.
abbrev pub overlapping_in : List Span → SeenValue → List LineName
overlapping_in active seen =
    if is_nothing seen || nat_lt (length active) 2 then [] else map name_of active

-- whether a line closes at an observation, by its end or without one
abbrev pub closes : ℕ → Bool → Span → Bool
closes at is_ended span =
    span.until == at && (if is_ended then span.is_ended else not span.is_ended)

-- ---- the lines of an observation, by its record and the active lines

-- a line that ended: its text is that of its end
abbrev pub whole_line : Record → Span → SeenValue → List LineName → LineValue
whole_line r span seen overlapping = record {
  owner = owners.Line (name_of span);
  extent = extents.Whole;
  shown = r;
  text = text_of r.event;
  seen = seen;
  overlapping = overlapping;
}

-- a line that hasn't ended, or was cut off: its text is that of its beginning
abbrev pub begun_line : List Record → Record → Extent → Span → SeenValue → List LineName → LineValue
begun_line records r extent span seen overlapping = record {
  owner = owners.Line (name_of span);
  extent = extent;
  shown = r;
  text = text_at records span.shown;
  seen = seen;
  overlapping = overlapping;
}

-- whether nothing was changed
abbrev pub is_unchanged : SeenValue → Bool
is_unchanged seen = length seen.changes == 0

abbrev pub only_changes : SeenValue → SeenValue
only_changes seen = record { changes = seen.changes; read = []; listed = [] }

abbrev pub nobodys_line : Record → SeenValue → LineValue
nobodys_line r seen = record {
  owner = owners.Nobody;
  extent = extents.Part;
  shown = r;
  text = None;
  seen = only_changes seen;
  overlapping = [];
}

-- What is changed while no line is active is nobody's. What is only read then is of no line, since
-- nobody can say what rests on it.
abbrev pub nobodys_in : Record → SeenValue → List LineValue
nobodys_in r seen = if is_unchanged seen then [] else nobodys_line r seen ∷ []

-- What is seen while no line closes is of the active line that began first, or nobody's.
abbrev pub parts_in : List Record → Record → List Span → SeenValue → List LineValue
parts_in records r [] seen = nobodys_in r seen
parts_in records r (span ∷ rest) seen =
    if is_nothing seen then []
    else begun_line records r extents.Part span seen (overlapping_in (span ∷ rest) seen) ∷ []

-- If one line is cut off and another one ends, what is seen is of the first one if no other line is
-- active, and else of the second one.
abbrev pub lines_by : List Record → Record → List Span → SeenValue → Option Span → Option Span
    → List LineValue
lines_by records r active seen (Some cut) (Some ended) =
    if length active == 2 then
    begun_line records r extents.CutOff cut seen (overlapping_in active seen)
    ∷ whole_line r ended nothing_seen (overlapping_in active seen) ∷ []
    else
    (begun_line records r extents.CutOff cut nothing_seen (overlapping_in active seen)
    ∷ whole_line r ended seen (overlapping_in active seen) ∷ [])
lines_by records r active seen (Some cut) None =
    begun_line records r extents.CutOff cut seen (overlapping_in active seen) ∷ []
lines_by records r active seen None (Some ended) =
    whole_line r ended seen (overlapping_in active seen) ∷ []
lines_by records r active seen None None = parts_in records r active seen

-- the lines of the observation at `at`
abbrev pub lines_at : List Record → ℕ → Record → List Span → SeenValue → List LineValue
lines_at records at r active seen =
    lines_by records r active seen (find (closes at false) active) (find (closes at true) active)

-- ---- all lines

abbrev pub records_of : List Observed → List Record
records_of os = map (λ o. o.said) os

-- the sights of the last look before an observation
abbrev pub sights_before : Sights → List Observed → ℕ → Sights
sights_before first os at = after_notes first (flat_map (λ o. o.noted) (take at os))

-- the lines that are open at an observation and don't wait
abbrev pub active_in : List Observed → ℕ → List Span
active_in os at = active_at (steps_of (records_of os)) (spans_of (steps_of (records_of os))) at

abbrev pub lines_in : Sights → List Observed → ℕ → Observed → List LineValue
lines_in first os at o =
    lines_at (records_of os) at o.said (active_in os at)
    (seen_by (sights_before first os at) o.noted)

-- the lines of these observations, of which the first one is that at `at`
abbrev pub lines_from : Sights → List Observed → ℕ → List Observed → List LineValue
lines_from first os at [] = []
lines_from first os at (o ∷ rest) = lines_in first os at o ++ lines_from first os (at + 1) rest

-- the lines of observations after a first look
unfoldable pub lines_after : Sights → List Observed → List LineValue
lines_after first os = lines_from first os 0 os

-- what these observations show, of which the first one is that at `at`
abbrev pub seen_from_place : Sights → List Observed → ℕ → List Observed → List SeenValue
seen_from_place first os at [] = []
seen_from_place first os at (o ∷ rest) =
    seen_by (sights_before first os at) o.noted ∷ seen_from_place first os (at + 1) rest

-- what observations show, one after the other
abbrev pub seen_after : Sights → List Observed → List SeenValue
seen_after first os = seen_from_place first os 0 os

-- what counts of what is seen while these lines are active: if there is none, changes alone
abbrev pub counted : List Span → SeenValue → SeenValue
counted [] seen = only_changes seen
counted (span ∷ rest) seen = seen

-- what counts of these observations, of which the first one is that at `at`
abbrev pub counted_from_place : Sights → List Observed → ℕ → List Observed → List SeenValue
counted_from_place first os at [] = []
counted_from_place first os at (o ∷ rest) =
    counted (active_in os at) (seen_by (sights_before first os at) o.noted)
    ∷ counted_from_place first os (at + 1) rest

-- what counts of observations, one after the other
abbrev pub counted_after : Sights → List Observed → List SeenValue
counted_after first os = counted_from_place first os 0 os
