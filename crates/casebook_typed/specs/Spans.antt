-- When lines are open. Observations are named by their places in the spool, counted from 0.
use Rattle.std.specs.Prelude.{ℕ, ◌+◌, ◌==◌, ◌&&◌, ◌||◌, Bool, true, false, not, List, [], ◌∷◌, ◌++◌}
use Rattle.std.specs.Prelude.{length}
use Rattle.std.specs.Prelude.{Option, Some, None, drop, is_some, nat_le, nat_lt, take}
use Rattle.std.specs.Prelude.{if◌then◌else◌}
use Rattle.std.specs.List.{filter, list_any, position_from}
use Rattle.casebook_typed.specs.declared.span.Span.{Span}
use Rattle.casebook_typed.specs.declared.step.Step.{Step}
use Rattle.casebook_typed.specs.declared.step.What.{What}
use Rattle.casebook_typed.specs.declared.step.What.TheVariants as whats

abbrev pub begins : What → ℕ → Bool
begins (whats.Begin n) number = number == n
begins _ number = false

abbrev pub ends : What → ℕ → Bool
ends (whats.End n) number = number == n
ends _ number = false

-- whether a step begins or ends the line of a session with a number
abbrev pub is_begin_of : ℕ → ℕ → Step → Bool
is_begin_of session number step = session == step.session && begins step.what number

abbrev pub is_end_of : ℕ → ℕ → Step → Bool
is_end_of session number step = session == step.session && ends step.what number

-- where a line begins and ends
abbrev pub begin_of : List Step → ℕ → ℕ → Option ℕ
begin_of steps session number = position_from (is_begin_of session number) 0 steps

abbrev pub end_of : List Step → ℕ → ℕ → Option ℕ
end_of steps session number = position_from (is_end_of session number) 0 steps

-- ---- contradictions

-- A step contradicts earlier ones if it begins a line that one of them begins or ends, or ends one
-- that one of them ends.
abbrev pub contradicts_by : List Step → ℕ → What → Bool
contradicts_by earlier session (whats.Begin n) =
    list_any (is_begin_of session n) earlier || list_any (is_end_of session n) earlier
contradicts_by earlier session (whats.End n) = list_any (is_end_of session n) earlier
contradicts_by earlier session _ = false

abbrev pub contradicts : List Step → Step → Bool
contradicts earlier step = contradicts_by earlier step.session step.what

-- the first step that contradicts earlier ones, of those that follow `earlier`
abbrev pub contradiction_after : List Step → List Step → Option ℕ
contradiction_after earlier [] = None
contradiction_after earlier (step ∷ rest) =
    if contradicts earlier step then Some (length earlier)
    else contradiction_after (earlier ++ step ∷ []) rest

abbrev pub contradiction : List Step → Option ℕ
contradiction steps = contradiction_after [] steps

-- ---- spans

-- A line that began at `at` is open from the next observation on: to its end, or, without an end,
-- at this next one alone.
abbrev pub begun_span : ℕ → ℕ → ℕ → Option ℕ → Span
begun_span session number at (Some end) = record {
  session = session;
  number = number;
  shown = at;
  since = at + 1;
  until = end;
  is_ended = true;
}
begun_span session number at None = record {
  session = session;
  number = number;
  shown = at;
  since = at + 1;
  until = at + 1;
  is_ended = false;
}

-- A line whose begin is missing is open at its end alone.
abbrev pub lone_end : ℕ → ℕ → ℕ → Span
lone_end session number at = record {
  session = session;
  number = number;
  shown = at;
  since = at;
  until = at;
  is_ended = true;
}

-- the line that a step shows first: that which it begins, or ends if no step begins it
abbrev pub span_by : List Step → ℕ → ℕ → What → Option Span
span_by steps at session (whats.Begin n) =
    Some (begun_span session n at (end_of steps session n))
span_by steps at session (whats.End n) =
    if is_some (begin_of steps session n) then None else Some (lone_end session n at)
span_by steps at session _ = None

abbrev pub with_span : Option Span → List Span → List Span
with_span None spans = spans
with_span (Some span) spans = span ∷ spans

-- the lines that these steps show first, of which the first one is that at `at`
abbrev pub spans_from : List Step → ℕ → List Step → List Span
spans_from steps at [] = []
spans_from steps at (step ∷ rest) =
    with_span (span_by steps at step.session step.what) (spans_from steps (at + 1) rest)

-- the lines, in the order of the steps that show them first
abbrev pub spans_of : List Step → List Span
spans_of steps = spans_from steps 0 steps

-- ---- open lines

abbrev pub is_open : Span → ℕ → Bool
is_open span at = nat_le span.since at && nat_le at span.until

abbrev pub starts_from : ℕ → What → Bool
starts_from session (whats.Start parent) = parent == session
starts_from session _ = false

-- whether a step starts a session from this one
abbrev pub is_start_from : ℕ → Step → Bool
is_start_from session step = starts_from session step.what

-- A line waits from the observation after one at which it was open and a session started from its
-- own, and until it closes.
abbrev pub is_waiting : List Step → Span → ℕ → Bool
is_waiting steps span at =
    nat_lt at span.until
    && list_any (is_start_from span.session) (drop span.since (take at steps))

-- whether what is seen at an observation may be what a line did
abbrev pub is_active : List Step → ℕ → Span → Bool
is_active steps at span = is_open span at && not (is_waiting steps span at)

-- the lines that are open at an observation and don't wait
abbrev pub active_at : List Step → List Span → ℕ → List Span
active_at steps spans at = filter (is_active steps at) spans
