-- How many lines of sessions have no record.
use Rattle.std.specs.Prelude.{ℕ, ◌-◌, ◌==◌, List, count_by, fold, max, if◌then◌else◌}
use Rattle.casebook_typed.specs.Spans.{spans_of}
use Rattle.casebook_typed.specs.declared.span.Span.{Span}
use Rattle.casebook_typed.specs.declared.step.Step.{Step}
use Rattle.casebook_typed.specs.declared.step.What.{What}
use Rattle.casebook_typed.specs.declared.step.What.TheVariants as whats

-- The number of a line that a step names: of one that begins or ends there, or of the last one of a
-- session that ends. A start names none.
abbrev pub number_in : What → ℕ
number_in (whats.Start parent) = 0
number_in (whats.Begin n) = n
number_in (whats.End n) = n
number_in (whats.Exit n) = n

-- the greater of a number and that which a step of a session names
abbrev pub most_by : ℕ → ℕ → Step → ℕ
most_by session most step =
    if session == step.session then max most (number_in step.what) else most

-- How many lines began in a session: the greatest number that its steps name, since lines are
-- numbered from 1 on.
abbrev pub begun_in : ℕ → List Step → ℕ
begun_in session steps = fold (most_by session) 0 steps

-- how many of a session's lines are among some lines
abbrev pub recorded_in : ℕ → List Span → ℕ
recorded_in session spans = count_by (λ span. session == span.session) spans

-- how many of a session's lines no step begins or ends
abbrev pub missing_in : List Step → ℕ → ℕ
missing_in steps session = begun_in session steps - recorded_in session (spans_of steps)
