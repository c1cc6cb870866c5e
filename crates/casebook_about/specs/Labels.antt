-- The names of sessions, and the times of lines.
use Rattle.std.specs.Cmp.Lexicographic.{pointwise}
use Rattle.std.specs.Prelude.{ℕ, Bool, List, [], Option, Some, None, decimal, nat_eq}
use Rattle.std.specs.FinMap as map
use Rattle.casebook_text.specs.SafeLine.{safe_bytes, word_bytes}
use Rattle.casebook_about.specs.declared.labels.Labels.{Labels}

abbrev pub no_labels : Labels
no_labels = record { names = map.empty; times = map.empty }

-- labels with one more name, or one more time
abbrev pub named : ℕ → List ℕ → Labels → Labels
named session name labels =
    record { names = map.insert labels.names session name; times = labels.times }

abbrev pub timed : ℕ → List ℕ → Labels → Labels
timed number time labels =
    record { names = labels.names; times = map.insert labels.times number time }

-- a name, or the number of the session
abbrev pub name_or : ℕ → Option (List ℕ) → List ℕ
name_or session None = decimal session
name_or session (Some name) = word_bytes name

-- the name of a session as it was given, or None if it has none
abbrev pub name_in : ℕ → Labels → Option (List ℕ)
name_in session labels = map.get labels.names session

-- a name as it was given, or the number of the session if it has none
abbrev pub name_or_number : ℕ → Option (List ℕ) → List ℕ
name_or_number session None = decimal session
name_or_number session (Some name) = name

-- whether a session has a name, or has none and this is its number
abbrev pub is_named : Labels → List ℕ → ℕ → Bool
is_named labels name session = pointwise nat_eq (name_or_number session (name_in session labels)) name

abbrev pub name_words : ℕ → Labels → List ℕ
name_words session labels = name_or session (name_in session labels)

-- a time, or nothing
abbrev pub time_or_none : Option (List ℕ) → List ℕ
time_or_none None = []
time_or_none (Some time) = safe_bytes time

abbrev pub time_words : ℕ → Labels → List ℕ
time_words number labels = time_or_none (map.get labels.times number)
