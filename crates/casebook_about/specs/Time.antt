-- Times as text.
use Rattle.std.specs.Prelude.{ℤ, ◌*ℤ◌, pos, int_div, ℕ, List, ◌++◌, Option, Some, None, Ok, codes, option_map}
use Rattle.std.specs.Result.{result_ok}
use Rattle.jiff.specs.Words.{IsInstantParts, parse_timestamp}
use Rattle.jiff.specs.Strtime.{StrftimeGives}

-- how a time is shown: the month's short name, the day, the hour and the minute
abbrev pub time_format : List ℕ
time_format = codes "%b %d %H:%M"

-- how an instant is written in documents: its date and its time of day in UTC (RFC 3339)
abbrev pub instant_format : List ℕ
instant_format = codes "%Y-%m-%dT%H:%M:%SZ"

-- whether `jiff` shows a time so in a form, as that of an instant in UTC
abbrev pub IsShownIn : List ℕ → ℤ → List ℕ → Type 0
IsShownIn format second text =
    StrftimeGives (λ (bytes : List ℕ). bytes) format (IsInstantParts (second *ℤ pos 1_000_000_000)) (Ok text)

abbrev pub IsTimeText : ℤ → List ℕ → Type 0
IsTimeText second text = IsShownIn time_format second text

abbrev pub IsInstantText : ℤ → List ℕ → Type 0
IsInstantText second text = IsShownIn instant_format second text

-- the whole seconds of nanoseconds
abbrev pub whole_second : ℤ → ℤ
whole_second n = int_div n (pos 1_000_000_000)

-- the second of the instant that a text names as `jiff` reads it, with a date, a time of day and an
-- offset (RFC 3339)
abbrev pub instant_in : List ℕ → Option ℤ
instant_in text = option_map whole_second (result_ok (parse_timestamp text))

abbrev pub or_else : Option ℤ → Option ℤ → Option ℤ
or_else (Some second) other = Some second
or_else None other = other

-- the second that a text names: with an offset of its own, or in UTC, or as a date's first second
-- in UTC
unfoldable pub second_in : List ℕ → Option ℤ
second_in text =
    or_else (instant_in text)
    (or_else (instant_in (text ++ codes "Z")) (instant_in (text ++ codes " 00:00Z")))

-- The last second of the time that a text names. In UTC a date lasts a day, a time of day without
-- minutes an hour, and one without seconds a minute. Another time lasts a second.
unfoldable pub last_second_in : List ℕ → Option ℤ
last_second_in text =
    or_else (instant_in (text ++ codes " 23:59:59Z"))
    (or_else (instant_in (text ++ codes ":59:59Z"))
    (or_else (instant_in (text ++ codes ":59Z")) (second_in text)))
