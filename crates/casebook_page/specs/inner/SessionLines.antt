-- Lines by session, as a map has them.
use Rattle.std.specs.Prelude.{◌≡◌, ℕ, ◌==◌, Bool, List, [], map}
use Rattle.std.specs.BTreeMap.{get}
use Rattle.std.specs.List.{filter}
use Rattle.std.specs.Option.{option_map, unwrap_or}
use Rattle.std.specs.Ordering.{nat_cmp}
use Rattle.casebook_view.specs.declared.case_line.CaseLine.{CaseLine}
use Rattle.casebook_page.specs.declared.session_lines.Placed.{Placed}
use Rattle.casebook_page.specs.declared.session_lines.SessionLines.{SessionLines}

abbrev pub line_in : Placed → CaseLine
line_in placed = placed.line

-- whether a line is one of a session
abbrev pub is_of : ℕ → CaseLine → Bool
is_of n line = line.session == n

-- the lines that a map has for a session
abbrev pub lines_at : SessionLines → ℕ → List CaseLine
lines_at lines n = map line_in (unwrap_or (option_map (λ v. v.items) (get nat_cmp lines.by_session n)) [])

-- A map has for each session its lines among these, in order.
abbrev pub AreBySession : List CaseLine → SessionLines → Type 0
AreBySession all lines = (n : ℕ) → lines_at lines n ≡ filter (is_of n) all
