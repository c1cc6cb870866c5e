-- What becomes of each line, and why, as JSON.
use Rattle.std.specs.Prelude.{ℕ, List, Option, Some, None, codes}
use Rattle.serde_json.specs.Data.{Data, null, string, object, no_members, member}
use Rattle.retro_json.specs.Values.{number_data}
use Rattle.casebook_view.specs.Reasons.{cause_in, failing_by}
use Rattle.casebook_view.specs.declared.case_line.CaseLine.{CaseLine}
use Rattle.casebook_view.specs.declared.fate.Fate.{Fate}
use Rattle.casebook_view.specs.declared.fate.Fate.TheVariants.{Cancelled, Changed, Alike, Kept}
use Rattle.casebook_view.specs.declared.fate.Fate.TheVariants.{Untouched}
use Rattle.casebook_view.specs.declared.reason.Reason.{Reason}
use Rattle.casebook_view.specs.declared.why.Why.{Why}
use Rattle.casebook_view.specs.declared.why.Why.TheVariants.{Replaced, Query, RunAgain}
use Rattle.casebook_json.specs.Values.{number_or_null}

abbrev pub fate_name : Fate → List ℕ
fate_name Cancelled = codes "cancelled"
fate_name Changed = codes "changed"
fate_name Alike = codes "alike"
fate_name Kept = codes "kept"
fate_name Untouched = codes "untouched"

-- the index of the note that fails, if that is the reason
abbrev pub failing_in : Option Reason → Option ℕ
failing_in None = None
failing_in (Some reason) = failing_by reason.why

-- the line at which the chain of causes ends, if there is a reason
abbrev pub origin_in : Option Reason → Option ℕ
origin_in None = None
origin_in (Some reason) = Some reason.origin

abbrev pub why_name : Why → List ℕ
why_name Replaced = codes "replaced"
why_name (Query i) = codes "query"
why_name RunAgain = codes "again"

-- the name of why a line is run again, or null if it isn't
abbrev pub why_or_null : Option Reason → Data
why_or_null None = null
why_or_null (Some reason) = string (why_name reason.why)

-- `{"because_of":n,"fate":name,"line":n,"note":n,"origin":n,"session":n,"why":name}`
unfoldable pub line_data : CaseLine → Data
line_data line = object
    (member (codes "because_of") (number_or_null (cause_in line.reason))
    (member (codes "fate") (string (fate_name line.fate))
    (member (codes "line") (number_data line.number)
    (member (codes "note") (number_or_null (failing_in line.reason))
    (member (codes "origin") (number_or_null (origin_in line.reason))
    (member (codes "session") (number_data line.session)
    (member (codes "why") (why_or_null line.reason) no_members)))))))
