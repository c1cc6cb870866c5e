-- Answers that do no harm on a terminal.
use Rattle.std.specs.Prelude.{ℕ, Bool, true, false, not, List, chars, IsTrue}
use Rattle.std.specs.List.{list_all}
use Rattle.casebook_text.specs.SafeText.{is_safe, is_safe_byte}
use Rattle.casebook_text.specs.declared.safe_text.Breaks.TheVariants.{Keep}
use Rattle.casebook_request.specs.Request.{Query, case_log, cat, check, lines, page, patch, show}
use Rattle.casebook_request.specs.declared.shown.ShownPart.{ShownPart}
use Rattle.casebook_request.specs.declared.shown.ShownPart.TheVariants as parts

-- A text without control codes of ASCII but newlines and tabs. Each other character can be seen and
-- leaves its neighbours as they are.
pub record IsHarmless (text : List ℕ) : Type 0 where
  pub bytes : IsTrue (list_all (is_safe_byte Keep) text)
  pub characters : IsTrue (list_all (is_safe Keep) (chars text))

-- whether what is shown of a repair has neither colours nor the form for programs
abbrev pub is_plain_shown : Bool → ShownPart → Bool
is_plain_shown colours parts.Json = false
is_plain_shown colours other = not colours

-- whether a question is answered by plain text: by rows of lines, by what is said of a document, or
-- by what is so shown of a repair
abbrev pub is_plain : Bool → Query → Bool
is_plain colours (lines request) = true
is_plain colours (show request) = is_plain_shown colours request.shown
is_plain colours (page request) = false
is_plain colours (cat request) = false
is_plain colours (patch request) = false
is_plain colours (check log) = true
is_plain colours (case_log case) = false
