-- Items of the lists of a document, each by itself or beside the others of its list.
use Rattle.std.specs.Prelude.{◌≡◌, ℕ, zero, suc, ◌+◌, ◌<◌, ◌≤◌, List, [], ◌∷◌, Option, Some, None}
use Rattle.std.specs.Prelude.{Bool, false, true, ◌++◌, option_and_then}
use Rattle.std.specs.List.{list_any, slice_get}
use Rattle.std.specs.Result.{result_err, result_ok}
use Rattle.serde_json.specs.Data.{Data}
use Rattle.retro_json.specs.declared.fault.Part.TheVariants.{Lines}
use Rattle.retro_json.specs.declared.fault.Refusal.{Refusal}
use Rattle.retro_json.specs.SessionsPart as sessions
use Rattle.retro_json.specs.Shape.{cells, u32_in}
use Rattle.retro_json.specs.Steps.{◌>>=◌}
use Rattle.retro_json.specs.TreePart as tree
use Rattle.retro_log.specs.LinesPart.{line_of}
use Rattle.retro_log.specs.LogLinesPart.{log_line_of}
use Rattle.casebook_check.specs.Keys.{is_number}
use Rattle.casebook_check.specs.declared.key.Key.{Key}
use Rattle.casebook_check.specs.declared.key.Key.TheVariants as keys
use Rattle.casebook_check.specs.declared.kind.Kind.{Kind}
use Rattle.casebook_check.specs.declared.kind.Kind.TheVariants as kinds

-- the item at the index is the first of which the fact holds
abbrev pub IsFirst : (Data → Type 0) → List Data → ℕ → Type 0
IsFirst P [] index = ⊥
IsFirst P (d ∷ ds) zero = P d
IsFirst P (d ∷ ds) (suc index) = ¬ (P d) × IsFirst P ds index

-- ---- an item by itself

-- why a row of the sessions is refused: by its form, or by that of its session
abbrev pub session_refusal : Data → Option Refusal
session_refusal d = result_err (sessions.row_of d >>= λ row. row.1)

abbrev pub line_refusal : Kind → Data → Option Refusal
line_refusal kinds.Script d = result_err (line_of d)
line_refusal kinds.Log d = result_err (log_line_of d)

-- why an item of the list at a key is refused, if it is
abbrev pub item_refusal : Kind → Key → Data → Option Refusal
item_refusal kind keys.Tree d = result_err (tree.row_of d)
item_refusal kind keys.Sessions d = session_refusal d
item_refusal kind keys.Lines d = line_refusal kind d
item_refusal kind other d = None

-- ---- the numbers of an item

-- the number in a place of an item, if the item is a list and has a number of 32 bits there
unfoldable pub number_in : ℕ → Data → Option ℕ
number_in place d =
    option_and_then (λ cell. result_ok (u32_in Lines cell))
    (option_and_then (λ items. slice_get items place) (result_ok (cells Lines d)))

-- a line begins with its number and that of its session, and a row of the sessions with its number
abbrev pub line_number : Data → Option ℕ
line_number d = number_in 0 d

abbrev pub line_session : Data → Option ℕ
line_session d = number_in 1 d

abbrev pub session_number : Data → Option ℕ
session_number d = number_in 0 d

-- the number of the line at an index, if the list is that of the lines
abbrev pub number_at : Key → List Data → ℕ → Option ℕ
number_at keys.Lines items index = option_and_then line_number (slice_get items index)
number_at other items index = None

-- ---- a line beside others

-- The line at the index is the first whose number is too small: below `least`, if it is the first
-- line, and else not above the number of the line before it.
abbrev pub IsFall : ℕ → List Data → ℕ → Type 0
IsFall least [] index = ⊥
IsFall least (d ∷ ds) zero = (n : ℕ) × (line_number d ≡ Some n) × (n < least)
IsFall least (d ∷ ds) (suc index) = (n : ℕ) × (line_number d ≡ Some n) × (least ≤ n) × IsFall (n + 1) ds index

-- whether one of these rows of the sessions has a number
abbrev pub has_session : List Data → ℕ → Bool
has_session rows sid = list_any (λ row. is_number (session_number row) sid) rows

-- a line has a session that no row of the sessions has
abbrev pub IsStranger : List Data → Data → Type 0
IsStranger rows d = (sid : ℕ) × (line_session d ≡ Some sid) × (has_session rows sid ≡ false)

-- a row of the sessions has a number that one of these rows has
abbrev pub IsTaken : List Data → Data → Type 0
IsTaken rows d = (sid : ℕ) × (session_number d ≡ Some sid) × (has_session rows sid ≡ true)

-- the row at the index is the first whose number a row before it has, or one of the rows `before`
-- all of them
abbrev pub IsRepeat : List Data → List Data → ℕ → Type 0
IsRepeat before [] index = ⊥
IsRepeat before (d ∷ ds) zero = IsTaken before d
IsRepeat before (d ∷ ds) (suc index) = ¬ (IsTaken before d) × IsRepeat (before ++ d ∷ []) ds index
