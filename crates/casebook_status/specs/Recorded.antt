-- Since when lines were recorded.
use Rattle.std.specs.Prelude.{◌≡◌, ◌⊎◌, ℕ, ℤ, ◌/◌, pos, List, [], ◌∷◌, ◌++◌, Option, Some, None, codes}
use Rattle.casebook_about.specs.Time.{IsInstantText}
use Rattle.casebook_text.specs.SafeLine.{safe_bytes}
use Rattle.casebook_typed.specs.Lines.{LineValue}

-- a time in seconds as an instant, if a calendar has it
abbrev pub IsSecondWords : ℤ → List ℕ → Type 0
IsSecondWords second text =
    IsInstantText second text ⊎ text ≡ codes "a time that no calendar has"

abbrev pub between : List ℕ → List ℕ → List ℕ
between since until =
    codes "  recorded  " ++ safe_bytes since ++ codes " to " ++ safe_bytes until

-- a time in microseconds
abbrev pub IsTimeWords : ℕ → List ℕ → Type 0
IsTimeWords micros text = IsSecondWords (pos (micros / 1000000)) text

-- a row has two times
pub record IsBetween (first last : ℕ) (row : List ℕ) : Type 0 where
  pub since : List ℕ
  pub is_since : IsTimeWords first since
  pub until : List ℕ
  pub is_until : IsTimeWords last until
  pub is_row : row ≡ between since until

-- the last of some lines, of which the first one is this
abbrev pub last_of : LineValue → List LineValue → LineValue
last_of line [] = line
last_of line (next ∷ lines) = last_of next lines

-- when the first and the last of some lines were seen
abbrev pub ends_of : List LineValue → Option (ℕ × ℕ)
ends_of [] = None
ends_of (line ∷ lines) = Some (line.shown.at, (last_of line lines).shown.at)

abbrev pub IsRowOf : Option (ℕ × ℕ) → List ℕ → Type 0
IsRowOf None row = row ≡ codes "  recorded  no line yet"
IsRowOf (Some ends) row = IsBetween ends.0 ends.1 row

-- a row says when the first and the last of some lines were seen
abbrev pub IsRecordedRow : List LineValue → List ℕ → Type 0
IsRecordedRow lines row = IsRowOf (ends_of lines) row
