-- What `declare -p` prints: rows, each ended by a newline.
use Rattle.std.specs.Prelude.{ℕ, ◌+◌, ◌-◌, ◌==◌, List, [], ◌∷◌, length, take, slice_index}
use Rattle.std.specs.Prelude.{Option, Some, None, Result, Ok, Err, if◌then◌else◌}
use Rattle.std.specs.List.{slice_split}
use Rattle.retro_path.specs.Ascii.{newline}
use Rattle.casebook_declare.specs.Rows.{row_of}
use Rattle.casebook_declare.specs.declared.declare_error.DeclareError.{DeclareError}
use Rattle.casebook_declare.specs.declared.declare_error.DeclareError.TheVariants.{CutOff}
use Rattle.casebook_declare.specs.declared.declare_error.DeclareError.TheVariants.{NotPrinted}
use Rattle.casebook_declare.specs.declared.row.Row.{Row}
use Rattle.casebook_declare.specs.declared.row.Row.TheVariants as rows
use Rattle.casebook_declare.specs.declared.variable.Variable.{Variable}

-- what a row says, before what the later rows say
abbrev pub before : Row → Result (List Variable) DeclareError → Result (List Variable) DeclareError
before rows.Nothing later = later
before (rows.Says variable) (Ok variables) = Ok (variable ∷ variables)
before (rows.Says variable) (Err error) = Err error

-- what a row and the later ones say, or the error of the row with this number
abbrev pub said_or : ℕ → Option Row → Result (List Variable) DeclareError
    → Result (List Variable) DeclareError
said_or number None later = Err (NotPrinted number)
said_or number (Some row) later = before row later

-- what rows say, of which the first has this number
unfoldable pub rows_from : ℕ → List (List ℕ) → Result (List Variable) DeclareError
rows_from number [] = Ok []
rows_from number (row ∷ later) = said_or number (row_of row) (rows_from (number + 1) later)

-- The variables that a text says, in the order of its rows, which are counted from 1.
unfoldable pub variables_of : List ℕ → Result (List Variable) DeclareError
variables_of [] = Ok []
variables_of (b ∷ rest) =
    let text = b ∷ rest in
    if slice_index text (length text - 1) == newline
    then rows_from 1 (slice_split (λ c. c == newline) (take (length text - 1) text))
    else Err CutOff
