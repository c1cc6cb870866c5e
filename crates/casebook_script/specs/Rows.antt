-- The rows of a table.
use Rattle.std.specs.Prelude.{ℕ, ◌+◌, ◌==◌, Bool, true, List, [], ◌∷◌, Result, Err}
use Rattle.std.specs.Prelude.{Ok, if◌then◌else◌}
use Rattle.std.specs.List.{slice_split}
use Rattle.std.specs.Str.{is_utf8}
use Rattle.retro_path.specs.Ascii.{newline}
use Rattle.casebook_script.specs.Ascii.{hash}
use Rattle.casebook_script.specs.declared.fault.RowFault.{RowFault}
use Rattle.casebook_script.specs.declared.fault.Table.{Table}
use Rattle.casebook_script.specs.declared.fault.TableFault.{TableFault}
use Rattle.casebook_script.specs.declared.fault.TableFault.TheVariants.{BadRow, NotUtf8}

-- an empty row, and one that begins with `#`
abbrev pub is_skipped : List ℕ → Bool
is_skipped [] = true
is_skipped (c ∷ cs) = c == hash

-- the rows that aren't skipped, each with its place; the first of all rows has this place
unfoldable pub rows_from : ℕ → List (List ℕ) → List (ℕ × List ℕ)
rows_from place [] = []
rows_from place (row ∷ rows) =
    if is_skipped row then rows_from (place + 1) rows
    else (place, row) ∷ rows_from (place + 1) rows

-- The rows of a text: what is before, between and after its newlines. After a newline at the end
-- there is one more row, which is empty.
abbrev pub rows_of : List ℕ → List (ℕ × List ℕ)
rows_of text = rows_from 1 (slice_split (λ b. b == newline) text)

-- the rows of a table
abbrev pub rows_in : Table → List ℕ → Result (List (ℕ × List ℕ)) TableFault
rows_in table bytes = if is_utf8 bytes then Ok (rows_of bytes) else Err (NotUtf8 table)

-- what the row at a place says
abbrev pub at_row : {A : Type 0} → Table → ℕ → Result A RowFault → Result A TableFault
at_row table place (Ok x) = Ok x
at_row table place (Err why) = Err (BadRow table place why)
