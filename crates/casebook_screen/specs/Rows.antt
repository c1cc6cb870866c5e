-- What a terminal tells of rows of a recording.
use Rattle.std.specs.Prelude.{ℕ, List, [], ◌∷◌, ◌++◌, Option, Some, None, codes, flat_map, if◌then◌else◌, length, map}
use Rattle.casebook_text.specs.SafeLine.{safe_bytes}
use Rattle.casebook_usage.specs.declared.obstacle.Obstacle.{Obstacle}
use Rattle.casebook_view.specs.Rows.{RowValue}
use Rattle.casebook_words.specs.Cut.{cut_words, first_text}
use Rattle.casebook_about.specs.Labels.{time_words}
use Rattle.casebook_about.specs.declared.labels.Labels.{Labels}
use Rattle.casebook_screen.specs.Fields.{write_field}
use Rattle.casebook_screen.specs.Told.{is_observed, name_told, obstacle_told, path_told, said, time_told}
use Rattle.casebook_screen.specs.declared.piece.Piece.{Piece}
use Rattle.casebook_screen.specs.declared.piece.Piece.TheVariants.{Number, Text}

-- an `o` if the line stands as it was observed, and a question mark if it isn't understood
abbrev pub mark_told : Option Obstacle → List Piece
mark_told None = []
mark_told (Some obstacle) = said (if is_observed obstacle then codes " o" else codes " ?")

-- how many bytes of an output are told
abbrev pub shown_limit : ℕ
shown_limit = 60

-- how many bytes were printed, if there were any, and the beginning of their first line
abbrev pub output_told : List ℕ → List Piece
output_told [] = []
output_told (b ∷ output) =
    Number (length (b ∷ output)) ∷ Text (cut_words shown_limit (first_text (b ∷ output))) ∷ []

-- number, mark, time, name of the session and text
abbrev pub head_of_row : Labels → RowValue → List Piece
head_of_row labels row =
    Number row.number
    ∷ (mark_told row.obstacle ++ time_told (time_words row.number labels)
    ++ name_told labels row.session ∷ Text (safe_bytes row.text) ∷ [])

-- the paths that the line read, its writes, and what it printed
abbrev pub done_by_row : RowValue → List Piece
done_by_row row =
    map path_told row.read ++ map (λ write. Text (write_field write)) row.wrote ++ output_told row.output

abbrev pub row_told : Labels → RowValue → List Piece
row_told labels row = head_of_row labels row ++ obstacle_told row.obstacle ++ done_by_row row

abbrev pub rows_told : Labels → List RowValue → List Piece
rows_told labels rows = flat_map (row_told labels) rows
