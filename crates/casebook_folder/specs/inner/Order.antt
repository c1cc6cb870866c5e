-- Rows in order, compared one by one.
use Rattle.std.specs.Prelude.{Bool, true, ◌&&◌, List, [], ◌∷◌}
use Rattle.std.specs.Ordering.{is_lt}
use Rattle.retro_path.specs.Order.{path_cmp}
use Rattle.casebook_folder.specs.declared.row.Row.{Row}

-- whether a row is before the first of others
abbrev pub is_before : Row → List Row → Bool
is_before r [] = true
is_before r (s ∷ rows) = is_lt (path_cmp r.path s.path)

-- whether each row is before the next one
abbrev pub rises : List Row → Bool
rises [] = true
rises (r ∷ rows) = is_before r rows && rises rows
