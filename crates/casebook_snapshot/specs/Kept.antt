-- What is kept of a folder: a path is, if no reason to skip it applies and each directory above it
-- is kept.
use Rattle.std.specs.Prelude.{Bool, true, not, ◌&&◌, if◌then◌else◌, List, [], ◌∷◌, ◌++◌, Option}
use Rattle.std.specs.Prelude.{None, is_some}
use Rattle.retro_path.specs.Path.{PathValue, parent_of}
use Rattle.casebook_snapshot.specs.Items.{Contents, is_dir, row_for}
use Rattle.casebook_snapshot.specs.Reasons.{reason_of}
use Rattle.casebook_snapshot.specs.declared.item.Row.{Row}

-- whether a path is a directory that no reason applies to
abbrev pub is_entered : Contents → List PathValue → PathValue → Bool
is_entered f skip q = is_dir (f q) && not (is_some (reason_of f skip q))

-- whether each step from a directory along some names leads into such a directory
abbrev pub are_entered : Contents → List PathValue → PathValue → PathValue → Bool
are_entered f skip p [] = true
are_entered f skip p (n ∷ ns) =
    is_entered f skip (p ++ n ∷ []) && are_entered f skip (p ++ n ∷ []) ns

-- whether each step from the root to a path does
abbrev pub is_open : Contents → List PathValue → PathValue → Bool
is_open f skip q = are_entered f skip [] q

-- what is kept at a path
abbrev pub kept : Contents → List PathValue → PathValue → Option Row
kept f skip q =
    if is_open f skip (parent_of q) && not (is_some (reason_of f skip q)) then row_for (f q)
    else None
