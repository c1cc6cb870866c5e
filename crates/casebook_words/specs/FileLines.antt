-- The lines of files, as they are shown.
use Rattle.std.specs.Prelude.{ℕ, Bool, not, List, [], ◌++◌, map, codes, Option, Some, None}
use Rattle.std.specs.Prelude.{if◌then◌else◌}
use Rattle.std.specs.FinMap as map_of
use Rattle.casebook_text.specs.Diff.{in_new, in_old}
use Rattle.casebook_text.specs.SafeLine.{remark_bytes, safe_bytes}
use Rattle.casebook_text.specs.declared.line_diff.Mark.{Mark}
use Rattle.retro_tree.specs.Path.{PathValue}
use Rattle.retro_tree.specs.Tree.{Tree}
use Rattle.retro_tree.specs.declared.entry.Entry.{Entry}
use Rattle.retro_tree.specs.declared.entry.Entry.TheVariants.{Dir, File}
use Rattle.casebook_words.specs.Lines.{Line, lines_of}

-- a line as it is shown; one without a newline says so
unfoldable pub shown_line : Line → List ℕ
shown_line line =
    if line.is_ended then safe_bytes line.text
    else safe_bytes line.text ++ remark_bytes (codes "no newline")

abbrev pub shown_lines : List ℕ → List (List ℕ)
shown_lines text = map shown_line (lines_of text)

-- only a file has lines
abbrev pub lines_of_entry : Option Entry → List (List ℕ)
lines_of_entry None = []
lines_of_entry (Some Dir) = []
lines_of_entry (Some (File bytes)) = shown_lines bytes

-- the lines at a path
abbrev pub lines_at : PathValue → Tree → List (List ℕ)
lines_at path tree = lines_of_entry (map_of.get tree path)

-- whether a line with a mark is in one text alone
abbrev pub is_added : Mark → Bool
is_added mark = not (in_old mark)

abbrev pub is_removed : Mark → Bool
is_removed mark = not (in_new mark)
