-- Comparisons in words.
use Rattle.std.specs.Prelude.{ℕ, ◌-◌, List, [], ◌∷◌, ◌++◌, codes, decimal, drop, length, map}
use Rattle.std.specs.List.{join_with_byte}
use Rattle.retro_path.specs.Path.{PathValue}
use Rattle.retro_tree.specs.Tree.{Tree, node_in}
use Rattle.retro_tree.specs.declared.answer.Answer.TheVariants.{Bytes}
use Rattle.retro_tree.specs.declared.cell.Cell.TheVariants as cells
use Rattle.retro_keep.specs.Recording.{RecordingValue, last_state}
use Rattle.retro_history.specs.Index.{written_at}
use Rattle.casebook_changes.specs.declared.changed_path.ChangedPath.{ChangedPath}
use Rattle.casebook_snapshot_json.specs.Reasons.{reason_text}
use Rattle.casebook_text.specs.Lists.{comma}
use Rattle.casebook_words.specs.Difference.{difference_words}
use Rattle.casebook_words.specs.Words.{answer_words, path_words}
use Rattle.casebook_compare.specs.declared.comparison.Comparison.{Comparison}
use Rattle.casebook_compare.specs.declared.unread.UnreadPath.{UnreadPath}

-- the last three of some numbers
abbrev pub last_of : List ℕ → List ℕ
last_of numbers = drop (length numbers - 3) numbers

unfoldable pub last_words : List ℕ → List ℕ
last_words numbers = codes "; last written by " ++ join_with_byte comma (map decimal (last_of numbers))

-- which lines wrote to a path, by the numbers of all that did
abbrev pub writers_words : List ℕ → List ℕ
writers_words [] = codes "; no line wrote to it"
writers_words (n ∷ ns) = last_words (n ∷ ns)

-- How a path of a folder differs from what is recorded: what was recorded, what is in the folder,
-- and the last lines that wrote to it.
unfoldable pub difference_line : RecordingValue → Tree → PathValue → List ℕ
difference_line r folder p =
    path_words p
    ++ difference_words (Bytes (node_in p (last_state r.lines r.first).tree)) (Bytes (node_in p folder))
    ++ writers_words (written_at (cells.At p) r.lines)

-- What is recorded at a path that was skipped, why it was, and the last lines that wrote to it.
unfoldable pub unread_line : RecordingValue → UnreadPath → List ℕ
unread_line r u =
    path_words u.path ++ codes ": " ++ answer_words (Bytes (node_in u.path (last_state r.lines r.first).tree))
    ++ codes " / skipped, " ++ reason_text u.reason ++ writers_words (written_at (cells.At u.path) r.lines)

unfoldable pub head_line : ℕ → ℕ → ℕ → List ℕ
head_line same different unread =
    codes "as recorded " ++ decimal same ++ codes ", not as recorded " ++ decimal different
    ++ codes ", skipped " ++ decimal unread

abbrev pub end_line : List ℕ
end_line =
    codes "Paths are shown as recorded / as in the folder. What was overwritten before the end isn't compared."

abbrev pub line_of_change : RecordingValue → Tree → ChangedPath → List ℕ
line_of_change r folder c = difference_line r folder c.path

-- A comparison in lines: how many paths are as recorded, each that isn't, each recorded one that
-- was skipped, and what isn't compared.
unfoldable pub comparison_lines : RecordingValue → Comparison → List (List ℕ)
comparison_lines r c =
    head_line c.same (length c.different.items) (length c.unread.items)
    ∷ map (line_of_change r c.folder.tree) c.different.items ++ map (unread_line r) c.unread.items
    ++ end_line ∷ []
