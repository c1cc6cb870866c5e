-- Which lines of a recording write or read a cell or list a directory, and which line is the next
-- to use a cell, or one of some cells.
use Rattle.std.specs.Prelude.{◌≡◌, ℕ, ◌<◌, ◌==◌, nat_lt, Bool, false, ◌&&◌, ◌||◌, List, [], ◌∷◌, map, filter}
use Rattle.std.specs.Prelude.{Option, Some, None, IsTrue}
use Rattle.std.specs.List.{All, find, list_any}
use Rattle.retro_tree.specs.Order.{path_eq}
use Rattle.retro_tree.specs.Path.{PathValue}
use Rattle.retro_tree.specs.Ask.{supports}
use Rattle.retro_tree.specs.Notes.{changes, touches}
use Rattle.retro_tree.specs.declared.ask.Ask.{Ask}
use Rattle.retro_tree.specs.declared.ask.Ask.TheVariants as asks
use Rattle.retro_tree.specs.declared.cell.Cell.{Cell}
use Rattle.retro_tree.specs.declared.note.Note.{Note}
use Rattle.retro_tree.specs.declared.note.Note.TheVariants.{Asked, Made}
use Rattle.retro_keep.specs.Recording.{number_in}
use Rattle.retro_keep.specs.Script.{rises_from}
use Rattle.retro_keep.specs.declared.noted.Noted.{Noted}

-- a line with its number
abbrev pub Line : Type 0
Line = ℕ × Noted

-- the numbers of lines are at least 1 and rise
abbrev pub AreNumbered : List Line → Type 0
AreNumbered lines = IsTrue (rises_from 0 (map number_in lines))

-- whether notes read a cell: the answer to one of their queries can depend on it
abbrev pub reads : List Note → Cell → Bool
reads [] c = false
reads (Asked a r ∷ notes) c = supports a c || reads notes c
reads (Made change ∷ notes) c = reads notes c

-- whether a query is for the names in a directory
abbrev pub is_listing_of : PathValue → Ask → Bool
is_listing_of p (asks.Names q) = path_eq q p
is_listing_of p _ = false

-- whether notes list a directory
abbrev pub lists : List Note → PathValue → Bool
lists [] p = false
lists (Asked a r ∷ notes) p = is_listing_of p a || lists notes p
lists (Made change ∷ notes) p = lists notes p

-- the numbers of the lines that pass a test
abbrev pub numbers_of : (Line → Bool) → List Line → List ℕ
numbers_of test lines = map number_in (filter test lines)

-- the numbers of the lines that change a cell
abbrev pub written_at : Cell → List Line → List ℕ
written_at c lines = numbers_of (λ l. changes l.1.notes c) lines

-- the numbers of the lines that read a cell
abbrev pub read_at : Cell → List Line → List ℕ
read_at c lines = numbers_of (λ l. reads l.1.notes c) lines

-- the numbers of the lines that list a directory
abbrev pub listed_at : PathValue → List Line → List ℕ
listed_at p lines = numbers_of (λ l. lists l.1.notes p) lines

-- the numbers of the lines that read or change a cell
abbrev pub touched_at : Cell → List Line → List ℕ
touched_at c lines = numbers_of (λ l. touches l.1.notes c) lines

-- the first number above another of a line that reads or changes a cell, or None if there is no
-- such line
abbrev pub next_use : ℕ → Cell → List Line → Option ℕ
next_use after c lines = find (λ n. nat_lt after n) (touched_at c lines)

-- whether a line reads or changes one of some cells
abbrev pub meets : List Cell → Line → Bool
meets cells l = list_any (touches l.1.notes) cells

-- The least number above another of a line that reads or changes one of some cells, or None if
-- there is no such line.
abbrev pub IsNextMeeting : List Cell → ℕ → List Line → Option ℕ → Type 0
IsNextMeeting cells after lines None = All (λ l. after < l.0 → meets cells l ≡ false) lines
IsNextMeeting cells after lines (Some n) =
    (after < n) × IsTrue (list_any (λ l. (l.0 == n) && meets cells l) lines)
    × All (λ l. after < l.0 → l.0 < n → meets cells l ≡ false) lines
