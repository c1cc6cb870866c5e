-- Names without NUL. The name of a file may contain NUL, but a document with such a name is
-- refused. So a recording is read back from its log only if no name has a NUL. The texts of lines,
-- values, login names and homes may contain it.
use Rattle.std.specs.Prelude.{ℕ, ◌==◌, List, Bool, true, not, ◌&&◌, Option, Some, None}
use Rattle.std.specs.List.{list_all, list_any}
use Rattle.std.specs.Ordering.{nat_cmp}
use Rattle.std.specs.FinMap as map
use Rattle.retro_tree.specs.Path.{PathValue}
use Rattle.retro_tree.specs.Tree.{Tree}
use Rattle.retro_tree.specs.declared.ask.Ask.{Ask}
use Rattle.retro_tree.specs.declared.ask.Ask.TheVariants as asks
use Rattle.retro_tree.specs.declared.answer.Answer.{Answer}
use Rattle.retro_tree.specs.declared.answer.Answer.TheVariants as answers
use Rattle.retro_tree.specs.declared.change.Change.{Change}
use Rattle.retro_tree.specs.declared.change.Change.TheVariants as changes
use Rattle.retro_tree.specs.declared.entry.Entry.{Entry}
use Rattle.retro_tree.specs.declared.note.Note.{Note}
use Rattle.retro_tree.specs.declared.note.Note.TheVariants.{Asked, Made}
use Rattle.retro_tree.specs.declared.session.Session.{Session}
use Rattle.retro_keep.specs.Recording.{RecordingValue}
use Rattle.retro_keep.specs.declared.noted.Noted.{Noted}
use Rattle.retro_json.specs.Shape.{Text}
use Rattle.retro_json.specs.declared.reading.path.TheConstants.{NUL}

abbrev pub has_no_nul : Text → Bool
has_no_nul name = not (list_any (λ b. b == NUL) name)

-- the names of a path, or of a listing
abbrev pub have_no_nul : List Text → Bool
have_no_nul names = list_all has_no_nul names

abbrev pub entry_without_nul : PathValue × Entry → Bool
entry_without_nul e = have_no_nul e.0

-- the names of all paths of a tree
unfoldable pub tree_without_nul : Tree → Bool
tree_without_nul tree = list_all entry_without_nul (map.entries tree)

abbrev pub session_without_nul : ℕ × Session → Bool
session_without_nul e = have_no_nul e.1.cwd

-- the names of the directories of all sessions
unfoldable pub sessions_without_nul : map.FinMap nat_cmp Session → Bool
sessions_without_nul sessions = list_all session_without_nul (map.entries sessions)

-- ---- notes: the names of their paths and listings

abbrev pub ask_without_nul : Ask → Bool
ask_without_nul (asks.Kind path) = have_no_nul path
ask_without_nul (asks.Bytes path) = have_no_nul path
ask_without_nul (asks.Names path) = have_no_nul path
ask_without_nul (asks.CanWrite path more) = have_no_nul path
ask_without_nul _ = true

abbrev pub listing_without_nul : Option (List Text) → Bool
listing_without_nul None = true
listing_without_nul (Some names) = have_no_nul names

abbrev pub answer_without_nul : Answer → Bool
answer_without_nul (answers.Names names) = listing_without_nul names
answer_without_nul (answers.Cwd path) = have_no_nul path
answer_without_nul _ = true

abbrev pub change_without_nul : Change → Bool
change_without_nul (changes.Put path node) = have_no_nul path
change_without_nul (changes.Grow path bytes) = have_no_nul path
change_without_nul (changes.SetCwd sid path) = have_no_nul path
change_without_nul _ = true

abbrev pub note_without_nul : Note → Bool
note_without_nul (Asked ask answer) = ask_without_nul ask && answer_without_nul answer
note_without_nul (Made change) = change_without_nul change

abbrev pub line_without_nul : ℕ × Noted → Bool
line_without_nul l = list_all note_without_nul l.1.notes

-- no name of a path or a listing of a recording has NUL
unfoldable pub recording_without_nul : RecordingValue → Bool
recording_without_nul r =
    tree_without_nul r.first.tree && (sessions_without_nul r.first.sessions && list_all line_without_nul r.lines)
