-- The rows of a status. A row with a question mark says what is missing.
use Rattle.std.specs.Prelude.{ℕ, ◌+◌, ◌-◌, zero, suc, List, [], ◌∷◌, ◌++◌, Option, Some, None, codes, decimal, flat_map, length, map}
use Rattle.retro_path.specs.Path.{PathValue}
use Rattle.casebook_host.specs.Logins.{LoginValue}
use Rattle.casebook_text.specs.SafeLine.{word_bytes}
use Rattle.casebook_typed.specs.Sessions.{SessionValue}
use Rattle.casebook_words.specs.Words.{path_words}
use Rattle.casebook_status.specs.People.{names_of, sessions_of}
use Rattle.casebook_status.specs.declared.counts.Counts.{Counts}

abbrev pub Text : Type 0
Text = List ℕ

-- ---- what is listed in rows

-- pieces with a comma between two
abbrev pub more_listed : List Text → Text
more_listed pieces = flat_map (λ piece. codes ", " ++ piece) pieces

abbrev pub listed : List Text → Text
listed [] = []
listed (piece ∷ pieces) = piece ++ more_listed pieces

-- a name, and how many sessions are of the user with it
abbrev pub person_words : List SessionValue → Text → Text
person_words sessions name = word_bytes name ++ codes " " ++ decimal (sessions_of sessions name)

-- the users of sessions
abbrev pub people_pieces : List SessionValue → List Text
people_pieces sessions = map (person_words sessions) (names_of sessions)

-- how many lines of the session with a number have no record
abbrev pub missing_words : ℕ → ℕ → Text
missing_words number missing = decimal missing ++ codes " of session " ++ decimal number

abbrev pub missing_piece : ℕ → ℕ → List Text
missing_piece number zero = []
missing_piece number (suc n) = missing_words number (suc n) ∷ []

-- how many lines have no record, where there are some, by sessions of which the first has a number
abbrev pub missing_pieces : ℕ → List SessionValue → List Text
missing_pieces number [] = []
missing_pieces number (session ∷ rest) =
    missing_piece number session.missing ++ missing_pieces (number + 1) rest

abbrev pub login_words : LoginValue → Text
login_words login = word_bytes login.name ++ codes " " ++ word_bytes login.terminal

-- ---- rows

unfoldable pub folders_row : List PathValue → Text
folders_row folders = codes "  folders   " ++ listed (map path_words folders)

abbrev pub after_colon : List Text → Text
after_colon [] = []
after_colon (piece ∷ pieces) = codes ": " ++ listed (piece ∷ pieces)

abbrev pub people_words : List SessionValue → Text
people_words sessions = after_colon (people_pieces sessions)

unfoldable pub sessions_row : List SessionValue → Text
sessions_row sessions = codes "  sessions  " ++ decimal (length sessions) ++ people_words sessions

unfoldable pub lines_row : Counts → Text
lines_row counts =
    codes "  lines     " ++ decimal counts.lines ++ codes ": " ++ decimal counts.modelled
    ++ codes " as typed, " ++ decimal (counts.lines - counts.modelled) ++ codes " as observed"

unfoldable pub overlaps_row : Counts → Text
overlaps_row counts =
    codes "  overlaps  " ++ decimal counts.overlapping ++ codes ": lines that aren't told apart"

unfoldable pub outside_row : Counts → Text
outside_row counts =
    codes "  outside   " ++ decimal counts.outside ++ codes ": changes that no recorded line made"

abbrev pub missing_by : List Text → Text
missing_by [] = codes "  missing   no line lacks a record"
missing_by (piece ∷ pieces) = codes "? missing   lines without a record: " ++ listed (piece ∷ pieces)

unfoldable pub missing_row : List SessionValue → Text
missing_row sessions = missing_by (missing_pieces 1 sessions)

-- in which folders it isn't seen what lines only read
unfoldable pub unseen_row : List PathValue → Text
unseen_row [] = codes "  reads     seen in all folders"
unseen_row (path ∷ paths) =
    codes "? reads     not seen in " ++ listed (map path_words (path ∷ paths))
    ++ codes ": mount them with strictatime"

-- the same, if it is known how they are mounted
unfoldable pub reads_row : Option (List PathValue) → Text
reads_row None = codes "? reads     it isn't known how the folders are mounted"
reads_row (Some unseen) = unseen_row unseen

-- of these logins which weren't recorded
unfoldable pub logins_row : List LoginValue → List LoginValue → Text
logins_row [] unrecorded = codes "? logins    the list names nobody"
logins_row (given ∷ more) [] = codes "  logins    all are recorded"
logins_row (given ∷ more) (login ∷ logins) =
    codes "? logins    not recorded: " ++ listed (map login_words (login ∷ logins))

unfoldable pub case_row : ℕ → Text
case_row size = codes "  case      " ++ decimal size ++ codes " bytes"
