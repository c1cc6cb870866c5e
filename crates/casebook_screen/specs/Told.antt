-- What a terminal tells of a repair: the pieces that say something, in order.
use Rattle.std.specs.Prelude.{ℕ, ◌+◌, ◌-◌, ◌==◌, Bool, true, false, ◌&&◌, List, [], ◌∷◌, ◌++◌, codes}
use Rattle.std.specs.Prelude.{Option, Some, None, count_by, encode_utf8, flat_map, if◌then◌else◌, is_some, length, map, nat_le}
use Rattle.std.specs.Prelude.{take}
use Rattle.std.specs.List.{filter, slice_get}
use Rattle.retro_tree.specs.Path.{PathValue}
use Rattle.retro_keep.specs.Recording.{RecordingValue, noted_at}
use Rattle.retro_keep.specs.declared.noted.Noted.{Noted}
use Rattle.casebook_changes.specs.declared.changed_path.PathChange.{PathChange}
use Rattle.casebook_changes.specs.declared.changed_path.PathChange.TheVariants as changes
use Rattle.casebook_profile.specs.declared.unknown_line.UnknownLine.{UnknownLine}
use Rattle.casebook_text.specs.SafeLine.{ellipsis, word_bytes}
use Rattle.casebook_usage.specs.declared.obstacle.Obstacle.{Obstacle}
use Rattle.casebook_usage.specs.declared.obstacle.Obstacle.TheVariants as obstacles
use Rattle.casebook_view.specs.CaseLines.{line_number, obstacle_at}
use Rattle.casebook_view.specs.Fates.{fate_eq}
use Rattle.casebook_view.specs.Sources.{SeenValue, SourceValue, Played, Seen}
use Rattle.casebook_view.specs.declared.case_line.CaseLine.{CaseLine}
use Rattle.casebook_view.specs.declared.fate.Fate.{Fate}
use Rattle.casebook_view.specs.declared.fate.Fate.TheVariants as fates
use Rattle.casebook_summary.specs.Counts.{count_changed, count_of, numbers_with, sessions_of, sessions_told, unknown_cancelled}
use Rattle.casebook_summary.specs.Effects.{EffectValue, effect_value}
use Rattle.casebook_summary.specs.Groups.{GroupValue, group_value}
use Rattle.casebook_summary.specs.Words.{obstacle_words, played_words, subject_words}
use Rattle.casebook_summary.specs.declared.effect.Effect.{Effect}
use Rattle.casebook_summary.specs.declared.group.Group.{Group}
use Rattle.casebook_summary.specs.declared.leak.Leak.{Leak}
use Rattle.casebook_summary.specs.declared.notice.Notice.{Notice}
use Rattle.casebook_summary.specs.declared.restoration.Extent.{Extent}
use Rattle.casebook_summary.specs.declared.restoration.Extent.TheVariants as extents
use Rattle.casebook_summary.specs.declared.restoration.Restoration.{Restoration}
use Rattle.casebook_summary.specs.declared.summary.Summary.{Summary}
use Rattle.casebook_words.specs.Cut.{cut_words}
use Rattle.casebook_about.specs.Labels.{name_words, time_words}
use Rattle.casebook_words.specs.Obstacles.{obstacle_text}
use Rattle.casebook_words.specs.Words.{path_words}
use Rattle.casebook_about.specs.declared.labels.Labels.{Labels}
use Rattle.casebook_screen.specs.declared.piece.Piece.{Piece}
use Rattle.casebook_screen.specs.declared.piece.Piece.TheVariants.{Number, Text}

-- ---- names, paths and texts of lines

abbrev pub said : List ℕ → List Piece
said words = Text words ∷ []

abbrev pub name_told : Labels → ℕ → Piece
name_told labels session = Text (name_words session labels)

abbrev pub path_told : PathValue → Piece
path_told path = Text (path_words path)

-- a time, if it is known
abbrev pub time_told : List ℕ → List Piece
time_told [] = []
time_told (b ∷ time) = Text (b ∷ time) ∷ []

-- whether an obstacle only says that the line stands as it was observed
abbrev pub is_observed : Obstacle → Bool
is_observed obstacles.Observed = true
is_observed _ = false

-- why a line isn't understood. That it stands as it was observed is said by its mark alone.
abbrev pub obstacle_told : Option Obstacle → List Piece
obstacle_told None = []
obstacle_told (Some obstacle) = if is_observed obstacle then [] else said (obstacle_text obstacle)

-- how many bytes of a line are told
abbrev pub text_limit : ℕ
text_limit = 59

-- a line up to a limit, or nothing if there is no such line
abbrev pub line_text : ℕ → Option Noted → List ℕ
line_text limit None = []
line_text limit (Some noted) = cut_words limit noted.text

abbrev pub command_told : ℕ → RecordingValue → ℕ → Piece
command_told limit r n = Text (line_text limit (noted_at n r.lines))

-- how many numbers of lines, and how many paths, are told at most
abbrev pub numbers_shown : ℕ
numbers_shown = 8

abbrev pub paths_shown : ℕ
paths_shown = 2

abbrev pub more_told : List Piece
more_told = said (encode_utf8 ellipsis)

-- the first of some numbers or paths, and an ellipsis if there are more
abbrev pub numbers_told : List ℕ → List Piece
numbers_told numbers =
    if nat_le (length numbers) numbers_shown then map Number numbers
    else map Number (take numbers_shown numbers) ++ more_told

abbrev pub paths_told : List PathValue → List Piece
paths_told paths =
    if nat_le (length paths) paths_shown then map path_told paths
    else map path_told (take paths_shown paths) ++ more_told

-- ---- what the log holds, and what it rests on

-- from one time to another; a time that isn't known is left out
abbrev pub span_told : List ℕ → List ℕ → List Piece
span_told [] [] = []
span_told [] (e ∷ end) = Text (codes ", until ") ∷ Text (e ∷ end) ∷ []
span_told (b ∷ begin) [] = Text (codes ", from ") ∷ Text (b ∷ begin) ∷ []
span_told (b ∷ begin) (e ∷ end) = Text (b ∷ begin) ∷ Text (e ∷ end) ∷ []

-- the times of two lines
abbrev pub times_told : Labels → Option CaseLine → Option CaseLine → List Piece
times_told labels None last = []
times_told labels (Some first) None = []
times_told labels (Some first) (Some last) =
    span_told (time_words first.number labels) (time_words last.number labels)

-- the times of the first and the last line
abbrev pub period_told : Labels → List CaseLine → List Piece
period_told labels lines = times_told labels (slice_get lines 0) (slice_get lines (length lines - 1))

-- how many lines and sessions the log has, from when to when, and how many lines are cancelled
abbrev pub head_told : Labels → List CaseLine → List Piece
head_told labels lines =
    Number (length lines) ∷ Number (length (sessions_of lines))
    ∷ (period_told labels lines ++ Number (count_of lines fates.Cancelled) ∷ [])

-- how many lines stand as they were observed
abbrev pub observed_told : ℕ → List Piece
observed_told count =
    if count == 0 then said (codes "Each line did what Retro's shell does.") else Number count ∷ []

-- what some numbers are, and the first of them, if there are any
abbrev pub some_told : List ℕ → List ℕ → List Piece
some_told words [] = []
some_told words (n ∷ numbers) = Text words ∷ numbers_told (n ∷ numbers)

-- the same of folders
abbrev pub folders_told : List ℕ → List (List ℕ) → List Piece
folders_told words [] = []
folders_told words (folder ∷ folders) =
    Text words ∷ map (λ folder. Text (word_bytes folder)) (folder ∷ folders)

-- of lines that a recorder saw: how many stand as they were observed, which of them are in doubt, and
-- what isn't known
abbrev pub seen_told : SeenValue → List Piece
seen_told seen =
    observed_told (length seen.observed)
    ++ some_told (codes "Not told apart, since they overlap: lines") seen.overlapping
    ++ some_told (codes "Changes outside of the recorded sessions: lines") seen.outside
    ++ some_told (codes "Lines without a record: sessions") seen.incomplete
    ++ folders_told (codes "What lines only read wasn't always seen in") seen.unseen

abbrev pub basis_told : SourceValue → Bool → List Piece
basis_told Played is_recording = said (played_words is_recording)
basis_told (Seen seen) is_recording = seen_told seen

-- ---- lines that aren't understood or have to be run for real

-- how many lines have an obstacle, the obstacle, and all these lines; nothing if there are none
abbrev pub numbered_told : Obstacle → List ℕ → List Piece
numbered_told obstacle [] = []
numbered_told obstacle (n ∷ numbers) =
    Number (length (n ∷ numbers)) ∷ Text (obstacle_words obstacle (length (n ∷ numbers)))
    ∷ map Number (n ∷ numbers)

abbrev pub with_told : List UnknownLine → Obstacle → List Piece
with_told unknown obstacle = numbered_told obstacle (numbers_with obstacle unknown)

-- which lines they are, by their obstacles; a summary names none that is only observed
abbrev pub unknown_list : List UnknownLine → List Piece
unknown_list unknown =
    with_told unknown obstacles.Command ++ with_told unknown obstacles.Form ++ with_told unknown obstacles.Expansion
    ++ with_told unknown obstacles.Terminal ++ with_told unknown obstacles.Need

-- how many lines aren't understood, and how many of them are cancelled
abbrev pub missing_told : ℕ → ℕ → List Piece
missing_told count cancelled =
    if count == 1 then Number 1 ∷ said (if cancelled == 0 then codes "isn't" else codes "is")
    else Number count ∷ Number cancelled ∷ []

-- of lines that were played, and of lines that a recorder saw
abbrev pub played_told : List UnknownLine → List CaseLine → List Piece
played_told [] lines = said (codes "Every line was understood.")
played_told (line ∷ unknown) lines =
    missing_told (length (line ∷ unknown)) (unknown_cancelled lines) ++ unknown_list (line ∷ unknown)

abbrev pub to_run_told : List UnknownLine → List Piece
to_run_told [] = said (codes "No line has to be run for real.")
to_run_told (line ∷ unknown) = Number (length (line ∷ unknown)) ∷ unknown_list (line ∷ unknown)

abbrev pub unknown_told : SourceValue → List UnknownLine → List CaseLine → List Piece
unknown_told Played unknown lines = played_told unknown lines
unknown_told (Seen seen) unknown lines = to_run_told unknown

-- ---- how many lines have which fate

unfoldable pub fate_words : Fate → List ℕ
fate_words fates.Cancelled = codes "cancelled"
fate_words fates.Changed = codes "run again, another result"
fate_words fates.Alike = codes "run again, the same result"
fate_words fates.Kept = codes "met, kept as recorded"
fate_words fates.Untouched = codes "untouched"

unfoldable pub count_told : List CaseLine → Fate → List Piece
count_told lines fate = Number (count_of lines fate) ∷ Text (fate_words fate) ∷ []

abbrev pub counts_told : List CaseLine → List Piece
counts_told lines =
    count_told lines fates.Cancelled ++ count_told lines fates.Changed ++ count_told lines fates.Alike
    ++ count_told lines fates.Kept ++ count_told lines fates.Untouched

-- ---- paths to restore

-- what comes, goes or becomes another kind, or how many lines are added and removed
abbrev pub extent_told : Extent → List Piece
extent_told extents.Directory = said (codes "directory")
extent_told extents.EmptyFile = said (codes "empty file")
extent_told extents.ToDirectory = said (codes "becomes a directory")
extent_told extents.ToFile = said (codes "becomes a file")
extent_told extents.NotKept = said (codes "not kept, restore by hand")
extent_told (extents.Lines counts) = Number counts.added ∷ Number counts.removed ∷ []

abbrev pub change_sign : PathChange → List ℕ
change_sign changes.Added = codes "A "
change_sign changes.Removed = codes "D "
change_sign changes.Modified = codes "M "

-- a question mark before a doubtful path: a line wrote to it that isn't understood
abbrev pub doubt_told : Bool → List Piece
doubt_told true = said (codes "? ")
doubt_told false = []

-- whether a path is doubtful, how it is restored, the path, and how much of it
abbrev pub restoration_told : Restoration → List Piece
restoration_told r =
    doubt_told r.is_doubtful ++ Text (change_sign r.change) ∷ path_told r.path ∷ extent_told r.extent

-- a path of which it isn't known what it would be
abbrev pub undecided_told : PathValue → List Piece
undecided_told path = Text (codes "?   ") ∷ path_told path ∷ []

-- how many paths change, come back and go
unfoldable pub changes_told : List Restoration → List Piece
changes_told rs =
    Number (count_changed rs changes.Modified) ∷ Number (count_changed rs changes.Added)
    ∷ Number (count_changed rs changes.Removed) ∷ []

-- the paths to restore, and those of which it isn't known what they would be
unfoldable pub all_paths_told : Summary → List Piece
all_paths_told summary =
    flat_map restoration_told summary.restorations.items ++ flat_map undecided_told summary.undecided.items

abbrev pub restore_told : Summary → List Piece
restore_told summary =
    Text (codes "RESTORE  ") ∷ (changes_told summary.restorations.items ++ all_paths_told summary)

-- ---- whom to tell, and who looked at what

-- the name of the session, the subject, how many lines, and the first of them
abbrev pub group_told : Labels → GroupValue → List Piece
group_told labels group =
    name_told labels group.session ∷ Text (subject_words group.subject) ∷ Number (length group.lines)
    ∷ numbers_told group.lines

abbrev pub groups_told : Labels → List Group → List Piece
groups_told labels groups = flat_map (λ group. group_told labels (group_value group)) groups

-- how many sessions are told and about how many screens, and each group
abbrev pub tell_told : Labels → List Notice → List Group → List Piece
tell_told labels notices groups =
    Text (codes "TELL  ") ∷ Number (length (sessions_told notices)) ∷ Number (length notices)
    ∷ groups_told labels groups

-- if there are any, how many sessions looked by how many observed lines, and each group
abbrev pub looked_told : Labels → List Notice → List Group → List Piece
looked_told labels looks [] = []
looked_told labels looks (g ∷ groups) =
    Text (codes "LOOKED  ") ∷ Number (length (sessions_told looks)) ∷ Number (length looks)
    ∷ groups_told labels (g ∷ groups)

-- ---- what cancelled lines showed

-- the line, and how many bytes it showed
abbrev pub leak_told : RecordingValue → Labels → Leak → List Piece
leak_told r labels leak =
    Number leak.number ∷ name_told labels leak.session ∷ command_told text_limit r leak.number
    ∷ Number leak.bytes ∷ []

-- the cancelled lines that stand as they were observed
abbrev pub is_unshown : CaseLine → Bool
is_unshown line = fate_eq line.fate fates.Cancelled && line.is_observed

abbrev pub unshown_in : List CaseLine → List ℕ
unshown_in lines = map line_number (filter is_unshown lines)

-- how many there are, each of them, and of which lines it isn't known
abbrev pub leaks_told : RecordingValue → Labels → Summary → List Piece
leaks_told r labels summary =
    Text (codes "LEAKED  ") ∷ Number (length summary.leaks.items)
    ∷ (flat_map (leak_told r labels) summary.leaks.items
    ++ some_told (codes "  ? what other cancelled lines showed isn't recorded: lines") (unshown_in summary.lines))

-- ---- what edited lines read

-- the number of a line, and the first paths that it read, unless it read none
abbrev pub read_by : ℕ → List PathValue → List Piece
read_by number [] = []
read_by number (p ∷ paths) = Number number ∷ paths_told (p ∷ paths)

abbrev pub read_told : EffectValue → List Piece
read_told effect = read_by effect.number effect.read

abbrev pub has_paths : List PathValue → Bool
has_paths [] = false
has_paths (p ∷ paths) = true

-- how many lines read something, and each of them
abbrev pub reads_told : List Effect → List Piece
reads_told effects =
    Text (codes "READ  ") ∷ Number (count_by (λ effect. has_paths effect.read.items) effects)
    ∷ flat_map (λ effect. read_told (effect_value effect)) effects

-- ---- what edited lines led to

-- a count, or a question mark if the line isn't understood
abbrev pub led_told : Bool → ℕ → Piece
led_told true count = Text (codes "?")
led_told false count = Number count

-- the number of the line, how many lines it led to that have another result and that are run again
-- alike, its text, and the first paths that it wrote
abbrev pub effect_by : RecordingValue → Bool → EffectValue → List Piece
effect_by r is_unknown effect =
    Number effect.number ∷ led_told is_unknown (count_of effect.led fates.Changed)
    ∷ led_told is_unknown (count_of effect.led fates.Alike) ∷ command_told text_limit r effect.number
    ∷ paths_told effect.wrote

abbrev pub effect_told : RecordingValue → List CaseLine → EffectValue → List Piece
effect_told r lines effect = effect_by r (is_some (obstacle_at effect.number lines)) effect

abbrev pub causes_told : RecordingValue → Summary → List Piece
causes_told r summary =
    Text (codes "CAUSES  ")
    ∷ flat_map (λ effect. effect_told r summary.lines (effect_value effect)) summary.effects.items

-- ---- all

-- the head, which lines aren't understood, and how many lines have which fate
abbrev pub front_told : SourceValue → Summary → Labels → List Piece
front_told source summary labels =
    head_told labels summary.lines ++ basis_told source summary.is_recording
    ++ unknown_told source summary.unknown.items summary.lines ++ counts_told summary.lines

-- whom to tell, who looked at what, what cancelled lines showed, and what edited lines read and led
-- to
abbrev pub about_told : RecordingValue → Summary → Labels → List Piece
about_told r summary labels =
    tell_told labels summary.notices.items summary.told.items
    ++ looked_told labels summary.looks.items summary.looked.items
    ++ leaks_told r labels summary ++ reads_told summary.effects.items ++ causes_told r summary

abbrev pub summary_told : SourceValue → RecordingValue → Summary → Labels → List Piece
summary_told source r summary labels =
    front_told source summary labels ++ restore_told summary ++ about_told r summary labels
