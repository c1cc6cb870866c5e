-- What a page tells of a repair: its pieces that say something, in order.
use Rattle.std.specs.Prelude.{ℕ, ◌==◌, Bool, true, false, not, ◌&&◌, ◌||◌, List, [], ◌∷◌, ◌++◌, codes}
use Rattle.std.specs.Prelude.{Option, Some, None, flat_map, if◌then◌else◌, is_none, length, map, nat_le}
use Rattle.std.specs.List.{filter, filter_map}
use Rattle.retro_tree.specs.Order.{path_eq, text_eq}
use Rattle.retro_tree.specs.Path.{PathValue}
use Rattle.retro_keep.specs.Recording.{RecordingValue, noted_at}
use Rattle.retro_keep.specs.declared.noted.Noted.{Noted}
use Rattle.retro_redo.specs.declared.repair.Repair.{Repair}
use Rattle.casebook_changes.specs.declared.changed_path.PathChange.{PathChange}
use Rattle.casebook_changes.specs.declared.changed_path.PathChange.TheVariants as changes
use Rattle.casebook_profile.specs.declared.unknown_line.UnknownLine.{UnknownLine}
use Rattle.casebook_text.specs.SafeLine.{safe_bytes, word_bytes}
use Rattle.casebook_usage.specs.declared.obstacle.Obstacle.{Obstacle}
use Rattle.casebook_usage.specs.declared.obstacle.Obstacle.TheVariants as obstacles
use Rattle.casebook_view.specs.CaseLines.{fate_at, line_at, obstacle_in}
use Rattle.casebook_view.specs.Fates.{fate_eq, session_in}
use Rattle.casebook_view.specs.FirstOfEach.{first_of_each}
use Rattle.casebook_view.specs.NotePaths.{read_path, write_eq, write_in}
use Rattle.casebook_view.specs.OtherAnswers.{answers_of}
use Rattle.casebook_view.specs.Reasons.{chain_of}
use Rattle.casebook_view.specs.Sources.{SeenValue, SourceValue, Played, Seen}
use Rattle.casebook_view.specs.declared.case_line.CaseLine.{CaseLine}
use Rattle.casebook_view.specs.declared.fate.Fate.{Fate}
use Rattle.casebook_view.specs.declared.fate.Fate.TheVariants as fates
use Rattle.casebook_view.specs.declared.path_write.PathWrite.{PathWrite}
use Rattle.casebook_view.specs.declared.path_write.WriteKind.{WriteKind}
use Rattle.casebook_view.specs.declared.path_write.WriteKind.TheVariants as writes
use Rattle.casebook_view.specs.declared.reason.Reason.{Reason}
use Rattle.casebook_summary.specs.Counts.{count_changed, count_of, numbers_with, sessions_of, sessions_told, unknown_cancelled}
use Rattle.casebook_summary.specs.Effects.{EffectValue, effect_value}
use Rattle.casebook_summary.specs.Words.{obstacle_words, played_words, subject_words, why_words}
use Rattle.casebook_summary.specs.declared.group.Group.{Group}
use Rattle.casebook_summary.specs.declared.restoration.Extent.{Extent}
use Rattle.casebook_summary.specs.declared.restoration.Extent.TheVariants as extents
use Rattle.casebook_summary.specs.declared.restoration.Restoration.{Restoration}
use Rattle.casebook_summary.specs.declared.summary.Summary.{Summary}
use Rattle.casebook_about.specs.Labels.{name_words, time_words}
use Rattle.casebook_words.specs.Obstacles.{obstacle_text}
use Rattle.casebook_words.specs.Words.{path_words}
use Rattle.casebook_about.specs.declared.labels.Labels.{Labels}
use Rattle.casebook_html.specs.declared.number_tag.NumberTag.{NumberTag}
use Rattle.casebook_html.specs.declared.number_tag.NumberTag.TheVariants as numbered
use Rattle.casebook_html.specs.declared.piece.Piece.{Piece}
use Rattle.casebook_html.specs.declared.piece.Piece.TheVariants.{Anchor, Fixed, Link, Number, Output, Row, Text}
use Rattle.casebook_html.specs.declared.row_class.RowClass.{RowClass}
use Rattle.casebook_html.specs.declared.row_class.RowClass.TheVariants as classes
use Rattle.casebook_html.specs.declared.run.Run.TheVariants.{Recorded, Repaired}
use Rattle.casebook_html.specs.declared.tag.Tag.{Tag}
use Rattle.casebook_html.specs.declared.tag.Tag.TheVariants as tags

-- what a page is about
pub record ContentsValue : Type 0 where
  pub source : SourceValue
  pub recording : RecordingValue
  pub repair : Repair
  pub summary : Summary
  pub labels : Labels
  pub title : List ℕ
  pub shows_all : Bool

-- over so many lines, untouched ones have no rows
abbrev pub line_limit : ℕ
line_limit = 5000

-- whether untouched lines have rows: if all are asked for, or if the lines aren't many
abbrev pub shows_untouched : ContentsValue → Bool
shows_untouched c = c.shows_all || nat_le (length c.summary.lines) line_limit

-- ---- lines, names and paths

abbrev pub said : List ℕ → List Piece
said words = Text words ∷ []

abbrev pub name_told : Labels → ℕ → Piece
name_told labels session = Text (name_words session labels)

abbrev pub path_told : PathValue → Piece
path_told path = Text (path_words path)

-- the number of a line, as a link to its row
abbrev pub link_told : ℕ → Piece
link_told n = Link numbered.Link n

abbrev pub text_of : Option Noted → List ℕ
text_of None = []
text_of (Some noted) = safe_bytes noted.text

-- the text of the line with a number
abbrev pub command_told : RecordingValue → ℕ → Piece
command_told r n = Text (text_of (noted_at n r.lines))

abbrev pub owner_told : ContentsValue → ℕ → Piece
owner_told c n = name_told c.labels (session_in (noted_at n c.recording.lines))

-- both outputs of the line with a number
abbrev pub outputs_told : ℕ → List Piece
outputs_told n = Output Recorded n ∷ Output Repaired n ∷ []

-- the sign of a line that isn't understood, has to be run for real, or was observed
abbrev pub sign_of : Obstacle → Tag
sign_of obstacles.Need = tags.SignNeed
sign_of obstacles.Observed = tags.SignObserved
sign_of _ = tags.SignUnknown

-- ---- the head

abbrev pub title_told : List ℕ → List Piece
title_told title = Text (safe_bytes title) ∷ Text (safe_bytes title) ∷ []

-- of lines that a recorder saw: how many stand as they were observed, which ones are in doubt, and
-- what isn't known
abbrev pub observed_told : ℕ → List Piece
observed_told count =
    if count == 0 then said (codes "Each line did what Retro's shell does.") else Number count ∷ []

abbrev pub seen_told : SeenValue → List Piece
seen_told seen =
    observed_told (length seen.observed) ++ map link_told seen.overlapping ++ map link_told seen.outside
    ++ map Number seen.incomplete ++ map (λ folder. Text (word_bytes folder)) seen.unseen

abbrev pub basis_told : SourceValue → Bool → List Piece
basis_told Played is_recording = said (played_words is_recording)
basis_told (Seen seen) is_recording = seen_told seen

-- how many lines aren't understood or have to be run for real, if some do
abbrev pub unknown_count : List UnknownLine → List Piece
unknown_count [] = []
unknown_count (line ∷ unknown) = Number (length (line ∷ unknown)) ∷ []

-- how many lines are cancelled, and how many paths, sessions and screens would differ
abbrev pub counts_told : Summary → List Piece
counts_told summary =
    Number (count_of summary.lines fates.Cancelled) ∷ Number (length summary.restorations.items)
    ∷ Number (length (sessions_told summary.notices.items)) ∷ Number (length summary.notices.items) ∷ []

-- what that rests on
abbrev pub rests_told : ContentsValue → List Piece
rests_told c =
    Number (length c.summary.lines) ∷ Number (length (sessions_of c.summary.lines))
    ∷ (basis_told c.source c.summary.is_recording ++ unknown_count c.summary.unknown.items)

abbrev pub lead_told : ContentsValue → List Piece
lead_told c = counts_told c.summary ++ rests_told c

-- ---- lines that aren't understood or have to be run for real

-- how many of them are cancelled, of lines that were played
abbrev pub missing_told : SourceValue → List CaseLine → List Piece
missing_told Played lines = Number (unknown_cancelled lines) ∷ []
missing_told (Seen seen) lines = []

-- whether a line with a fate has a row
abbrev pub has_row : Bool → Option Fate → Bool
has_row untouched None = true
has_row untouched (Some fate) = untouched || not (fate_eq fate fates.Untouched)

-- the number of a line, as a link if the page has a row of it
abbrev pub number_told : ContentsValue → ℕ → Piece
number_told c n = if has_row (shows_untouched c) (fate_at n c.summary.lines) then link_told n else Number n

-- how many lines have an obstacle, the obstacle, and all these lines; nothing if there are none
abbrev pub numbered_told : ContentsValue → Obstacle → List ℕ → List Piece
numbered_told c obstacle [] = []
numbered_told c obstacle (n ∷ numbers) =
    Number (length (n ∷ numbers)) ∷ Text (obstacle_words obstacle (length (n ∷ numbers)))
    ∷ map (number_told c) (n ∷ numbers)

abbrev pub with_told : ContentsValue → Obstacle → List Piece
with_told c obstacle = numbered_told c obstacle (numbers_with obstacle c.summary.unknown.items)

-- which lines they are, by their obstacles
abbrev pub unknown_list : ContentsValue → List Piece
unknown_list c =
    with_told c obstacles.Command ++ with_told c obstacles.Form
    ++ with_told c obstacles.Expansion ++ with_told c obstacles.Terminal
    ++ with_told c obstacles.Need

abbrev pub unknown_by : ContentsValue → List UnknownLine → List Piece
unknown_by c [] = []
unknown_by c (line ∷ unknown) =
    Fixed tags.Unknown ∷ Number (length (line ∷ unknown))
    ∷ (missing_told c.source c.summary.lines ++ unknown_list c)

abbrev pub unknown_told : ContentsValue → List Piece
unknown_told c = unknown_by c c.summary.unknown.items

-- ---- the overview and the boxes

-- a link to each line that isn't untouched
abbrev pub tick_told : CaseLine → List Piece
tick_told line = if fate_eq line.fate fates.Untouched then [] else Anchor line.number ∷ []

abbrev pub session_told : ContentsValue → ℕ → List Piece
session_told c session =
    name_told c.labels session ∷ name_told c.labels session
    ∷ flat_map tick_told (filter (λ line. line.session == session) c.summary.lines)

abbrev pub overview_told : ContentsValue → List Piece
overview_told c = flat_map (session_told c) (sessions_of c.summary.lines)

abbrev pub box_of : Fate → Tag
box_of fates.Cancelled = tags.KeyCancelled
box_of fates.Changed = tags.KeyChanged
box_of fates.Alike = tags.KeyAlike
box_of fates.Kept = tags.KeyKept
box_of fates.Untouched = tags.KeyUntouched

unfoldable pub box_told : List CaseLine → Fate → List Piece
box_told lines fate = Fixed (box_of fate) ∷ Number (count_of lines fate) ∷ []

abbrev pub key_told : List CaseLine → List Piece
key_told lines =
    box_told lines fates.Cancelled ++ box_told lines fates.Changed ++ box_told lines fates.Alike
    ++ box_told lines fates.Kept ++ box_told lines fates.Untouched

-- ---- cancelled and replaced lines

abbrev pub link_of : Fate → NumberTag
link_of fates.Changed = numbered.LinkChanged
link_of fates.Alike = numbered.LinkAlike
link_of _ = numbered.Link

-- how many lines a line led to, if it led to some, or that it isn't known
abbrev pub led_count : ℕ → List Piece
led_count count = if count == 0 then [] else Number count ∷ []

abbrev pub led_told : Option Obstacle → ℕ → List Piece
led_told None count = led_count count
led_told (Some obstacle) count = Fixed (sign_of obstacle) ∷ []

-- how many bytes a line showed, if it is cancelled and understood, and showed some
abbrev pub leaked_told : ℕ → List Piece
leaked_told bytes = if bytes == 0 then [] else Fixed tags.Leak ∷ Number bytes ∷ []

abbrev pub leak_told : Option CaseLine → Option Noted → List Piece
leak_told None noted = []
leak_told (Some line) None = []
leak_told (Some line) (Some noted) =
    if fate_eq line.fate fates.Cancelled && is_none line.obstacle then leaked_told (length noted.output) else []

-- how many lines a line led to, and what it showed
abbrev pub detail_told : ContentsValue → EffectValue → List Piece
detail_told c effect =
    led_told (obstacle_in (line_at effect.number c.summary.lines)) (length effect.led)
    ++ leak_told (line_at effect.number c.summary.lines) (noted_at effect.number c.recording.lines)

-- the paths that it read and that it wrote, and the lines that it led to
abbrev pub inside_told : EffectValue → List Piece
inside_told effect =
    map path_told effect.read ++ map path_told effect.wrote
    ++ map (λ line. Link (link_of line.fate) line.number) effect.led

-- the number of the line, its session, its text, and all this
abbrev pub effect_told : ContentsValue → EffectValue → List Piece
effect_told c effect =
    link_told effect.number ∷ owner_told c effect.number ∷ command_told c.recording effect.number
    ∷ (detail_told c effect ++ inside_told effect)

abbrev pub effects_told : ContentsValue → List Piece
effects_told c =
    Fixed tags.Cancelled ∷ flat_map (λ effect. effect_told c (effect_value effect)) c.summary.effects.items

-- ---- paths to restore

abbrev pub row_of : PathChange → Tag
row_of changes.Modified = tags.Modified
row_of changes.Added = tags.Added
row_of changes.Removed = tags.Removed

-- what comes, goes or becomes another kind, unless lines do
abbrev pub extent_told : Extent → List Piece
extent_told extents.NotKept = said (codes "not kept, restore by hand ")
extent_told extents.Directory = said (codes "directory")
extent_told extents.ToFile = said (codes "becomes a file ")
extent_told extents.ToDirectory = said (codes "becomes a directory ")
extent_told extents.EmptyFile = said (codes "empty file")
extent_told (extents.Lines counts) = []

abbrev pub doubt_of : SourceValue → Tag
doubt_of Played = tags.SignDoubtful
doubt_of (Seen seen) = tags.SignDoubtfulNeed

abbrev pub doubt_told : SourceValue → Bool → List Piece
doubt_told source true = Fixed (doubt_of source) ∷ []
doubt_told source false = []

abbrev pub writer_told : Option ℕ → List Piece
writer_told None = []
writer_told (Some n) = link_told n ∷ []

-- how a path differs, the path, what comes or goes, whether it is doubtful, and which line wrote it
-- last otherwise
abbrev pub restoration_told : SourceValue → Restoration → List Piece
restoration_told source r =
    Fixed (row_of r.change) ∷ path_told r.path
    ∷ (extent_told r.extent ++ doubt_told source r.is_doubtful ++ writer_told r.writer)

-- a path of which it isn't known what it would be
abbrev pub undecided_told : PathValue → List Piece
undecided_told path = Fixed tags.Undecided ∷ path_told path ∷ []

-- how many paths change, come back and go
abbrev pub changes_told : List Restoration → List Piece
changes_told rs =
    Number (count_changed rs changes.Modified) ∷ Number (count_changed rs changes.Added)
    ∷ Number (count_changed rs changes.Removed) ∷ []

abbrev pub restore_told : SourceValue → Summary → List Piece
restore_told source summary =
    Fixed tags.Restore
    ∷ (changes_told summary.restorations.items ++ flat_map (restoration_told source) summary.restorations.items
    ++ flat_map undecided_told summary.undecided.items)

-- ---- whom to tell

abbrev pub first_of : List ℕ → ℕ
first_of [] = 0
first_of (n ∷ numbers) = n

-- how many lines, and what they are about
abbrev pub subject_head : Group → List Piece
subject_head g = Number (length g.lines.items) ∷ Text (subject_words g.subject) ∷ []

-- which lines, and the text of the first
abbrev pub lines_of_group : RecordingValue → Group → List Piece
lines_of_group r g = map link_told g.lines.items ++ command_told r (first_of g.lines.items) ∷ []

-- the outputs of the first line, if they are known
abbrev pub screens_told : Bool → ℕ → List Piece
screens_told true n = outputs_told n
screens_told false n = []

abbrev pub group_told : ContentsValue → Bool → Group → List Piece
group_told c is_known g =
    subject_head g ++ lines_of_group c.recording g ++ screens_told is_known (first_of g.lines.items)

abbrev pub is_session : Option ℕ → ℕ → Bool
is_session None session = false
is_session (Some last) session = last == session

-- the name of a session before the first of its groups
abbrev pub person_told : Labels → Option ℕ → ℕ → List Piece
person_told labels last session = if is_session last session then [] else name_told labels session ∷ []

abbrev pub groups_told : ContentsValue → Bool → Option ℕ → List Group → List Piece
groups_told c is_known last [] = []
groups_told c is_known last (g ∷ groups) =
    person_told c.labels last g.session ++ group_told c is_known g ++ groups_told c is_known (Some g.session) groups

-- whom to tell, and who looked at what would be another
abbrev pub tell_told : ContentsValue → List Piece
tell_told c =
    Fixed tags.Tell
    ∷ (groups_told c true None c.summary.told.items ++ groups_told c false None c.summary.looked.items)

-- ---- rows

-- what a line printed, or nothing if there is no line
abbrev pub output_of : Option Noted → List ℕ
output_of None = []
output_of (Some noted) = noted.output

-- whether a line is understood and prints something else in the repaired run
abbrev pub has_other_output : ContentsValue → CaseLine → Bool
has_other_output c line =
    fate_eq line.fate fates.Changed && is_none line.obstacle
    && not (text_eq (output_of (noted_at line.number c.recording.lines))
    (output_of (noted_at line.number c.repair.recording.lines)))

abbrev pub class_by : Fate → Bool → RowClass
class_by fates.Cancelled told = classes.Cancelled
class_by fates.Changed true = classes.Told
class_by fates.Changed false = classes.Changed
class_by fates.Alike told = classes.Alike
class_by fates.Kept told = classes.Kept
class_by fates.Untouched told = classes.Untouched

-- why a line isn't understood or has to be run for real, or else that it stands as it was observed
abbrev pub remark_by : Option Obstacle → Bool → Option Obstacle
remark_by (Some obstacle) is_observed = Some obstacle
remark_by None true = Some obstacles.Observed
remark_by None false = None

abbrev pub remark_of : CaseLine → Option Obstacle
remark_of line = remark_by line.obstacle line.is_observed

abbrev pub mark_told : Option Obstacle → List Piece
mark_told None = []
mark_told (Some obstacle) = Fixed (sign_of obstacle) ∷ []

abbrev pub remark_told : Option Obstacle → List Piece
remark_told None = []
remark_told (Some obstacle) = Fixed (sign_of obstacle) ∷ Text (obstacle_text obstacle) ∷ []

-- why a line is run again, and the chain of lines that it comes from
abbrev pub why_told : ContentsValue → ℕ → Option Reason → List Piece
why_told c n None = []
why_told c n (Some reason) =
    Text (why_words reason.why (answers_of c.recording c.repair n reason))
    ∷ map link_told (chain_of c.summary.lines n)

unfoldable pub write_said : WriteKind → List ℕ
write_said writes.Put = codes "wrote "
write_said writes.Append = codes "appended to "
write_said writes.Remove = codes "removed "

abbrev pub write_told : PathWrite → List Piece
write_told write = Text (write_said write.kind) ∷ path_told write.path ∷ []

-- the paths that a line read, and its writes
abbrev pub notes_told : Bool → Noted → List Piece
notes_told is_observed noted =
    map path_told (first_of_each path_eq (filter_map (read_path is_observed) noted.notes))
    ++ flat_map write_told (first_of_each write_eq (filter_map write_in noted.notes))

abbrev pub did_told : Bool → Option Noted → List Piece
did_told is_observed None = []
did_told is_observed (Some noted) = notes_told is_observed noted

-- both outputs of a line, if it prints something else
abbrev pub both_told : ContentsValue → CaseLine → List Piece
both_told c line = if has_other_output c line then outputs_told line.number else []

-- which line it is, whose, and its text
abbrev pub owner_head : ContentsValue → CaseLine → List Piece
owner_head c line =
    Number line.number ∷ name_told c.labels line.session ∷ command_told c.recording line.number ∷ []

-- what the row of a line has inside
abbrev pub body_told : ContentsValue → CaseLine → List Piece
body_told c line =
    owner_head c line ++ remark_told (remark_of line) ++ why_told c line.number line.reason
    ++ did_told line.is_observed (noted_at line.number c.recording.lines) ++ both_told c line

-- what the row shows before it is opened
abbrev pub closed_told : ContentsValue → CaseLine → List Piece
closed_told c line =
    Number line.number ∷ Text (time_words line.number c.labels) ∷ name_told c.labels line.session
    ∷ (mark_told (remark_of line) ++ command_told c.recording line.number ∷ [])

-- the row of a line, with what becomes of it
abbrev pub row_told : ContentsValue → CaseLine → List Piece
row_told c line =
    Row line.number (class_by line.fate (has_other_output c line)) ∷ (closed_told c line ++ body_told c line)

-- every other line has one
abbrev pub is_written : Bool → CaseLine → Bool
is_written untouched line = untouched || not (fate_eq line.fate fates.Untouched)

-- a row for each line that has one, in order
abbrev pub lines_told : ContentsValue → List CaseLine → List Piece
lines_told c lines = flat_map (row_told c) (filter (is_written (shows_untouched c)) lines)

-- the names of all sessions, as heads of columns
abbrev pub heads_told : Labels → List ℕ → List Piece
heads_told labels sessions = Fixed tags.Lines ∷ map (name_told labels) sessions

-- ---- the page

abbrev pub front_told : ContentsValue → List Piece
front_told c =
    title_told c.title ++ lead_told c ++ unknown_told c ++ overview_told c
    ++ key_told c.summary.lines ++ effects_told c ++ restore_told c.source c.summary ++ tell_told c

-- the heads of the columns of these sessions, and the rows
abbrev pub rows_told : ContentsValue → List ℕ → List Piece
rows_told c sessions = heads_told c.labels sessions ++ lines_told c c.summary.lines

abbrev pub page_told : ContentsValue → List Piece
page_told c = front_told c ++ rows_told c (sessions_of c.summary.lines)
