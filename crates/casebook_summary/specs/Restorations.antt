-- What is to be restored.
use Rattle.std.specs.Prelude.{◌≡◌, ℕ, Bool, List, [], ◌∷◌}
use Rattle.std.specs.Prelude.{Option, Some, None, false, ◌||◌, if◌then◌else◌, map}
use Rattle.std.specs.FinMap as map_of
use Rattle.casebook_changes.specs.ChangedPaths.{AreChangedPaths}
use Rattle.casebook_changes.specs.declared.changed_path.ChangedPath.{ChangedPath}
use Rattle.casebook_opaque.specs.Opaque.{is_opaque}
use Rattle.casebook_text.specs.Diff.{in_new, in_old, marked}
use Rattle.casebook_text.specs.Hunks.{Marked, count_in}
use Rattle.casebook_words.specs.FileLines.{is_added, is_removed, lines_at}
use Rattle.casebook_profile.specs.declared.unknown_line.UnknownLine.{UnknownLine}
use Rattle.retro_keep.specs.Recording.{RecordingValue, last_state}
use Rattle.retro_redo.specs.Repair.{repaired_state}
use Rattle.retro_redo.specs.declared.repair.Repair.{Repair}
use Rattle.retro_tree.specs.Path.{PathValue}
use Rattle.retro_tree.specs.Tree.{Tree}
use Rattle.retro_tree.specs.declared.ask.Ask.TheVariants as asks
use Rattle.retro_tree.specs.declared.entry.Entry.{Entry}
use Rattle.retro_tree.specs.declared.entry.Entry.TheVariants as entries
use Rattle.casebook_view.specs.Reasons.{IsCauseOf}
use Rattle.casebook_summary.specs.Doubts.{is_doubtful}
use Rattle.casebook_summary.specs.declared.restoration.Extent.{Extent}
use Rattle.casebook_summary.specs.declared.restoration.Extent.TheVariants.{Directory, EmptyFile, Lines, NotKept}
use Rattle.casebook_summary.specs.declared.restoration.Extent.TheVariants.{ToDirectory, ToFile}
use Rattle.casebook_summary.specs.declared.restoration.LineCounts.{LineCounts}
use Rattle.casebook_summary.specs.declared.restoration.Restoration.{Restoration}

-- The counts of lines that are in one of two texts alone, in a diff of them.
pub record AreCounts (old new : List (List ℕ)) (counts : LineCounts) : Type 0 where
  pub lines : List Marked
  pub old_lines : marked in_old lines ≡ old
  pub new_lines : marked in_new lines ≡ new
  pub added : counts.added ≡ count_in is_added lines
  pub removed : counts.removed ≡ count_in is_removed lines

-- how much is to be restored of a path with these entries in two trees: a directory or an empty
-- file that comes or goes, a file that becomes a directory or the other way, or else lines
abbrev pub lone_file : List ℕ → Option Extent
lone_file [] = Some EmptyFile
lone_file (b ∷ bytes) = None

abbrev pub kept_kind : Option Entry → Option Entry → Option Extent
kept_kind None None = None
kept_kind (Some entries.Dir) None = Some Directory
kept_kind None (Some entries.Dir) = Some Directory
kept_kind (Some (entries.File bytes)) None = lone_file bytes
kept_kind None (Some (entries.File bytes)) = lone_file bytes
kept_kind (Some entries.Dir) (Some entries.Dir) = None
kept_kind (Some entries.Dir) (Some (entries.File bytes)) = Some ToFile
kept_kind (Some (entries.File bytes)) (Some entries.Dir) = Some ToDirectory
kept_kind (Some (entries.File old)) (Some (entries.File new)) = None

-- whether there is a file that stands for what isn't kept
abbrev pub is_unkept : Option Entry → Bool
is_unkept None = false
is_unkept (Some entries.Dir) = false
is_unkept (Some (entries.File bytes)) = is_opaque bytes

-- what isn't kept is said to be that, whatever it becomes
abbrev pub kind_of : Option Entry → Option Entry → Option Extent
kind_of before after =
    if is_unkept before || is_unkept after then Some NotKept else kept_kind before after

-- an extent that is lines, with the counts of a diff
pub record IsLines (old new : List (List ℕ)) (extent : Extent) : Type 0 where
  pub counts : LineCounts
  pub is : extent ≡ Lines counts
  pub right : AreCounts old new counts

abbrev pub IsExtentBy : Option Extent → List (List ℕ) → List (List ℕ) → Extent → Type 0
IsExtentBy (Some kind) old new extent = extent ≡ kind
IsExtentBy None old new extent = IsLines old new extent

abbrev pub IsExtent : Tree → Tree → PathValue → Extent → Type 0
IsExtent before after path extent =
    IsExtentBy (kind_of (map_of.get before path) (map_of.get after path))
    (lines_at path before) (lines_at path after) extent

-- the trees at the ends of a recording and of its repair
abbrev pub tree_before : RecordingValue → Tree
tree_before r = (last_state r.lines r.first).tree

abbrev pub tree_after : Repair → Tree
tree_after repair = (repaired_state repair).tree

-- the path of a restoration, with how it differs
abbrev pub restored_path : Restoration → PathValue
restored_path x = x.path

abbrev pub restored_change : Restoration → ChangedPath
restored_change x = record { path = x.path; change = x.change }

-- the last line with a number below this one that writes differently to a path, or None if there is
-- none
abbrev pub IsWriter : RecordingValue → Repair → PathValue → Option ℕ → Type 0
IsWriter r repair path writer = IsCauseOf r repair 4294967295 (Some (asks.Bytes path)) writer

-- What a restoration says of its path beside how that differs: how much of it, whether a line wrote
-- to it that isn't understood, and which line wrote it last otherwise.
pub record IsRestoration (r : RecordingValue) (repair : Repair) (unknown : List UnknownLine) (x : Restoration)
    : Type 0 where
  pub extent : IsExtent (tree_before r) (tree_after repair) x.path x.extent
  pub doubt : x.is_doubtful ≡ is_doubtful r repair.recording unknown x.path
  pub writer : IsWriter r repair x.path x.writer

abbrev pub AreEach : RecordingValue → Repair → List UnknownLine → List Restoration → Type 0
AreEach r repair unknown [] = Unit {0}
AreEach r repair unknown (x ∷ xs) = IsRestoration r repair unknown x × AreEach r repair unknown xs

-- The restorations of a repair: one for exactly each path in which the trees at the ends differ, in
-- order.
pub record AreRestorations (r : RecordingValue) (repair : Repair) (unknown : List UnknownLine) (xs : List Restoration)
    : Type 0 where
  pub paths : AreChangedPaths (tree_before r) (tree_after repair) (map restored_change xs)
  pub each : AreEach r repair unknown xs
