-- The paths to which lines write that aren't understood or have to be run for real.
use Rattle.std.specs.Prelude.{◌≡◌, ℕ, Bool, false, not, ◌&&◌, ◌||◌, List}
use Rattle.std.specs.List.{list_any}
use Rattle.std.specs.List.Sorted.{IsStrictlySortedBy}
use Rattle.std.specs.Option.{option_map_or}
use Rattle.retro_tree.specs.Order.{path_cmp, path_eq}
use Rattle.retro_tree.specs.Path.{PathValue}
use Rattle.retro_tree.specs.declared.note.Note.{Note}
use Rattle.retro_keep.specs.Recording.{RecordingValue}
use Rattle.casebook_profile.specs.declared.unknown_line.UnknownLine.{UnknownLine}
use Rattle.casebook_view.specs.NotePaths.{path_written}
use Rattle.casebook_view.specs.Reasons.{notes_at}
use Rattle.casebook_view.specs.Unknown.{numbers_to_run}

-- whether a note writes to a path
abbrev pub writes_to : PathValue → Note → Bool
writes_to p note = option_map_or (path_eq p) (path_written note) false

-- whether the line with a number writes to a path in one of two recordings
abbrev pub is_writer : RecordingValue → RecordingValue → PathValue → ℕ → Bool
is_writer r repaired p n =
    list_any (writes_to p) (notes_at n r) || list_any (writes_to p) (notes_at n repaired)

-- whether a line that isn't understood writes to a path in one of two recordings
abbrev pub is_doubtful : RecordingValue → RecordingValue → List UnknownLine → PathValue → Bool
is_doubtful r repaired unknown p = list_any (λ line. is_writer r repaired p line.number) unknown

-- whether a line that has to be run for real writes to a path in one of two recordings
abbrev pub is_written_for_real : RecordingValue → RecordingValue → List UnknownLine → PathValue → Bool
is_written_for_real r repaired unknown p = list_any (is_writer r repaired p) (numbers_to_run unknown)

-- whether a path is among some
abbrev pub is_named : PathValue → List PathValue → Bool
is_named p paths = list_any (path_eq p) paths

-- The paths of which it isn't known what they would be, though two recordings have the same there at
-- their ends: exactly those to which a line writes that has to be run for real, but for the changed
-- ones, in order.
pub record AreUndecided (r repaired : RecordingValue) (unknown : List UnknownLine) (changed : List PathValue)
    (paths : List PathValue) : Type 0 where
  pub sorted : IsStrictlySortedBy path_cmp paths
  pub exact : (p : PathValue)
      → is_named p paths ≡ (is_written_for_real r repaired unknown p && not (is_named p changed))
