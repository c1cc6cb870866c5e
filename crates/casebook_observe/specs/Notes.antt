-- The notes of an observation.
use Rattle.std.specs.Prelude.{ℕ, ◌&&◌, ◌||◌, Bool, false, List, ◌++◌, Option, Some, None, fold, map}
use Rattle.std.specs.List.{filter}
use Rattle.std.specs.FinMap as finmap
use Rattle.sha2.specs.Sha256.{sha256}
use Rattle.retro_path.specs.Path.{PathValue}
use Rattle.casebook_watch.specs.Delta.{delta}
use Rattle.casebook_watch.specs.Seen.{is_changed}
use Rattle.casebook_watch.specs.Sight.{kind_eq}
use Rattle.casebook_watch.specs.Sights.{Sights}
use Rattle.casebook_watch.specs.declared.kind.Kind.{Kind}
use Rattle.casebook_watch.specs.declared.kind.Kind.TheVariants as kinds
use Rattle.casebook_watch.specs.declared.sight.Sight.{Sight}
use Rattle.casebook_watch.specs.declared.sight_change.SightChange.{SightChange}
use Rattle.casebook_spool.specs.declared.content.Content.{Content}
use Rattle.casebook_spool.specs.declared.content.Content.TheVariants as contents
use Rattle.casebook_spool.specs.declared.digest.Digest.{Digest}
use Rattle.casebook_spool.specs.declared.note.Note.{Note}
use Rattle.casebook_spool.specs.declared.note.Note.TheVariants as notes
use Rattle.casebook_observe.specs.Files.{SpoolFiles, with_kept}
use Rattle.casebook_observe.specs.Worlds.{World}
use Rattle.casebook_observe.specs.declared.found.Found.{Found}
use Rattle.casebook_observe.specs.declared.found.Found.TheVariants as founds

-- files and links are read
abbrev pub is_read : Kind → Bool
is_read kind = kind_eq kind kinds.File || kind_eq kind kinds.Link

-- whether a path with this sight is read: it is a file or a link, and new or changed
abbrev pub is_due : Option Sight → Option Sight → Bool
is_due before None = false
is_due before (Some sight) = is_read sight.kind && is_changed before sight

abbrev pub digest : List ℕ → Digest
digest bytes = record { bytes = sha256 bytes }

-- what is said of what was found
abbrev pub content_of : Found → Content
content_of (founds.Bytes bytes) = contents.Kept (digest bytes)
content_of (founds.Target target) = contents.Target target
content_of (founds.Unkept why) = contents.Unkept why

abbrev pub holds_note : PathValue → Found → Note
holds_note path found = notes.Holds (record { path = path; content = content_of found })

-- the changes of files and links that are read
abbrev pub due_changes : Sights → List SightChange → List SightChange
due_changes before changes =
    filter (λ change. is_due (finmap.get before change.path) change.sight) changes

-- what the files and links of changes hold
abbrev pub holds_notes : World → List SightChange → List Note
holds_notes world changes =
    map (λ change. holds_note change.path (world.held change.path)) changes

-- the bytes of a file are kept
abbrev pub with_found : SpoolFiles → Found → SpoolFiles
with_found files (founds.Bytes bytes) = with_kept (digest bytes) bytes files
with_found files (founds.Target target) = files
with_found files (founds.Unkept why) = files

-- the bytes of the files of changes are kept
abbrev pub with_contents : World → List SightChange → SpoolFiles → SpoolFiles
with_contents world changes files =
    fold (λ kept change. with_found kept (world.held change.path)) files changes

-- the changes since a look, and those of files and links that are read
abbrev pub changes_since : Sights → World → List SightChange
changes_since before world = delta before world.sights

abbrev pub due_since : Sights → World → List SightChange
due_since before world = due_changes before (changes_since before world)

-- the sights that differ, what new and changed files and links hold, and what the recorder read
abbrev pub notes_between : Sights → World → List Note
notes_between before world =
    map (λ change. notes.Sight change) (changes_since before world)
    ++ holds_notes world (due_since before world)
    ++ map (λ looked. notes.Looked looked) world.looked
