-- What an observation shows, by the sights before it and its notes.
use Rattle.std.specs.Prelude.{List, [], ◌∷◌, ◌++◌, map, Option, Some, None, if◌then◌else◌}
use Rattle.std.specs.FinMap as finmap
use Rattle.retro_path.specs.Order.{path_eq}
use Rattle.retro_path.specs.Path.{PathValue}
use Rattle.casebook_watch.specs.Delta.{after_changes}
use Rattle.casebook_watch.specs.Seen.{gone_paths, is_changed, is_listed, is_read, paths_where}
use Rattle.casebook_watch.specs.Sights.{Sights}
use Rattle.casebook_watch.specs.declared.sight.Sight.{Sight}
use Rattle.casebook_watch.specs.declared.sight_change.SightChange.{SightChange}
use Rattle.casebook_spool.specs.declared.content.Content.{Content}
use Rattle.casebook_spool.specs.declared.note.Note.{Note}
use Rattle.casebook_spool.specs.declared.note.Note.TheVariants as notes

-- the sights that notes say of paths
abbrev pub changes_in : List Note → List SightChange
changes_in [] = []
changes_in (notes.Sight change ∷ rest) = change ∷ changes_in rest
changes_in (_ ∷ rest) = changes_in rest

-- The sights of an observation's look. What the recorder read itself came after it.
abbrev pub sights_of_look : Sights → List Note → Sights
sights_of_look before noted = after_changes before (changes_in noted)

-- what a path holds, by the first note that says so
abbrev pub content_in : List Note → PathValue → Option Content
content_in [] path = None
content_in (notes.Holds holds ∷ rest) path =
    if path_eq path holds.path then Some holds.content else content_in rest path
content_in (_ ∷ rest) path = content_in rest path

-- a path that was changed: its new sight, or None if it is gone, and what it holds
pub record ChangeValue : Type 0 where
  pub path : PathValue
  pub sight : Option Sight
  pub content : Option Content

-- what was changed, read and listed, by paths in order; of what was changed, those that are gone
-- come last
pub record SeenValue : Type 0 where
  pub changes : List ChangeValue
  pub read : List PathValue
  pub listed : List PathValue

abbrev pub change_at : Sights → List Note → PathValue → ChangeValue
change_at after noted path = record {
  path = path;
  sight = finmap.get after path;
  content = content_in noted path;
}

-- the paths that are new or were changed, and then those that are gone
abbrev pub changed_paths : Sights → Sights → List PathValue
changed_paths before after = paths_where is_changed before after ++ gone_paths before after

abbrev pub seen_from : Sights → Sights → List Note → SeenValue
seen_from before after noted = record {
  changes = map (change_at after noted) (changed_paths before after);
  read = paths_where is_read before after;
  listed = paths_where is_listed before after;
}

-- what an observation shows after the sights before it
abbrev pub seen_by : Sights → List Note → SeenValue
seen_by before noted = seen_from before (sights_of_look before noted) noted
