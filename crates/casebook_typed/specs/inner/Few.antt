-- The sights and the contents of the paths that notes name.
use Rattle.std.specs.Prelude.{Bool, List, Option, Some, None, option_map, if◌then◌else◌}
use Rattle.std.specs.BTreeMap.{get_by}
use Rattle.std.specs.FinMap as finmap
use Rattle.std.specs.List.{list_any}
use Rattle.std.specs.Option.{option_or}
use Rattle.retro_path.specs.Order.{path_cmp, path_eq}
use Rattle.retro_path.specs.Path.{PathValue}
use Rattle.casebook_watch.specs.Sights.{Sights}
use Rattle.casebook_watch.specs.declared.sight_change.SightChange.{SightChange}
use Rattle.casebook_spool.specs.declared.content.Content.{Content}
use Rattle.casebook_spool.specs.declared.item.Item.{Item}
use Rattle.casebook_spool.specs.declared.item.Item.TheVariants as items
use Rattle.casebook_spool.specs.declared.note.Holds.{Holds}
use Rattle.casebook_spool.specs.declared.note.Note.TheVariants as notes
use Rattle.casebook_typed.specs.Looks.{ChangeValue}
use Rattle.casebook_typed.specs.declared.seen.Contents.{Contents}

-- whether a change is of a path
abbrev pub is_named : PathValue → List SightChange → Bool
is_named path changes = list_any (λ c. path_eq path c.path) changes

-- what a path holds
abbrev pub content_of : Contents → PathValue → Option Content
content_of contents path = option_map (λ c. c.now) (get_by (path_cmp path) contents.by_path)

-- what a path holds, by one more note
abbrev pub or_here : Option Content → PathValue → PathValue → Content → Option Content
or_here held path of content = option_or held (if path_eq path of then Some content else None)

abbrev pub change_here : Sights → Contents → PathValue → ChangeValue
change_here after contents path = record {
  path = path;
  sight = finmap.get after path;
  content = content_of contents path;
}

-- what an item says that a path holds, and the sight that it says of one
abbrev pub holds_in : Item → Option Holds
holds_in (items.Note (notes.Sight change)) = None
holds_in (items.Note (notes.Holds holds)) = Some holds
holds_in (items.Note (notes.Looked looked)) = None
holds_in (items.Record r) = None

abbrev pub change_in : Item → Option SightChange
change_in (items.Note (notes.Sight change)) = Some change
change_in (items.Note (notes.Holds holds)) = None
change_in (items.Note (notes.Looked looked)) = None
change_in (items.Record r) = None
