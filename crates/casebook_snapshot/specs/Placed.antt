-- A folder that is put at a path: the directories above that path are there, and nothing besides.
use Rattle.std.specs.Prelude.{Bool, true, false, [], Option, Some, None}
use Rattle.retro_path.specs.Path.{PathValue, below}
use Rattle.casebook_folder.specs.declared.attributes.Attributes.{Attributes}
use Rattle.casebook_snapshot.specs.Items.{Contents, is_dir}
use Rattle.casebook_snapshot.specs.declared.item.Item.{Item}
use Rattle.casebook_snapshot.specs.declared.item.Item.TheVariants.{Missing, Dir}

-- what is said of the mode and owner of directories above the folder, of which nothing is known
abbrev pub above : Attributes
above = record { mode = 493; uid = 0; gid = 0 }

-- by the rest of a path below the folder, and the rest of the folder's path below the path
abbrev pub placed_by : Contents → Option PathValue → Option PathValue → Item
placed_by f (Some inside) left = f inside
placed_by f None (Some left) = Dir above
placed_by f None None = Missing

abbrev pub placed : PathValue → Contents → Contents
placed at f q = placed_by f (below at q) (below q at)

abbrev pub placed_if : PathValue → Contents → Bool → Option Contents
placed_if at f true = Some (placed at f)
placed_if at f false = None

-- what is said of what a placed folder holds: nothing, if the folder isn't a directory
abbrev pub placed_contents : PathValue → Option Contents → Option Contents
placed_contents at None = None
placed_contents at (Some f) = placed_if at f (is_dir (f []))
