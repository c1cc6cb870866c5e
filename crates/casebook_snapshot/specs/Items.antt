-- What a folder holds at a path, and what is kept of it.
use Rattle.std.specs.Prelude.{Bool, true, false, Option, Some, None}
use Rattle.retro_path.specs.Path.{PathValue}
use Rattle.retro_tree.specs.declared.entry.Entry.TheVariants as entries
use Rattle.casebook_snapshot.specs.declared.item.Row.{Row}
use Rattle.casebook_snapshot.specs.declared.item.Item.{Item}
use Rattle.casebook_snapshot.specs.declared.item.Item.TheVariants.{Missing, Dir, File, Barred}

-- what is at each path, if no link is followed
abbrev pub Contents : Type 0
Contents = PathValue → Item

abbrev pub is_missing : Item → Bool
is_missing Missing = true
is_missing (Dir a) = false
is_missing (File x a) = false
is_missing (Barred r) = false

abbrev pub is_dir : Item → Bool
is_dir Missing = false
is_dir (Dir a) = true
is_dir (File x a) = false
is_dir (Barred r) = false

-- the directory or file that is kept
abbrev pub row_for : Item → Option Row
row_for Missing = None
row_for (Dir a) = Some (record { entry = entries.Dir; attributes = a })
row_for (File x a) = Some (record { entry = entries.File x; attributes = a })
row_for (Barred r) = None
