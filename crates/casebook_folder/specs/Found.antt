-- What a folder holds at a path: when two of these are the same, and of which kind they are.
use Rattle.std.specs.Prelude.{Bool, true, false, ◌&&◌, nat_eq}
use Rattle.retro_path.specs.Order.{text_eq}
use Rattle.casebook_folder.specs.declared.attributes.Attributes.{Attributes}
use Rattle.casebook_folder.specs.declared.found.Found.{Found}
use Rattle.casebook_folder.specs.declared.found.Found.TheVariants.{Missing, Dir, File, Blocked}

abbrev pub attributes_eq : Attributes → Attributes → Bool
attributes_eq a b = nat_eq a.mode b.mode && nat_eq a.uid b.uid && nat_eq a.gid b.gid

-- Whether two are the same. What is blocked is the same as nothing, not even as itself.
abbrev pub found_eq : Found → Found → Bool
found_eq Missing Missing = true
found_eq Missing (Dir b) = false
found_eq Missing (File y b) = false
found_eq Missing (Blocked o) = false
found_eq (Dir a) Missing = false
found_eq (Dir a) (Dir b) = attributes_eq a b
found_eq (Dir a) (File y b) = false
found_eq (Dir a) (Blocked o) = false
found_eq (File x a) Missing = false
found_eq (File x a) (Dir b) = false
found_eq (File x a) (File y b) = text_eq x y && attributes_eq a b
found_eq (File x a) (Blocked o) = false
found_eq (Blocked o) y = false

abbrev pub is_missing : Found → Bool
is_missing Missing = true
is_missing (Dir a) = false
is_missing (File x a) = false
is_missing (Blocked o) = false

abbrev pub is_dir : Found → Bool
is_dir Missing = false
is_dir (Dir a) = true
is_dir (File x a) = false
is_dir (Blocked o) = false

abbrev pub is_file : Found → Bool
is_file Missing = false
is_file (Dir a) = false
is_file (File x a) = true
is_file (Blocked o) = false

abbrev pub is_blocked : Found → Bool
is_blocked Missing = false
is_blocked (Dir a) = false
is_blocked (File x a) = false
is_blocked (Blocked o) = true

-- whether a directory comes in the place of a file, or a file in the place of a directory
abbrev pub changes_kind : Found → Found → Bool
changes_kind Missing y = false
changes_kind (Dir a) y = is_file y
changes_kind (File x a) y = is_dir y
changes_kind (Blocked o) y = false
