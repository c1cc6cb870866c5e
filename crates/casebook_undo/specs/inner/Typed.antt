-- What the types of rows guarantee: bytes are below 2^8, numbers are below 2^32, and the names of
-- a path are names of files.
use Rattle.std.specs.Prelude.{Bool, true, ◌&&◌}
use Rattle.retro_json.specs.Typed.{are_bytes, are_names, is_u32}
use Rattle.casebook_folder.specs.declared.attributes.Attributes.{Attributes}
use Rattle.casebook_folder.specs.declared.found.Found.{Found}
use Rattle.casebook_folder.specs.declared.found.Found.TheVariants.{Missing, Dir, File, Blocked}
use Rattle.casebook_folder.specs.declared.row.Row.{Row}

abbrev pub attributes_typed : Attributes → Bool
attributes_typed a = is_u32 a.mode && (is_u32 a.uid && is_u32 a.gid)

abbrev pub node_typed : Found → Bool
node_typed Missing = true
node_typed (Dir a) = attributes_typed a
node_typed (File bytes a) = are_bytes bytes && attributes_typed a
node_typed (Blocked o) = true

abbrev pub row_typed : Row → Bool
row_typed r = are_names r.path && (node_typed r.before && node_typed r.after)
