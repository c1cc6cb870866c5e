-- What is to be restored, as JSON.
use Rattle.std.specs.Prelude.{ℕ, List, Option, Some, None, codes, map}
use Rattle.std.specs.List.{filter}
use Rattle.retro_tree.specs.Path.{PathValue}
use Rattle.serde_json.specs.Data.{Data, string, object, no_members, member}
use Rattle.casebook_changes.specs.declared.changed_path.PathChange.{PathChange}
use Rattle.casebook_changes.specs.declared.changed_path.PathChange.TheVariants.{Added}
use Rattle.casebook_changes.specs.declared.changed_path.PathChange.TheVariants.{Removed, Modified}
use Rattle.casebook_summary.specs.declared.restoration.Extent.{Extent}
use Rattle.casebook_summary.specs.declared.restoration.Extent.TheVariants.{Directory}
use Rattle.casebook_summary.specs.declared.restoration.Extent.TheVariants.{EmptyFile, Lines, NotKept}
use Rattle.casebook_summary.specs.declared.restoration.Extent.TheVariants.{ToDirectory, ToFile}
use Rattle.casebook_summary.specs.declared.restoration.Restoration.{Restoration}
use Rattle.casebook_json.specs.Values.{number_or_null, path_data}

abbrev pub change_name : PathChange → List ℕ
change_name Added = codes "added"
change_name Removed = codes "removed"
change_name Modified = codes "modified"

abbrev pub extent_name : Extent → List ℕ
extent_name Directory = codes "directory"
extent_name EmptyFile = codes "empty_file"
extent_name ToDirectory = codes "to_directory"
extent_name ToFile = codes "to_file"
extent_name NotKept = codes "not_kept"
extent_name (Lines counts) = codes "lines"

-- how many lines an extent adds and removes, if it is lines
abbrev pub added_in : Extent → Option ℕ
added_in (Lines counts) = Some counts.added
added_in _ = None

abbrev pub removed_in : Extent → Option ℕ
removed_in (Lines counts) = Some counts.removed
removed_in _ = None

-- the paths of the doubtful ones
abbrev pub doubtful_paths : List Restoration → List PathValue
doubtful_paths rs = map (λ r. r.path) (filter (λ r. r.is_doubtful) rs)

-- `{"added":n,"change":name,"extent":name,"path":path,"removed":n}`
unfoldable pub restoration_data : Restoration → Data
restoration_data r = object
    (member (codes "added") (number_or_null (added_in r.extent))
    (member (codes "change") (string (change_name r.change))
    (member (codes "extent") (string (extent_name r.extent))
    (member (codes "path") (path_data r.path)
    (member (codes "removed") (number_or_null (removed_in r.extent)) no_members)))))
