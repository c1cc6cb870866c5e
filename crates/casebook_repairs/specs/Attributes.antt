-- What is known of modes and owners: the last ones that a path was seen to have, after lines that a
-- repair keeps.
use Rattle.std.specs.Prelude.{◌≡◌, ℕ, ◌==◌, Bool, ◌&&◌, ◌||◌, List, [], Option, Some, None, if◌then◌else◌, is_some}
use Rattle.std.specs.BTreeMap.{BTreeMap, get_by}
use Rattle.std.specs.List.{fold}
use Rattle.retro_keep.specs.Recording.{noted_at}
use Rattle.retro_keep.specs.declared.noted.Noted.{Noted}
use Rattle.retro_path.specs.Order.{path_cmp, path_eq}
use Rattle.retro_path.specs.Path.{PathValue}
use Rattle.casebook_account.specs.declared.account.Machine.{Machine}
use Rattle.casebook_account.specs.declared.attributes.SeenAttributes.{SeenAttributes}
use Rattle.casebook_folder.specs.declared.attributes.Attributes.{Attributes}
use Rattle.casebook_folder_cli.specs.declared.restoring.KnownAttributes.{KnownAttributes}
use Rattle.casebook_watch.specs.Sight.{kind_eq}
use Rattle.casebook_watch.specs.declared.kind.Kind.{Kind}
use Rattle.casebook_watch.specs.declared.kind.Kind.TheVariants.{Dir, File}

abbrev pub Lines : Type 0
Lines = List (ℕ × Noted)

-- what a machine's paths were seen to have; nothing, if there is no machine
abbrev pub attributes_by : Option Machine → List SeenAttributes
attributes_by None = []
attributes_by (Some machine) = machine.attributes.items

-- whether attributes were seen before all lines, or after one of these
abbrev pub is_kept : Lines → SeenAttributes → Bool
is_kept lines seen = seen.line == 0 || is_some (noted_at seen.line lines)

abbrev pub is_of : Kind → Lines → SeenAttributes → Bool
is_of kind lines seen = kind_eq seen.kind kind && is_kept lines seen

-- the attributes of a path, by one more that were seen of something
abbrev pub after_seen : Kind → Lines → PathValue → Option Attributes → SeenAttributes → Option Attributes
after_seen kind lines p known seen =
    if is_of kind lines seen then (if path_eq seen.path p then Some seen.attributes else known) else known

-- the last attributes that a path was seen to have when it was of a kind
abbrev pub last_of : Kind → Lines → PathValue → List SeenAttributes → Option Attributes
last_of kind lines p seen = fold (after_seen kind lines p) None seen

-- a map has those of each path
abbrev pub AreLastOf : Kind → Lines → List SeenAttributes → BTreeMap PathValue Attributes → Type 0
AreLastOf kind lines seen known =
    (p : PathValue) → get_by (path_cmp p) known ≡ last_of kind lines p seen

-- Of each file and of each directory those are known that it was last seen to have.
pub record AreKnown (lines : Lines) (seen : List SeenAttributes) (known : KnownAttributes) : Type 0 where
  pub files : AreLastOf File lines seen known.files
  pub dirs : AreLastOf Dir lines seen known.dirs
