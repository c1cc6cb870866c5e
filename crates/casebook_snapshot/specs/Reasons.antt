-- The reason to skip a path: the first that applies of those that follow from its name, from the
-- path, and from what is there.
use Rattle.std.specs.Prelude.{ℕ, ◌==◌, Bool, not, ◌&&◌, if◌then◌else◌, nat_lt, List, length}
use Rattle.std.specs.Prelude.{Option, Some, None}
use Rattle.std.specs.List.{list_any}
use Rattle.std.specs.Str.{is_utf8}
use Rattle.retro_path.specs.Ascii.{nul}
use Rattle.retro_path.specs.Name.{is_name, name_limit}
use Rattle.retro_path.specs.Order.{path_eq}
use Rattle.retro_path.specs.Path.{PathValue, is_null, last_of}
use Rattle.retro_tree.specs.Node.{file_limit}
use Rattle.casebook_snapshot.specs.Items.{Contents}
use Rattle.casebook_snapshot.specs.declared.item.Item.{Item}
use Rattle.casebook_snapshot.specs.declared.item.Item.TheVariants.{Missing, Dir, File, Barred}
use Rattle.casebook_snapshot.specs.declared.reason.Reason.{Reason}
use Rattle.casebook_snapshot.specs.declared.reason.Reason.TheVariants.{NameTooLong, OddName, Asked}
use Rattle.casebook_snapshot.specs.declared.reason.Reason.TheVariants.{NullDevice, TooLarge}

-- whether a name can be in a row: it is the name of a file, in UTF-8, without NUL
unfoldable pub is_plain_name : List ℕ → Bool
is_plain_name n = not (list_any (λ b. b == nul) n) && (is_utf8 n && is_name n)

abbrev pub name_reason : List ℕ → Option Reason
name_reason n =
    if nat_lt name_limit (length n) then Some NameTooLong
    else (if is_plain_name n then None else Some OddName)

-- by the paths that the caller asks to skip
abbrev pub path_reason : List PathValue → PathValue → Option Reason
path_reason skip q =
    if list_any (path_eq q) skip then Some Asked
    else (if is_null q then Some NullDevice else None)

abbrev pub item_reason : Item → Option Reason
item_reason Missing = None
item_reason (Dir a) = None
item_reason (File x a) = if nat_lt file_limit (length x) then Some TooLarge else None
item_reason (Barred r) = Some r

-- the first reason, or the other if there is none
abbrev pub first_reason : Option Reason → Option Reason → Option Reason
first_reason None r = r
first_reason (Some r) s = Some r

-- the reason to skip a path by its last name; no reason applies to the root, which has no name
abbrev pub reason_by : Contents → List PathValue → PathValue → Option (List ℕ) → Option Reason
reason_by f skip q None = None
reason_by f skip q (Some n) =
    first_reason (name_reason n) (first_reason (path_reason skip q) (item_reason (f q)))

abbrev pub reason_of : Contents → List PathValue → PathValue → Option Reason
reason_of f skip q = reason_by f skip q (last_of q)
