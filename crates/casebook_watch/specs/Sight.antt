-- Sights of paths: the order of times, when two sights are of the same file or directory, and when
-- they differ.
use Rattle.std.specs.Prelude.{Bool, true, false, not, ◌&&◌, ◌||◌, nat_eq, nat_lt, int_lt}
use Rattle.std.specs.Prelude.{if◌then◌else◌}
use Rattle.std.specs.Ordering.{int_eq}
use Rattle.casebook_folder.specs.Found.{attributes_eq}
use Rattle.casebook_watch.specs.declared.file_time.FileTime.{FileTime}
use Rattle.casebook_watch.specs.declared.kind.Kind.{Kind}
use Rattle.casebook_watch.specs.declared.kind.Kind.TheVariants.{Dir, File, Link, Other}
use Rattle.casebook_watch.specs.declared.sight.Sight.{Sight}

abbrev pub time_eq : FileTime → FileTime → Bool
time_eq a b = int_eq a.second b.second && nat_eq a.nanosecond b.nanosecond

-- in a later second, or in the same second with a greater nanosecond
abbrev pub is_after : FileTime → FileTime → Bool
is_after a b =
    if int_eq a.second b.second then nat_lt b.nanosecond a.nanosecond
    else int_lt b.second a.second

abbrev pub kind_eq : Kind → Kind → Bool
kind_eq Dir Dir = true
kind_eq File File = true
kind_eq Link Link = true
kind_eq Other Other = true
kind_eq _ _ = false

-- the same file or directory of the file system: of one kind, with one number
abbrev pub is_same_node : Sight → Sight → Bool
is_same_node old new = kind_eq old.kind new.kind && nat_eq old.number new.number

-- another size, time of writing or time of change
abbrev pub has_other_content : Sight → Sight → Bool
has_other_content old new =
    not (nat_eq old.size new.size) || not (time_eq old.written new.written)
    || not (time_eq old.changed new.changed)

-- Other attributes, or another content unless it is a directory. The size and the times of a
-- directory change with the names in it.
abbrev pub has_other_state : Sight → Sight → Bool
has_other_state old new =
    not (attributes_eq old.attributes new.attributes)
    || not (kind_eq new.kind Dir) && has_other_content old new

-- equal in everything
abbrev pub sight_eq : Sight → Sight → Bool
sight_eq a b =
    kind_eq a.kind b.kind && nat_eq a.size b.size && nat_eq a.number b.number
    && attributes_eq a.attributes b.attributes
    && time_eq a.read b.read && time_eq a.written b.written && time_eq a.changed b.changed
