-- The paths that notes name: about which path a query asks, and to which path a change writes.
use Rattle.std.specs.Prelude.{Bool, true, false, ◌&&◌, Option, Some, None, if◌then◌else◌}
use Rattle.std.specs.Prelude.{option_map}
use Rattle.retro_tree.specs.Order.{path_eq}
use Rattle.retro_tree.specs.Path.{PathValue, passwd}
use Rattle.retro_tree.specs.declared.answer.Answer.{Answer}
use Rattle.retro_tree.specs.declared.answer.Answer.TheVariants as answers
use Rattle.retro_tree.specs.declared.ask.Ask.{Ask}
use Rattle.retro_tree.specs.declared.ask.Ask.TheVariants.{Kind, Bytes, Names, CanWrite, User, VarOf, CwdOf, StatusOf}
use Rattle.retro_tree.specs.declared.change.Change.{Change}
use Rattle.retro_tree.specs.declared.change.Change.TheVariants.{Put, Grow, SetVar, SetCwd, SetStatus}
use Rattle.retro_tree.specs.declared.kind.Kind.TheVariants as missing
use Rattle.retro_tree.specs.declared.node.Node.{Node}
use Rattle.retro_tree.specs.declared.node.Node.TheVariants.{Missing, Dir, File}
use Rattle.retro_tree.specs.declared.note.Note.{Note}
use Rattle.retro_tree.specs.declared.note.Note.TheVariants.{Asked, Made}
use Rattle.retro_tree.specs.declared.permit.Permit.TheVariants.{Yes}
use Rattle.casebook_view.specs.declared.path_write.PathWrite.{PathWrite}
use Rattle.casebook_view.specs.declared.path_write.WriteKind.{WriteKind}
use Rattle.casebook_view.specs.declared.path_write.WriteKind.TheVariants as kinds

-- ---- queries

-- whether an answer is that bytes can be written
abbrev pub is_permit : Answer → Bool
is_permit (answers.CanWrite Yes) = true
is_permit _ = false

-- The path that a query holds, or None if it asks about no path. Whether a file can be written is
-- asked before each write, so it doesn't count if the answer is yes.
abbrev pub path_in : Ask → Answer → Option PathValue
path_in (Kind p) a = Some p
path_in (Bytes p) a = Some p
path_in (Names p) a = Some p
path_in (CanWrite p n) a = if is_permit a then None else Some p
path_in (User name) a = None
path_in (VarOf sid name) a = None
path_in (CwdOf sid) a = None
path_in (StatusOf sid) a = None

abbrev pub named_path : Note → Option PathValue
named_path (Asked q a) = path_in q a
named_path (Made c) = None

abbrev pub looks_up_user : Ask → Bool
looks_up_user (User name) = true
looks_up_user _ = false

-- whether a note is the look-up of a user, which asks about the password file
abbrev pub is_about_users : Note → Bool
is_about_users (Asked q a) = looks_up_user q
is_about_users (Made c) = false

-- the path about which a note asks, or None if it asks about none
abbrev pub asked_path : Note → Option PathValue
asked_path note = if is_about_users note then Some passwd else named_path note

-- whether a note found nothing
abbrev pub is_nothing : Answer → Bool
is_nothing (answers.Kind missing.Missing) = true
is_nothing (answers.Bytes Missing) = true
is_nothing (answers.Names None) = true
is_nothing _ = false

abbrev pub found_nothing : Note → Bool
found_nothing (Asked q a) = is_nothing a
found_nothing (Made c) = false

-- The path that a note shows to have been read. Of an observed line notes say at which paths it may
-- have looked, so that counts only where something was.
abbrev pub read_path : Bool → Note → Option PathValue
read_path is_observed note = if is_observed && found_nothing note then None else asked_path note

-- ---- changes

abbrev pub write_of : WriteKind → PathValue → PathWrite
write_of kind path = record { kind = kind; path = path }

-- how a node that is put is written
abbrev pub put_kind : Node → WriteKind
put_kind Missing = kinds.Remove
put_kind Dir = kinds.Put
put_kind (File bytes) = kinds.Put

-- the write that a change is, or None if it changes no path
abbrev pub write_by : Change → Option PathWrite
write_by (Put p node) = Some (write_of (put_kind node) p)
write_by (Grow p bytes) = Some (write_of kinds.Append p)
write_by (SetVar sid name text) = None
write_by (SetCwd sid p) = None
write_by (SetStatus sid status) = None

abbrev pub write_in : Note → Option PathWrite
write_in (Asked q a) = None
write_in (Made c) = write_by c

-- the path to which a note writes, or None if it writes to none
abbrev pub path_written : Note → Option PathValue
path_written note = option_map (λ w. w.path) (write_in note)

abbrev pub kind_eq : WriteKind → WriteKind → Bool
kind_eq kinds.Put kinds.Put = true
kind_eq kinds.Append kinds.Append = true
kind_eq kinds.Remove kinds.Remove = true
kind_eq _ _ = false

abbrev pub write_eq : PathWrite → PathWrite → Bool
write_eq x y = kind_eq x.kind y.kind && path_eq x.path y.path
