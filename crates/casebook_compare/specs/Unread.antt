-- Recorded paths that a snapshot skipped.
use Rattle.std.specs.Prelude.{Bool, true, false, not, Option, Some, None, if◌then◌else◌}
use Rattle.std.specs.FinMap as finmap
use Rattle.retro_tree.specs.Tree.{Tree}
use Rattle.retro_path.specs.Path.{PathValue}
use Rattle.retro_tree.specs.declared.entry.Entry.{Entry}
use Rattle.retro_tree.specs.declared.entry.Entry.TheVariants.{Dir, File}
use Rattle.casebook_opaque.specs.Opaque.{is_opaque}
use Rattle.casebook_snapshot.specs.Children.{child_path}
use Rattle.casebook_snapshot.specs.declared.child.ChildPath.{ChildPath}
use Rattle.casebook_snapshot.specs.declared.child.ChildPath.TheVariants.{Is, Never}
use Rattle.casebook_snapshot.specs.declared.reason.Reason.{Reason}
use Rattle.casebook_snapshot.specs.declared.reason.Reason.TheVariants.{Asked}
use Rattle.casebook_snapshot.specs.declared.snapshot.SkippedPath.{SkippedPath}
use Rattle.casebook_compare.specs.declared.unread.UnreadPath.{UnreadPath}

-- whether something is recorded that a snapshot should have: neither nothing, nor what stands for
-- a link, a device or a file that isn't kept
abbrev pub is_kept : Option Entry → Bool
is_kept None = false
is_kept (Some Dir) = true
is_kept (Some (File bytes)) = not (is_opaque bytes)

-- a path with the reason, if something is recorded there that a snapshot should have
abbrev pub unread_path : Tree → PathValue → Reason → Option UnreadPath
unread_path recorded p reason =
    if is_kept (finmap.get recorded p) then Some (record { path = p; reason = reason }) else None

-- a name that no path has isn't recorded, and what the caller asks to skip isn't missed
abbrev pub unread_by : Tree → ChildPath → Reason → Option UnreadPath
unread_by recorded (Never r) reason = None
unread_by recorded (Is p) Asked = None
unread_by recorded (Is p) reason = unread_path recorded p reason

-- a path that a snapshot skipped, if it is recorded and nobody asked to skip it
abbrev pub unread_of : Tree → SkippedPath → Option UnreadPath
unread_of recorded s = unread_by recorded (child_path s.child) s.reason
