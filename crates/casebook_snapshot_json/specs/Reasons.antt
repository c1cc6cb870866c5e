-- The names that documents have for the reasons to skip a path.
use Rattle.std.specs.Prelude.{ℕ, List, codes}
use Rattle.casebook_snapshot.specs.declared.reason.Reason.{Reason}
use Rattle.casebook_snapshot.specs.declared.reason.Reason.TheVariants as reasons

abbrev pub reason_text : Reason → List ℕ
reason_text reasons.Link = codes "link"
reason_text reasons.Device = codes "device"
reason_text reasons.Pipe = codes "pipe"
reason_text reasons.Socket = codes "socket"
reason_text reasons.OtherFileSystem = codes "other file system"
reason_text reasons.TooLarge = codes "too large"
reason_text reasons.OddName = codes "odd name"
reason_text reasons.NameTooLong = codes "name too long"
reason_text reasons.Unreadable = codes "unreadable"
reason_text reasons.Changing = codes "changing"
reason_text reasons.NullDevice = codes "null device"
reason_text reasons.Asked = codes "asked"
