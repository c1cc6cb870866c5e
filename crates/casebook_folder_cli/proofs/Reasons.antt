-- The names of reasons are printable.
use Rattle.std.proofs.Common.{IsTrue, refl}
use Rattle.std.specs.List.{list_all}
use Rattle.casebook_text.specs.SafeText.{is_printable}
use Rattle.casebook_snapshot.specs.declared.reason.Reason.{Reason}
use Rattle.casebook_snapshot.specs.declared.reason.Reason.TheVariants as reasons
use Rattle.casebook_snapshot_json.specs.Reasons.{reason_text}

pub printable : (r : Reason) → IsTrue (list_all is_printable (reason_text r))
printable reasons.Link = refl
printable reasons.Device = refl
printable reasons.Pipe = refl
printable reasons.Socket = refl
printable reasons.OtherFileSystem = refl
printable reasons.TooLarge = refl
printable reasons.OddName = refl
printable reasons.NameTooLong = refl
printable reasons.Unreadable = refl
printable reasons.Changing = refl
printable reasons.NullDevice = refl
printable reasons.Asked = refl
