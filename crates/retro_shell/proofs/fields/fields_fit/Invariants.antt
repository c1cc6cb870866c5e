-- What is left of the limit is for the fields that are left.
use Rattle.std.proofs.Common.{◌≡◌, map, drop, nat_le}
use Rattle.std.specs.Prelude.{string_bytes}
use Rattle.retro_shell.specs.Fields.{fields_fit, size_of}
use Rattle.retro_shell.proofs.fields.fields_fit.Given as goal

abbrev pub invariant-loop-field : goal.invariant-loop-field
invariant-loop-field l =
    nat_le (size_of (map string_bytes (drop l.field-index l.fields))) l.room
    ≡ fields_fit (map string_bytes l.fields)
