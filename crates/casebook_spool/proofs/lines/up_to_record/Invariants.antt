use Rattle.std.proofs.Common.{◌≡◌, ◌+◌, drop}
use Rattle.std.specs.Prelude.{nat_lt, if◌then◌else◌}
use Rattle.casebook_spool.specs.Lines.{up_to_record}
use Rattle.casebook_spool.proofs.lines.up_to_record.Given as goal

abbrev pub invariant-loop-index : goal.invariant-loop-index
invariant-loop-index l =
    (if nat_lt 0 (up_to_record (drop l.index l.items)) then l.index + up_to_record (drop l.index l.items)
    else l.kept) ≡ up_to_record l.items
