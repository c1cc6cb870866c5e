use Rattle.std.proofs.Common.{◌≡◌, ◌<◌, ◌^◌}
use Rattle.std.proofs.Math.ListN.{drop}
use Rattle.casebook_record.specs.Numbers.{digits_value}
use Rattle.casebook_record.proofs.numbers.digits_value.Given as goal

abbrev pub invariant-loop-byte : goal.invariant-loop-byte
invariant-loop-byte l = record {
  small : l.value < 10 ^ l.byte-index;
  value : digits_value 10 l.value (drop l.byte-index l.digits) ≡ digits_value 10 0 l.digits;
}
