use Rattle.std.proofs.Common.{arith}
use Rattle.casebook_record.proofs.Digits.{decimal_fits}
use Rattle.casebook_record.proofs.numbers.digits_value.Goals as goal

pub overflow_mul-value : goal.overflow_mul-value
overflow_mul-value c =
    omega (arith, decimal_fits c.loop-byte.value c.loop-byte.byte-index (omega (arith, c.loop-byte-test.true, c.requires)) c.loop-byte.invariant.small)

pub overflow_add-value : goal.overflow_add-value
overflow_add-value c =
    omega (arith, c.in-Some.ensures.small, decimal_fits c.loop-byte.value c.loop-byte.byte-index (omega (arith, c.loop-byte-test.true, c.requires)) c.loop-byte.invariant.small)
