use Rattle.casebook_text.proofs.Writing.{no_digits, digits_written}
use Rattle.casebook_text.proofs.safe_text.+push_digits.Goals as goal

pub returns-then-count-eq0 : goal.returns-then-count-eq0
returns-then-count-eq0 t c = no_digits _ _ _ c.if-count-eq0.true

pub returns : goal.returns
returns t c =
    digits_written c.push.result _ _ _ c.args.count c.args.number c.hex_digit.result c.if-count-eq0.false
    c.in_ok-push_digits.ensures c.hex_digit.ensures c.push.ensures.bytes
