use Rattle.std.proofs.Common.{◌≡◌, ◌∙◌, ◌≢◌, ◌≤◌, length, get_or, option_and_then, sym, ap, arith}
use Rattle.std.proofs.lemmas.Bool.Decides.{nat_tests}
use Rattle.casebook_rows.specs.Reading.{negative, positive}
use Rattle.casebook_rows.proofs.Signed.{signed_minus, signed_plain, made_positive, made_negative}
use Rattle.casebook_rows.proofs.reading.signed_of.Goals as goal
use Rattle.casebook_rows.proofs.reading.signed_of.Goals.{in_default-via-then-field-lt1}
use Rattle.casebook_rows.proofs.reading.signed_of.Goals.{in_default-via-else-field-lt1+in_default-1}

pub returns-in_err-number_of-in-45 : goal.returns-in_err-number_of-in-45
returns-in_err-number_of-in-45 c =
    let some : 1 ≤ length c.args.field.now = omega arith in
    let first : get_or c.args.field.now 0 0 ≡ 45 = omega arith in
    let none = sym c.number_of.ensures ∙ c.in_err-number_of-in-45.was in
    c.from_residual.ensures
    ∙ sym (signed_minus c.args.field.now some first ∙ ap (option_and_then negative) none)

pub returns-in_err-number_of-in_default : goal.returns-in_err-number_of-in_default
returns-in_err-number_of-in_default c =
    let plain : 1 ≤ length c.args.field.now → get_or c.args.field.now 0 0 ≢ 45 =
    grind (arith, nat_tests) in
    let none = sym c.number_of-in_default.ensures ∙ c.in_err-number_of-in_default.was in
    c.from_residual-in_err-number_of-in_default.ensures
    ∙ sym (signed_plain c.args.field.now plain ∙ ap (option_and_then positive) none)

pub returns-in_ok-number_of-in-45 : goal.returns-in_ok-number_of-in-45
returns-in_ok-number_of-in-45 c =
    let some : 1 ≤ length c.args.field.now = omega arith in
    let first : get_or c.args.field.now 0 0 ≡ 45 = omega arith in
    let one = sym c.number_of.ensures ∙ c.in_ok-number_of-in-45.was in
    made_negative c.in_ok-number_of-in-45.field-0 c.checked_sub_unsigned.result
    c.checked_sub_unsigned.ensures
    ∙ sym (signed_minus c.args.field.now some first ∙ ap (option_and_then negative) one)

pub returns-in_ok-number_of-in_default : goal.returns-in_ok-number_of-in_default
returns-in_ok-number_of-in_default c =
    let plain : 1 ≤ length c.args.field.now → get_or c.args.field.now 0 0 ≢ 45 =
    grind (arith, nat_tests) in
    let one = sym c.number_of-in_default.ensures ∙ c.in_ok-number_of-in_default.was in
    c.ok.ensures.value
    ∙ made_positive c.in_ok-number_of-in_default.field-0 c.try_from.result c.try_from.ensures
    ∙ sym (signed_plain c.args.field.now plain ∙ ap (option_and_then positive) one)
