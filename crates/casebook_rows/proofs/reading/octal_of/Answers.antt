use Rattle.std.proofs.Common.{◌∙◌, sym, ap, option_and_then, ◌^◌}
use Rattle.casebook_rows.specs.Reading.{below}
use Rattle.casebook_rows.proofs.Numbers.{narrower, narrowed}
use Rattle.casebook_rows.proofs.reading.octal_of.Goals as goal

pub returns-in_err-unsigned_of : goal.returns-in_err-unsigned_of
returns-in_err-unsigned_of c =
    let none = sym c.unsigned_of.ensures ∙ c.in_err-unsigned_of.was in
    c.from_residual.ensures
    ∙ sym (narrower 8 c.args.field.now ∙ ap (option_and_then (below (2 ^ 32))) none)

pub returns : goal.returns
returns c =
    let one = sym c.unsigned_of.ensures ∙ c.in_ok-unsigned_of.was in
    c.ok.ensures.value
    ∙ narrowed c.in_ok-unsigned_of.field-0 c.try_from.result c.try_from.ensures
    ∙ sym (narrower 8 c.args.field.now ∙ ap (option_and_then (below (2 ^ 32))) one)
