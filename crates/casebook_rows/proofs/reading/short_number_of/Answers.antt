use Rattle.std.proofs.Common.{◌∙◌, sym, ap, option_and_then, ◌^◌}
use Rattle.casebook_rows.specs.Reading.{below}
use Rattle.casebook_rows.proofs.Numbers.{narrower, narrowed}
use Rattle.casebook_rows.proofs.reading.short_number_of.Goals as goal

pub returns-in_err-number_of : goal.returns-in_err-number_of
returns-in_err-number_of c =
    let none = sym c.number_of.ensures ∙ c.in_err-number_of.was in
    c.from_residual.ensures
    ∙ sym (narrower 10 c.args.field.now ∙ ap (option_and_then (below (2 ^ 32))) none)

pub returns : goal.returns
returns c =
    let one = sym c.number_of.ensures ∙ c.in_ok-number_of.was in
    c.ok.ensures.value
    ∙ narrowed c.in_ok-number_of.field-0 c.try_from.result c.try_from.ensures
    ∙ sym (narrower 10 c.args.field.now ∙ ap (option_and_then (below (2 ^ 32))) one)
