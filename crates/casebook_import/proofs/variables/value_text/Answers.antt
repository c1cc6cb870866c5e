use Rattle.std.proofs.Common.{◌∙◌, sym}
use Rattle.casebook_import.proofs.Values.{long_value, odd_value}
use Rattle.casebook_import.proofs.variables.value_text.Goals as goal

pub returns-then-value-gt-VALUE_LIMIT : goal.returns-then-value-gt-VALUE_LIMIT
returns-then-value-gt-VALUE_LIMIT c =
    c.of.ensures ∙ c.in_ok-opaque_bytes.ensures
    ∙ sym (long_value c.args.value.now c.if-value-gt-VALUE_LIMIT.true)

pub returns-in_ok-opaque_bytes-in-Err : goal.returns-in_ok-opaque_bytes-in-Err
returns-in_ok-opaque_bytes-in-Err c =
    c.of-in-Err.ensures ∙ c.in_ok-opaque_bytes-in-Err.ensures
    ∙ sym (odd_value c.args.value.now c.in-Err.ensures.cases.0)
