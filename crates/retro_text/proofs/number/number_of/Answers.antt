use Rattle.std.proofs.Common.{◌≡◌, true, sym, ap, ◌∙◌}
use Rattle.std.specs.Str.{all_ascii_digits}
use Rattle.retro_text.proofs.NumberLemmas.{parsed}
use Rattle.retro_text.proofs.number.number_of.Goals as goal

pub returns : goal.returns
returns c =
    let digits : all_ascii_digits c.args.text.now ≡ true = ap all_ascii_digits (sym c.as_bytes.ensures.value)
    ∙ sym c.are_digits.ensures ∙ c.if-not-are_digits.false in
    c.ok.ensures.value
    ∙ parsed c.args.text.now c.parse.result c.parse.ensures.value.0 digits c.if-text-gt-MOST_DIGITS.false
