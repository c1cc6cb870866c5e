use Rattle.std.proofs.Common.{string_bytes, ap, ◌∙◌}
use Rattle.std.specs.List.{list_all}
use Rattle.casebook_text.specs.SafeText.{is_printable}
use Rattle.casebook_text.proofs.SafeLines.{more_safe, printable_safe, decimal_printable}
use Rattle.casebook_text.proofs.safe_line.SafeLine.push_number.Goals as goal

pub invariant_of-self : goal.invariant_of-self
invariant_of-self c =
    more_safe c.push_str.result (string_bytes c.self.inside.text) c.as_str.result.now (string_bytes c.push_str.new.self)
    c.self.invariant
    (printable_safe c.as_str.result.now c.as_str.utf8
    (ap (list_all is_printable) (c.as_str.ensures.value ∙ c.in_ok-digits.ensures.ok)
    ∙ decimal_printable c.args.number c.ranges.number.fits))
    c.push_str.ensures.bytes
