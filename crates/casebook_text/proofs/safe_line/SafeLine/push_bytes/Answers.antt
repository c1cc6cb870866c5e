use Rattle.std.proofs.Common.{string_bytes, sym, subst}
use Rattle.casebook_text.specs.SafeLine.{IsSafeLine}
use Rattle.casebook_text.proofs.SafeLines.{more_safe}
use Rattle.casebook_text.proofs.safe_line.SafeLine.push_bytes.Goals as goal

pub invariant_of-self : goal.invariant_of-self
invariant_of-self c =
    more_safe c.push_str.result (string_bytes c.self.inside.text) c.as_str.result.now (string_bytes c.push_str.new.self)
    c.self.invariant
    (record { utf8 = c.as_str.utf8; characters = rw c.as_str.ensures.value c.in_ok-shown.ensures.characters })
    c.push_str.ensures.bytes
