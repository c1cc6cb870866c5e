use Rattle.std.proofs.Common.{string_bytes}
use Rattle.casebook_text.proofs.SafeLines.{more_safe, printable_safe}
use Rattle.casebook_text.proofs.safe_line.SafeLine.push_ascii.Goals as goal

pub invariant_of-self : goal.invariant_of-self
invariant_of-self c =
    more_safe c.push_str.result (string_bytes c.self.inside.text) c.args.text.now (string_bytes c.push_str.new.self)
    c.self.invariant (printable_safe c.args.text.now c.utf8.text c.requires) c.push_str.ensures.bytes
