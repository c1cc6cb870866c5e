use Rattle.std.proofs.Common.{rules, string_bytes}
use Rattle.std.specs.Char.{encode_utf8}
use Rattle.casebook_text.proofs.SafeLines.{harmless_safe, more_safe}
use Rattle.casebook_text.proofs.safe_line.SafeLine.push_harmless.Goals as goal

pub invariant_of-self : goal.invariant_of-self
invariant_of-self c =
    more_safe c.push.result (string_bytes c.self.inside.text) (encode_utf8 c.args.c) (string_bytes c.push.new.self)
    c.self.invariant (harmless_safe c.args.c (search rules) c.requires) c.push.ensures.bytes
