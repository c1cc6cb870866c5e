use Rattle.std.proofs.Common.{string_bytes}
use Rattle.casebook_text.proofs.Writing.{byte_written}
use Rattle.casebook_text.proofs.safe_text.push_stray.Goals as goal

pub returns : goal.returns
returns c =
    byte_written c.push-2.result (string_bytes c.args.text.now) (string_bytes c.push.new.self)
    (string_bytes c.push_digits.new.text) (string_bytes c.push-2.new.self) c.args.byte c.from.result
    c.in_ok-push.ensures.bytes c.from.ensures c.in_ok-push_digits.ensures c.push-2.ensures.bytes
