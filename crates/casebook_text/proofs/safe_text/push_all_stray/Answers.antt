use Rattle.casebook_text.specs.SafeText.{in_brackets, hex_digits}
use Rattle.casebook_text.proofs.Writing.{item_written}
use Rattle.casebook_text.proofs.safe_text.push_all_stray.Goals as goal

pub loop-byte-preserved : goal.loop-byte-preserved
loop-byte-preserved c =
    item_written (λ byte. in_brackets (hex_digits 2 byte)) _ _ _ c.args.bytes.now c.loop-byte.byte-index
    c.loop-byte-test.true c.loop-byte.invariant c.in_ok-push_stray.ensures
