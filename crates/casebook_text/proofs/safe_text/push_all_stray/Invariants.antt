use Rattle.std.proofs.Common.{◌≡◌, ◌++◌, drop, string_bytes, encode_utf8_all, flat_map}
use Rattle.casebook_text.specs.SafeText.{in_brackets, hex_digits}
use Rattle.casebook_text.proofs.safe_text.push_all_stray.Given as goal

abbrev pub invariant-loop-byte : goal.invariant-loop-byte
invariant-loop-byte l =
    string_bytes l.text ++ encode_utf8_all (flat_map (λ byte. in_brackets (hex_digits 2 byte)) (drop l.byte-index l.bytes))
    ≡ string_bytes l.fn.text ++ encode_utf8_all (flat_map (λ byte. in_brackets (hex_digits 2 byte)) l.bytes)
