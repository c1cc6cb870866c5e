use Rattle.std.proofs.Common.{◌≡◌, ◌++◌, string_bytes, encode_utf8_all, length}
use Rattle.casebook_text.specs.SafeText.{safe_text}
use Rattle.casebook_text.proofs.safe_text.safe.Given as goal

abbrev pub invariant-loop-rest : goal.invariant-loop-rest
invariant-loop-rest l =
    string_bytes l.text ++ encode_utf8_all (safe_text l.breaks l.rest) ≡ encode_utf8_all (safe_text l.breaks l.bytes)

abbrev pub decreases-loop-rest : goal.decreases-loop-rest
decreases-loop-rest l = length l.rest
