-- Values as texts.
use Rattle.std.proofs.Common.{◌≡◌, ◌<◌, ◌≤◌, arith, false, le-leb, length, List, [], ◌∷◌, ℕ}
use Rattle.std.specs.Prelude.{codes, nat_le}
use Rattle.std.specs.Str.{IsUtf8, is_utf8}
use Rattle.std.proofs.lemmas.Bool.Decides.{nat_tests}
use Rattle.std.proofs.lemmas.Str.{is_utf8-from_IsUtf8}
use Rattle.hex.specs.Hex.{encode_lower}
use Rattle.sha2.specs.Sha256.{sha256}
use Rattle.retro_tree.specs.Session.{value_limit}
use Rattle.casebook_import.specs.Opaque.{opaque}
use Rattle.casebook_import.specs.Variables.{value_text}
use Rattle.casebook_import.proofs.Tests.{both, first_fails, not_utf8, second_fails}

pub plain_value : (value : List ℕ) → length value ≤ value_limit → IsUtf8 value
    → value_text value ≡ value
unfolding value_text
plain_value value short utf8 =
    both (nat_le (length value) value_limit) (is_utf8 value) value
    (opaque (codes "a value") (encode_lower (sha256 value) ∷ []))
    (le-leb (length value) value_limit short) (is_utf8-from_IsUtf8 value utf8)

pub odd_value : (value : List ℕ) → ¬ (IsUtf8 value)
    → value_text value ≡ opaque (codes "a value") (encode_lower (sha256 value) ∷ [])
unfolding value_text
odd_value value odd =
    second_fails (nat_le (length value) value_limit) (is_utf8 value) value
    (opaque (codes "a value") (encode_lower (sha256 value) ∷ [])) (not_utf8 value odd)

pub long_value : (value : List ℕ) → value_limit < length value
    → value_text value ≡ opaque (codes "a value") (encode_lower (sha256 value) ∷ [])
unfolding value_text
long_value value long =
    let e : nat_le (length value) value_limit ≡ false = grind (arith, nat_tests) in
    first_fails (nat_le (length value) value_limit) (is_utf8 value) value
    (opaque (codes "a value") (encode_lower (sha256 value) ∷ [])) e

pub ruleset values = (plain_value, odd_value, long_value)
