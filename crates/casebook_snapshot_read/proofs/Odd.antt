-- Names that aren't UTF-8.
use Rattle.std.proofs.Common.{◌≡◌, ℕ, false, List, not, ◌&&◌, ap}
use Rattle.std.specs.Str.{IsUtf8}
use Rattle.std.proofs.lemmas.Str.{is_utf8-from_IsUtf8}
use Rattle.retro_json.specs.PathText.{is_written_name}
use Rattle.casebook_snapshot.proofs.Names.{not_utf8}
use Rattle.casebook_snapshot_read.specs.Rows.{is_odd_name}

pub text_name : (n : List ℕ) → IsUtf8 n → is_odd_name n ≡ false
text_name n text = ap (λ b. not b && is_written_name n) (is_utf8-from_IsUtf8 n text)

pub other_name : (n : List ℕ) → ¬ (IsUtf8 n) → is_odd_name n ≡ is_written_name n
other_name n odd = ap (λ b. not b && is_written_name n) (not_utf8 n odd)

pub ruleset odd_names = (text_name, other_name)
