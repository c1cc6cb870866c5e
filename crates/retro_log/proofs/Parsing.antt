-- The JSON value that bytes are.
use Rattle.std.proofs.Common.{◌≡◌, ◌∙◌, ℕ, List, Bool, true, false, cond, Option, Some, None, refl, sym, ap}
use Rattle.std.specs.Prelude.{IsUtf8}
use Rattle.std.specs.Str.{is_utf8}
use Rattle.std.proofs.lemmas.Str.{is_utf8-from_IsUtf8, IsUtf8-from_is_utf8}
use Rattle.serde_json.specs.Data.{Data}
use Rattle.serde_json.specs.Read.{read}
use Rattle.retro_log.specs.Document.{json_of}

pub is_json : (text bytes : List ℕ) (d : Data) → text ≡ bytes → IsUtf8 bytes → read text ≡ Some d
    → json_of bytes ≡ Some d
is_json text bytes d same utf8 e = rw (is_utf8-from_IsUtf8 bytes utf8) (ap read (sym same) ∙ e)

at_test : (b : Bool) (o : Option Data) → (b ≡ true → o ≡ None) → cond b o None ≡ None
at_test true o h = h refl
at_test false o h = refl

pub no_json : (bytes : List ℕ) → (IsUtf8 bytes → read bytes ≡ None) → json_of bytes ≡ None
no_json bytes h = at_test (is_utf8 bytes) (read bytes) (λ e. h (IsUtf8-from_is_utf8 bytes e))
