-- Which document the bytes are, by the value that their text is.
use Rattle.std.proofs.Common.{◌≡◌, ℕ, List, Bool, true, false, cond, Option, Some, None, Result, Err, refl, sym, ap, ◌∙◌}
use Rattle.std.specs.Prelude.{IsUtf8, ok_or}
use Rattle.std.specs.Str.{is_utf8}
use Rattle.std.proofs.lemmas.Str.{is_utf8-from_IsUtf8, IsUtf8-from_is_utf8}
use Rattle.serde_json.specs.Data.{Data, Members, object}
use Rattle.serde_json.specs.Find.{as_object}
use Rattle.serde_json.specs.Read.{read}
use Rattle.retro_keep.specs.declared.noted.Noted.{Noted}
use Rattle.retro_keep.specs.declared.script.ScriptLine.{ScriptLine}
use Rattle.retro_json.specs.declared.fault.Part.TheVariants.{Document}
use Rattle.retro_json.specs.declared.fault.Refusal.{Refusal}
use Rattle.retro_json.specs.declared.fault.Refusal.TheVariants.{NotJson, WrongShape}
use Rattle.retro_json.specs.Steps.{◌>>=◌}
use Rattle.retro_log.specs.Document.{json_of, log_from, log_in, log_of, script_in, script_of}
use Rattle.retro_log.specs.inner.Parts.{Parts, log_of_parts, log_parts, script_of_parts, script_parts}
use Rattle.retro_log.proofs.OfParts.{log_of_object, script_of_object}

module _ {X : Type 0} (f : Data → Result X Refusal) (bytes : List ℕ) where
  value_read : (text : List ℕ) (d : Data) → text ≡ bytes → IsUtf8 bytes → read text ≡ Some d
      → (ok_or (json_of bytes) NotJson >>= f) ≡ f d
  value_read text d same utf8 e = rw (is_utf8-from_IsUtf8 bytes utf8, ap read (sym same) ∙ e) refl

  at_test : (b : Bool) (o : Option Data) → (b ≡ true → o ≡ None) → (ok_or (cond b o None) NotJson >>= f) ≡ Err NotJson
  at_test true o h = rw (h refl) refl
  at_test false o h = refl

  nothing_read : (IsUtf8 bytes → read bytes ≡ None) → (ok_or (json_of bytes) NotJson >>= f) ≡ Err NotJson
  nothing_read h = at_test (is_utf8 bytes) (read bytes) (λ e. h (IsUtf8-from_is_utf8 bytes e))

-- ---- logs

pub log_not_read : (bytes : List ℕ) → (IsUtf8 bytes → read bytes ≡ None) → log_in bytes ≡ Err NotJson
unfolding log_in
log_not_read = nothing_read log_of

pub log_read : (text bytes : List ℕ) (ms : Members) (p : Parts (ℕ × Noted)) → text ≡ bytes → IsUtf8 bytes
    → read text ≡ Some (object ms) → p ≡ log_parts ms → log_in bytes ≡ log_of_parts p
unfolding log_in
log_read text bytes ms p same utf8 e is =
    value_read log_of bytes text (object ms) same utf8 e ∙ log_of_object ms ∙ ap log_of_parts (sym is)

no_log_object : (d : Data) → as_object d ≡ None → log_of d ≡ Err (WrongShape Document)
unfolding log_of log_from
no_log_object d e = rw e refl

pub log_of_other : (text bytes : List ℕ) (d : Data) → text ≡ bytes → IsUtf8 bytes → read text ≡ Some d
    → as_object d ≡ None → log_in bytes ≡ Err (WrongShape Document)
unfolding log_in
log_of_other text bytes d same utf8 e none = value_read log_of bytes text d same utf8 e ∙ no_log_object d none

-- ---- scripts

pub script_not_read : (bytes : List ℕ) → (IsUtf8 bytes → read bytes ≡ None) → script_in bytes ≡ Err NotJson
unfolding script_in
script_not_read = nothing_read script_of

pub script_read : (text bytes : List ℕ) (ms : Members) (p : Parts ScriptLine) → text ≡ bytes → IsUtf8 bytes
    → read text ≡ Some (object ms) → p ≡ script_parts ms → script_in bytes ≡ script_of_parts p
unfolding script_in
script_read text bytes ms p same utf8 e is =
    value_read script_of bytes text (object ms) same utf8 e ∙ script_of_object ms ∙ ap script_of_parts (sym is)

no_script_object : (d : Data) → as_object d ≡ None → script_of d ≡ Err (WrongShape Document)
unfolding script_of
no_script_object d e = rw e refl

pub script_of_other : (text bytes : List ℕ) (d : Data) → text ≡ bytes → IsUtf8 bytes → read text ≡ Some d
    → as_object d ≡ None → script_in bytes ≡ Err (WrongShape Document)
unfolding script_in
script_of_other text bytes d same utf8 e none =
    value_read script_of bytes text d same utf8 e ∙ no_script_object d none
