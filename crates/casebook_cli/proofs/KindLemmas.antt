-- Whether bytes are a JSON value with the key that scripts have.
use Rattle.std.proofs.Common.{◌≡◌, ℕ, List, Bool, false, Option, Some, None, ap, codes, is_some, option_map, refl, ◌∙◌}
use Rattle.std.proofs.Common.{⊎_elim}
use Rattle.std.proofs.lemmas.Bool.{cases_Bool}
use Rattle.std.proofs.lemmas.Str.{IsUtf8-from_is_utf8, is_utf8-from_IsUtf8}
use Rattle.std.specs.Str.{IsUtf8, is_utf8}
use Rattle.serde_json.specs.Data.{Data}
use Rattle.serde_json.specs.Find.{get}
use Rattle.serde_json.specs.Read.{read}
use Rattle.casebook_cli.specs.Checks.{is_for_script}

pub no_text : (bytes : List ℕ) → ¬ (IsUtf8 bytes) → false ≡ is_for_script bytes
no_text bytes bad =
    ⊎_elim (λ yes. absurd (bad (IsUtf8-from_is_utf8 bytes yes))) (λ no. rw no refl) (cases_Bool (is_utf8 bytes))

pub of_value : (bytes text : List ℕ) (d : Data) (result : Bool) → text ≡ bytes → IsUtf8 bytes → read text ≡ Some d
    → result ≡ is_some (get (codes "script") d) → result ≡ is_for_script bytes
of_value bytes text d result same utf8 e is = is ∙ rw (is_utf8-from_IsUtf8 bytes utf8, ← same, e) refl

pub found : {A B : Type 0} (f : A → B) (o : Option A) (p : Option B) (result : Bool) → result ≡ is_some o
    → option_map f o ≡ p → result ≡ is_some p
found f None p result is e = is ∙ ap is_some e
found f (Some x) p result is e = is ∙ ap is_some e
