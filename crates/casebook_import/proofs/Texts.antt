-- Texts that are understood.
use Rattle.std.proofs.Common.{◌≡◌, ◌∙◌, Bool, true, false, List, ℕ, Some, None, refl}
use Rattle.std.specs.Prelude.{◌&&◌, not, if◌then◌else◌}
use Rattle.std.specs.Str.{IsUtf8, is_utf8}
use Rattle.std.proofs.lemmas.Str.{is_utf8-from_IsUtf8}
use Rattle.retro_tree.specs.declared.state.State.{State}
use Rattle.casebook_typed.specs.Looks.{SeenValue}
use Rattle.casebook_import.specs.Understood.{is_understood, text_if, touch_opaque, touched}
use Rattle.casebook_import.proofs.Tests.{not_utf8}

chosen : (utf8 known touches : Bool) (text : List ℕ) (u k t : Bool) → utf8 ≡ u → known ≡ k
    → touches ≡ t → (if utf8 && (known && not touches) then Some text else None)
    ≡ (if u && (k && not t) then Some text else None)
chosen utf8 known touches text u k t a b c i = if a i && (b i && not (c i)) then Some text else None

module _ (s : State) (sid : ℕ) (seen : SeenValue) (text : List ℕ) where
  by : (u k t : Bool) → is_utf8 text ≡ u → is_understood s sid text ≡ k
      → touch_opaque s (touched seen) ≡ t
      → text_if s sid seen text ≡ (if u && (k && not t) then Some text else None)
  by u k t a b c = chosen _ _ _ text u k t a b c

  pub odd_text : ¬ (IsUtf8 text) → text_if s sid seen text ≡ None
  odd_text odd = by false _ _ (not_utf8 text odd) refl refl

  pub unknown_text : IsUtf8 text → is_understood s sid text ≡ false → text_if s sid seen text ≡ None
  unknown_text utf8 e = by true false _ (is_utf8-from_IsUtf8 text utf8) e refl

  touching : (k : Bool) → (if true && (k && not true) then Some text else None) ≡ None
  touching true = refl
  touching false = refl

  pub opaque_text : IsUtf8 text → touch_opaque s (touched seen) ≡ true
      → text_if s sid seen text ≡ None
  opaque_text utf8 e =
      by true (is_understood s sid text) true (is_utf8-from_IsUtf8 text utf8) refl e
      ∙ touching (is_understood s sid text)

  pub known_text : IsUtf8 text → is_understood s sid text ≡ true
      → touch_opaque s (touched seen) ≡ false → text_if s sid seen text ≡ Some text
  known_text utf8 e f = by true true false (is_utf8-from_IsUtf8 text utf8) e f

pub ruleset texts = (odd_text, unknown_text, opaque_text, known_text)
