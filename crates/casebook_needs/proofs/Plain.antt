-- Which texts name paths.
use Rattle.std.proofs.Common.{◌≡◌, ◌∙◌, ℕ, true, false, not, ap, inl, inr, List, None}
use Rattle.std.specs.Prelude.{if◌then◌else◌, ◌==◌, ◌&&◌}
use Rattle.std.specs.List.{list_any}
use Rattle.std.specs.Str.{is_utf8, IsUtf8}
use Rattle.std.proofs.lemmas.Str.{IsUtf8-from_is_utf8, is_utf8-from_IsUtf8}
use Rattle.retro_path.specs.Ascii.{nul}
use Rattle.retro_path.specs.Path.{PathValue}
use Rattle.retro_path.specs.Resolving.{resolve}
use Rattle.casebook_needs.specs.Named.{named_path, resolved_path}
use Rattle.casebook_needs.proofs.Small.{decided}

not_utf8 : (text : List ℕ) → ¬ (IsUtf8 text) → is_utf8 text ≡ false
not_utf8 text h = elim (decided (is_utf8 text)) [
  | inl e ↦ absurd (h (IsUtf8-from_is_utf8 text e))
  | inr e ↦ e
]

-- a text that isn't UTF-8 names no path
pub odd_text : (directory : PathValue) (text : List ℕ) → ¬ (IsUtf8 text)
    → named_path directory text ≡ None
unfolding named_path
odd_text directory text h =
    ap (λ b. if b && not (list_any (λ c. c == nul) text) then resolved_path
    (resolve directory text) else None)
    (not_utf8 text h)

-- nor does a text with a NUL
pub nul_text : (directory : PathValue) (text : List ℕ) → list_any (λ b. b == nul) text ≡ true
    → named_path directory text ≡ None
unfolding named_path
nul_text directory text e = elim (decided (is_utf8 text)) [
  | inl u ↦ ap (λ b. if b && not (list_any (λ c. c == nul) text) then resolved_path
      (resolve directory text) else None) u
      ∙ ap (λ b. if not b then resolved_path (resolve directory text) else None) e
  | inr u ↦ ap (λ b. if b && not (list_any (λ c. c == nul) text) then resolved_path
      (resolve directory text) else None) u
]

-- any other text names what it resolves to
pub plain_text : (directory : PathValue) (text : List ℕ) → list_any (λ b. b == nul) text ≡ false
    → IsUtf8 text → named_path directory text ≡ resolved_path (resolve directory text)
unfolding named_path
plain_text directory text e u =
    ap (λ b. if b && not (list_any (λ c. c == nul) text) then resolved_path
    (resolve directory text) else None)
    (is_utf8-from_IsUtf8 text u)
    ∙ ap (λ b. if not b then resolved_path (resolve directory text) else None) e

pub ruleset texts = (odd_text, nul_text, plain_text)
