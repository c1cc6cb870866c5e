-- Bytes as texts.
use Rattle.std.proofs.Common.{◌≡◌, ◌⊎◌, Bool, true, false, List, ℕ, ap, inl, inr, refl}
use Rattle.std.specs.Prelude.{if◌then◌else◌}
use Rattle.std.specs.Str.{IsUtf8, is_utf8}
use Rattle.std.proofs.lemmas.Str.{IsUtf8-from_is_utf8, is_utf8-from_IsUtf8}
use Rattle.casebook_text.specs.SafeLine.{safe_bytes}
use Rattle.casebook_account.specs.Machine.{printed}

decided : (b : Bool) → (b ≡ true) ⊎ (b ≡ false)
decided true = inl refl
decided false = inr refl

not_utf8 : (text : List ℕ) → ¬ (IsUtf8 text) → is_utf8 text ≡ false
not_utf8 text h = elim (decided (is_utf8 text)) [
  | inl e ↦ absurd (h (IsUtf8-from_is_utf8 text e))
  | inr e ↦ e
]

pub plain_text : (bytes : List ℕ) → IsUtf8 bytes → printed bytes ≡ bytes
plain_text bytes h = ap (λ b. if b then bytes else safe_bytes bytes) (is_utf8-from_IsUtf8 bytes h)

pub odd_text : (bytes : List ℕ) → ¬ (IsUtf8 bytes) → printed bytes ≡ safe_bytes bytes
odd_text bytes h = ap (λ b. if b then bytes else safe_bytes bytes) (not_utf8 bytes h)

pub ruleset printing = (plain_text, odd_text)
