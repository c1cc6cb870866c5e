-- The texts of fields are percent-encoded by the set of the crate.
use Rattle.std.proofs.Common.{◌≡◌, ◌<◌, ℕ, true, false, Bool, List, [], ◌∷◌, All, not, refl}
use Rattle.std.proofs.Common.{if◌then◌else◌}
use Rattle.std.proofs.lemmas.Bool.{agree_below, agree_below_at}
use Rattle.std.proofs.lemmas.List.Elements.{All-head, All-tail}
use Rattle.percent_encoding.specs.AsciiSet.{should_percent_encode}
use Rattle.percent_encoding.specs.Percent.{encode_byte, percent_encode, percent_encode_byte}
use Rattle.percent_encoding.proofs.PercentLemmas.{IsByte}
use Rattle.casebook_rows.specs.declared.writing.TheConstants.{ESCAPED}
use Rattle.casebook_rows.specs.Written.{is_kept, escape, escaped}

-- the set has just the bytes that aren't kept
table : agree_below (should_percent_encode ESCAPED) (λ b. not (is_kept b)) 256 ≡ true
unfolding should_percent_encode
table = refl

byte : (b : ℕ) → b < 256 → encode_byte ESCAPED b ≡ escape b
byte b small =
    rw (agree_below_at (should_percent_encode ESCAPED) (λ c. not (is_kept c)) 256 b table small)
    (by (is_kept b) (percent_encode_byte b) (b ∷ []))
  where
    by : (kept : Bool) (other same : List ℕ)
        → (if not kept then other else same) ≡ (if kept then same else other)
    by true other same = refl
    by false other same = refl

-- bytes as a text are percent-encoded
pub encoded : (text : List ℕ) → All IsByte text → percent_encode ESCAPED text ≡ escaped text
unfolding percent_encode
encoded [] small = refl
encoded (b ∷ text) small =
    rw (byte b (All-head IsByte b text small), encoded text (All-tail IsByte b text small)) refl
