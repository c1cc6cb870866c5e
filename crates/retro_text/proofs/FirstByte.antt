-- What a search for a byte says of the text on both sides of it.
use Rattle.std.proofs.Common.{◌≡◌, ℕ, ◌+◌, ◌<◌, ◌==◌, List, ◌∷◌, ◌++◌, length, get_or, take, drop, Some, None, arith}
use Rattle.std.proofs.Common.{false}
use Rattle.std.proofs.Common.{[], sym, ap, ◌∙◌, refl}
use Rattle.std.specs.List.{All, slice_split}
use Rattle.std.proofs.lemmas.Bool.{false_from_ne_true, eqb-true, eq-eqb}
use Rattle.std.proofs.lemmas.List.{get_or-take, get_or_default, length-take, take-append-drop, drop_more}
use Rattle.std.proofs.lemmas.List.Splits.{slice_split_none, slice_split_at}
use Rattle.memchr.specs.Find.{IsFirstByte, is_byte}

-- a text is what precedes the byte, the byte, and what follows it
pub around : (b : ℕ) (text : List ℕ) (k : ℕ) → IsFirstByte (is_byte b) text (Some k)
    → text ≡ take k text ++ b ∷ drop (k + 1) text
around b text k h =
    let is : get_or text k 0 ≡ b = eqb-true _ _ h.1 in
    let inside : k < length text = h.0.high in
    sym (take-append-drop k text) ∙ ap (λ rest. take k text ++ rest) (drop_more text k 0 inside)
    ∙ ap (λ x. take k text ++ x ∷ drop (k + 1) text) is

-- the byte doesn't precede its first place
pub none_before : (b : ℕ) (text : List ℕ) (k : ℕ) → IsFirstByte (is_byte b) text (Some k)
    → All (λ x. (x == b) ≡ false) (take k text)
none_before b text k h = λ j d inside.
    let below : j < k = omega (arith, simp length-take at inside) in
    let within : j < length text = omega (arith, h.0.high) in
    ap (λ x. x == b) (get_or-take k text j d below ∙ get_or_default text j d 0 within)
    ∙ false_from_ne_true _ (λ passes. h.0.before j (omega arith) below passes)

-- the byte isn't in a text where it isn't found
pub nowhere : (b : ℕ) (text : List ℕ) → IsFirstByte (is_byte b) text None → All (λ x. (x == b) ≡ false) text
nowhere b text h = λ j d inside.
    ap (λ x. x == b) (get_or_default text j d 0 inside)
    ∙ false_from_ne_true _ (λ passes. h j (omega arith) inside passes)

-- the pieces of a text, by the first separator
pub pieces_more : (b : ℕ) (text : List ℕ) (k : ℕ) → IsFirstByte (is_byte b) text (Some k)
    → slice_split (λ x. x == b) text ≡ take k text ∷ slice_split (λ x. x == b) (drop (k + 1) text)
pieces_more b text k h =
    ap (slice_split (λ x. x == b)) (around b text k h)
    ∙ slice_split_at (λ x. x == b) (take k text) b (drop (k + 1) text) (none_before b text k h) (eq-eqb b b refl)

pub pieces_last : (b : ℕ) (text : List ℕ) → IsFirstByte (is_byte b) text None
    → slice_split (λ x. x == b) text ≡ text ∷ []
pieces_last b text h = slice_split_none (λ x. x == b) text (nowhere b text h)
