use Rattle.std.proofs.Common.{◌≡◌, ℤ, Float, Bool, drop, get_or, true, false, ◌==◌, Some, None, option_and_then, refl, sym, ap, ◌∙◌}
use Rattle.std.specs.Prelude.{if◌then◌else◌}
use Rattle.fast_float.specs.Text.{Parts, scan}
use Rattle.serde_json.specs.Data.{Num, negative, float}
use Rattle.serde_json.specs.Find.{as_u64}
use Rattle.serde_json.specs.Read.{number_of, number_from}
use Rattle.retro_value.proofs.number.unsigned_of.Goals as goal

not_unsigned : (a b : Bool) (z : ℤ) (x : Float)
    → option_and_then as_u64 (if a then Some (negative z) else if b then Some (float x) else None) ≡ None
not_unsigned true b z x = refl
not_unsigned false true z x = refl
not_unsigned false false z x = refl

pub returns-then-has_minus : goal.returns-then-has_minus
unfolding number_of
returns-then-has_minus c =
    let s = c.as_bytes-bytes.result.now in
    let signed : (get_or s 0 0 == 45) ≡ true = sym c.if-has_minus.ensures.value in
    let read : number_from true (scan (drop 1 s)) ≡ number_of s = rw signed in
    sym (not_unsigned _ _ _ _) ∙ ap (option_and_then as_u64) read
    ∙ ap (λ s. option_and_then as_u64 (number_of s)) c.as_bytes-bytes.ensures.value

pub returns-else-has_minus : goal.returns-else-has_minus
unfolding number_of
returns-else-has_minus c =
    let s = c.as_bytes-bytes.result.now in
    let unsigned : (get_or s 0 0 == 45) ≡ false = sym c.if-has_minus.ensures.value in
    let read : number_from false (scan s) ≡ number_of s = rw unsigned in
    c.unsigned_from.ensures ∙ ap (λ p. option_and_then as_u64 (number_from false p)) c.scan.ensures.parts
    ∙ ap (option_and_then as_u64) read ∙ ap (λ s. option_and_then as_u64 (number_of s)) c.as_bytes-bytes.ensures.value
