use Rattle.std.proofs.Common.{◌∙◌, ℕ, Bor, List, Option, length, ap, sym, arith}
use Rattle.std.specs.Prelude.{option_map}
use Rattle.std.proofs.lemmas.Slice.{between_to_end}
use Rattle.casebook_host.proofs.Unescaping.{escaped_front, nothing_left, plain_front}
use Rattle.casebook_host.proofs.escape.unescaped.Goals as goal

abbrev seen : Option (ℕ × Bor (List ℕ)) → Option (ℕ × List ℕ)
seen escape = option_map (λ escape. (escape.0, escape.1.now)) escape

pub loop-rest-preserved-in-Some : goal.loop-rest-preserved-in-Some
loop-rest-preserved-in-Some c =
    let l = c.loop-rest in
    let e = c.in-Some in
    rw c.in_ok-push-in-Some.ensures.items
    (escaped_front l.text.items l.rest.now (e.byte, e.after.now)
    (sym c.escape_of.ensures ∙ ap seen e.is)
    ∙ l.invariant)

pub loop-rest-preserved : goal.loop-rest-preserved
loop-rest-preserved c =
    let l = c.loop-rest in
    rw c.in_ok-push-in-None.ensures.items
    (plain_front l.text.items l.rest.now _ c.in-len1-up.len_at_least
    (sym c.escape_of.ensures ∙ ap seen c.in-None.is)
    (between_to_end l.rest.now 1 (length l.rest.now) (omega arith))
    ∙ l.invariant)

pub returns : goal.returns
returns c =
    nothing_left c.loop-rest.text.items c.loop-rest.rest.now c.in_default.len_below
    ∙ c.loop-rest.invariant
