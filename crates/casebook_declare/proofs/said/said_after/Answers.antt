use Rattle.std.proofs.Common.{◌∙◌, arith, length, sym}
use Rattle.std.proofs.lemmas.Slice.{between_to_end}
use Rattle.casebook_declare.proofs.Passed.{said_closed, said_more, said_odd, said_open}
use Rattle.casebook_declare.proofs.said.said_after.Goals as goal

pub returns-then-first-quote : goal.returns-then-first-quote
returns-then-first-quote c =
    let l = c.loop-rest in
    let text = l.rest.now in
    rw c.of-value.ensures
    (said_closed c.args.quoting l.value.items l.has_code text _ (omega arith)
    (c.if-first-quote.true ∙ c.quote.ensures) (between_to_end text 1 (length text) (omega arith))
    ∙ l.invariant)

pub returns-in_default-unit_of : goal.returns-in_default-unit_of
returns-in_default-unit_of c =
    let l = c.loop-rest in
    said_odd c.args.quoting l.value.items l.has_code l.rest.now (omega arith)
    (λ same. c.if-first-quote.false (same ∙ sym c.quote.ensures))
    (sym c.unit_of.ensures.value ∙ c.in_default-unit_of.is)
    ∙ l.invariant

pub loop-rest-preserved : goal.loop-rest-preserved
loop-rest-preserved c =
    let l = c.loop-rest in
    let text = l.rest.now in
    let width = c.in-Some.unit.width in
    rw c.in_ok-push.ensures.items
    (said_more c.args.quoting l.value.items l.has_code text _ c.in-Some.unit (omega arith)
    (λ same. c.if-first-quote.false (same ∙ sym c.quote.ensures))
    (sym c.unit_of.ensures.value ∙ c.in-Some.is) c.in-Some.ensures.width.0
    (between_to_end text width (length text) (omega arith))
    ∙ l.invariant)

pub returns : goal.returns
returns c =
    let l = c.loop-rest in
    said_open c.args.quoting l.value.items l.has_code l.rest.now c.in_default.len_below
    ∙ l.invariant
